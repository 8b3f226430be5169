use Rattle.net_prefix.specs.PrefixSpelling.{address_octets}
use Rattle.net_prefix.proofs.Texts.{writes_bits, is_dotted}
use Rattle.net_prefix.proofs.text.parse_address.Goals as goal

pub returns-in-Ok : goal.returns-in-Ok
returns-in-Ok c =
    rw c.to_bits.ensures (writes_bits c.in-Ok.address _ c.in-Ok.ensures.value)

pub returns-in-Err : goal.returns-in-Err
returns-in-Err c bits small e =
    c.in-Err.ensures.value (record { octets = address_octets bits }) (is_dotted bits _ e)
