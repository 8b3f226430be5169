-- The text of a payload (our own), as 10.0.0.0/16-24 AS65002.
use Rattle.std.specs.Prelude.{◌++◌, ℕ, List, codes, decimal}
use Rattle.net_prefix.specs.declared.payload.Vrp.{Vrp}
use Rattle.net_prefix.specs.PrefixText.{text_of}

-- the text of the prefix, a dash and the maximum length, a space and the AS behind the letters AS
abbrev pub payload_text : Vrp → List ℕ
payload_text vrp =
    text_of vrp.prefix.bits vrp.prefix.len ++ codes "-" ++ decimal vrp.max_len ++ codes " " ++ codes "AS"
    ++ decimal vrp.asn.0
