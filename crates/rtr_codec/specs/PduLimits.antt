-- The limits of a PDU (own choice).
use Rattle.std.specs.Prelude.{ℕ}

-- the octets of the longest PDU that is read
abbrev pub max_pdu : ℕ
max_pdu = 4096
