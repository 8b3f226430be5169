-- The limits of a message (RFC 4271 section 4.1).
use Rattle.std.specs.Prelude.{ℕ}

-- the octets of the longest message
abbrev pub max_message : ℕ
max_message = 4096
