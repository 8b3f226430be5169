-- How much a turn carries on a connection.
use Rattle.std.specs.Prelude.{ℕ}

-- the most octets that a turn reads of a connection
unfoldable pub turn_octets : ℕ
turn_octets = 4096

-- the most that wait to be written to it
unfoldable pub outgoing_octets : ℕ
outgoing_octets = 16384
