-- The limits of a session with a cache (our own).
use Rattle.std.specs.Prelude.{ℕ}

-- the octets that the ring of the session holds
abbrev pub ring_octets : ℕ
ring_octets = 4096

-- the free octets of the ring without which no query is queued
abbrev pub room_for_query : ℕ
room_for_query = 128

-- the free octets that the ring keeps for an Error Report while the connection stands: 16, and the 32 that it quotes at most
abbrev pub room_for_report : ℕ
room_for_report = 48
