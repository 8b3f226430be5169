-- The limits of a slot (our own).
use Rattle.std.specs.Prelude.{ℕ}

-- the octets that the ring of a slot holds
abbrev pub ring_octets : ℕ
ring_octets = 65536

-- the free octets of a ring without which nothing but a NOTIFICATION is queued
abbrev pub room_for_update : ℕ
room_for_update = 8192
