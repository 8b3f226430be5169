-- The limits of a cache (our own, but for the seconds between Serial Notifies: RFC 8210 section 5.2).
use Rattle.std.specs.Prelude.{ℕ}

-- the clients that a cache serves at most, and what their keys are below
abbrev pub most_clients : ℕ
most_clients = 256

-- the octets that the ring of a client holds
abbrev pub ring_octets : ℕ
ring_octets = 65536

-- the free octets of a ring without which no PDU is queued
abbrev pub room_for_pdu : ℕ
room_for_pdu = 128

-- the free octets that the ring of an open connection keeps for an Error Report
abbrev pub room_for_report : ℕ
room_for_report = 80

-- the octets of the longest PDU that a cache says
abbrev pub longest_pdu : ℕ
longest_pdu = 48

-- the octets of a PDU at fault that an Error Report quotes at most
abbrev pub quoted_octets : ℕ
quoted_octets = 32

-- the seconds from one Serial Notify to the next
abbrev pub seconds_between_notifies : ℕ
seconds_between_notifies = 60
