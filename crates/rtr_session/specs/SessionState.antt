-- What others see of a session with a cache, and what each thing that happens makes of it (RFC 8210 sections 5 to 8).
use Rattle.std.specs.Prelude.{◌≡◌, ◌+◌, ◌||◌, ℕ, nat_le, if◌then◌else◌, Bool, true, false, not, List, [], ◌++◌, length, drop, Option, Some, None}
use Rattle.rtr_codec.specs.declared.place.End.TheVariants.{Client as RouterEnd}
use Rattle.rtr_codec.specs.ClientTable.{Client, Input, Heard, Faulty, No_room, in_force, row}
use Rattle.rtr_codec.specs.PduSpelling.{Content, Serial_notify, Serial_query, Reset_query, Cache_response, Announce, Withdraw, Ipv6_prefix, End_of_data, Cache_reset, Router_key, Error_report, spelling}
use Rattle.rtr_codec.specs.PduStream.{Item, WholePdu, FaultyPdu, meaning}
use Rattle.rtr_codec.specs.Receiving.{Reception, beginning, passed}
use Rattle.rtr_client.specs.FirstClient.{first_client}
use Rattle.rtr_client.specs.Following.{can_starve, served}
use Rattle.rtr_session.specs.SessionLimits.{ring_octets, room_for_query}
use Rattle.vrp_delta.specs.Delta.{Change, change_between}
use Rattle.vrp_delta.specs.Keeping.{no_change}

-- the client by its table, what has come of the PDU that is being read and where on the connection that stands, what is queued and not yet handed out, and what the last call changed of the payloads in force
pub record Session : Type 0 where
  pub client : Client
  pub reading : Reception
  pub ring : List ℕ
  pub changed : Change

-- whether a PDU is a query
abbrev pub is_query : Content → Bool
is_query (Serial_notify session serial) = false
is_query (Serial_query session serial) = true
is_query Reset_query = true
is_query (Cache_response session) = false
is_query (Announce payload) = false
is_query (Withdraw payload) = false
is_query (Ipv6_prefix body) = false
is_query (End_of_data session serial intervals) = false
is_query Cache_reset = false
is_query (Router_key body) = false
is_query (Error_report code quoted) = false

-- what a row says finds room: a query where 128 octets of the ring are free, an Error Report whatever is free
abbrev pub finds_room : Content → List ℕ → Bool
finds_room content ring = not (is_query content) || nat_le (length ring + room_for_query) ring_octets

-- what a row adds to this ring: the PDU that it says, where that finds room
abbrev pub said : Option Content → List ℕ → List ℕ
said None ring = []
said (Some content) ring = if finds_room content ring then spelling content else []

-- the client behind a row that says this: a query that finds no room closes the session
abbrev pub settled : ℕ → Option Content → List ℕ → Client → Client
settled now None ring client = client
settled now (Some content) ring client = if finds_room content ring then client else (row now client No_room).client

-- the client behind the row of an input, with this ring
abbrev pub client_after : ℕ → Input → List ℕ → Client → Client
client_after now input ring client = settled now (row now client input).said ring (row now client input).client

-- the ring behind it
abbrev pub ring_after : ℕ → Input → List ℕ → Client → List ℕ
ring_after now input ring client = ring ++ said (row now client input).said ring

-- the client takes an input at this moment, in seconds: its row is taken, and what that says is queued
abbrev pub after_input : ℕ → Input → Session → Session
after_input now input s = record {
  client = client_after now input s.ring s.client;
  reading = s.reading;
  ring = ring_after now input s.ring s.client;
  changed = change_between (in_force s.client) (in_force (client_after now input s.ring s.client));
}

-- the session of a cache that has just been configured, with this Retry Interval
abbrev pub configured : ℕ → Session
configured retry = record { client = first_client retry; reading = beginning RouterEnd; ring = []; changed = no_change }

-- nothing came on another connection, and nothing is queued on it
abbrev pub begun : Session → Session
begun s = record { client = s.client; reading = beginning RouterEnd; ring = []; changed = s.changed }

-- what an item of the stream is to the client
abbrev pub input_of : Item → Input
input_of (WholePdu content octets) = Heard content octets
input_of (FaultyPdu fault octets) = Faulty fault octets

-- octets have come, and this is the item that they complete: its row is taken. Where they complete none, nothing happens
abbrev pub heard : ℕ → Bool → Option Item → Session → Session
heard now starved None s = record { client = s.client; reading = s.reading; ring = s.ring; changed = no_change }
heard now starved (Some item) s =
    after_input now (served starved (input_of item)) (record { client = s.client; reading = passed s.reading item; ring = s.ring; changed = s.changed })

-- these octets have come
abbrev pub with_octets : Session → List ℕ → Session
with_octets s octets = record { client = s.client; reading = record { place = s.reading.place; part = s.reading.part ++ octets }; ring = s.ring; changed = s.changed }

-- memory may be refused to what this item is to the client
abbrev pub MayStarve : Client → Option Item → Type 0
MayStarve client None = ⊥
MayStarve client (Some item) = can_starve client (input_of item) ≡ true

-- the octets of a call are heard
pub record HearsOctets (now : ℕ) (octets : List ℕ) (starved : Bool) (old new : Session) : Type 0 where
  pub exact : new ≡ heard now starved (meaning old.reading.place (old.reading.part ++ octets)) (with_octets old octets)
  pub may_starve : starved ≡ true → MayStarve old.client (meaning old.reading.place (old.reading.part ++ octets))

-- what a call changed of the payloads in force is exactly what came and what went
abbrev pub Changes : Session → Session → Type 0
Changes old new = new.changed ≡ change_between (in_force old.client) (in_force new.client)

-- so many of the first octets of the ring are handed out
abbrev pub handed : Session → ℕ → Session
handed s count = record { client = s.client; reading = s.reading; ring = drop count s.ring; changed = s.changed }
