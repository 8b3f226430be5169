-- What a session says on a connection.
use Rattle.std.specs.Prelude.{◌≡◌, ◌≢◌, ◌≤◌, ◌+◌, ◌⊎◌, ℕ, Bool, true, List, [], Option, Some, None, length}
use Rattle.net_prefix.specs.declared.transport.Transport.TheVariants.{Open as Connected}
use Rattle.rtr_codec.specs.ClientTable.{Client, Input, in_force, transport_of}
use Rattle.rtr_codec.specs.PduSpelling.{Content, length_of}
use Rattle.rtr_codec.specs.PduStream.{Item}
use Rattle.rtr_session.specs.SessionLimits.{ring_octets, room_for_report}
use Rattle.rtr_client.specs.FirstClient.{first_client}
use Rattle.rtr_client.specs.Following.{served}
use Rattle.rtr_session.specs.SessionState.{client_after, input_of, is_query, ring_after}
use Rattle.vrp_delta.specs.Delta.{Change, change_between}
use Rattle.vrp_delta.specs.Keeping.{no_change}

-- all of a session but what was read
pub record Sending : Type 0 where
  pub client : Client
  pub ring : List ℕ
  pub changed : Change

-- a client that has begun to open its connection, with this Retry Interval, and nothing to say
abbrev pub silent : ℕ → Sending
silent retry = record { client = first_client retry; ring = []; changed = no_change }

-- what is queued fits the ring, and while the connection stands an Error Report finds room
pub record IsInOrder (client : Client) (ring : List ℕ) (capacity : ℕ) : Type 0 where
  pub capacity_is : capacity ≡ ring_octets
  pub fits : length ring ≤ ring_octets
  pub spare : transport_of client ≡ Connected → length ring + room_for_report ≤ ring_octets

-- the client takes an input, and what its row says is queued
abbrev pub taken : ℕ → Input → Sending → Sending
taken now input s = record {
  client = client_after now input s.ring s.client;
  ring = ring_after now input s.ring s.client;
  changed = change_between (in_force s.client) (in_force (client_after now input s.ring s.client));
}

-- what stands at the front of what came is heard
abbrev pub heard_front : ℕ → Bool → Option Item → Sending → Sending
heard_front now starved None s = record { client = s.client; ring = s.ring; changed = no_change }
heard_front now starved (Some item) s = taken now (served starved (input_of item)) s

-- what a row says of a client is a query, or an Error Report, which finds room and behind which the connection doesn't stand
abbrev pub IsSayable : Option Content → Client → List ℕ → Type 0
IsSayable None client ring = Unit {0}
IsSayable (Some content) client ring =
    ((is_query content ≡ true) × (length_of content ≤ 12))
    ⊎ ((length_of content ≤ room_for_report) × (transport_of client ≢ Connected) × (length ring + room_for_report ≤ ring_octets))
