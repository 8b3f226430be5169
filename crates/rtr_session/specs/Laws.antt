-- Laws of the history of a session with a cache.
use Rattle.std.specs.Prelude.{◌≡◌, ◌≢◌, ◌≤◌, ◌+◌, ℕ, List, [], ◌∷◌, ◌++◌, length}
use Rattle.net_prefix.specs.declared.payload.Vrp.{Vrp}
use Rattle.net_prefix.specs.declared.transport.Transport.TheVariants.{Open as Connected}
use Rattle.octet_streams.specs.Streams.{with_front}
use Rattle.rtr_codec.specs.ClientTable.{in_force, transport_of}
use Rattle.rtr_codec.specs.PduStream.{pdus}
use Rattle.rtr_session.specs.Agreement.{SessionAgrees}
use Rattle.rtr_session.specs.PayloadsInForce.{AreInForce}
use Rattle.rtr_session.specs.SessionHistory.{Event, Octet, client, first_place, item_at, onto, stream}
use Rattle.rtr_session.specs.SessionLimits.{ring_octets, room_for_report}
use Rattle.rtr_session.specs.SessionState.{Session}

-- the payloads in force are those of the last completed load behind which there was neither a flush nor an expiry, and no others are
abbrev pub PayloadsAreOfTheLastLoad : Type 0
PayloadsAreOfTheLastLoad = (retry : ℕ) (h : List Event) → AreInForce retry h (in_force (client retry h))

abbrev pub NoOthersAreInForce : Type 0
NoOthersAreInForce = (retry : ℕ) (h : List Event) (set : List Vrp) → AreInForce retry h set → set ≡ in_force (client retry h)

-- an octet adds at most the PDU that it completes, or its fault
abbrev pub OctetsArePdus : Type 0
OctetsArePdus = (retry : ℕ) (h : List Event) (octet : ℕ) → pdus first_place (stream retry (Octet octet ∷ h)) ≡ pdus first_place (stream retry h) ++ with_front (item_at retry h octet) []

-- octets and then others are all of them
abbrev pub PiecesJoin : Type 0
PiecesJoin = (front back : List ℕ) (h : List Event) → onto (front ++ back) h ≡ onto back (onto front h)

-- where no connection stands, octets change nothing
abbrev pub OctetsAreDropped : Type 0
OctetsAreDropped = (retry : ℕ) (h : List Event) (s : Session) (octets : List ℕ) → transport_of s.client ≢ Connected → SessionAgrees retry h s → SessionAgrees retry (onto octets h) s

-- while a connection stands, an Error Report finds room
abbrev pub ReportsFindRoom : Type 0
ReportsFindRoom = (retry : ℕ) (h : List Event) (s : Session) → SessionAgrees retry h s → transport_of s.client ≡ Connected → length s.ring + room_for_report ≤ ring_octets
