-- What happens to a session with a cache, and what that leaves (RFC 8210 sections 5 to 8).
use Rattle.std.specs.Prelude.{ℕ, Bool, List, [], ◌∷◌, ◌++◌, Option, Some, None, length, drop}
use Rattle.net_prefix.specs.declared.transport.Transport.{Transport}
use Rattle.net_prefix.specs.declared.transport.Transport.TheVariants.{None as NoConnection, Opening, Listening, Open as Connected, Closing}
use Rattle.rtr_codec.specs.declared.place.End.TheVariants.{Client as RouterEnd}
use Rattle.rtr_codec.specs.declared.place.Place.{Place}
use Rattle.rtr_codec.specs.ClientTable.{Client, Input, Up, Fail, Tick, Starved, row, transport_of}
use Rattle.rtr_codec.specs.PduStream.{Item, meaning, place_from, unread}
use Rattle.rtr_codec.specs.Receiving.{Reception, beginning}
use Rattle.rtr_client.specs.FirstClient.{first_client}
use Rattle.rtr_session.specs.SessionState.{client_after, said, input_of}

-- what happens to a session
pub data Event : Type 0 where
  Came_up : Event  -- the connection comes up
  Failed : Event  -- the connection fails, or the attempt to open one
  Octet : (octet : ℕ) → Event  -- an octet comes on the connection
  Refused : Event  -- memory refuses a growth; it stands in the place of the octet that completes the PDU which wanted it
  Handed : (octets : List ℕ) → Event  -- octets are handed out
  Ticked : (now : ℕ) → Event  -- a moment comes, in seconds

-- the moment at which the newest event of a history came, which has the newest first: that of the last tick, 0 before the first
abbrev pub moment_of : List Event → ℕ
moment_of [] = 0
moment_of (Came_up ∷ h) = moment_of h
moment_of (Failed ∷ h) = moment_of h
moment_of (Octet octet ∷ h) = moment_of h
moment_of (Refused ∷ h) = moment_of h
moment_of (Handed octets ∷ h) = moment_of h
moment_of (Ticked now ∷ h) = now

-- octets come one after another
abbrev pub onto : List ℕ → List Event → List Event
onto [] h = h
onto (octet ∷ octets) h = onto octets (Octet octet ∷ h)

-- what a history leaves: the client by its table, and of the present connection the octets that came up to where the session closed, what was queued, and what of that was handed out
pub record Course : Type 0 where
  pub client : Client
  pub stream : List ℕ
  pub sent : List ℕ
  pub given : List ℕ

-- what is queued and not yet handed out
abbrev pub waiting : Course → List ℕ
waiting c = drop (length c.given) c.sent

-- where a connection begins
abbrev pub first_place : Place
first_place = (beginning RouterEnd).place

-- where the octet that comes next stands, and what stands before it that no PDU has taken
abbrev pub place_in : Course → Place
place_in c = place_from first_place [] c.stream

abbrev pub unread_in : Course → List ℕ
unread_in c = unread first_place c.stream

-- what is being read
abbrev pub reading_in : Course → Reception
reading_in c = record { place = place_in c; part = unread_in c }

-- the item that an octet completes, coming next on a connection that stands
abbrev pub completed_in : Course → ℕ → Option Item
completed_in c octet = meaning (place_in c) (unread_in c ++ octet ∷ [])

-- the client takes an input, and what the row says is queued
abbrev pub taking : ℕ → Input → Course → Course
taking now input c = record {
  client = client_after now input (waiting c) c.client;
  stream = c.stream;
  sent = c.sent ++ said (row now c.client input).said (waiting c);
  given = c.given;
}

-- the input of an item, where there is one
abbrev pub hearing : ℕ → Option Item → Course → Course
hearing now None c = c
hearing now (Some item) c = taking now (input_of item) c

-- another connection begins
abbrev pub anew : Course → Course
anew c = record { client = c.client; stream = []; sent = []; given = [] }

-- an octet comes
abbrev pub longer : ℕ → Course → Course
longer octet c = record { client = c.client; stream = c.stream ++ octet ∷ []; sent = c.sent; given = c.given }

-- where no connection stands an octet is dropped, else it is the input that it completes
abbrev pub octet_on : Transport → ℕ → ℕ → Course → Course
octet_on NoConnection now octet c = c
octet_on Opening now octet c = c
octet_on Listening now octet c = c
octet_on Connected now octet c = hearing now (completed_in c octet) (longer octet c)
octet_on Closing now octet c = c

-- the item that an octet completes, where a connection stands
abbrev pub item_on : Transport → Course → ℕ → Option Item
item_on NoConnection c octet = None
item_on Opening c octet = None
item_on Listening c octet = None
item_on Connected c octet = completed_in c octet
item_on Closing c octet = None

-- what a history leaves of a session that has begun with this Retry Interval
module _ (retry : ℕ) where
  -- the fold of the rows of the client's table: over the items of the stream, each at the octet that completes it, over Up, Fail, ticks and refused growths
  abbrev pub course : List Event → Course
  course [] = record { client = first_client retry; stream = []; sent = []; given = [] }
  course (Came_up ∷ h) = taking (moment_of h) Up (anew (course h))
  course (Failed ∷ h) = taking (moment_of h) Fail (anew (course h))
  course (Octet octet ∷ h) = octet_on (transport_of (course h).client) (moment_of h) octet (course h)
  course (Refused ∷ h) = taking (moment_of h) Starved (course h)
  course (Handed octets ∷ h) = record { client = (course h).client; stream = (course h).stream; sent = (course h).sent; given = (course h).given ++ octets }
  course (Ticked now ∷ h) = taking now Tick (course h)

  -- the client after a history
  abbrev pub client : List Event → Client
  client h = (course h).client

  -- the octets that came on the present connection, the oldest first, up to where the session closed
  abbrev pub stream : List Event → List ℕ
  stream h = (course h).stream

  -- what was queued on it
  abbrev pub sent : List Event → List ℕ
  sent h = (course h).sent

  -- what of that was handed out
  abbrev pub given : List Event → List ℕ
  given h = (course h).given

  -- the item that this octet completes, coming next
  abbrev pub item_at : List Event → ℕ → Option Item
  item_at h octet = item_on (transport_of (client h)) (course h) octet

  -- whether an attempt to open a connection begins at this moment
  abbrev pub opens_at : ℕ → List Event → Bool
  opens_at now h = (row now (client h) Tick).opened
