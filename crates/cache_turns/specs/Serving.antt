-- A visit to a connection: its client hears what the socket gives, the socket is offered what the cache hands out for the client, and a client that was silent for too long loses its place.
use Rattle.std.specs.Prelude.{◌≡◌, ◌≢◌, ℕ, List, [], Bool, false, true, length, Option, Result, Ok, Err, take, drop}
use Rattle.net_prefix.specs.declared.transport.Transport.{Transport}
use Rattle.net_prefix.specs.declared.transport.Transport.TheVariants.{None as NoClient, Opening, Listening, Open, Closing}
use Rattle.rtr_cache.specs.CacheState.{CacheState, awaits_first_pdu, client_at, transport_of}
use Rattle.rtr_cache.specs.CacheTable.{Conn}
use Rattle.rtr_cache.specs.ClientHistory.{Heard, Makes, Took}
use Rattle.rtr_cache.specs.declared.event.CacheReport.{CacheReport}
use Rattle.rtr_cache.specs.declared.refusal.CacheRefusal.{CacheRefusal}
use Rattle.cache_turns.specs.Patience.{heard_at, outlasts}
use Rattle.cache_turns.specs.declared.link.Visit.{Visit}
use Rattle.cache_turns.specs.declared.link.Visit.TheVariants.{Stays, Faulty, Ended, Closed, Overdue}
use Rattle.cache_turns.specs.declared.patience.Moments.{Moments}
use Rattle.cache_turns.specs.declared.patience.Patience.{Patience}
use Rattle.wires.specs.TurnOctets.{turn_octets}
use Rattle.wires.specs.Wires.{FitsIn, WireState, reading, writing}
use Rattle.wires.specs.declared.wire.Received.{Received}
use Rattle.wires.specs.declared.wire.Received.TheVariants.{Octets as Came, Nothing as NoneCame, End, Fault as ReadFault}
use Rattle.wires.specs.declared.wire.Sent.{Sent}
use Rattle.wires.specs.declared.wire.Sent.TheVariants.{Octets as Went, Nothing as NoneWent, Fault as WriteFault}

-- a connection: the number of its socket, what was taken of the cache for it and not yet written, and when it came and was heard
pub record Connection : Type 0 where
  pub number : ℕ
  pub waiting : List ℕ
  pub moments : Moments

-- what lies on the two sides of the connections
pub record Sides : Type 0 where
  pub wire : WireState
  pub cache : CacheState

-- the octets that a read gave are heard by the client; where it gave none the cache is told nothing
abbrev pub Hears : Received → ℕ → List ℕ → CacheState → CacheState → Type 0
Hears (Came count) key buf old new = (result : Result CacheReport CacheRefusal) × Makes old (Heard key (take count buf) result) new
Hears NoneCame key buf old new = new ≡ old
Hears End key buf old new = new ≡ old
Hears ReadFault key buf old new = new ≡ old

-- one read, into a buffer of turn_octets, and what it gave is heard
pub record Reads (key number : ℕ) (received : Received) (old new : Sides) : Type 0 where
  pub buf : List ℕ
  pub room : length buf ≡ turn_octets
  pub few : FitsIn turn_octets received
  pub asks : new.wire ≡ reading number buf received old.wire
  pub hears : Hears received key buf old.cache new.cache

-- the octets that a take answers
abbrev pub taken_by : Result ℕ CacheRefusal → List ℕ → List ℕ
taken_by (Ok count) handed = take count handed
taken_by (Err why) handed = []

-- the cache hands out the first octets that it has queued for the client, at most turn_octets
pub record HandsOut (key : ℕ) (old : CacheState) (octets : List ℕ) (new : CacheState) : Type 0 where
  pub buf : List ℕ
  pub handed : List ℕ
  pub result : Result ℕ CacheRefusal
  pub room : length buf ≡ turn_octets
  pub makes : Makes old (Took key buf result handed) new
  pub octets_are : octets ≡ taken_by result handed

-- what is to be written: where nothing waits, what the cache hands out; while octets wait, just these, and the cache is asked nothing
pub record Takes (key : ℕ) (waiting : List ℕ) (old : CacheState) (octets : List ℕ) (new : CacheState) : Type 0 where
  pub none_wait : waiting ≡ [] → HandsOut key old octets new
  pub some_wait : waiting ≢ [] → (octets ≡ waiting) × (new ≡ old)

-- what a write leaves waiting, and what it tells of the connection
abbrev pub left_by : Sent → List ℕ → List ℕ
left_by (Went count) octets = drop count octets
left_by NoneWent octets = octets
left_by WriteFault octets = octets

abbrev pub found_by_write : Sent → Visit
found_by_write (Went count) = Stays
found_by_write NoneWent = Stays
found_by_write WriteFault = Faulty

-- one write, which offers all that is to be written
pub record Writes (number : ℕ) (octets : List ℕ) (old : WireState) (visit : Visit) (left : List ℕ) (new : WireState) : Type 0 where
  pub sent : Sent
  pub asks : new ≡ writing number octets sent old
  pub finds : visit ≡ found_by_write sent
  pub leaves : left ≡ left_by sent octets

-- a connection for which nothing is to be written ends where the cache has closed its client; else this is found
abbrev pub found_at_rest : Visit → Transport → Visit
found_at_rest resting Closing = Closed
found_at_rest resting Open = resting
found_at_rest resting Listening = resting
found_at_rest resting Opening = resting
found_at_rest resting NoClient = resting

-- nothing is to be written, and the wire is asked nothing
pub record Rests (resting : Visit) (key : ℕ) (cache : CacheState) (old : WireState) (visit : Visit) (left : List ℕ) (new : WireState) : Type 0 where
  pub same : new ≡ old
  pub finds : visit ≡ found_at_rest resting (transport_of (client_at cache key))
  pub leaves : left ≡ []

-- the client is answered: what is to be written is offered to its socket, just where there is any, and else this is found
pub record Answers (resting : Visit) (key : ℕ) (link : Connection) (old : Sides) (visit : Visit) (left : List ℕ) (new : Sides) : Type 0 where
  pub octets : List ℕ
  pub takes : Takes key link.waiting old.cache octets new.cache
  pub none : octets ≡ [] → Rests resting key new.cache old.wire visit left new.wire
  pub some : octets ≢ [] → Writes link.number octets old.wire visit left new.wire

-- what follows the read: a client whose side sends no more is told all that is left, and then its connection ends; a socket
-- that has told a fault is asked nothing more
abbrev pub GoesOn : Received → ℕ → Connection → Sides → Visit → List ℕ → Sides → Type 0
GoesOn (Came count) key link old visit left new = Answers Stays key link old visit left new
GoesOn NoneCame key link old visit left new = Answers Stays key link old visit left new
GoesOn End key link old visit left new = Answers Ended key link old visit left new
GoesOn ReadFault key link old visit left new = (visit ≡ Faulty) × (new ≡ old)

-- the connection of the client of this key is served: what that finds, and what it leaves waiting
pub record Serves (key : ℕ) (link : Connection) (old : Sides) (visit : Visit) (left : List ℕ) (new : Sides) : Type 0 where
  pub received : Received
  pub behind : Sides
  pub reads : Reads key link.number received old behind
  pub goes_on : GoesOn received key link behind visit left new

-- octets that came are those of this moment
abbrev pub heard_by : ℕ → Option Conn → Received → Moments → Moments
heard_by now client (Came count) moments = heard_at now (transport_of client) moments
heard_by now client NoneCame moments = moments
heard_by now client End moments = moments
heard_by now client ReadFault moments = moments

-- and how the connection stands behind that
pub record Stands (now key : ℕ) (link : Connection) (old : Sides) (found : Visit) (left : Connection) (new : Sides) : Type 0 where
  pub serves : Serves key link old found left.waiting new
  pub number : left.number ≡ link.number
  pub moments : left.moments ≡ heard_by now (client_at old.cache key) serves.received link.moments

-- a client was silent for too long
abbrev pub is_over : Patience → Moments → Option Conn → ℕ → Bool
is_over patience moments client now = outlasts patience moments (transport_of client) (awaits_first_pdu client) now

-- one that would stay then loses its place
abbrev pub judged : Bool → Visit → Visit
judged false found = found
judged true Stays = Overdue
judged true Faulty = Faulty
judged true Ended = Ended
judged true Closed = Closed
judged true Overdue = Overdue

-- a visit at this moment to the connection of the client of this key: it is served, and then judged
pub record Attends (patience : Patience) (now key : ℕ) (link : Connection) (old : Sides) (visit : Visit) (left : Connection) (new : Sides) : Type 0 where
  pub found : Visit
  pub stands : Stands now key link old found left new
  pub judges : visit ≡ judged (is_over patience left.moments (client_at new.cache key) now) found
