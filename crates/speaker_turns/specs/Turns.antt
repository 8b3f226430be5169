-- A turn: attempts begin where sessions ask for them, the wire is asked for a connection, which is let in or closed, each place is visited once, and the speaker is told the moment.
use Rattle.std.specs.Prelude.{◌≡◌, ◌<◌, ◌≤◌, ◌⊎◌, ◌+◌, ◌==◌, ◌&&◌, ◌||◌, ℕ, zero, suc, List, [], ◌∷◌, length, Bool, true, false, nat_le, nat_lt, replicate, Option, Some, None, Result, Ok, Err, slice_index_or, slice_set, if◌then◌else◌}
use Rattle.std.specs.Option.{IfSome}
use Rattle.std.specs.Net.Socket.{socket_ip}
use Rattle.std.specs.declared.net.socket_addr.SocketAddr.{SocketAddr}
use Rattle.net_prefix.specs.declared.transport.Transport.{Transport}
use Rattle.net_prefix.specs.declared.transport.Transport.TheVariants as transport
use Rattle.rib_out.specs.Slots.{has_slot}
use Rattle.runs.specs.FirstRefusal.{awaits_up}
use Rattle.runs.specs.SpeakerState.{SpeakerState}
use Rattle.runs.specs.declared.event.Report.{Report}
use Rattle.wires.specs.Calls.{Accept}
use Rattle.wires.specs.Counts.{Counts, counts_of_wire, losing_one}
use Rattle.wires.specs.Wires.{WireState, accept_failing, arriving, calling, closing, one_more}
use Rattle.wires.specs.declared.fault.LoopFault.{LoopFault}
use Rattle.wires.specs.declared.fault.LoopFault.TheVariants as stop
use Rattle.wires.specs.declared.wire.Parting.TheVariants as parting
use Rattle.speaker_turns.specs.Ends.{end_at, place_of, place_count}
use Rattle.speaker_turns.specs.Serving.{Begins, GivesWayIf, PlaceState, Sides, VisitsUnless, seated, up}
use Rattle.speaker_turns.specs.Sessions.{Asks, Ticks, transport_of, up_call, wanted_transport_of}
use Rattle.speaker_turns.specs.declared.end.End.{End}
use Rattle.speaker_turns.specs.declared.patience.Moment.{Moment}
use Rattle.speaker_turns.specs.declared.patience.Patience.{Patience}
use Rattle.speaker_turns.specs.declared.end.End.TheVariants.{Peer, Cache}
use Rattle.speaker_turns.specs.declared.place.Visit.{Visit}
use Rattle.speaker_turns.specs.declared.place.Visit.TheVariants.{Stays, Faulty, Ended, Closed, Overdue, Unwanted}

-- a loop: what is counted, its speaker, the place of each session, and how patient it is
pub record Turns : Type 0 where
  pub counts : Counts
  pub speaker : SpeakerState
  pub places : List PlaceState
  pub patience : Patience
  pub next : ℕ

-- a place of which nothing is known
abbrev pub vacant : PlaceState
vacant = record { remote = None; line = None; waiting = [] }

abbrev pub place_at : Turns → ℕ → PlaceState
place_at turns key = slice_index_or turns.places key vacant

-- patience without end
abbrev pub endless : Patience
endless = record { send_hold = None; open_wait = None }

-- a loop before its first turn: of no session it is known where its other side is
abbrev pub idle : SpeakerState → WireState → Turns
idle speaker wire = record { counts = record { lost = 0; closed = 0; wire = wire }; speaker = speaker; places = replicate place_count vacant; patience = endless; next = 0 }

-- the other side of a session is there; a slot that isn't there has no place
abbrev pub with_remote : End → SocketAddr → Turns → Turns
with_remote end remote turns =
    if nat_lt (place_of end) (length turns.places)
    then record turns { places = slice_set turns.places (place_of end) (record (place_at turns (place_of end)) { remote = Some remote }) }
    else turns

-- it is so patient from now on
abbrev pub with_patience : Patience → Turns → Turns
with_patience patience turns = record turns { patience = patience }

-- what lies on the two sides of its connections
abbrev pub sides : Turns → Sides
sides turns = record { wire = turns.counts.wire; speaker = turns.speaker }

-- what happened at a place is counted: what ends as lost, and what was closed on this side as closed
abbrev pub counted : Visit → Counts → Counts
counted Stays counts = counts
counted Unwanted counts = counts
counted Faulty counts = losing_one counts
counted Ended counts = losing_one counts
counted Closed counts = losing_one (record counts { closed = one_more counts.closed })
counted Overdue counts = losing_one (record counts { closed = one_more counts.closed })

-- this happens at the place of a number, and at no other
pub record AtPlace (Happens : End → PlaceState → Sides → Visit → PlaceState → Sides → Type 0) (old : Turns) (key : ℕ) (new : Turns) : Type 0 where
  pub visit : Visit
  pub left : PlaceState
  pub behind : Sides
  pub happens : Happens (end_at key) (place_at old key) (sides old) visit left behind
  pub counts : new.counts ≡ counted visit (record old.counts { wire = behind.wire })
  pub speaker : new.speaker ≡ behind.speaker
  pub places : new.places ≡ slice_set old.places key left
  pub patience : new.patience ≡ old.patience
  pub next : new.next ≡ old.next

-- so at each of the first places, one after another
abbrev pub AtPlaces : (End → PlaceState → Sides → Visit → PlaceState → Sides → Type 0) → ℕ → Turns → Turns → Type 0
AtPlaces Happens zero old new = new ≡ old
AtPlaces Happens (suc key) old new = (mid : Turns) × AtPlaces Happens key old mid × AtPlace Happens mid key new

-- and at all
abbrev pub AtAll : (End → PlaceState → Sides → Visit → PlaceState → Sides → Type 0) → Turns → Turns → Type 0
AtAll Happens old new = AtPlaces Happens (length old.places) old new

-- the other side is at this address, whatever its port
abbrev pub IsFrom : Option SocketAddr → SocketAddr → Type 0
IsFrom None address = ⊥
IsFrom (Some remote) address = socket_ip remote ≡ socket_ip address

-- a session waits for a connection from this address: its transport listens, nothing stands at its place, and its other side is there
pub record Awaits (stands : Transport) (place : PlaceState) (address : SocketAddr) : Type 0 where
  pub listens : stands ≡ transport.Listening
  pub free : place.line ≡ None
  pub from : IsFrom place.remote address

abbrev pub AwaitsAt : SpeakerState → List PlaceState → SocketAddr → ℕ → Type 0
AwaitsAt speaker places address key = Awaits (transport_of speaker (end_at key)) (slice_index_or places key vacant) address

-- no connection waits
abbrev pub NoneComes : Turns → Turns → Type 0
NoneComes old new = new ≡ record old { counts = counts_of_wire (calling (Accept None)) old.counts }

-- a connection comes for which no session waits, and is closed
pub record TurnsAway (old new : Turns) : Type 0 where
  pub address : SocketAddr
  pub none_waits : (key : ℕ) → key < length old.places → AwaitsAt old.speaker old.places address key → ⊥
  pub same : new ≡ record old { counts = counts_of_wire (λ wire. closing wire.sockets parting.NoPlace (arriving address wire)) old.counts }

-- a connection comes for the first session that waits for it
abbrev pub SitsDown : Bool → ℕ → SocketAddr → Turns → Turns → Type 0
SitsDown true key address old new =
    (new.places ≡ slice_set old.places key (seated (up old.counts.wire.sockets address) (place_at old key))) × (new.counts ≡ counts_of_wire (arriving address) old.counts)
SitsDown false key address old new =
    (new.places ≡ old.places) × (new.counts ≡ counts_of_wire (λ wire. closing wire.sockets parting.NoPlace (arriving address wire)) old.counts)

pub record LetsIn (old new : Turns) : Type 0 where
  pub address : SocketAddr
  pub key : ℕ
  pub place : key < length old.places
  pub waits : AwaitsAt old.speaker old.places address key
  pub first : (other : ℕ) → other < key → AwaitsAt old.speaker old.places address other → ⊥
  pub asks : Asks (up_call (end_at key)) (awaits_up (wanted_transport_of old.speaker (end_at key))) old.speaker new.speaker
  pub sits : SitsDown (awaits_up (wanted_transport_of old.speaker (end_at key))) key address old new
  pub patience : new.patience ≡ old.patience

-- accepting goes well: no connection comes, or one is closed, or one is let in
abbrev pub Accepts : Turns → Turns → Type 0
Accepts old new = NoneComes old new ⊎ (TurnsAway old new ⊎ LetsIn old new)

-- a turn that ends at this fault
abbrev pub Stops : Turns → LoopFault → Turns → Type 0
Stops old stop.Accept new = new ≡ record old { counts = counts_of_wire accept_failing old.counts }

-- what accepting makes of a loop
abbrev pub Admits : Turns → Result (Unit {0}) LoopFault → Turns → Type 0
Admits old (Ok nothing) new = Accepts old new
Admits old (Err fault) new = Stops old fault new

-- whether a report tells that a session's attempt begins
abbrev pub has_opened : Report → End → Bool
has_opened report (Peer slot) = nat_lt slot 64 && has_slot report.opened slot
has_opened report Cache = report.cache_opened

-- attempts that a moment begins again take the place of those that stand
pub record GivesWay (report : Report) (end : End) (old : PlaceState) (before : Sides) (visit : Visit) (new : PlaceState) (behind : Sides) : Type 0 where
  pub visit_is : visit ≡ Stays
  pub gives : GivesWayIf (has_opened report end) old before new behind

-- the speaker is told the moment
pub record IsTold (now : ℕ) (old new : Turns) : Type 0 where
  pub report : Report
  pub told : Turns
  pub ticks : Ticks now (nat_le old.speaker.moment now) old.speaker report told.speaker
  pub same : told ≡ record old { speaker = told.speaker }
  pub gives_way : AtAll (GivesWay report) told new

-- whether this place is that of the connection that ends and is visited in this turn
abbrev pub is_the_one : Option ℕ → ℕ → Bool
is_the_one None key = false
is_the_one (Some one) key = one == key

-- whether that one stands at a lower place
abbrev pub comes_behind : Option ℕ → ℕ → Bool
comes_behind None key = false
comes_behind (Some one) key = nat_lt one key

-- a connection at this place that is known to end is put off: it was the turn of those from a higher place on, or of a lower one
abbrev pub is_off : ℕ → Option ℕ → ℕ → Bool
is_off next one key = nat_lt key next || comes_behind one key

-- a visit in a turn in which this is the one that ends
abbrev pub VisitsBut : ℕ → Option ℕ → Moment → End → PlaceState → Sides → Visit → PlaceState → Sides → Type 0
VisitsBut next one now end old before visit new behind =
    VisitsUnless (is_off next one (place_of end)) now end old before visit (is_the_one one (place_of end)) new behind

-- from where on the next turn looks for one: behind the one of this turn, or from the first place on
abbrev pub next_behind : Option ℕ → ℕ
next_behind None = 0
next_behind (Some one) = one + 1

-- a moment of a loop
abbrev pub moment_of : Turns → ℕ → Moment
moment_of turns now = record { seconds = now; patience = turns.patience }

-- each place is visited. Of the connections that are known to end, just the first from a place on is; all others are put off
pub record VisitsAll (now : ℕ) (old new : Turns) : Type 0 where
  pub one : Option ℕ
  pub within : IfSome one (λ o. (old.next ≤ o) × (o < length old.places))
  pub visited : Turns
  pub visits : AtAll (VisitsBut old.next one (moment_of old now)) old visited
  pub goes_on : new ≡ record visited { next = next_behind one }

-- behind a turn in which a place was put off, the next one looks nearer to it: below it, or from the first place on, until it
-- comes to it
abbrev pub IsNearer : ℕ → ℕ → ℕ → Type 0
IsNearer key before behind =
    (key < before → (behind ≡ 0) ⊎ (before < behind)) × (before ≤ key → (before < behind) × (behind ≤ key))

-- the four steps of a turn
pub record Turned (now : ℕ) (old new : Turns) : Type 0 where
  pub begun : Turns
  pub admitted : Turns
  pub visited : Turns
  pub begins : AtAll Begins old begun
  pub accepts : Accepts begun admitted
  pub visits : VisitsAll now admitted visited
  pub tells : IsTold now visited new

-- one that can't accept ends behind the first step
pub record StopsTurn (old : Turns) (fault : LoopFault) (new : Turns) : Type 0 where
  pub begun : Turns
  pub begins : AtAll Begins old begun
  pub stops : Stops begun fault new

-- a turn, and its answer
abbrev pub TakesTurn : ℕ → Turns → Result (Unit {0}) LoopFault → Turns → Type 0
TakesTurn now old (Ok nothing) new = Turned now old new
TakesTurn now old (Err fault) new = StopsTurn old fault new

-- turns at these moments, one after another, whatever each answers
abbrev pub TakesTurns : List ℕ → Turns → Turns → Type 0
TakesTurns [] old new = new ≡ old
TakesTurns (now ∷ moments) old new =
    (mid : Turns) × (result : Result (Unit {0}) LoopFault) × TakesTurn now old result mid × TakesTurns moments mid new
