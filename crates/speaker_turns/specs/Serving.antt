-- What happens at the place of one session: an attempt begins, a connection comes or is visited, an attempt gives way.
use Rattle.std.specs.Prelude.{◌≡◌, ◌≢◌, ◌+◌, ◌⊎◌, ◌||◌, ◌==◌, ℕ, List, [], Bool, false, true, nat_le, is_none, length, Option, Some, None, if◌then◌else◌, take, drop}
use Rattle.std.specs.declared.net.socket_addr.SocketAddr.{SocketAddr}
use Rattle.net_prefix.specs.declared.transport.Transport.{Transport}
use Rattle.net_prefix.specs.declared.transport.Transport.TheVariants as transport
use Rattle.runs.specs.FirstRefusal.{awaits_up, may_bring_octets, may_fail}
use Rattle.runs.specs.SpeakerState.{SpeakerState}
use Rattle.wires.specs.Calls.{Connect}
use Rattle.wires.specs.TurnOctets.{outgoing_octets, turn_octets}
use Rattle.wires.specs.Wires.{FitsIn, WireState, attempting, calling, closing, failing, looking, one_more, reading, writing}
use Rattle.wires.specs.declared.wire.Attempt.{Attempt}
use Rattle.wires.specs.declared.wire.Attempt.TheVariants.{Connected, Pending, Fault as AttemptFault}
use Rattle.wires.specs.declared.wire.Parting.{Parting}
use Rattle.wires.specs.declared.wire.Parting.TheVariants as parting
use Rattle.wires.specs.declared.wire.Received.{Received}
use Rattle.wires.specs.declared.wire.Received.TheVariants.{Octets as Came, Nothing as NoneCame, End as InputEnd, Fault as ReadFault}
use Rattle.wires.specs.declared.wire.Sent.{Sent}
use Rattle.wires.specs.declared.wire.Sent.TheVariants.{Octets as Went, Nothing as NoneWent, Fault as WriteFault}
use Rattle.speaker_turns.specs.Sessions.{Asks, bytes_call, fail_call, is_there, is_unopened, queued_for, take_call, transport_of, up_call, wanted_transport_of}
use Rattle.speaker_turns.specs.declared.end.End.{End}
use Rattle.speaker_turns.specs.declared.line.Answered.{Answered}
use Rattle.speaker_turns.specs.declared.patience.Moment.{Moment}
use Rattle.speaker_turns.specs.declared.place.Visit.{Visit}
use Rattle.speaker_turns.specs.declared.place.Visit.TheVariants.{Stays, Faulty, Ended, Closed, Overdue, Unwanted}

-- a connection, or an attempt at one: the number of its socket, the address of its other side, whether it is there, and since when
-- the speaker has closed its session, octets wait of which none has gone, and its session awaits the peer's OPEN
pub record Connection : Type 0 where
  pub number : ℕ
  pub address : SocketAddr
  pub is_up : Bool
  pub closing : Option ℕ
  pub unsent : Option ℕ
  pub unopened : Option ℕ

-- the place of a session: where its other side is, what stands there, and what was taken of the speaker for it and not yet written
pub record PlaceState : Type 0 where
  pub remote : Option SocketAddr
  pub line : Option Connection
  pub waiting : List ℕ

-- what lies on the two sides of the connections
pub record Sides : Type 0 where
  pub wire : WireState
  pub speaker : SpeakerState

-- an attempt of this number, and a connection that has come
abbrev pub attempt : ℕ → SocketAddr → Connection
attempt number address = record { number = number; address = address; is_up = false; closing = None; unsent = None; unopened = None }

abbrev pub up : ℕ → SocketAddr → Connection
up number address = record { number = number; address = address; is_up = true; closing = None; unsent = None; unopened = None }

-- it is put at a place, where nothing waits for it
abbrev pub seated : Connection → PlaceState → PlaceState
seated line place = record place { line = Some line; waiting = [] }

-- the session is told that its connection, or the attempt, is gone
abbrev pub Fails : End → SpeakerState → SpeakerState → Type 0
Fails end old new = Asks (fail_call end) (may_fail (transport_of old end)) old new

-- the address to which an attempt is to begin: where the session has begun one and nothing stands at its place
abbrev pub awaited_at : Transport → PlaceState → Option SocketAddr
awaited_at transport.Opening place = if is_none place.line then place.remote else None
awaited_at transport.None place = None
awaited_at transport.Listening place = None
awaited_at transport.Open place = None
awaited_at transport.Closing place = None

-- an attempt begins at a place, or the wire fails and the session is told so
pub record Attempts (remote : SocketAddr) (old : PlaceState) (before : Sides) (visit : Visit) (new : PlaceState) (behind : Sides) : Type 0 where
  pub visit_is : visit ≡ Stays
  pub place_is : new ≡ seated (attempt before.wire.sockets remote) old
  pub sides_are : behind ≡ record before { wire = calling (Connect remote) (record before.wire { sockets = one_more before.wire.sockets }) }

pub record FailsToAttempt (end : End) (remote : SocketAddr) (old : PlaceState) (before : Sides) (visit : Visit) (new : PlaceState) (behind : Sides) : Type 0 where
  pub visit_is : visit ≡ Faulty
  pub place_is : new ≡ old
  pub wire_is : behind.wire ≡ calling (Connect remote) (failing before.wire)
  pub fails : Fails end before.speaker behind.speaker

abbrev pub BeginsTo : End → Option SocketAddr → PlaceState → Sides → Visit → PlaceState → Sides → Type 0
BeginsTo end None old before visit new behind = (visit ≡ Stays) × (new ≡ old) × (behind ≡ before)
BeginsTo end (Some remote) old before visit new behind =
    Attempts remote old before visit new behind ⊎ FailsToAttempt end remote old before visit new behind

abbrev pub Begins : End → PlaceState → Sides → Visit → PlaceState → Sides → Type 0
Begins end old before visit new behind = BeginsTo end (awaited_at (transport_of before.speaker end) old) old before visit new behind

-- what a read gave is heard by the session; where it gave none the speaker is told nothing
abbrev pub Hears : Received → End → List ℕ → SpeakerState → SpeakerState → Type 0
Hears (Came count) end buf old new = Asks (bytes_call end (take count buf)) (may_bring_octets (transport_of old end)) old new
Hears NoneCame end buf old new = new ≡ old
Hears InputEnd end buf old new = new ≡ old
Hears ReadFault end buf old new = new ≡ old

-- one read, into a buffer of turn_octets, and what it gave is heard
pub record Reads (end : End) (number : ℕ) (received : Received) (old new : Sides) : Type 0 where
  pub buf : List ℕ
  pub few : FitsIn turn_octets received
  pub room : length buf ≡ turn_octets
  pub asks : new.wire ≡ reading number buf received old.wire
  pub hears : Hears received end buf old.speaker new.speaker

-- the speaker hands out the first octets that it has queued for the session, as many as outgoing_octets are
pub record HandsOut (end : End) (old : SpeakerState) (octets : List ℕ) (new : SpeakerState) : Type 0 where
  pub octets_are : octets ≡ take outgoing_octets (queued_for old end)
  pub asks : Asks (take_call end octets) (is_there old end) old new

-- what is to be written: where nothing waits, what the speaker hands out; while octets wait, just these, and the speaker is asked nothing
pub record Takes (end : End) (waiting : List ℕ) (old : SpeakerState) (octets : List ℕ) (new : SpeakerState) : Type 0 where
  pub none_wait : waiting ≡ [] → HandsOut end old octets new
  pub some_wait : waiting ≢ [] → (octets ≡ waiting) × (new ≡ old)

-- what a write leaves waiting, and what it tells of the connection
abbrev pub left_by : Sent → List ℕ → List ℕ
left_by (Went count) octets = drop count octets
left_by NoneWent octets = octets
left_by WriteFault octets = octets

abbrev pub found_by_write : Sent → Visit
found_by_write (Went count) = Stays
found_by_write NoneWent = Stays
found_by_write WriteFault = Faulty

-- one write, which offers all that is to be written
pub record Writes (number : ℕ) (octets : List ℕ) (old : WireState) (visit : Visit) (left : List ℕ) (new : WireState) : Type 0 where
  pub sent : Sent
  pub asks : new ≡ writing number octets sent old
  pub finds : visit ≡ found_by_write sent
  pub leaves : left ≡ left_by sent octets

-- a connection for which nothing is to be written ends where the speaker has closed its session
abbrev pub found_at_rest : Transport → Visit
found_at_rest transport.Closing = Closed
found_at_rest transport.Open = Stays
found_at_rest transport.Listening = Stays
found_at_rest transport.Opening = Stays
found_at_rest transport.None = Stays

-- nothing is to be written, and the wire is asked nothing
pub record Rests (end : End) (speaker : SpeakerState) (old : WireState) (visit : Visit) (left : List ℕ) (new : WireState) : Type 0 where
  pub same : new ≡ old
  pub finds : visit ≡ found_at_rest (transport_of speaker end)
  pub leaves : left ≡ []

-- the session is answered: what is to be written is offered to its socket, just where there is any
pub record Answers (end : End) (number : ℕ) (waiting : List ℕ) (old : Sides) (visit : Visit) (left : List ℕ) (new : Sides) : Type 0 where
  pub octets : List ℕ
  pub takes : Takes end waiting old.speaker octets new.speaker
  pub none : octets ≡ [] → Rests end new.speaker old.wire visit left new.wire
  pub some : octets ≢ [] → Writes number octets old.wire visit left new.wire

-- since when something holds that holds at this moment
abbrev pub first_since : Option ℕ → ℕ → Option ℕ
first_since None now = Some now
first_since (Some since) now = Some since

-- since when the session is closed, behind an answer at this moment
abbrev pub closing_since : Transport → Option ℕ → ℕ → Option ℕ
closing_since transport.Closing before now = first_since before now
closing_since transport.None before now = None
closing_since transport.Opening before now = None
closing_since transport.Listening before now = None
closing_since transport.Open before now = None

-- since when octets wait of which none has gone, where so many waited before the answer and so many are left behind it: while
-- octets wait no others join them, so that as many are left just where none went
abbrev pub unsent_since : Option ℕ → ℕ → ℕ → ℕ → Option ℕ
unsent_since before waited left now =
    if left == 0 then None else (if waited == left then first_since before now else Some now)

-- since when the session awaits the peer's OPEN
abbrev pub unopened_since : Bool → Option ℕ → ℕ → Option ℕ
unopened_since false before now = None
unopened_since true before now = first_since before now

-- how a session, and what is to be written for it, stand behind an answer
abbrev pub answered_so : End → ℕ → ℕ → SpeakerState → Answered
answered_so end waited left speaker =
    record { transport = transport_of speaker end; is_unopened = is_unopened speaker end; waited = waited; left = left }

abbrev pub timed : Answered → ℕ → Connection → Connection
timed answered now line = record line {
  closing = closing_since answered.transport line.closing now;
  unsent = unsent_since line.unsent answered.waited answered.left now;
  unopened = unopened_since answered.is_unopened line.unopened now;
}

-- for how many seconds a connection stands whose session the speaker has closed
abbrev pub closing_seconds : ℕ
closing_seconds = 60

abbrev pub is_overdue : Option ℕ → ℕ → Bool
is_overdue None now = false
is_overdue (Some since) now = nat_le (since + closing_seconds) now

-- whether something has held for so many seconds, where there is such a number
abbrev pub is_past : Option ℕ → Option ℕ → ℕ → Bool
is_past None since now = false
is_past (Some bound) None now = false
is_past (Some bound) (Some since) now = nat_le (since + bound) now

-- whether a connection has stood for too long: with a closed session, with octets of which none goes, or with no OPEN of its peer
abbrev pub is_over : Connection → Moment → Bool
is_over line now =
    (is_overdue line.closing now.seconds || is_past now.patience.send_hold line.unsent now.seconds)
    || is_past now.patience.open_wait line.unopened now.seconds

-- one that would stay has then lost its place
abbrev pub judged : Bool → Visit → Visit
judged false found = found
judged true Stays = Overdue
judged true Faulty = Faulty
judged true Ended = Ended
judged true Closed = Closed
judged true Overdue = Overdue
judged true Unwanted = Unwanted

-- an answer, and since when all stands behind it as it does
pub record AnswersAt (end : End) (now : Moment) (line : Connection) (waiting : List ℕ) (old : Sides) (visit : Visit) (after : Connection) (left : List ℕ) (new : Sides) : Type 0 where
  pub found : Visit
  pub answers : Answers end line.number waiting old found left new
  pub line_is : after ≡ timed (answered_so end (length waiting) (length left) new.speaker) now.seconds line
  pub judges : visit ≡ judged (is_over after now) found

-- what follows the read: a socket that has told its end or a fault is asked nothing more
abbrev pub GoesOn : Received → End → Moment → Connection → List ℕ → Sides → Visit → Connection → List ℕ → Sides → Type 0
GoesOn (Came count) end now line waiting old visit after left new = AnswersAt end now line waiting old visit after left new
GoesOn NoneCame end now line waiting old visit after left new = AnswersAt end now line waiting old visit after left new
GoesOn InputEnd end now line waiting old visit after left new = (visit ≡ Ended) × (after ≡ line) × (left ≡ waiting) × (new ≡ old)
GoesOn ReadFault end now line waiting old visit after left new = (visit ≡ Faulty) × (after ≡ line) × (left ≡ waiting) × (new ≡ old)

-- a connection is served: it is read once, and answered
pub record Serves (end : End) (now : Moment) (line : Connection) (waiting : List ℕ) (old : Sides) (visit : Visit) (after : Connection) (left : List ℕ) (new : Sides) : Type 0 where
  pub received : Received
  pub between : Sides
  pub reads : Reads end line.number received old between
  pub goes_on : GoesOn received end now line waiting between visit after left new

-- how an attempt is found: one that has led to a connection comes up, where its session takes it
abbrev pub found_up : Bool → Visit
found_up true = Stays
found_up false = Unwanted

pub record ComesUp (end : End) (line : Connection) (old : SpeakerState) (visit : Visit) (after : Connection) (new : SpeakerState) : Type 0 where
  pub visit_is : visit ≡ found_up (awaits_up (wanted_transport_of old end))
  pub line_is : after ≡ record line { is_up = awaits_up (wanted_transport_of old end) }
  pub asks : Asks (up_call end) (awaits_up (wanted_transport_of old end)) old new

abbrev pub Finds : Attempt → End → Connection → SpeakerState → Visit → Connection → SpeakerState → Type 0
Finds Pending end line old visit after new = (visit ≡ Stays) × (after ≡ line) × (new ≡ old)
Finds AttemptFault end line old visit after new = (visit ≡ Faulty) × (after ≡ line) × (new ≡ old)
Finds Connected end line old visit after new = ComesUp end line old visit after new

-- the wire is asked once how the attempt stands
pub record Looks (end : End) (line : Connection) (old : Sides) (visit : Visit) (after : Connection) (new : Sides) : Type 0 where
  pub told : Attempt
  pub asks : new.wire ≡ attempting line.number told old.wire
  pub finds : Finds told end line old.speaker visit after new.speaker

-- what the session doesn't want is asked nothing
pub record IsUnwanted (line : Connection) (waiting : List ℕ) (old : Sides) (visit : Visit) (after : Connection) (left : List ℕ) (new : Sides) : Type 0 where
  pub visit_is : visit ≡ Unwanted
  pub line_is : after ≡ line
  pub left_is : left ≡ waiting
  pub same : new ≡ old

-- whether the session's transport carries a connection, and whether it has begun an attempt
abbrev pub is_opening : Transport → Bool
is_opening transport.None = false
is_opening transport.Opening = true
is_opening transport.Listening = false
is_opening transport.Open = false
is_opening transport.Closing = false

-- a connection is visited where its session carries one, and an attempt where its session has begun one
abbrev pub AttendsUp : Bool → End → Moment → Connection → List ℕ → Sides → Visit → Connection → List ℕ → Sides → Type 0
AttendsUp true end now line waiting old visit after left new = Serves end now line waiting old visit after left new
AttendsUp false end now line waiting old visit after left new = IsUnwanted line waiting old visit after left new

abbrev pub AttendsAttempt : Bool → End → Connection → List ℕ → Sides → Visit → Connection → List ℕ → Sides → Type 0
AttendsAttempt true end line waiting old visit after left new = Looks end line old visit after new × (left ≡ waiting)
AttendsAttempt false end line waiting old visit after left new = IsUnwanted line waiting old visit after left new

abbrev pub Attends : Bool → End → Moment → Connection → List ℕ → Sides → Visit → Connection → List ℕ → Sides → Type 0
Attends true end now line waiting old visit after left new =
    AttendsUp (may_bring_octets (transport_of old.speaker end)) end now line waiting old visit after left new
Attends false end now line waiting old visit after left new =
    AttendsAttempt (is_opening (transport_of old.speaker end)) end line waiting old visit after left new

-- it ends, and its session is told so
pub record Loses (end : End) (why : Parting) (number : ℕ) (old new : Sides) : Type 0 where
  pub wire_is : new.wire ≡ closing number why old.wire
  pub fails : Fails end old.speaker new.speaker

-- what follows of what was found: the connection goes on, or ends, and its session is told so, unless it doesn't want it
abbrev pub Settles : Visit → End → Connection → Sides → Sides → Type 0
Settles Stays end line old new = new ≡ old
Settles Faulty end line old new = Loses end parting.Failed line.number old new
Settles Ended end line old new = Loses end parting.Ended line.number old new
Settles Closed end line old new = Loses end parting.Closed line.number old new
Settles Overdue end line old new = Loses end parting.Overdue line.number old new
Settles Unwanted end line old new = new ≡ record old { wire = closing line.number parting.Unwanted old.wire }

-- what then stands at the place
abbrev pub line_left : Visit → Connection → Option Connection
line_left Stays line = Some line
line_left Faulty line = None
line_left Ended line = None
line_left Closed line = None
line_left Overdue line = None
line_left Unwanted line = None

-- a visit at this moment to what stands at a place
pub record VisitsLine (end : End) (now : Moment) (line : Connection) (old : PlaceState) (before : Sides) (visit : Visit) (new : PlaceState) (behind : Sides) : Type 0 where
  pub after : Connection
  pub left : List ℕ
  pub served : Sides
  pub attends : Attends line.is_up end now line old.waiting before visit after left served
  pub settles : Settles visit end after served behind
  pub place_is : new ≡ record { remote = old.remote; line = line_left visit after; waiting = left }

abbrev pub VisitsWhat : End → Moment → Option Connection → PlaceState → Sides → Visit → PlaceState → Sides → Type 0
VisitsWhat end now None old before visit new behind = (visit ≡ Stays) × (new ≡ old) × (behind ≡ before)
VisitsWhat end now (Some line) old before visit new behind = VisitsLine end now line old before visit new behind

abbrev pub Visits : Moment → End → PlaceState → Sides → Visit → PlaceState → Sides → Type 0
Visits now end old before visit new behind = VisitsWhat end now old.line old before visit new behind

-- the wire is asked whether a connection is known to end; of an attempt, and where nothing stands, it is asked nothing
abbrev pub LooksUp : Bool → Connection → WireState → Bool → WireState → Type 0
LooksUp true line old told new = new ≡ looking line.number told old
LooksUp false line old told new = (told ≡ false) × (new ≡ old)

abbrev pub LooksWhat : Option Connection → WireState → Bool → WireState → Type 0
LooksWhat None old told new = (told ≡ false) × (new ≡ old)
LooksWhat (Some line) old told new = LooksUp line.is_up line old told new

-- nothing is done at a place in this turn
pub record PutsOff (old : PlaceState) (before : Sides) (visit : Visit) (new : PlaceState) (behind : Sides) : Type 0 where
  pub visit_is : visit ≡ Stays
  pub place_is : new ≡ old
  pub sides_are : behind ≡ before

-- a connection that is known to end is visited, and is then the one of this turn, or put off
abbrev pub VisitsEnding : Bool → Moment → End → PlaceState → Sides → Visit → Bool → PlaceState → Sides → Type 0
VisitsEnding true now end old before visit is_one new behind = (is_one ≡ false) × PutsOff old before visit new behind
VisitsEnding false now end old before visit is_one new behind = (is_one ≡ true) × Visits now end old before visit new behind

abbrev pub VisitsTold : Bool → Bool → Moment → End → PlaceState → Sides → Visit → Bool → PlaceState → Sides → Type 0
VisitsTold false is_off now end old before visit is_one new behind = (is_one ≡ false) × Visits now end old before visit new behind
VisitsTold true is_off now end old before visit is_one new behind = VisitsEnding is_off now end old before visit is_one new behind

-- a visit at this moment, unless the connection is known to end and is put off; it tells whether it was to one that ends
pub record VisitsUnless (is_off : Bool) (now : Moment) (end : End) (old : PlaceState) (before : Sides) (visit : Visit) (is_one : Bool) (new : PlaceState) (behind : Sides) : Type 0 where
  pub told : Bool
  pub wire : WireState
  pub looks : LooksWhat old.line before.wire told wire
  pub visits : VisitsTold told is_off now end old (record before { wire = wire }) visit is_one new behind

-- an attempt gives way to one that its session begins again
abbrev pub GivesWayUp : Bool → Connection → PlaceState → Sides → PlaceState → Sides → Type 0
GivesWayUp true line old before new behind = (new ≡ old) × (behind ≡ before)
GivesWayUp false line old before new behind =
    (new ≡ record old { line = None }) × (behind ≡ record before { wire = closing line.number parting.Unwanted before.wire })

abbrev pub GivesWayWhat : Option Connection → PlaceState → Sides → PlaceState → Sides → Type 0
GivesWayWhat None old before new behind = (new ≡ old) × (behind ≡ before)
GivesWayWhat (Some line) old before new behind = GivesWayUp line.is_up line old before new behind

abbrev pub GivesWayIf : Bool → PlaceState → Sides → PlaceState → Sides → Type 0
GivesWayIf false old before new behind = (new ≡ old) × (behind ≡ before)
GivesWayIf true old before new behind = GivesWayWhat old.line old before new behind
