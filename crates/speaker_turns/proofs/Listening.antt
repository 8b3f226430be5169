-- A wire listens where it did, whatever turns are taken.
use Rattle.std.proofs.Common.{◌≡◌, ℕ, zero, suc, Bool, true, false, List, [], ◌∷◌, refl, sym, ap, ◌∙◌, inl, inr, length, Option, Some, None, Result, Ok, Err}
use Rattle.std.specs.declared.net.socket_addr.SocketAddr.{SocketAddr}
use Rattle.runs.specs.FirstRefusal.{awaits_up, may_bring_octets}
use Rattle.runs.specs.declared.event.Report.{Report}
use Rattle.wires.specs.Counts.{Counts}
use Rattle.wires.specs.Wires.{WireState, attempting, reading, writing}
use Rattle.wires.specs.declared.fault.LoopFault.{LoopFault}
use Rattle.wires.specs.declared.fault.LoopFault.TheVariants.{Accept}
use Rattle.wires.specs.declared.wire.Attempt.{Attempt}
use Rattle.wires.specs.declared.wire.Attempt.TheVariants.{Connected, Pending, Fault as AttemptFault}
use Rattle.wires.specs.declared.wire.Received.{Received}
use Rattle.wires.specs.declared.wire.Received.TheVariants.{Octets as Came, Nothing as NoneCame, End as InputEnd, Fault as ReadFault}
use Rattle.wires.specs.declared.wire.Sent.{Sent}
use Rattle.wires.specs.declared.wire.Sent.TheVariants.{Octets as Went, Nothing as NoneWent, Fault as WriteFault}
use Rattle.speaker_turns.specs.Ends.{end_at, place_of}
use Rattle.speaker_turns.specs.Serving.{Answers, Attends, AttendsAttempt, AttendsUp, Begins, BeginsTo, Connection, GivesWayUp, GivesWayWhat, GivesWayIf, GoesOn, LooksUp, LooksWhat, PlaceState, Serves, Settles, Sides, Visits, VisitsTold, VisitsWhat, awaited_at, is_opening}
use Rattle.speaker_turns.specs.Sessions.{transport_of, up_call, wanted_transport_of}
use Rattle.speaker_turns.specs.Turns.{Accepts, AtPlaces, GivesWay, SitsDown, TakesTurn, TakesTurns, Turns, VisitsBut, counted, has_opened, is_off, is_the_one, moment_of, place_at, sides}
use Rattle.speaker_turns.specs.declared.end.End.{End}
use Rattle.speaker_turns.specs.declared.patience.Moment.{Moment}
use Rattle.speaker_turns.specs.declared.place.Visit.{Visit}
use Rattle.speaker_turns.specs.declared.place.Visit.TheVariants.{Stays, Faulty, Ended, Closed, Overdue, Unwanted}

listens_at_attempt : (attempt : Attempt) (number : ℕ) (wire : WireState) → (attempting number attempt wire).listens ≡ wire.listens
listens_at_attempt Connected number wire = refl
listens_at_attempt Pending number wire = refl
listens_at_attempt AttemptFault number wire = refl

listens_at_read : (received : Received) (number : ℕ) (buf : List ℕ) (wire : WireState) → (reading number buf received wire).listens ≡ wire.listens
listens_at_read (Came count) number buf wire = refl
listens_at_read NoneCame number buf wire = refl
listens_at_read InputEnd number buf wire = refl
listens_at_read ReadFault number buf wire = refl

listens_at_write : (sent : Sent) (number : ℕ) (octets : List ℕ) (wire : WireState) → (writing number octets sent wire).listens ≡ wire.listens
listens_at_write (Went count) number octets wire = refl
listens_at_write NoneWent number octets wire = refl
listens_at_write WriteFault number octets wire = refl

listens_at_answer : (end : End) (number : ℕ) (waiting : List ℕ) (old : Sides) (visit : Visit) (left : List ℕ) (new : Sides) → Answers end number waiting old visit left new → new.wire.listens ≡ old.wire.listens
listens_at_answer end number waiting old visit left new answers = by_octets answers.octets refl
  where
    by_octets : (octets : List ℕ) → answers.octets ≡ octets → new.wire.listens ≡ old.wire.listens
    by_octets [] is = ap (λ (w : WireState). w.listens) (answers.none is).same
    by_octets (octet ∷ octets) is =
        let writes = answers.some (λ none. let wrong : octet ∷ octets ≡ [] = sym is ∙ none in cc) in
        ap (λ (w : WireState). w.listens) writes.asks ∙ listens_at_write writes.sent number answers.octets old.wire

listens_behind : (received : Received) (end : End) (now : Moment) (line : Connection) (waiting : List ℕ) (old : Sides) (visit : Visit) (after : Connection) (left : List ℕ) (new : Sides) → GoesOn received end now line waiting old visit after left new → new.wire.listens ≡ old.wire.listens
listens_behind (Came count) end now line waiting old visit after left new at = listens_at_answer end line.number waiting old at.found left new at.answers
listens_behind NoneCame end now line waiting old visit after left new at = listens_at_answer end line.number waiting old at.found left new at.answers
listens_behind InputEnd end now line waiting old visit after left new found = ap (λ (s : Sides). s.wire.listens) found.3
listens_behind ReadFault end now line waiting old visit after left new found = ap (λ (s : Sides). s.wire.listens) found.3

listens_served : (end : End) (now : Moment) (line : Connection) (waiting : List ℕ) (old : Sides) (visit : Visit) (after : Connection) (left : List ℕ) (new : Sides) → Serves end now line waiting old visit after left new → new.wire.listens ≡ old.wire.listens
listens_served end now line waiting old visit after left new serves =
    listens_behind serves.received end now line waiting serves.between visit after left new serves.goes_on
    ∙ (ap (λ (w : WireState). w.listens) serves.reads.asks ∙ listens_at_read serves.received line.number serves.reads.buf old.wire)

listens_attended : (up : Bool) (end : End) (now : Moment) (line : Connection) (waiting : List ℕ) (old : Sides) (visit : Visit) (after : Connection) (left : List ℕ) (new : Sides) → Attends up end now line waiting old visit after left new → new.wire.listens ≡ old.wire.listens
listens_attended true end now line waiting old visit after left new attends = by_test (may_bring_octets (transport_of old.speaker end)) attends
  where
    by_test : (test : Bool) → AttendsUp test end now line waiting old visit after left new → new.wire.listens ≡ old.wire.listens
    by_test true serves = listens_served end now line waiting old visit after left new serves
    by_test false unwanted = ap (λ (s : Sides). s.wire.listens) unwanted.same
listens_attended false end now line waiting old visit after left new attends = by_test (is_opening (transport_of old.speaker end)) attends
  where
    by_test : (test : Bool) → AttendsAttempt test end line waiting old visit after left new → new.wire.listens ≡ old.wire.listens
    by_test true looks = ap (λ (w : WireState). w.listens) looks.0.asks ∙ listens_at_attempt looks.0.told line.number old.wire
    by_test false unwanted = ap (λ (s : Sides). s.wire.listens) unwanted.same

listens_settled : (visit : Visit) (end : End) (line : Connection) (old new : Sides) → Settles visit end line old new → new.wire.listens ≡ old.wire.listens
listens_settled Stays end line old new same = ap (λ (s : Sides). s.wire.listens) same
listens_settled Faulty end line old new loses = ap (λ (w : WireState). w.listens) loses.wire_is
listens_settled Ended end line old new loses = ap (λ (w : WireState). w.listens) loses.wire_is
listens_settled Closed end line old new loses = ap (λ (w : WireState). w.listens) loses.wire_is
listens_settled Overdue end line old new loses = ap (λ (w : WireState). w.listens) loses.wire_is
listens_settled Unwanted end line old new same = ap (λ (s : Sides). s.wire.listens) same

listens_counted : (visit : Visit) (counts : Counts) → (counted visit counts).wire.listens ≡ counts.wire.listens
listens_counted Stays counts = refl
listens_counted Faulty counts = refl
listens_counted Ended counts = refl
listens_counted Closed counts = refl
listens_counted Overdue counts = refl
listens_counted Unwanted counts = refl

-- what happens at a place doesn't change where the wire listens
abbrev pub Happening : Type 1
Happening = End → PlaceState → Sides → Visit → PlaceState → Sides → Type 0

abbrev pub ListensOn : Happening → Type 0
ListensOn Happens = (end : End) (old : PlaceState) (before : Sides) (visit : Visit) (left : PlaceState) (behind : Sides) → Happens end old before visit left behind → behind.wire.listens ≡ before.wire.listens

listens_begun : ListensOn Begins
listens_begun end old before visit left behind begins = by_address (awaited_at (transport_of before.speaker end) old) begins
  where
    by_address : (to : Option SocketAddr) → BeginsTo end to old before visit left behind → behind.wire.listens ≡ before.wire.listens
    by_address None nothing = ap (λ (s : Sides). s.wire.listens) nothing.2
    by_address (Some remote) (inl attempts) = ap (λ (s : Sides). s.wire.listens) attempts.sides_are
    by_address (Some remote) (inr fails) = ap (λ (w : WireState). w.listens) fails.wire_is

listens_visited : (now : Moment) → ListensOn (Visits now)
listens_visited now end old before visit left behind visits = by_line old.line visits
  where
    by_line : (line : Option Connection) → VisitsWhat end now line old before visit left behind → behind.wire.listens ≡ before.wire.listens
    by_line None nothing = ap (λ (s : Sides). s.wire.listens) nothing.2
    by_line (Some line) v =
        listens_settled visit end v.after v.served behind v.settles ∙ listens_attended line.is_up end now line old.waiting before visit v.after v.left v.served v.attends

listens_visited_but : (next : ℕ) (one : Option ℕ) (now : Moment) → ListensOn (VisitsBut next one now)
listens_visited_but next one now end old before visit left behind unless =
    visited unless.told (is_off next one (place_of end)) (is_the_one one (place_of end)) unless.visits ∙ by_line old.line unless.looks
  where
    visited : (told is_off is_one : Bool) → VisitsTold told is_off now end old (record before { wire = unless.wire }) visit is_one left behind → behind.wire.listens ≡ unless.wire.listens
    visited false is_off is_one visits = listens_visited now end old (record before { wire = unless.wire }) visit left behind visits.1
    visited true false is_one visits = listens_visited now end old (record before { wire = unless.wire }) visit left behind visits.1
    visited true true is_one off = ap (λ (s : Sides). s.wire.listens) off.1.sides_are

    by_up : (up : Bool) (line : Connection) → LooksUp up line before.wire unless.told unless.wire → unless.wire.listens ≡ before.wire.listens
    by_up false line looks = ap (λ (w : WireState). w.listens) looks.1
    by_up true line looks = ap (λ (w : WireState). w.listens) looks

    by_line : (line : Option Connection) → LooksWhat line before.wire unless.told unless.wire → unless.wire.listens ≡ before.wire.listens
    by_line None looks = ap (λ (w : WireState). w.listens) looks.1
    by_line (Some line) looks = by_up line.is_up line looks

pub listens_given_way : (report : Report) → ListensOn (GivesWay report)
listens_given_way report end old before visit left behind gives = by_test (has_opened report end) gives.gives
  where
    by_up : (up : Bool) (line : Connection) → GivesWayUp up line old before left behind → behind.wire.listens ≡ before.wire.listens
    by_up true line nothing = ap (λ (s : Sides). s.wire.listens) nothing.1
    by_up false line away = ap (λ (s : Sides). s.wire.listens) away.1

    by_line : (line : Option Connection) → GivesWayWhat line old before left behind → behind.wire.listens ≡ before.wire.listens
    by_line None nothing = ap (λ (s : Sides). s.wire.listens) nothing.1
    by_line (Some line) given = by_up line.is_up line given

    by_test : (test : Bool) → GivesWayIf test old before left behind → behind.wire.listens ≡ before.wire.listens
    by_test false nothing = ap (λ (s : Sides). s.wire.listens) nothing.1
    by_test true given = by_line old.line given

-- and at all places
pub listens_at_places : (Happens : Happening) → ListensOn Happens → (count : ℕ) (old new : Turns) → AtPlaces Happens count old new → new.counts.wire.listens ≡ old.counts.wire.listens
listens_at_places Happens on zero old new same = ap (λ (t : Turns). t.counts.wire.listens) same
listens_at_places Happens on (suc key) old new at =
    ap (λ (c : Counts). c.wire.listens) at.2.counts
    ∙ (listens_counted at.2.visit (record at.0.counts { wire = at.2.behind.wire })
    ∙ (on (end_at key) (place_at at.0 key) (sides at.0) at.2.visit at.2.left at.2.behind at.2.happens ∙ listens_at_places Happens on key old at.0 at.1))

listens_seated : (test : Bool) (key : ℕ) (address : SocketAddr) (old new : Turns) → SitsDown test key address old new → new.counts.wire.listens ≡ old.counts.wire.listens
listens_seated true key address old new sits = ap (λ (c : Counts). c.wire.listens) sits.1
listens_seated false key address old new sits = ap (λ (c : Counts). c.wire.listens) sits.1

listens_admitted : (old new : Turns) → Accepts old new → new.counts.wire.listens ≡ old.counts.wire.listens
listens_admitted old new (inl none) = ap (λ (t : Turns). t.counts.wire.listens) none
listens_admitted old new (inr (inl away)) = ap (λ (t : Turns). t.counts.wire.listens) away.same
listens_admitted old new (inr (inr lets)) = listens_seated (awaits_up (wanted_transport_of old.speaker (end_at lets.key))) lets.key lets.address old new lets.sits

pub listens_turned : (now : ℕ) (old new : Turns) (result : Result (Unit {0}) LoopFault) → TakesTurn now old result new → new.counts.wire.listens ≡ old.counts.wire.listens
listens_turned now old new (Ok done) turn =
    listens_at_places (GivesWay turn.tells.report) (listens_given_way turn.tells.report) (length turn.tells.told.places) turn.tells.told new turn.tells.gives_way
    ∙ (ap (λ (t : Turns). t.counts.wire.listens) turn.tells.same
    ∙ (ap (λ (t : Turns). t.counts.wire.listens) turn.visits.goes_on
    ∙ (listens_at_places (VisitsBut turn.admitted.next turn.visits.one (moment_of turn.admitted now)) (listens_visited_but turn.admitted.next turn.visits.one (moment_of turn.admitted now)) (length turn.admitted.places) turn.admitted turn.visits.visited turn.visits.visits
    ∙ (listens_admitted turn.begun turn.admitted turn.accepts ∙ listens_at_places Begins listens_begun (length old.places) old turn.begun turn.begins))))
listens_turned now old new (Err Accept) stops =
    ap (λ (t : Turns). t.counts.wire.listens) stops.stops ∙ listens_at_places Begins listens_begun (length old.places) old stops.begun stops.begins

pub listens_on : (moments : List ℕ) (old new : Turns) → TakesTurns moments old new → new.counts.wire.listens ≡ old.counts.wire.listens
listens_on [] old new same = ap (λ (t : Turns). t.counts.wire.listens) same
listens_on (now ∷ moments) old new taken = listens_on moments taken.0 new taken.3 ∙ listens_turned now old taken.0 taken.1 taken.2
