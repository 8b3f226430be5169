-- What turns count, one step after another: the connections lost are those of the wire's faults, of its ends of input and of the loop's closes.
use Rattle.std.proofs.Common.{◌≡◌, ℕ, zero, suc, Bool, false, true, List, [], ◌∷◌, refl, sym, ap, ◌∙◌, subst, arith, inl, inr, Option, Some, None, Result, Ok, Err, length}
use Rattle.std.specs.declared.net.socket_addr.SocketAddr.{SocketAddr}
use Rattle.net_prefix.specs.declared.transport.Transport.{Transport}
use Rattle.net_prefix.specs.declared.transport.Transport.TheVariants as transport
use Rattle.runs.specs.FirstRefusal.{awaits_up, may_bring_octets}
use Rattle.runs.specs.declared.event.Report.{Report}
use Rattle.wires.specs.Counts.{Counts, LosesJust, LosesNoMore}
use Rattle.wires.specs.Wires.{WireState, attempting, one_more, reading, writing}
use Rattle.wires.specs.declared.fault.LoopFault.{LoopFault}
use Rattle.wires.specs.declared.fault.LoopFault.TheVariants.{Accept}
use Rattle.wires.specs.declared.wire.Attempt.{Attempt}
use Rattle.wires.specs.declared.wire.Attempt.TheVariants.{Connected, Pending, Fault as AttemptFault}
use Rattle.wires.specs.declared.wire.Received.{Received}
use Rattle.wires.specs.declared.wire.Received.TheVariants.{Octets as Came, Nothing as NoneCame, End as InputEnd, Fault as ReadFault}
use Rattle.wires.specs.declared.wire.Sent.{Sent}
use Rattle.wires.specs.declared.wire.Sent.TheVariants.{Octets as Went, Nothing as NoneWent, Fault as WriteFault}
use Rattle.wires.proofs.Counting.{LosesAsCounted, counted_as, goes_on, goes_on_by_one, loses_both, loses_by_close, loses_by_end, loses_by_fault, loses_none, loses_nothing, no_more}
use Rattle.speaker_turns.specs.Ends.{end_at, place_of}
use Rattle.speaker_turns.specs.Losses.{LosesAllButOne}
use Rattle.speaker_turns.specs.Serving.{Answers, AnswersAt, Attends, AttendsAttempt, AttendsUp, Begins, BeginsTo, Connection, Finds, GivesWayIf, GivesWayUp, GivesWayWhat, GoesOn, IsUnwanted, Looks, LooksUp, LooksWhat, PlaceState, Reads, Serves, Settles, Sides, Visits, VisitsTold, VisitsWhat, awaited_at, found_at_rest, found_by_write, found_up, is_opening, judged}
use Rattle.speaker_turns.specs.Sessions.{transport_of, wanted_transport_of}
use Rattle.speaker_turns.specs.Turns.{Accepts, AtPlaces, GivesWay, SitsDown, TakesTurn, Turned, Turns, VisitsBut, counted, has_opened, is_off, is_the_one, moment_of, place_at, sides}
use Rattle.speaker_turns.specs.declared.end.End.{End}
use Rattle.speaker_turns.specs.declared.patience.Moment.{Moment}
use Rattle.speaker_turns.specs.declared.place.Visit.{Visit}
use Rattle.speaker_turns.specs.declared.place.Visit.TheVariants.{Stays, Faulty, Ended, Closed, Overdue, Unwanted}

-- what the wire has told behind a visit that finds this
record Counted (faults ends : ℕ) (new : WireState) : Type 0 where
  pub faults_are : new.faults ≡ faults
  pub ends_are : new.ends ≡ ends

abbrev Tells : Visit → WireState → WireState → Type 0
Tells Stays old new = Counted old.faults old.ends new
Tells Faulty old new = Counted (one_more old.faults) old.ends new
Tells Ended old new = Counted old.faults (one_more old.ends) new
Tells Closed old new = Counted old.faults old.ends new
Tells Overdue old new = Counted old.faults old.ends new
Tells Unwanted old new = Counted old.faults old.ends new

told_same : (old new : WireState) → new ≡ old → Counted old.faults old.ends new
told_same old new same = record { faults_are = ap (λ (w : WireState). w.faults) same; ends_are = ap (λ (w : WireState). w.ends) same }

tells_found : (visit found : Visit) (old new : WireState) → visit ≡ found → Tells found old new → Tells visit old new
tells_found visit found old new is tells = subst (λ (v : Visit). Tells v old new) (sym is) tells

rests_tell : (transport : Transport) (old new : WireState) → new ≡ old → Tells (found_at_rest transport) old new
rests_tell transport.None old new same = told_same old new same
rests_tell transport.Opening old new same = told_same old new same
rests_tell transport.Listening old new same = told_same old new same
rests_tell transport.Open old new same = told_same old new same
rests_tell transport.Closing old new same = told_same old new same

write_tells : (sent : Sent) (number : ℕ) (octets : List ℕ) (old : WireState) → Tells (found_by_write sent) old (writing number octets sent old)
write_tells (Went count) number octets old = record { faults_are = refl; ends_are = refl }
write_tells NoneWent number octets old = record { faults_are = refl; ends_are = refl }
write_tells WriteFault number octets old = record { faults_are = refl; ends_are = refl }

answers_tell : (end : End) (number : ℕ) (waiting : List ℕ) (old : Sides) (visit : Visit) (left : List ℕ) (new : Sides) → Answers end number waiting old visit left new → Tells visit old.wire new.wire
answers_tell end number waiting old visit left new answers = by_octets answers.octets refl
  where
    by_octets : (octets : List ℕ) → answers.octets ≡ octets → Tells visit old.wire new.wire
    by_octets [] is =
        let rests = answers.none is in
        tells_found visit _ old.wire new.wire rests.finds (rests_tell (transport_of new.speaker end) old.wire new.wire rests.same)
    by_octets (octet ∷ octets) is =
        let writes = answers.some (λ none. let wrong : octet ∷ octets ≡ [] = sym is ∙ none in cc) in
        tells_found visit _ old.wire new.wire writes.finds
        (subst (λ (w : WireState). Tells (found_by_write writes.sent) old.wire w) (sym writes.asks) (write_tells writes.sent number answers.octets old.wire))

-- a read that told neither an end nor a fault counts nothing
goes_on_tells : (visit : Visit) (old mid new : WireState) → mid.faults ≡ old.faults → mid.ends ≡ old.ends → Tells visit mid new → Tells visit old new
goes_on_tells Stays old mid new faults ends t = record { faults_are = t.faults_are ∙ faults; ends_are = t.ends_are ∙ ends }
goes_on_tells Faulty old mid new faults ends t = record { faults_are = t.faults_are ∙ ap one_more faults; ends_are = t.ends_are ∙ ends }
goes_on_tells Ended old mid new faults ends t = record { faults_are = t.faults_are ∙ faults; ends_are = t.ends_are ∙ ap one_more ends }
goes_on_tells Closed old mid new faults ends t = record { faults_are = t.faults_are ∙ faults; ends_are = t.ends_are ∙ ends }
goes_on_tells Overdue old mid new faults ends t = record { faults_are = t.faults_are ∙ faults; ends_are = t.ends_are ∙ ends }
goes_on_tells Unwanted old mid new faults ends t = record { faults_are = t.faults_are ∙ faults; ends_are = t.ends_are ∙ ends }

-- what is judged tells what was found
judged_tells : (over : Bool) (found visit : Visit) (old new : WireState) → visit ≡ judged over found → Tells found old new → Tells visit old new
judged_tells false found visit old new is told = tells_found visit found old new is told
judged_tells true Stays visit old new is told = tells_found visit Overdue old new is told
judged_tells true Faulty visit old new is told = tells_found visit Faulty old new is told
judged_tells true Ended visit old new is told = tells_found visit Ended old new is told
judged_tells true Closed visit old new is told = tells_found visit Closed old new is told
judged_tells true Overdue visit old new is told = tells_found visit Overdue old new is told
judged_tells true Unwanted visit old new is told = tells_found visit Unwanted old new is told

serves_tells : (end : End) (now : Moment) (line : Connection) (waiting : List ℕ) (old : Sides) (visit : Visit) (after : Connection) (left : List ℕ) (new : Sides) → Serves end now line waiting old visit after left new → Tells visit old.wire new.wire
serves_tells end now line waiting old visit after left new serves = by_read serves.received serves.reads serves.goes_on
  where
    answered : (received : Received) → serves.between.wire.faults ≡ old.wire.faults → serves.between.wire.ends ≡ old.wire.ends → AnswersAt end now line waiting serves.between visit after left new → Tells visit old.wire new.wire
    answered received faults ends at =
        goes_on_tells visit _ _ _ faults ends
        (judged_tells _ at.found visit serves.between.wire new.wire at.judges (answers_tell end line.number waiting serves.between at.found left new at.answers))

    by_read : (received : Received) → (reads : Reads end line.number received old serves.between) → GoesOn received end now line waiting serves.between visit after left new → Tells visit old.wire new.wire
    by_read (Came count) reads at = answered (Came count) (ap (λ (w : WireState). w.faults) reads.asks) (ap (λ (w : WireState). w.ends) reads.asks) at
    by_read NoneCame reads at = answered NoneCame (ap (λ (w : WireState). w.faults) reads.asks) (ap (λ (w : WireState). w.ends) reads.asks) at
    by_read InputEnd reads found =
        let is : new.wire ≡ reading line.number reads.buf InputEnd old.wire = ap (λ (s : Sides). s.wire) found.3 ∙ reads.asks in
        tells_found visit Ended old.wire new.wire found.0 (record { faults_are = ap (λ (w : WireState). w.faults) is; ends_are = ap (λ (w : WireState). w.ends) is })
    by_read ReadFault reads found =
        let is : new.wire ≡ reading line.number reads.buf ReadFault old.wire = ap (λ (s : Sides). s.wire) found.3 ∙ reads.asks in
        tells_found visit Faulty old.wire new.wire found.0 (record { faults_are = ap (λ (w : WireState). w.faults) is; ends_are = ap (λ (w : WireState). w.ends) is })

unwanted_tells : (line : Connection) (waiting : List ℕ) (old : Sides) (visit : Visit) (after : Connection) (left : List ℕ) (new : Sides) → IsUnwanted line waiting old visit after left new → Tells visit old.wire new.wire
unwanted_tells line waiting old visit after left new u =
    tells_found visit Unwanted old.wire new.wire u.visit_is (told_same old.wire new.wire (ap (λ (s : Sides). s.wire) u.same))

looks_tell : (end : End) (line : Connection) (old : Sides) (visit : Visit) (after : Connection) (new : Sides) → Looks end line old visit after new → Tells visit old.wire new.wire
looks_tell end line old visit after new looks = by_told looks.told looks.asks looks.finds
  where
    found : (test : Bool) → visit ≡ found_up test → Counted old.wire.faults old.wire.ends new.wire → Tells visit old.wire new.wire
    found true is told = tells_found visit Stays old.wire new.wire is told
    found false is told = tells_found visit Unwanted old.wire new.wire is told

    by_told : (told : Attempt) → new.wire ≡ attempting line.number told old.wire → Finds told end line old.speaker visit after new.speaker → Tells visit old.wire new.wire
    by_told Pending is finds = tells_found visit Stays old.wire new.wire finds.0 (record { faults_are = ap (λ (w : WireState). w.faults) is; ends_are = ap (λ (w : WireState). w.ends) is })
    by_told AttemptFault is finds = tells_found visit Faulty old.wire new.wire finds.0 (record { faults_are = ap (λ (w : WireState). w.faults) is; ends_are = ap (λ (w : WireState). w.ends) is })
    by_told Connected is up = found (awaits_up (wanted_transport_of old.speaker end)) up.visit_is (record { faults_are = ap (λ (w : WireState). w.faults) is; ends_are = ap (λ (w : WireState). w.ends) is })

attends_tell : (up : Bool) (end : End) (now : Moment) (line : Connection) (waiting : List ℕ) (old : Sides) (visit : Visit) (after : Connection) (left : List ℕ) (new : Sides) → Attends up end now line waiting old visit after left new → Tells visit old.wire new.wire
attends_tell true end now line waiting old visit after left new attends = by_test (may_bring_octets (transport_of old.speaker end)) attends
  where
    by_test : (test : Bool) → AttendsUp test end now line waiting old visit after left new → Tells visit old.wire new.wire
    by_test true serves = serves_tells end now line waiting old visit after left new serves
    by_test false u = unwanted_tells line waiting old visit after left new u
attends_tell false end now line waiting old visit after left new attends = by_test (is_opening (transport_of old.speaker end)) attends
  where
    by_test : (test : Bool) → AttendsAttempt test end line waiting old visit after left new → Tells visit old.wire new.wire
    by_test true looks = looks_tell end line old visit after new looks.0
    by_test false u = unwanted_tells line waiting old visit after left new u

-- what is counted at a place is what the wire has told there, and what was closed
abbrev behind_it : Visit → Counts → WireState → Counts
behind_it visit counts wire = counted visit (record counts { wire = wire })

settles_tell : (visit : Visit) (end : End) (line : Connection) (old new : Sides) → Settles visit end line old new → Counted old.wire.faults old.wire.ends new.wire
settles_tell Stays end line old new same = told_same old.wire new.wire (ap (λ (s : Sides). s.wire) same)
settles_tell Faulty end line old new loses = record { faults_are = ap (λ (w : WireState). w.faults) loses.wire_is; ends_are = ap (λ (w : WireState). w.ends) loses.wire_is }
settles_tell Ended end line old new loses = record { faults_are = ap (λ (w : WireState). w.faults) loses.wire_is; ends_are = ap (λ (w : WireState). w.ends) loses.wire_is }
settles_tell Closed end line old new loses = record { faults_are = ap (λ (w : WireState). w.faults) loses.wire_is; ends_are = ap (λ (w : WireState). w.ends) loses.wire_is }
settles_tell Overdue end line old new loses = record { faults_are = ap (λ (w : WireState). w.faults) loses.wire_is; ends_are = ap (λ (w : WireState). w.ends) loses.wire_is }
settles_tell Unwanted end line old new same = record { faults_are = ap (λ (s : Sides). s.wire.faults) same; ends_are = ap (λ (s : Sides). s.wire.ends) same }

-- what was told goes on where nothing more is
tells_on : (visit : Visit) (old mid new : WireState) → Tells visit old mid → Counted mid.faults mid.ends new → Tells visit old new
tells_on Stays old mid new t more = record { faults_are = more.faults_are ∙ t.faults_are; ends_are = more.ends_are ∙ t.ends_are }
tells_on Faulty old mid new t more = record { faults_are = more.faults_are ∙ t.faults_are; ends_are = more.ends_are ∙ t.ends_are }
tells_on Ended old mid new t more = record { faults_are = more.faults_are ∙ t.faults_are; ends_are = more.ends_are ∙ t.ends_are }
tells_on Closed old mid new t more = record { faults_are = more.faults_are ∙ t.faults_are; ends_are = more.ends_are ∙ t.ends_are }
tells_on Overdue old mid new t more = record { faults_are = more.faults_are ∙ t.faults_are; ends_are = more.ends_are ∙ t.ends_are }
tells_on Unwanted old mid new t more = record { faults_are = more.faults_are ∙ t.faults_are; ends_are = more.ends_are ∙ t.ends_are }

counts_as_told : (visit : Visit) (counts : Counts) (wire : WireState) → Tells visit counts.wire wire → LosesAsCounted counts (behind_it visit counts wire)
counts_as_told Stays counts wire t = loses_nothing counts (behind_it Stays counts wire) refl refl t.faults_are t.ends_are
counts_as_told Faulty counts wire t = loses_by_fault counts (behind_it Faulty counts wire) refl refl t.faults_are t.ends_are
counts_as_told Ended counts wire t = loses_by_end counts (behind_it Ended counts wire) refl refl t.faults_are t.ends_are
counts_as_told Closed counts wire t = loses_by_close counts (behind_it Closed counts wire) refl refl t.faults_are t.ends_are
counts_as_told Overdue counts wire t = loses_by_close counts (behind_it Overdue counts wire) refl refl t.faults_are t.ends_are
counts_as_told Unwanted counts wire t = loses_nothing counts (behind_it Unwanted counts wire) refl refl t.faults_are t.ends_are

-- what happens at a place
abbrev Happening : Type 1
Happening = End → PlaceState → Sides → Visit → PlaceState → Sides → Type 0

abbrev TellsAll : Happening → Type 0
TellsAll Happens = (end : End) (old : PlaceState) (before : Sides) (visit : Visit) (left : PlaceState) (behind : Sides) → Happens end old before visit left behind → Tells visit before.wire behind.wire

begins_tell : TellsAll Begins
begins_tell end old before visit left behind begins = by_address (awaited_at (transport_of before.speaker end) old) begins
  where
    by_address : (to : Option SocketAddr) → BeginsTo end to old before visit left behind → Tells visit before.wire behind.wire
    by_address None nothing = tells_found visit Stays before.wire behind.wire nothing.0 (told_same before.wire behind.wire (ap (λ (s : Sides). s.wire) nothing.2))
    by_address (Some remote) (inl attempts) =
        tells_found visit Stays before.wire behind.wire attempts.visit_is (record { faults_are = ap (λ (s : Sides). s.wire.faults) attempts.sides_are; ends_are = ap (λ (s : Sides). s.wire.ends) attempts.sides_are })
    by_address (Some remote) (inr fails) =
        tells_found visit Faulty before.wire behind.wire fails.visit_is (record { faults_are = ap (λ (w : WireState). w.faults) fails.wire_is; ends_are = ap (λ (w : WireState). w.ends) fails.wire_is })

visits_tell : (now : Moment) → TellsAll (Visits now)
visits_tell now end old before visit left behind visits = by_line old.line visits
  where
    by_line : (line : Option Connection) → VisitsWhat end now line old before visit left behind → Tells visit before.wire behind.wire
    by_line None nothing = tells_found visit Stays before.wire behind.wire nothing.0 (told_same before.wire behind.wire (ap (λ (s : Sides). s.wire) nothing.2))
    by_line (Some line) v =
        tells_on visit before.wire v.served.wire behind.wire (attends_tell line.is_up end now line old.waiting before visit v.after v.left v.served v.attends)
        (settles_tell visit end v.after v.served behind v.settles)

visits_but_tell : (next : ℕ) (one : Option ℕ) (now : Moment) → TellsAll (VisitsBut next one now)
visits_but_tell next one now end old before visit left behind unless = by_line old.line unless.looks
  where
    visited : (told is_off is_one : Bool) → VisitsTold told is_off now end old (record before { wire = unless.wire }) visit is_one left behind → Tells visit unless.wire behind.wire
    visited false is_off is_one visits = visits_tell now end old (record before { wire = unless.wire }) visit left behind visits.1
    visited true false is_one visits = visits_tell now end old (record before { wire = unless.wire }) visit left behind visits.1
    visited true true is_one off = tells_found visit Stays unless.wire behind.wire off.1.visit_is (told_same unless.wire behind.wire (ap (λ (s : Sides). s.wire) off.1.sides_are))

    behind_same : unless.wire.faults ≡ before.wire.faults → unless.wire.ends ≡ before.wire.ends → Tells visit before.wire behind.wire
    behind_same faults ends = goes_on_tells visit before.wire unless.wire behind.wire faults ends (visited unless.told (is_off next one (place_of end)) (is_the_one one (place_of end)) unless.visits)

    by_up : (up : Bool) (line : Connection) → LooksUp up line before.wire unless.told unless.wire → Tells visit before.wire behind.wire
    by_up false line looks = behind_same (ap (λ (w : WireState). w.faults) looks.1) (ap (λ (w : WireState). w.ends) looks.1)
    by_up true line looks = behind_same (ap (λ (w : WireState). w.faults) looks) (ap (λ (w : WireState). w.ends) looks)

    by_line : (line : Option Connection) → LooksWhat line before.wire unless.told unless.wire → Tells visit before.wire behind.wire
    by_line None looks = behind_same (ap (λ (w : WireState). w.faults) looks.1) (ap (λ (w : WireState). w.ends) looks.1)
    by_line (Some line) looks = by_up line.is_up line looks

gives_tell : (report : Report) → TellsAll (GivesWay report)
gives_tell report end old before visit left behind gives =
    tells_found visit Stays before.wire behind.wire gives.visit_is (by_test (has_opened report end) gives.gives)
  where
    by_up : (up : Bool) (line : Connection) → GivesWayUp up line old before left behind → Counted before.wire.faults before.wire.ends behind.wire
    by_up true line nothing = told_same before.wire behind.wire (ap (λ (s : Sides). s.wire) nothing.1)
    by_up false line away = record { faults_are = ap (λ (s : Sides). s.wire.faults) away.1; ends_are = ap (λ (s : Sides). s.wire.ends) away.1 }

    by_line : (line : Option Connection) → GivesWayWhat line old before left behind → Counted before.wire.faults before.wire.ends behind.wire
    by_line None nothing = told_same before.wire behind.wire (ap (λ (s : Sides). s.wire) nothing.1)
    by_line (Some line) given = by_up line.is_up line given

    by_test : (test : Bool) → GivesWayIf test old before left behind → Counted before.wire.faults before.wire.ends behind.wire
    by_test false nothing = told_same before.wire behind.wire (ap (λ (s : Sides). s.wire) nothing.1)
    by_test true given = by_line old.line given

-- and at all places
at_places_lose : (Happens : Happening) → TellsAll Happens → (count : ℕ) (old new : Turns) → AtPlaces Happens count old new → LosesAsCounted old.counts new.counts
at_places_lose Happens tells zero old new same = counted_as _ _ _ (ap (λ (t : Turns). t.counts) same) (loses_none old.counts)
at_places_lose Happens tells (suc key) old new at =
    loses_both _ _ _ (at_places_lose Happens tells key old at.0 at.1)
    (counted_as _ _ _ at.2.counts (counts_as_told at.2.visit at.0.counts at.2.behind.wire (tells (end_at key) (place_at at.0 key) (sides at.0) at.2.visit at.2.left at.2.behind at.2.happens)))

lets_in_loses : (test : Bool) (key : ℕ) (address : SocketAddr) (old new : Turns) → SitsDown test key address old new → LosesAsCounted old.counts new.counts
lets_in_loses true key address old new sits = counted_as _ _ _ sits.1 (loses_nothing _ _ refl refl refl refl)
lets_in_loses false key address old new sits = counted_as _ _ _ sits.1 (loses_nothing _ _ refl refl refl refl)

accepts_lose : (old new : Turns) → Accepts old new → LosesAsCounted old.counts new.counts
accepts_lose old new (inl none) = counted_as _ _ _ (ap (λ (t : Turns). t.counts) none) (loses_nothing _ _ refl refl refl refl)
accepts_lose old new (inr (inl away)) = counted_as _ _ _ (ap (λ (t : Turns). t.counts) away.same) (loses_nothing _ _ refl refl refl refl)
accepts_lose old new (inr (inr lets)) = lets_in_loses (awaits_up (wanted_transport_of old.speaker (end_at lets.key))) lets.key lets.address old new lets.sits

turned_loses : (now : ℕ) (old new : Turns) → Turned now old new → LosesAsCounted old.counts new.counts
turned_loses now old new turn =
    loses_both _ _ _ (at_places_lose Begins begins_tell (length old.places) old turn.begun turn.begins)
    (loses_both _ _ _ (accepts_lose turn.begun turn.admitted turn.accepts)
    (loses_both _ _ _ (counted_as _ _ _ (ap (λ (t : Turns). t.counts) turn.visits.goes_on)
    (at_places_lose (VisitsBut turn.admitted.next turn.visits.one (moment_of turn.admitted now)) (visits_but_tell turn.admitted.next turn.visits.one (moment_of turn.admitted now)) (length turn.admitted.places) turn.admitted turn.visits.visited turn.visits.visits))
    (loses_both _ _ _ (counted_as turn.visited.counts turn.visited.counts turn.tells.told.counts (ap (λ (t : Turns). t.counts) turn.tells.same) (loses_none turn.visited.counts))
    (at_places_lose (GivesWay turn.tells.report) (gives_tell turn.tells.report) (length turn.tells.told.places) turn.tells.told new turn.tells.gives_way))))

-- a turn that goes well loses just as many
pub turn_loses_just : (now : ℕ) (old new : Turns) (done : Unit {0}) → TakesTurn now old (Ok done) new → LosesJust old.counts new.counts
turn_loses_just now old new done turn = (turned_loses now old new turn).lost

-- and any no more
pub turn_loses_no_more : (now : ℕ) (old new : Turns) (result : Result (Unit {0}) LoopFault) → TakesTurn now old result new → LosesNoMore old.counts new.counts
turn_loses_no_more now old new (Ok nothing) turn = no_more _ _ (turned_loses now old new turn)
turn_loses_no_more now old new (Err Accept) stops =
    let begun = at_places_lose Begins begins_tell (length old.places) old stops.begun stops.begins in
    subst (λ (t : Turns). LosesNoMore old.counts t.counts) (sym stops.stops)
    (λ below. omega (arith, goes_on stops.begun.counts.wire.faults, begun.lost (record { lost = below.lost; closed = below.closed; faults = omega (arith, goes_on stops.begun.counts.wire.faults, below.faults); ends = below.ends })))

-- one that can't accept loses all but the listener's own fault
pub stopped_loses : (now : ℕ) (old new : Turns) (fault : LoopFault) → TakesTurn now old (Err fault) new → LosesAllButOne old.counts new.counts
stopped_loses now old new Accept stops =
    let begun = at_places_lose Begins begins_tell (length old.places) old stops.begun stops.begins in
    subst (λ (t : Turns). LosesAllButOne old.counts t.counts) (sym stops.stops)
    (λ below. omega (arith, goes_on_by_one stops.begun.counts.wire.faults below.faults, begun.lost (record { lost = below.lost; closed = below.closed; faults = omega (arith, goes_on stops.begun.counts.wire.faults, below.faults); ends = below.ends })))
