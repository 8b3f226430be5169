-- What turns count, one step after another: the clients lost are those of the wire's faults, of its ends of input and of the loop's closes.
use Rattle.std.proofs.Common.{◌≡◌, ◌≤◌, ◌+◌, ℕ, zero, suc, Bool, false, true, List, [], ◌∷◌, refl, sym, ap, ◌∙◌, subst, arith, inl, inr, Option, Some, None, Result, Ok, Err}
use Rattle.net_prefix.specs.declared.transport.Transport.{Transport}
use Rattle.net_prefix.specs.declared.transport.Transport.TheVariants as transport
use Rattle.rtr_cache.specs.CacheState.{client_at, transport_of}
use Rattle.cache_turns.specs.Serving.{Answers, Connection, GoesOn, Reads, Serves, Sides, found_at_rest, found_by_write, judged}
use Rattle.cache_turns.specs.Turns.{Accepts, TakesTurn, Turned, Turns, VisitsBelow, VisitsLink, link_at, settled, sides}
use Rattle.cache_turns.specs.declared.link.Visit.{Visit}
use Rattle.cache_turns.specs.declared.link.Visit.TheVariants.{Stays, Faulty, Ended, Closed, Overdue}
use Rattle.wires.specs.Counts.{Counts, LosesNoMore}
use Rattle.wires.specs.Wires.{WireState, one_more, reading, writing}
use Rattle.wires.specs.declared.fault.LoopFault.{LoopFault}
use Rattle.wires.specs.declared.fault.LoopFault.TheVariants.{Accept}
use Rattle.wires.specs.declared.wire.Received.{Received}
use Rattle.wires.specs.declared.wire.Received.TheVariants.{Octets as Came, Nothing as NoneCame, End, Fault as ReadFault}
use Rattle.wires.specs.declared.wire.Sent.{Sent}
use Rattle.wires.specs.declared.wire.Sent.TheVariants.{Octets as Went, Nothing as NoneWent, Fault as WriteFault}
use Rattle.wires.proofs.Counting.{LosesAsCounted, Rises, below_rises, goes_on, goes_on_by_one, loses_none, loses_nothing, no_more, rises_both}

-- the wire has told as many faults and ends of input
record Counted (faults ends : ℕ) (new : WireState) : Type 0 where
  pub faults_are : faults ≤ new.faults
  pub ends_are : ends ≤ new.ends

-- what it has told behind a visit that finds this: a connection whose other side sends no more stays until all is told
abbrev Tells : Visit → WireState → WireState → Type 0
Tells Stays old new = Counted old.faults old.ends new
Tells Faulty old new = Counted (one_more old.faults) old.ends new
Tells Ended old new = Counted old.faults (one_more old.ends) new
Tells Closed old new = Counted old.faults old.ends new
Tells Overdue old new = Counted old.faults old.ends new

tells_found : (visit found : Visit) (old new : WireState) → visit ≡ found → Tells found old new → Tells visit old new
tells_found visit found old new is tells = subst (λ (v : Visit). Tells v old new) (sym is) tells

-- no count falls behind it
more_told : (few many : ℕ) → few ≤ many → one_more few ≤ one_more many
more_told few many below = grind arith

-- nothing is to be written
rests_tell : (resting : Visit) (transport : Transport) (old new : WireState) → Counted old.faults old.ends new → Tells resting old new → Tells (found_at_rest resting transport) old new
rests_tell resting transport.None old new told rest = rest
rests_tell resting transport.Opening old new told rest = rest
rests_tell resting transport.Listening old new told rest = rest
rests_tell resting transport.Open old new told rest = rest
rests_tell resting transport.Closing old new told rest = told

write_tells : (sent : Sent) (number : ℕ) (octets : List ℕ) (old mid : WireState) → Counted old.faults old.ends mid → Tells (found_by_write sent) old (writing number octets sent mid)
write_tells (Went count) number octets old mid told = record { faults_are = told.faults_are; ends_are = told.ends_are }
write_tells NoneWent number octets old mid told = record { faults_are = told.faults_are; ends_are = told.ends_are }
write_tells WriteFault number octets old mid told = record { faults_are = more_told old.faults mid.faults told.faults_are; ends_are = told.ends_are }

-- a client is answered behind a read
answers_tell : (resting : Visit) (key : ℕ) (link : Connection) (old : WireState) (mid : Sides) (visit : Visit) (left : List ℕ) (new : Sides) → Answers resting key link mid visit left new → Counted old.faults old.ends mid.wire → Tells resting old mid.wire → Tells visit old new.wire
answers_tell resting key link old mid visit left new answers told rest = by_octets answers.octets refl
  where
    by_octets : (octets : List ℕ) → answers.octets ≡ octets → Tells visit old new.wire
    by_octets [] is =
        let rests = answers.none is in
        tells_found visit _ old new.wire rests.finds
        (subst (λ (w : WireState). Tells (found_at_rest resting (transport_of (client_at new.cache key))) old w) (sym rests.same)
        (rests_tell resting (transport_of (client_at new.cache key)) old mid.wire told rest))
    by_octets (octet ∷ octets) is =
        let writes = answers.some (λ none. let wrong : octet ∷ octets ≡ [] = sym is ∙ none in cc) in
        tells_found visit _ old new.wire writes.finds
        (subst (λ (w : WireState). Tells (found_by_write writes.sent) old w) (sym writes.asks) (write_tells writes.sent link.number answers.octets old mid.wire told))

serves_tells : (key : ℕ) (link : Connection) (old : Sides) (visit : Visit) (left : List ℕ) (new : Sides) → Serves key link old visit left new → Tells visit old.wire new.wire
serves_tells key link old visit left new serves = by_read serves.received serves.reads serves.goes_on
  where
    behind : (wire : WireState) → serves.behind.wire ≡ wire → Counted old.wire.faults old.wire.ends wire → Counted old.wire.faults old.wire.ends serves.behind.wire
    behind wire is told = subst (λ (w : WireState). Counted old.wire.faults old.wire.ends w) (sym is) told

    by_read : (received : Received) → (reads : Reads key link.number received old serves.behind) → GoesOn received key link serves.behind visit left new → Tells visit old.wire new.wire
    by_read (Came count) reads answers =
        let told = behind _ reads.asks (record { faults_are = omega arith; ends_are = omega arith }) in
        answers_tell Stays key link old.wire serves.behind visit left new answers told told
    by_read NoneCame reads answers =
        let told = behind _ reads.asks (record { faults_are = omega arith; ends_are = omega arith }) in
        answers_tell Stays key link old.wire serves.behind visit left new answers told told
    by_read End reads answers =
        let ended : Counted old.wire.faults (one_more old.wire.ends) serves.behind.wire =
        subst (λ (w : WireState). Counted old.wire.faults (one_more old.wire.ends) w) (sym reads.asks) (record { faults_are = omega arith; ends_are = omega arith }) in
        answers_tell Ended key link old.wire serves.behind visit left new answers
        (behind _ reads.asks (record { faults_are = omega arith; ends_are = goes_on old.wire.ends })) ended
    by_read ReadFault reads found =
        let is : new.wire ≡ reading link.number reads.buf ReadFault old.wire = ap (λ (s : Sides). s.wire) found.1 ∙ reads.asks in
        tells_found visit Faulty old.wire new.wire found.0 (subst (λ (w : WireState). Tells Faulty old.wire w) (sym is) (record { faults_are = omega arith; ends_are = omega arith }))

-- what is judged tells what was found
judged_tells : (over : Bool) (found visit : Visit) (old new : WireState) → visit ≡ judged over found → Tells found old new → Tells visit old new
judged_tells false found visit old new is told = tells_found visit found old new is told
judged_tells true Stays visit old new is told = tells_found visit Overdue old new is told
judged_tells true Faulty visit old new is told = tells_found visit Faulty old new is told
judged_tells true Ended visit old new is told = tells_found visit Ended old new is told
judged_tells true Closed visit old new is told = tells_found visit Closed old new is told
judged_tells true Overdue visit old new is told = tells_found visit Overdue old new is told

-- no count falls, and no more is lost than faults, ends and closes rose together
record LosesWithin (old new : Counts) : Type 0 where
  pub rises : Rises old new
  pub lost : LosesNoMore old new

loses_as : (old new : Counts) → LosesAsCounted old new → LosesWithin old new
loses_as old new loses = record { rises = loses.rises; lost = no_more old new loses }

loses_on : (old mid new : Counts) → LosesWithin old mid → LosesWithin mid new → LosesWithin old new
loses_on old mid new first second =
    record {
      rises = rises_both old mid new first.rises second.rises;
      lost = λ below. omega (arith, first.lost (below_rises mid new second.rises below), second.lost below);
    }

loses_so : (old mid new : Counts) → new ≡ mid → LosesWithin old mid → LosesWithin old new
loses_so old mid new same loses = subst (λ (c : Counts). LosesWithin old c) (sym same) loses

-- nothing is lost, whatever was told
keeps_one : (old new : Counts) → new.lost ≡ old.lost → new.closed ≡ old.closed → Counted old.wire.faults old.wire.ends new.wire → LosesWithin old new
keeps_one old new lost closed told =
    record {
      rises = record { lost = omega (arith, lost); closed = omega (arith, closed); faults = told.faults_are; ends = told.ends_are };
      lost = λ below. omega (arith, lost, closed, told.faults_are, told.ends_are);
    }

one_at_most : (count : ℕ) → one_more count ≤ count + 1
one_at_most count = grind arith

-- one is lost, behind a fault
loses_failed : (old new : Counts) → new.lost ≡ one_more old.lost → new.closed ≡ old.closed → Counted (one_more old.wire.faults) old.wire.ends new.wire → LosesWithin old new
loses_failed old new lost closed told =
    record {
      rises = record { lost = omega (arith, lost, goes_on old.lost); closed = omega (arith, closed); faults = omega (arith, told.faults_are, goes_on old.wire.faults); ends = told.ends_are };
      lost = λ below. let one = goes_on_by_one old.wire.faults (omega (arith, told.faults_are, below.faults)) in omega (arith, lost, one_at_most old.lost, one, closed, told.faults_are, told.ends_are);
    }

-- or an end of input
loses_ended : (old new : Counts) → new.lost ≡ one_more old.lost → new.closed ≡ old.closed → Counted old.wire.faults (one_more old.wire.ends) new.wire → LosesWithin old new
loses_ended old new lost closed told =
    record {
      rises = record { lost = omega (arith, lost, goes_on old.lost); closed = omega (arith, closed); faults = told.faults_are; ends = omega (arith, told.ends_are, goes_on old.wire.ends) };
      lost = λ below. let one = goes_on_by_one old.wire.ends (omega (arith, told.ends_are, below.ends)) in omega (arith, lost, one_at_most old.lost, one, closed, told.faults_are, told.ends_are);
    }

-- or closed on this side
loses_closed : (old new : Counts) → new.lost ≡ one_more old.lost → new.closed ≡ one_more old.closed → Counted old.wire.faults old.wire.ends new.wire → LosesWithin old new
loses_closed old new lost closed told =
    record {
      rises = record { lost = omega (arith, lost, goes_on old.lost); closed = omega (arith, closed, goes_on old.closed); faults = told.faults_are; ends = told.ends_are };
      lost = λ below. let one = goes_on_by_one old.closed (omega (arith, closed, below.closed)) in omega (arith, lost, one_at_most old.lost, one, closed, told.faults_are, told.ends_are);
    }

-- a visit loses as it counts
settles : (visit : Visit) (number : ℕ) (counts : Counts) (wire : WireState) → Tells visit counts.wire wire → LosesWithin counts (settled visit number (record counts { wire = wire }))
settles Stays number counts wire told = keeps_one _ _ refl refl told
settles Faulty number counts wire told = loses_failed _ _ refl refl (record { faults_are = told.faults_are; ends_are = told.ends_are })
settles Ended number counts wire told = loses_ended _ _ refl refl (record { faults_are = told.faults_are; ends_are = told.ends_are })
settles Closed number counts wire told = loses_closed _ _ refl refl (record { faults_are = told.faults_are; ends_are = told.ends_are })
settles Overdue number counts wire told = loses_closed _ _ refl refl (record { faults_are = told.faults_are; ends_are = told.ends_are })

visit_loses : (now : ℕ) (old new : Turns) (key : ℕ) (link : Option Connection) → VisitsLink now old key link new → LosesWithin old.counts new.counts
visit_loses now old new key None same = loses_so _ _ _ (ap (λ (t : Turns). t.counts) same) (loses_as _ _ (loses_none old.counts))
visit_loses now old new key (Some link) visited =
    loses_so _ _ _ visited.counts
    (settles visited.visit link.number old.counts visited.behind.wire
    (judged_tells _ visited.attends.found visited.visit old.counts.wire visited.behind.wire visited.attends.judges
    (serves_tells key link (sides old) visited.attends.found visited.left.waiting visited.behind visited.attends.stands.serves)))

visits_lose : (now places : ℕ) (old new : Turns) → VisitsBelow now places old new → LosesWithin old.counts new.counts
visits_lose now zero old new same = loses_so _ _ _ (ap (λ (t : Turns). t.counts) same) (loses_as _ _ (loses_none old.counts))
visits_lose now (suc key) old new v = loses_on _ _ _ (visits_lose now key old v.0 v.1) (visit_loses now v.0 new key (link_at v.0 key) v.2)

accepting_loses : (now : ℕ) (old new : Turns) → Accepts now old new → LosesWithin old.counts new.counts
accepting_loses now old new (inl none) = loses_so _ _ _ (ap (λ (t : Turns). t.counts) none) (loses_as _ _ (loses_nothing _ _ refl refl refl refl))
accepting_loses now old new (inr (inl away)) = loses_so _ _ _ away.counts (loses_as _ _ (loses_nothing _ _ refl refl refl refl))
accepting_loses now old new (inr (inr (inl lacks))) = loses_so _ _ _ lacks.counts (loses_as _ _ (loses_nothing _ _ refl refl refl refl))
accepting_loses now old new (inr (inr (inr comes))) = loses_so _ _ _ comes.counts (loses_as _ _ (loses_nothing _ _ refl refl refl refl))

turned_loses : (now : ℕ) (old new : Turns) → Turned now old new → LosesWithin old.counts new.counts
turned_loses now old new turn =
    loses_so _ _ _ (ap (λ (t : Turns). t.counts) turn.tells.same) (loses_on _ _ _ (accepting_loses now old turn.admitted turn.accepts) (visits_lose now _ turn.admitted turn.visited turn.visits))

-- a turn loses no more than is counted
pub turn_loses_no_more : (now : ℕ) (old new : Turns) (result : Result (Unit {0}) LoopFault) → TakesTurn now old result new → LosesNoMore old.counts new.counts
turn_loses_no_more now old new (Ok nothing) turn = (turned_loses now old new turn).lost
turn_loses_no_more now old new (Err Accept) stops =
    subst (λ (t : Turns). LosesNoMore old.counts t.counts) (sym stops)
    (λ below. omega (arith, goes_on old.counts.wire.faults))
