-- A wire listens where it did, whatever turns are taken and sets are loaded.
use Rattle.std.proofs.Common.{◌≡◌, ℕ, zero, suc, List, [], ◌∷◌, refl, sym, ap, ◌∙◌, inl, inr, Option, Some, None, Result, Ok, Err}
use Rattle.cache_turns.specs.Serving.{Answers, Connection, GoesOn, Serves, Sides}
use Rattle.cache_turns.specs.Turns.{Accepts, Load, Step, TakesStep, TakesSteps, TakesTurn, Turned, TurnAt, Turns, VisitsBelow, VisitsLink, Withdraw, link_at, settled, sides}
use Rattle.cache_turns.specs.declared.link.Visit.{Visit}
use Rattle.cache_turns.specs.declared.link.Visit.TheVariants.{Stays, Faulty, Ended, Closed, Overdue}
use Rattle.wires.specs.Counts.{Counts}
use Rattle.wires.specs.Wires.{WireState, reading, writing}
use Rattle.wires.specs.declared.fault.LoopFault.{LoopFault}
use Rattle.wires.specs.declared.fault.LoopFault.TheVariants.{Accept}
use Rattle.wires.specs.declared.wire.Received.{Received}
use Rattle.wires.specs.declared.wire.Received.TheVariants.{Octets as Came, Nothing as NoneCame, End, Fault as ReadFault}
use Rattle.wires.specs.declared.wire.Sent.{Sent}
use Rattle.wires.specs.declared.wire.Sent.TheVariants.{Octets as Went, Nothing as NoneWent, Fault as WriteFault}

listens_at_read : (received : Received) (number : ℕ) (buf : List ℕ) (wire : WireState) → (reading number buf received wire).listens ≡ wire.listens
listens_at_read (Came count) number buf wire = refl
listens_at_read NoneCame number buf wire = refl
listens_at_read End number buf wire = refl
listens_at_read ReadFault number buf wire = refl

listens_at_write : (sent : Sent) (number : ℕ) (octets : List ℕ) (wire : WireState) → (writing number octets sent wire).listens ≡ wire.listens
listens_at_write (Went count) number octets wire = refl
listens_at_write NoneWent number octets wire = refl
listens_at_write WriteFault number octets wire = refl

listens_at_answer : (resting : Visit) (key : ℕ) (link : Connection) (old : Sides) (visit : Visit) (left : List ℕ) (new : Sides) → Answers resting key link old visit left new → new.wire.listens ≡ old.wire.listens
listens_at_answer resting key link old visit left new answers = by_octets answers.octets refl
  where
    by_octets : (octets : List ℕ) → answers.octets ≡ octets → new.wire.listens ≡ old.wire.listens
    by_octets [] is = ap (λ (w : WireState). w.listens) (answers.none is).same
    by_octets (octet ∷ octets) is =
        let writes = answers.some (λ none. let wrong : octet ∷ octets ≡ [] = sym is ∙ none in cc) in
        ap (λ (w : WireState). w.listens) writes.asks ∙ listens_at_write writes.sent link.number answers.octets old.wire

listens_behind : (received : Received) (key : ℕ) (link : Connection) (old : Sides) (visit : Visit) (left : List ℕ) (new : Sides) → GoesOn received key link old visit left new → new.wire.listens ≡ old.wire.listens
listens_behind (Came count) key link old visit left new answers = listens_at_answer Stays key link old visit left new answers
listens_behind NoneCame key link old visit left new answers = listens_at_answer Stays key link old visit left new answers
listens_behind End key link old visit left new answers = listens_at_answer Ended key link old visit left new answers
listens_behind ReadFault key link old visit left new found = ap (λ (s : Sides). s.wire.listens) found.1

listens_served : (key : ℕ) (link : Connection) (old : Sides) (visit : Visit) (left : List ℕ) (new : Sides) → Serves key link old visit left new → new.wire.listens ≡ old.wire.listens
listens_served key link old visit left new serves =
    listens_behind serves.received key link serves.behind visit left new serves.goes_on
    ∙ (ap (λ (w : WireState). w.listens) serves.reads.asks ∙ listens_at_read serves.received link.number serves.reads.buf old.wire)

listens_settled : (visit : Visit) (number : ℕ) (counts : Counts) → (settled visit number counts).wire.listens ≡ counts.wire.listens
listens_settled Stays number counts = refl
listens_settled Faulty number counts = refl
listens_settled Ended number counts = refl
listens_settled Closed number counts = refl
listens_settled Overdue number counts = refl

listens_visited : (now : ℕ) (old new : Turns) (key : ℕ) (link : Option Connection) → VisitsLink now old key link new → new.counts.wire.listens ≡ old.counts.wire.listens
listens_visited now old new key None same = ap (λ (t : Turns). t.counts.wire.listens) same
listens_visited now old new key (Some link) visited =
    ap (λ (c : Counts). c.wire.listens) visited.counts
    ∙ (listens_settled visited.visit link.number (record old.counts { wire = visited.behind.wire })
    ∙ listens_served key link (sides old) visited.attends.found visited.left.waiting visited.behind visited.attends.stands.serves)

all_visited : (now places : ℕ) (old new : Turns) → VisitsBelow now places old new → new.counts.wire.listens ≡ old.counts.wire.listens
all_visited now zero old new same = ap (λ (t : Turns). t.counts.wire.listens) same
all_visited now (suc key) old new v = listens_visited now v.0 new key (link_at v.0 key) v.2 ∙ all_visited now key old v.0 v.1

listens_admitted : (now : ℕ) (old new : Turns) → Accepts now old new → new.counts.wire.listens ≡ old.counts.wire.listens
listens_admitted now old new (inl none) = ap (λ (t : Turns). t.counts.wire.listens) none
listens_admitted now old new (inr (inl away)) = ap (λ (c : Counts). c.wire.listens) away.counts
listens_admitted now old new (inr (inr (inl lacks))) = ap (λ (c : Counts). c.wire.listens) lacks.counts
listens_admitted now old new (inr (inr (inr comes))) = ap (λ (c : Counts). c.wire.listens) comes.counts

listens_turned : (now : ℕ) (old new : Turns) (result : Result (Unit {0}) LoopFault) → TakesTurn now old result new → new.counts.wire.listens ≡ old.counts.wire.listens
listens_turned now old new (Ok done) turn =
    ap (λ (t : Turns). t.counts.wire.listens) turn.tells.same ∙ (all_visited now _ turn.admitted turn.visited turn.visits ∙ listens_admitted now old turn.admitted turn.accepts)
listens_turned now old new (Err Accept) stops = ap (λ (t : Turns). t.counts.wire.listens) stops

listens_stepped : (step : Step) (old new : Turns) → TakesStep step old new → new.counts.wire.listens ≡ old.counts.wire.listens
listens_stepped (TurnAt now) old new takes = listens_turned now old new takes.0 takes.1
listens_stepped (Load set) old new loads = ap (λ (t : Turns). t.counts.wire.listens) loads.same
listens_stepped Withdraw old new withdraws = ap (λ (t : Turns). t.counts.wire.listens) withdraws.same

pub listens_on : (steps : List Step) (old new : Turns) → TakesSteps steps old new → new.counts.wire.listens ≡ old.counts.wire.listens
listens_on [] old new same = ap (λ (t : Turns). t.counts.wire.listens) same
listens_on (step ∷ steps) old new taken = listens_on steps taken.0 new taken.2 ∙ listens_stepped step old taken.0 taken.1
