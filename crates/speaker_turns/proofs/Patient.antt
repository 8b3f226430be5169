-- A loop stays as patient as it is, and without end of patience no connection falls but with a closed session.
use Rattle.std.proofs.Common.{◌≡◌, ◌∙◌, ◌||◌, ℕ, zero, suc, Bool, true, false, List, [], ◌∷◌, refl, ap, inl, inr, length, Result, Ok, Err}
use Rattle.bgp_conf.specs.declared.command.Command.{Command}
use Rattle.bgp_conf.specs.declared.refusal.Refusal.{Refusal}
use Rattle.runs.specs.declared.event.Report.{Report}
use Rattle.wires.specs.declared.fault.LoopFault.{LoopFault}
use Rattle.wires.specs.declared.fault.LoopFault.TheVariants.{Accept}
use Rattle.speaker_turns.specs.Obeying.{Obeys}
use Rattle.speaker_turns.specs.Serving.{Begins, Connection, PlaceState, Sides, is_over, is_overdue}
use Rattle.speaker_turns.specs.Turns.{Accepts, AtPlaces, GivesWay, TakesTurn, TakesTurns, Turns, VisitsBut, endless, moment_of}
use Rattle.speaker_turns.specs.declared.end.End.{End}
use Rattle.speaker_turns.specs.declared.patience.Patience.{Patience}
use Rattle.speaker_turns.specs.declared.place.Visit.{Visit}

stays_at_places : (Happens : End → PlaceState → Sides → Visit → PlaceState → Sides → Type 0) (count : ℕ) (old new : Turns) → AtPlaces Happens count old new → new.patience ≡ old.patience
stays_at_places Happens zero old new same = ap (λ (t : Turns). t.patience) same
stays_at_places Happens (suc key) old new at = at.2.patience ∙ stays_at_places Happens key old at.0 at.1

stays_accepting : (old new : Turns) → Accepts old new → new.patience ≡ old.patience
stays_accepting old new (inl none) = ap (λ (t : Turns). t.patience) none
stays_accepting old new (inr (inl away)) = ap (λ (t : Turns). t.patience) away.same
stays_accepting old new (inr (inr lets)) = lets.patience

stays_turned : (now : ℕ) (old new : Turns) (result : Result (Unit {0}) LoopFault) → TakesTurn now old result new → new.patience ≡ old.patience
stays_turned now old new (Ok done) turn =
    stays_at_places (GivesWay turn.tells.report) (length turn.tells.told.places) turn.tells.told new turn.tells.gives_way
    ∙ (ap (λ (t : Turns). t.patience) turn.tells.same
    ∙ (ap (λ (t : Turns). t.patience) turn.visits.goes_on
    ∙ (stays_at_places (VisitsBut turn.admitted.next turn.visits.one (moment_of turn.admitted now)) (length turn.admitted.places) turn.admitted turn.visits.visited turn.visits.visits
    ∙ (stays_accepting turn.begun turn.admitted turn.accepts ∙ stays_at_places Begins (length old.places) old turn.begun turn.begins))))
stays_turned now old new (Err Accept) stops =
    ap (λ (t : Turns). t.patience) stops.stops ∙ stays_at_places Begins (length old.places) old stops.begun stops.begins

pub stays_patient : (moments : List ℕ) (old new : Turns) → TakesTurns moments old new → new.patience ≡ old.patience
stays_patient [] old new same = ap (λ (t : Turns). t.patience) same
stays_patient (now ∷ moments) old new taken = stays_patient moments taken.0 new taken.3 ∙ stays_turned now old taken.0 taken.1 taken.2

pub obeys_patient : (command : Command) (old new : Turns) (answer : Result Report Refusal) → Obeys command old answer new → new.patience ≡ old.patience
obeys_patient command old new (Ok report) takes =
    stays_at_places (GivesWay report) (length takes.told.places) takes.told new takes.gives_way ∙ ap (λ (t : Turns). t.patience) takes.same
obeys_patient command old new (Err why) refuses = ap (λ (t : Turns). t.patience) refuses.same

either_none : (test : Bool) → ((test || false) || false) ≡ test
either_none true = refl
either_none false = refl

pub endless_ends_nothing : (turns : Turns) (line : Connection) (now : ℕ) → turns.patience ≡ endless → is_over line (moment_of turns now) ≡ is_overdue line.closing now
endless_ends_nothing turns line now is =
    ap (λ (patience : Patience). is_over line (record { seconds = now; patience = patience })) is ∙ either_none (is_overdue line.closing now)
