use Rattle.std.proofs.Common.{◌≡◌, ◌++◌, ◌∷◌, [], take, ap, sym, ◌∙◌, None, List, arith}
use Rattle.std.specs.List.{cons_option}
use Rattle.std.proofs.lemmas.List.{append-nil}
use Rattle.decision.specs.KeptPlaces.{candidates_of}
use Rattle.decision.specs.declared.candidate.Candidate.{Candidate}
use Rattle.decision.proofs.PlaceLists.{candidates_next, length_next, length_same}
use Rattle.decision.proofs.places.candidates.Goals as goal
use Rattle.decision.proofs.places.candidates.Goals.{in-Some, in_default}

pub loop-place-preserved : goal.loop-place-preserved
loop-place-preserved c =
    let next = candidates_next c.args.places.now c.loop-place.place-index (0, None) (omega arith) in
    elim c.match-place.branch [
      | in-Some w ↦
          let is : c.match-place.candidates.items ≡ c.loop-place.candidates.items ++ w.in-Some.candidate ∷ [] = ap (λ v. v.items) w.candidates-is ∙ w.push.ensures.items in
          record {
            items =
                is ∙ ap (λ (cs : List Candidate). cs ++ w.in-Some.candidate ∷ []) c.loop-place.invariant.items
                ∙ sym (next ∙ ap (λ o. candidates_of (take c.loop-place.place-index c.args.places.now) ++ cons_option o []) w.in-Some.is);
            few = length_next c.match-place.candidates.items c.loop-place.candidates.items w.in-Some.candidate c.loop-place.place-index is c.loop-place.invariant.few;
          }
      | in_default w ↦
          let is : c.match-place.candidates.items ≡ c.loop-place.candidates.items = ap (λ v. v.items) w.candidates-is in
          record {
            items =
                is ∙ c.loop-place.invariant.items
                ∙ sym (next ∙ ap (λ o. candidates_of (take c.loop-place.place-index c.args.places.now) ++ cons_option o []) w.in_default.is ∙ append-nil _);
            few = length_same c.match-place.candidates.items c.loop-place.candidates.items c.loop-place.place-index is c.loop-place.invariant.few;
          }
    ]
