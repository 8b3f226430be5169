use Rattle.std.proofs.Common.{◌≡◌, ◌++◌, ◌∷◌, [], List, take, ap, sym, ◌∙◌, arith}
use Rattle.std.specs.List.{cons_option}
use Rattle.std.proofs.lemmas.List.{append-nil}
use Rattle.decision.specs.declared.candidate.Candidate.{Candidate}
use Rattle.live_book.specs.NeighborBests.{contender, contenders_of}
use Rattle.live_book.proofs.PlaceBests.{length_next, length_same, picked_here}
use Rattle.live_book.proofs.comparing.contenders.Goals as goal
use Rattle.live_book.proofs.comparing.contenders.Goals.{in-Some, in_default}

pub loop-place-preserved : goal.loop-place-preserved
loop-place-preserved c =
    let next = picked_here (contender c.args.round) c.args.places.now c.loop-place.place-index c.place-item.result (omega arith) c.place-item.is in
    elim c.match-contender.branch [
      | in-Some w ↦
          let is : c.match-contender.candidates.items ≡ c.loop-place.candidates.items ++ w.in-Some.candidate ∷ [] = ap (λ v. v.items) w.candidates-is ∙ w.push.ensures.items in
          record {
            items =
                is ∙ ap (λ (xs : List Candidate). xs ++ w.in-Some.candidate ∷ []) c.loop-place.invariant.items
                ∙ sym (next ∙ ap (λ o. contenders_of c.args.round (take c.loop-place.place-index c.args.places.now) ++ cons_option o []) (sym c.contender.ensures ∙ w.in-Some.is));
            few = length_next c.match-contender.candidates.items c.loop-place.candidates.items w.in-Some.candidate c.loop-place.place-index is c.loop-place.invariant.few;
          }
      | in_default w ↦
          let is : c.match-contender.candidates.items ≡ c.loop-place.candidates.items = ap (λ v. v.items) w.candidates-is in
          record {
            items =
                is ∙ c.loop-place.invariant.items
                ∙ sym (next ∙ ap (λ o. contenders_of c.args.round (take c.loop-place.place-index c.args.places.now) ++ cons_option o []) (sym c.contender.ensures ∙ w.in_default.is) ∙ append-nil _);
            few = length_same c.match-contender.candidates.items c.loop-place.candidates.items c.loop-place.place-index is c.loop-place.invariant.few;
          }
    ]
