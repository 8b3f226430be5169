use Rattle.std.proofs.Common.{◌≡◌, ℕ, ◌++◌, ◌∷◌, [], List, take, ap, sym, ◌∙◌, arith}
use Rattle.std.specs.List.{cons_option}
use Rattle.std.proofs.lemmas.List.{append-nil}
use Rattle.live_book.specs.NeighborBests.{opened_by, opened_of}
use Rattle.live_book.proofs.PlaceBests.{length_next, length_same, picked_here}
use Rattle.live_book.proofs.comparing.opened.Goals as goal
use Rattle.live_book.proofs.comparing.opened.Goals.{in-Some, in_default}

pub loop-place-preserved : goal.loop-place-preserved
loop-place-preserved c =
    let next = picked_here (opened_by c.args.changes.now) c.args.places.now c.loop-place.place-index c.place-item.result (omega arith) c.place-item.is in
    elim c.match-opened_by.branch [
      | in-Some w ↦
          let is : c.match-opened_by.neighbors.items ≡ c.loop-place.neighbors.items ++ w.in-Some.neighbor ∷ [] = ap (λ v. v.items) w.neighbors-is ∙ w.push.ensures.items in
          record {
            items =
                is ∙ ap (λ (xs : List ℕ). xs ++ w.in-Some.neighbor ∷ []) c.loop-place.invariant.items
                ∙ sym (next ∙ ap (λ o. opened_of c.args.changes.now (take c.loop-place.place-index c.args.places.now) ++ cons_option o []) (sym c.opened_by.ensures ∙ w.in-Some.is));
            few = length_next c.match-opened_by.neighbors.items c.loop-place.neighbors.items w.in-Some.neighbor c.loop-place.place-index is c.loop-place.invariant.few;
          }
      | in_default w ↦
          let is : c.match-opened_by.neighbors.items ≡ c.loop-place.neighbors.items = ap (λ v. v.items) w.neighbors-is in
          record {
            items =
                is ∙ c.loop-place.invariant.items
                ∙ sym (next ∙ ap (λ o. opened_of c.args.changes.now (take c.loop-place.place-index c.args.places.now) ++ cons_option o []) (sym c.opened_by.ensures ∙ w.in_default.is) ∙ append-nil _);
            few = length_same c.match-opened_by.neighbors.items c.loop-place.neighbors.items c.loop-place.place-index is c.loop-place.invariant.few;
          }
    ]
