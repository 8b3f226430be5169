use Rattle.std.proofs.Common.{◌≡◌, ℕ, List, Option, ap, sym, subst, ◌∙◌, None, option_and_then}
use Rattle.decision.specs.KeptPlaces.{ArePlaces, IsBestAt, IsKept, without_slot}
use Rattle.decision.specs.BookContents.{Kept, candidate_of}
use Rattle.decision.specs.declared.candidate.Candidate.{Candidate}
use Rattle.decision.proofs.BestPlaces.{best_left, best_stays}
use Rattle.decision.proofs.PlaceLists.{is_none, places_without}
use Rattle.decision.proofs.plain_book.PlainBookBook.leave.Goals as goal
use Rattle.decision.proofs.plain_book.PlainBookBook.leave.Goals.{then-is_some, else-is_some}

pub choose_again-requires : goal.choose_again-requires
choose_again-requires g c =
    let is : IsKept _ = subst IsKept (sym c.self.view_is) c.requires in
    subst ArePlaces (sym c.remove_place.ensures) (places_without c.args.slot c.self.inside.places.items is.0)

pub returns-clause-kept : goal.returns-clause-kept
returns-clause-kept g c =
    let ps = c.self.inside.places.items in
    let is : IsKept _ = subst IsKept (sym c.self.view_is) c.requires in
    elim c.if-is_some.branch [
      | then-is_some w ↦ (
        subst ArePlaces (sym (ap (λ k. k.places) w.self-is ∙ w.choose_again.ensures.places ∙ c.remove_place.ensures)) (places_without c.args.slot ps is.0),
        subst (λ k. IsBestAt k.places k.best) (sym w.self-is) w.choose_again.ensures.best,
      )
      | else-is_some w ↦
          let none : candidate_of ps c.args.slot ≡ None = ap (λ xs. candidate_of xs c.args.slot) (sym c.deref.ensures.value) ∙ sym c.candidate_at-gone.ensures ∙ is_none _ (sym c.is_some.ensures ∙ w.if-is_some.false) in
          let make : List (ℕ × Option Candidate) → Kept = λ xs. record { places = xs; best = option_and_then (candidate_of xs) c.self.inside.best } in
          let after : c.if-is_some.self ≡ make (without_slot c.args.slot ps) = w.self-is ∙ ap make c.remove_place.ensures in
          subst IsKept (sym after) (places_without c.args.slot ps is.0, best_stays c.args.slot ps is.0 none c.self.inside.best is.1)
    ]

pub returns-clause-chosen : goal.returns-clause-chosen
returns-clause-chosen g c = λ another.
    let ps = c.self.inside.places.items in
    elim c.if-is_some.branch [
      | then-is_some w ↦ ap (λ m. m.count) w.meter-is ∙ w.choose_again.ensures.chosen
      | else-is_some w ↦
          let none : candidate_of ps c.args.slot ≡ None = ap (λ xs. candidate_of xs c.args.slot) (sym c.deref.ensures.value) ∙ sym c.candidate_at-gone.ensures ∙ is_none _ (sym c.is_some.ensures ∙ w.if-is_some.false) in
          let make : List (ℕ × Option Candidate) → Kept = λ xs. record { places = xs; best = option_and_then (candidate_of xs) c.self.inside.best } in
          let after : c.if-is_some.self ≡ make (without_slot c.args.slot ps) = w.self-is ∙ ap make c.remove_place.ensures in
          absurd (another (ap (λ k. k.best) after ∙ best_left c.args.slot ps none c.self.inside.best ∙ ap (λ k. k.best) c.self.view_is))
    ]
