use Rattle.std.proofs.Common.{◌≡◌, None, sym, subst, ◌∙◌, ap, option_and_then}
use Rattle.decision.specs.BookContents.{candidate_of}
use Rattle.decision.specs.KeptPlaces.{ArePlaces, IsBestAt, IsKept, without_slot}
use Rattle.decision.proofs.BestPlaces.{best_left, best_stays}
use Rattle.decision.proofs.PlaceLists.{places_without}
use Rattle.live_book.specs.NeighborBests.{AreBests, slots_of}
use Rattle.live_book.proofs.Leaving.{gone_apart, gone_idle, gone_none, gone_without}
use Rattle.live_book.proofs.PlaceBests.{bests_without, slots_without}
use Rattle.live_book.proofs.many_places.ManyPlaces.leave.Goals as goal

pub change-requires-clause-apart : goal.change-requires-clause-apart
change-requires-clause-apart g c = gone_apart c.args.slot c.args.self.now.places c.requires.0

pub invariant_of-self : goal.invariant_of-self
invariant_of-self g c =
    let is : IsKept _ = subst IsKept (sym c.self.view_is) c.change.ensures.kept in
    let none : candidate_of (slots_of c.self.inside.places.items) c.args.slot ≡ None =
    ap (λ k. candidate_of k.places c.args.slot) c.self.view_is ∙ ap (λ ps. candidate_of ps c.args.slot) c.change.ensures.places ∙ gone_none c.args.slot c.args.self.now.places in
    subst AreBests (sym c.remove_place.ensures) (bests_without c.args.slot c.self.inside.places.items is.0 none c.self.invariant)

pub returns-clause-places : goal.returns-clause-places
returns-clause-places g c =
    ap slots_of c.remove_place.ensures ∙ slots_without c.args.slot c.self.inside.places.items
    ∙ ap (without_slot c.args.slot) (ap (λ k. k.places) c.self.view_is ∙ c.change.ensures.places) ∙ gone_without c.args.slot c.args.self.now.places

pub returns-clause-kept : goal.returns-clause-kept
returns-clause-kept g c =
    let is : IsKept _ = subst IsKept (sym c.self.view_is) c.change.ensures.kept in
    let none : candidate_of (slots_of c.self.inside.places.items) c.args.slot ≡ None =
    ap (λ k. candidate_of k.places c.args.slot) c.self.view_is ∙ ap (λ ps. candidate_of ps c.args.slot) c.change.ensures.places ∙ gone_none c.args.slot c.args.self.now.places in (
      subst ArePlaces (sym (ap slots_of c.remove_place.ensures ∙ slots_without c.args.slot c.self.inside.places.items)) (places_without c.args.slot (slots_of c.self.inside.places.items) is.0),
      subst (λ xs. IsBestAt xs (option_and_then (candidate_of xs) c.self.inside.best)) (sym (ap slots_of c.remove_place.ensures ∙ slots_without c.args.slot c.self.inside.places.items))
          (best_stays c.args.slot (slots_of c.self.inside.places.items) is.0 none c.self.inside.best is.1),
    )

pub returns-clause-never : goal.returns-clause-never
returns-clause-never g c = λ none. c.change.ensures.never (gone_idle c.args.slot c.args.self.now.places c.requires.0.distinct none)

pub returns-clause-gone : goal.returns-clause-gone
returns-clause-gone g c = λ some.
    c.change.ensures.made (λ same. some (sym (ap (λ ps. candidate_of ps c.args.slot) same) ∙ gone_none c.args.slot c.args.self.now.places))

pub returns-clause-chosen : goal.returns-clause-chosen
returns-clause-chosen g c = λ another.
    let is : IsKept _ = subst IsKept (sym c.self.view_is) c.change.ensures.kept in
    let none : candidate_of (slots_of c.self.inside.places.items) c.args.slot ≡ None =
    ap (λ k. candidate_of k.places c.args.slot) c.self.view_is ∙ ap (λ ps. candidate_of ps c.args.slot) c.change.ensures.places ∙ gone_none c.args.slot c.args.self.now.places in
    c.change.ensures.chosen (λ same. another
    (ap (λ xs. option_and_then (candidate_of xs) c.self.inside.best) (ap slots_of c.remove_place.ensures ∙ slots_without c.args.slot c.self.inside.places.items)
    ∙ best_left c.args.slot (slots_of c.self.inside.places.items) none c.self.inside.best ∙ ap (λ k. k.best) c.self.view_is ∙ same))
