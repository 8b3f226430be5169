use Rattle.std.proofs.Common.{sym, subst, ◌∙◌, ap, option_and_then}
use Rattle.decision.specs.BookContents.{AreApart, candidate_of}
use Rattle.decision.specs.KeptPlaces.{ArePlaces, IsBestAt, IsKept, with_changes}
use Rattle.decision.proofs.PlaceLists.{places_changed}
use Rattle.live_book.specs.NeighborBests.{slots_of}
use Rattle.live_book.proofs.many_places.ManyPlaces.change.Goals as goal

pub renew-self-inside-requires-clause-after : goal.renew-self-inside-requires-clause-after
renew-self-inside-requires-clause-after g c =
    let is : IsKept _ = subst IsKept (sym c.self.view_is) c.requires.kept in
    let apart : AreApart (candidate_of (with_changes c.args.changes.now (slots_of c.self.inside.places.items))) =
    subst (λ k. AreApart (candidate_of (with_changes c.args.changes.now k.places))) (sym c.self.view_is) c.requires.apart in
    places_changed c.args.changes.now (slots_of c.self.inside.places.items) is.0 c.requires.named apart

pub returns-then-len-eq1-clause-kept : goal.returns-then-len-eq1-clause-kept
returns-then-len-eq1-clause-kept g c =
    let is : IsKept _ = subst IsKept (sym c.self.view_is) c.requires.kept in
    let apart : AreApart (candidate_of (with_changes c.args.changes.now (slots_of c.self.inside.places.items))) =
    subst (λ k. AreApart (candidate_of (with_changes c.args.changes.now k.places))) (sym c.self.view_is) c.requires.apart in (
      subst ArePlaces (sym c.renew-self-inside.ensures.slots) (places_changed c.args.changes.now (slots_of c.self.inside.places.items) is.0 c.requires.named apart),
      c.renew-self-inside.ensures.best,
    )

pub make-requires-clause-after : goal.make-requires-clause-after
make-requires-clause-after g c =
    let is : IsKept _ = subst IsKept (sym c.self.view_is) c.requires.kept in
    let apart : AreApart (candidate_of (with_changes c.args.changes.now (slots_of c.self.inside.places.items))) =
    subst (λ k. AreApart (candidate_of (with_changes c.args.changes.now k.places))) (sym c.self.view_is) c.requires.apart in
    places_changed c.args.changes.now (slots_of c.self.inside.places.items) is.0 c.requires.named apart

pub best_of-self-inside-requires-clause-kept : goal.best_of-self-inside-requires-clause-kept
best_of-self-inside-requires-clause-kept g c =
    let is : IsKept _ = subst IsKept (sym c.self.view_is) c.requires.kept in
    let apart : AreApart (candidate_of (with_changes c.args.changes.now (slots_of c.self.inside.places.items))) =
    subst (λ k. AreApart (candidate_of (with_changes c.args.changes.now k.places))) (sym c.self.view_is) c.requires.apart in
    subst ArePlaces (sym (ap slots_of c.deref-2.ensures.value ∙ c.make.ensures.slots)) (places_changed c.args.changes.now (slots_of c.self.inside.places.items) is.0 c.requires.named apart)

pub returns-clause-kept : goal.returns-clause-kept
returns-clause-kept g c =
    let is : IsKept _ = subst IsKept (sym c.self.view_is) c.requires.kept in
    let apart : AreApart (candidate_of (with_changes c.args.changes.now (slots_of c.self.inside.places.items))) =
    subst (λ k. AreApart (candidate_of (with_changes c.args.changes.now k.places))) (sym c.self.view_is) c.requires.apart in (
      subst ArePlaces (sym c.make.ensures.slots) (places_changed c.args.changes.now (slots_of c.self.inside.places.items) is.0 c.requires.named apart),
      subst (λ ps. IsBestAt (slots_of ps) (option_and_then (candidate_of (slots_of ps)) c.best_of-self-inside.result)) c.deref-2.ensures.value c.best_of-self-inside.ensures.best,
    )
