use Rattle.std.proofs.Common.{sym, subst, ◌∙◌}
use Rattle.decision.specs.BookContents.{AreApart, candidate_of}
use Rattle.decision.specs.KeptPlaces.{ArePlaces, IsKept, with_changes}
use Rattle.decision.proofs.PlaceLists.{places_changed}
use Rattle.decision.proofs.plain_book.PlainBookBook.change.Goals as goal

pub choose_again-requires : goal.choose_again-requires
choose_again-requires g c =
    let is : IsKept _ = subst IsKept (sym c.self.view_is) c.requires.kept in
    let apart : AreApart (candidate_of (with_changes c.args.changes.now c.self.inside.places.items)) =
    subst (λ k. AreApart (candidate_of (with_changes c.args.changes.now k.places))) (sym c.self.view_is) c.requires.apart in
    subst ArePlaces (sym c.make.ensures) (places_changed c.args.changes.now c.self.inside.places.items is.0 c.requires.named apart)

pub returns-clause-kept : goal.returns-clause-kept
returns-clause-kept g c =
    let is : IsKept _ = subst IsKept (sym c.self.view_is) c.requires.kept in
    let apart : AreApart (candidate_of (with_changes c.args.changes.now c.self.inside.places.items)) =
    subst (λ k. AreApart (candidate_of (with_changes c.args.changes.now k.places))) (sym c.self.view_is) c.requires.apart in (
      subst ArePlaces (sym (c.choose_again.ensures.places ∙ c.make.ensures)) (places_changed c.args.changes.now c.self.inside.places.items is.0 c.requires.named apart),
      c.choose_again.ensures.best,
    )
