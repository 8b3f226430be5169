use Rattle.std.proofs.Common.{◌∙◌, ap, subst, sym}
use Rattle.decision.specs.BookContents.{AreApart, candidate_of}
use Rattle.decision.specs.KeptPlaces.{with_changes}
use Rattle.live_book.specs.KeptAlone.{kept_in}
use Rattle.live_book.proofs.live.LiveBookBook.change.Goals as goal

pub change-requires-clause-apart : goal.change-requires-clause-apart
change-requires-clause-apart g c = subst (λ k. AreApart (candidate_of (with_changes c.args.changes.now k.places))) (sym c.self.view_is ∙ ap kept_in c.in-Many.is) c.requires.apart
