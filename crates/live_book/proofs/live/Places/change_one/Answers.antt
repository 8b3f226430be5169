use Rattle.std.proofs.Common.{◌≡◌, ◌∙◌, IfSome, ap, subst, sym}
use Rattle.decision.specs.BookContents.{AreApart, candidate_of, changed}
use Rattle.decision.specs.KeptPlaces.{IsKept, with_changes}
use Rattle.live_book.specs.KeptAlone.{one_place}
use Rattle.live_book.proofs.Alone.{after_one, kept_one, own_of_one}
use Rattle.live_book.proofs.live.Places.change_one.Goals as goal

pub one-requires : goal.one-requires
one-requires g c =
    let is : IsKept (one_place c.args.slot c.args.candidate) = subst IsKept c.requires.one c.requires.kept in
    let apart : AreApart (candidate_of (with_changes c.args.changes.now (one_place c.args.slot c.args.candidate).places)) =
    subst (λ k. AreApart (candidate_of (with_changes c.args.changes.now k.places))) c.requires.one c.requires.apart in
    subst (λ o. IfSome o (λ r. r.slot ≡ c.args.slot)) (sym c.after-renewed.ensures)
    (own_of_one c.args.slot (changed c.args.changes.now c.args.slot c.args.candidate) (after_one c.args.changes.now c.args.slot c.args.candidate is c.requires.named apart))

pub returns-then-not-is_same-clause-kept : goal.returns-then-not-is_same-clause-kept
returns-then-not-is_same-clause-kept g c =
    let is : IsKept (one_place c.args.slot c.args.candidate) = subst IsKept c.requires.one c.requires.kept in
    let apart : AreApart (candidate_of (with_changes c.args.changes.now (one_place c.args.slot c.args.candidate).places)) =
    subst (λ k. AreApart (candidate_of (with_changes c.args.changes.now k.places))) c.requires.one c.requires.apart in
    subst IsKept (sym (c.one.ensures ∙ ap (one_place c.args.slot) c.after-renewed.ensures))
    (kept_one c.args.slot (changed c.args.changes.now c.args.slot c.args.candidate) (after_one c.args.changes.now c.args.slot c.args.candidate is c.requires.named apart))
