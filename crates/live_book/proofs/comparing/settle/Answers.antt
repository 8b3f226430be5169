use Rattle.std.proofs.Common.{◌≡◌, None, sym, subst, ◌∙◌, ap}
use Rattle.live_book.specs.NeighborBests.{AreFair, HaveStood, is_kept, slots_of, to_settle_at}
use Rattle.live_book.proofs.Rounds.{fair_narrowed, narrowed_closed, narrowed_settled, none_to_settle, slots_narrowed, stood_narrowed}
use Rattle.live_book.proofs.comparing.settle.Goals as goal

pub returns-in-Some-clause-slots : goal.returns-in-Some-clause-slots
returns-in-Some-clause-slots c = ap slots_of c.narrow_each.ensures ∙ slots_narrowed c.args.neighbor c.in-Some.best.slot c.args.places.now

pub returns-in-Some-clause-fair : goal.returns-in-Some-clause-fair
returns-in-Some-clause-fair c =
    subst AreFair (sym c.narrow_each.ensures) (fair_narrowed c.args.neighbor c.args.places.now c.requires.kept c.requires.fair c.in-Some.best c.in-Some.ensures.selected)

pub returns-in-Some-clause-stood : goal.returns-in-Some-clause-stood
returns-in-Some-clause-stood c = subst (HaveStood is_kept c.args.places.now) (sym c.narrow_each.ensures) (stood_narrowed c.args.neighbor c.in-Some.best.slot c.args.places.now)

pub returns-in-Some-clause-closed : goal.returns-in-Some-clause-closed
returns-in-Some-clause-closed c = λ k e.
    subst (λ new. to_settle_at new k ≡ None) (sym c.narrow_each.ensures) (narrowed_closed c.args.neighbor c.in-Some.best.slot c.args.places.now k e)

pub returns-in-Some-clause-settled : goal.returns-in-Some-clause-settled
returns-in-Some-clause-settled c = λ k e.
    subst (λ new. to_settle_at new k ≡ None) (sym c.narrow_each.ensures) (narrowed_settled c.args.neighbor c.in-Some.best.slot c.args.places.now k e)

pub returns-in_default-clause-settled : goal.returns-in_default-clause-settled
returns-in_default-clause-settled c = λ k e.
    absurd (none_to_settle c.args.neighbor c.args.places.now c.in_default.ensures.selected k e)
