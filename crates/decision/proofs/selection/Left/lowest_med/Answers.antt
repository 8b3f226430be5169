use Rattle.decision.proofs.Best.{med_keeps}
use Rattle.decision.proofs.selection.Left.lowest_med.Goals as goal

pub returns-clause-left : goal.returns-clause-left
returns-clause-left c =
    let before = c.args.self in
    rw (c.new.ensures, c.requires) (med_keeps before.degree before.bounds.items before.candidates.now)
