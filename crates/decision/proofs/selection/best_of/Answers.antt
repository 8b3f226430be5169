use Rattle.std.proofs.Common.{◌∙◌}
use Rattle.decision.proofs.One.{first_selected, front_selected}
use Rattle.decision.proofs.selection.best_of.Goals as goal

pub returns-then-candidates-le1 : goal.returns-then-candidates-le1
returns-then-candidates-le1 c =
    first_selected c.args.candidates.now c.if-candidates-le1.true c.requires.distinct c.copied.result (c.copied.ensures ∙ c.first.ensures.value)

pub returns : goal.returns
returns c = front_selected c.args.candidates.now c.if-candidates-le1.false c.requires.distinct c.selected.result c.selected.ensures
