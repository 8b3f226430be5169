use Rattle.decision.proofs.One.{one_selected}
use Rattle.decision.proofs.selection.one_best.Goals as goal

pub returns : goal.returns
returns c = one_selected c.args.candidates.now c.requires.some c.requires.distinct
