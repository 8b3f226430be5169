use Rattle.decision.proofs.Best.{preferred_left}
use Rattle.decision.proofs.selection.preferred.Goals as goal

pub returns-clause-left : goal.returns-clause-left
returns-clause-left c = rw (c.new.ensures, c.greatest_degree.ensures) (preferred_left c.args.candidates.now)
