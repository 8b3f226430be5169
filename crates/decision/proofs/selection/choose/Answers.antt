use Rattle.decision.proofs.Laws.{selected_member, selected_preferred, selected_shortest}
use Rattle.decision.proofs.selection.choose.Goals as goal

pub returns-clause-member : goal.returns-clause-member
returns-clause-member c = selected_member c.args.candidates.now c.best_of.result c.best_of.ensures

pub returns-clause-preferred : goal.returns-clause-preferred
returns-clause-preferred c = selected_preferred c.args.candidates.now c.best_of.result c.best_of.ensures

pub returns-clause-shortest : goal.returns-clause-shortest
returns-clause-shortest c = selected_shortest c.args.candidates.now c.best_of.result c.best_of.ensures
