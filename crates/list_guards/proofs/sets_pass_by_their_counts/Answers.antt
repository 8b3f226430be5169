use Rattle.list_guards.proofs.Passing.{passes, passes_by}
use Rattle.list_guards.proofs.sets_pass_by_their_counts.Goals as goal

pub returns : goal.returns
returns c = λ guards served next. (passes guards served next, passes_by guards served next)
