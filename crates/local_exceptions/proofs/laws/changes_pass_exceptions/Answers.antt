use Rattle.local_exceptions.proofs.Passing.{passes, passes_fitting}
use Rattle.local_exceptions.proofs.laws.changes_pass_exceptions.Goals as goal

pub returns-clause-fits : goal.returns-clause-fits
returns-clause-fits c = passes_fitting

pub returns-clause-applied : goal.returns-clause-applied
returns-clause-applied c = passes
