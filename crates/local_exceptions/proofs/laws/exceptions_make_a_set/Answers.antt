use Rattle.local_exceptions.proofs.Sets.{under-is_set, under_is, under_none}
use Rattle.local_exceptions.proofs.laws.exceptions_make_a_set.Goals as goal

pub returns-clause-is : goal.returns-clause-is
returns-clause-is c = under_is

pub returns-clause-set : goal.returns-clause-set
returns-clause-set c = under-is_set

pub returns-clause-none : goal.returns-clause-none
returns-clause-none c = under_none
