use Rattle.local_exceptions.proofs.Filters.{filter_cmp_exact, same_order}
use Rattle.local_exceptions.proofs.filter.filters_are_ordered.Goals as goal

pub returns-clause-order : goal.returns-clause-order
returns-clause-order c = same_order

pub returns-clause-exact : goal.returns-clause-exact
returns-clause-exact c = filter_cmp_exact
