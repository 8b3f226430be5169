use Rattle.std.proofs.Common.{ap, ◌∙◌}
use Rattle.local_exceptions.specs.ExceptionSets.{ExceptionSets}
use Rattle.local_exceptions.specs.Filters.{has_filter}
use Rattle.local_exceptions.proofs.Filters.{has_filter-own}
use Rattle.local_exceptions.proofs.exceptions.Exceptions.has_filter.Goals as goal

pub returns : goal.returns
returns g c =
    c.contains.ensures ∙ has_filter-own c.self.inside.filters.keys c.args.filter.now
    ∙ ap (λ (e : ExceptionSets). has_filter e.filters c.args.filter.now) c.self.view_is
