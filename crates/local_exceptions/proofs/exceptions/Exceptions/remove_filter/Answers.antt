use Rattle.std.proofs.Common.{ap, ◌∙◌}
use Rattle.local_exceptions.specs.ExceptionSets.{without_filter}
use Rattle.local_exceptions.proofs.Filters.{remove_key-out}
use Rattle.local_exceptions.proofs.exceptions.Exceptions.remove_filter.Goals as goal

pub returns-clause-new : goal.returns-clause-new
returns-clause-new g c =
    ap (λ keys. record { filters = keys; asserted = c.self.inside.asserted.keys }) (c.remove.ensures.keys ∙ remove_key-out c.self.inside.filters.keys c.args.filter.now c.len.ensures.ordered)
    ∙ ap (without_filter c.args.filter.now) c.self.view_is
