use Rattle.std.proofs.Common.{ap, ◌∙◌}
use Rattle.net_prefix.proofs.PayloadSets.{remove_key-out}
use Rattle.local_exceptions.specs.ExceptionSets.{without_assertion}
use Rattle.local_exceptions.proofs.exceptions.Exceptions.no_assert.Goals as goal

pub returns-clause-new : goal.returns-clause-new
returns-clause-new g c =
    ap (λ keys. record { filters = c.self.inside.filters.keys; asserted = keys }) (c.remove.ensures.keys ∙ remove_key-out c.self.inside.asserted.keys c.args.payload.now c.len.ensures.ordered)
    ∙ ap (without_assertion c.args.payload.now) c.self.view_is
