use Rattle.speaker_exceptions.proofs.ObeyedInOrder.{filter_refused, obeyed_both}
use Rattle.speaker_exceptions.proofs.obeying.obey_exceptions.Goals as goal

pub returns-in_err-obey_filters : goal.returns-in_err-obey_filters
returns-in_err-obey_filters g c =
    filter_refused c.args.exceptions.now _ c.in_err-obey_filters.field-0.0 c.from_residual.result _ _ c.filters.ensures c.in_err-obey_filters.ensures c.from_residual.ensures.1

pub returns : goal.returns
returns g c =
    obeyed_both c.args.exceptions.now _ _ _ _ _ c.obey_assertions.result c.filters.ensures c.assertions.ensures c.in_ok-obey_filters.ensures c.obey_assertions.ensures
