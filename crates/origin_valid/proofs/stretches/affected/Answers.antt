use Rattle.vrp_delta.specs.Delta.{Change}
use Rattle.local_exceptions.specs.ExceptionSets.{is_untouched}
use Rattle.origin_valid.proofs.Outsides.{outside-change}
use Rattle.origin_valid.proofs.stretches.affected.Goals as goal

pub returns : goal.returns
returns g c =
    let change : Change = record { withdrawn = c.delta.inside.withdrawn.keys; announced = c.delta.inside.announced.keys } in
    rw (← c.delta.view_is) (outside-change (is_untouched c.args.exceptions.now) c.union.result change c.union.ensures.ordered c.union.ensures.members)
