use Rattle.local_exceptions.specs.ExceptionSets.{is_turned}
use Rattle.origin_valid.proofs.Outsides.{outside-set}
use Rattle.origin_valid.proofs.stretches.affected_by.Goals as goal

pub returns : goal.returns
returns g c =
    outside-set (is_turned c.args.exceptions.now c.args.filter) c.union.result c.args.set.now.keys c.union.ensures.ordered c.union.ensures.members
