use Rattle.std.proofs.Common.{◌∙◌}
use Rattle.net_prefix.proofs.PayloadSets.{same_set}
use Rattle.vrp_delta.proofs.PayloadMembers.{change_fault-change, has-after_change}
use Rattle.vrp_delta.proofs.delta.delta_applied.Goals as goal

pub returns-clause-fault : goal.returns-clause-fault
returns-clause-fault c = change_fault-change

pub returns-clause-new : goal.returns-clause-new
returns-clause-new c old new after rises after_rises applied =
    same_set after new after_rises rises (λ payload. applied payload ∙ has-after_change old new payload)
