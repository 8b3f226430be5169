use Rattle.rtr_cache.proofs.QueueingLaws.{same-queues}
use Rattle.rtr_cache.proofs.laws.queueing_changes_no_more.Goals as goal

pub returns : goal.returns
returns c conn contents = same-queues conn contents
