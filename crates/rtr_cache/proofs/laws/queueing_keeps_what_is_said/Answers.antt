use Rattle.rtr_cache.proofs.QueueingLaws.{said-queues}
use Rattle.rtr_cache.proofs.laws.queueing_keeps_what_is_said.Goals as goal

pub returns : goal.returns
returns c conn contents = said-queues conn contents
