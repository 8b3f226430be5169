use Rattle.rtr_cache.proofs.QueueingLaws.{within-queues}
use Rattle.rtr_cache.proofs.laws.queueing_leaves_room.Goals as goal

pub returns : goal.returns
returns c conn contents most short least h = within-queues conn contents most short least h
