use Rattle.rtr_cache.proofs.QueueingLaws.{full-queues}
use Rattle.rtr_cache.proofs.laws.queueing_stops_at_a_full_ring.Goals as goal

pub returns : goal.returns
returns c conn some = full-queues conn conn.left some
