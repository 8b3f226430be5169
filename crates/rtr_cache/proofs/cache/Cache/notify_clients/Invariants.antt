use Rattle.std.proofs.Common.{length, ◌≤◌}
use Rattle.rtr_cache.proofs.Notifying.{AreNotifiedBelow}
use Rattle.rtr_cache.proofs.cache.Cache.notify_clients.Given as goal

abbrev pub invariant-loop-key : goal.invariant-loop-key
invariant-loop-key g l = AreNotifiedBelow l.key l.fn.self l.self × (length l.fn.self.clients ≤ l.key-end)
