use Rattle.std.proofs.Common.{◌≡◌, ℕ, Bool, List, length}
use Rattle.rtr_cache.specs.CacheTable.{pumped}
use Rattle.rtr_cache.specs.Sending.{conn_of}
use Rattle.rtr_cache.proofs.sender.Sender.pump.Given as goal

abbrev pub invariant-loop-self : goal.invariant-loop-self
invariant-loop-self g l = (is_first : Bool) (unread : List ℕ) → pumped (conn_of is_first unread l.self) ≡ pumped (conn_of is_first unread l.fn.self)

abbrev pub decreases-loop-self : goal.decreases-loop-self
decreases-loop-self g l = length l.self.left
