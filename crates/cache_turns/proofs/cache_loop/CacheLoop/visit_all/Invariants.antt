use Rattle.std.proofs.Common.{◌≡◌, length}
use Rattle.cache_turns.specs.Turns.{VisitsBelow}
use Rattle.cache_turns.proofs.cache_loop.CacheLoop.visit_all.Given as goal

abbrev pub invariant-loop-client : goal.invariant-loop-client
invariant-loop-client g l =
    VisitsBelow l.fn.now l.client l.fn.self l.self × (length l.self.links ≡ length l.fn.self.links) × (l.client-end ≡ length l.fn.self.links)
