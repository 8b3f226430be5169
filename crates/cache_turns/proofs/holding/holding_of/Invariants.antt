use Rattle.std.proofs.Common.{◌≡◌, ◌≤◌, drop, length}
use Rattle.cache_turns.specs.Holding.{held_from}
use Rattle.cache_turns.proofs.HoldingCounts.{CountsOn, total}
use Rattle.cache_turns.proofs.holding.holding_of.Given as goal

abbrev pub invariant-loop-client : goal.invariant-loop-client
invariant-loop-client g l =
    CountsOn l.serial l.holding (held_from l.cache l.client (drop l.client l.places)) (held_from l.cache 0 l.places)
    × (total l.holding ≤ l.client) × (l.client-end ≡ length l.places)
