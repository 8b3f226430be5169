use Rattle.std.proofs.Common.{◌≡◌, ◌<◌, ◌≤◌, ℕ, Some}
use Rattle.slab.specs.Slab.{get}
use Rattle.net_wires.specs.Readiness.{for_both, readiness_of}
use Rattle.net_wires.proofs.readiness.WatchedSockets.tell_all.Given as goal

abbrev pub invariant-loop-key : goal.invariant-loop-key
invariant-loop-key l =
    ((key : ℕ) → key < l.key → readiness_of l.self (Some key) ≡ for_both)
    × ((key : ℕ) → l.key ≤ key → get l.self key ≡ get l.fn.self key)
