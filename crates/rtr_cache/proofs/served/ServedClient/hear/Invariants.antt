use Rattle.std.proofs.Common.{◌≡◌, Bool, List, length}
use Rattle.rtr_cache.specs.CacheTable.{hears_octets}
use Rattle.rtr_cache.proofs.served.ServedClient.hear.Given as goal

abbrev pub invariant-loop-rest : goal.invariant-loop-rest
invariant-loop-rest g l =
    (l.publisher ≡ l.fn.publisher)
    × ((later : List Bool) → (refused : List Bool) × (hears_octets l.fn.publisher refused l.fn.self l.octets ≡ hears_octets l.fn.publisher later l.self l.rest))

abbrev pub decreases-loop-rest : goal.decreases-loop-rest
decreases-loop-rest g l = length l.rest
