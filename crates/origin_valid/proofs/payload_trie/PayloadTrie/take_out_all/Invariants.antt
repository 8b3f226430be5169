use Rattle.std.proofs.Common.{◌≡◌, ◌&&◌, not, map}
use Rattle.std.specs.Map.Iter.{deref}
use Rattle.net_prefix.specs.PayloadSets.{has}
use Rattle.net_prefix.specs.declared.payload.Vrp.{Vrp}
use Rattle.origin_valid.proofs.payload_trie.PayloadTrie.take_out_all.Given as goal

abbrev pub invariant-loop-payload : goal.invariant-loop-payload
invariant-loop-payload g l = (q : Vrp) → has l.self q ≡ (has l.fn.self q && not (has (map (deref {X = Vrp}) l.yielded) q))
