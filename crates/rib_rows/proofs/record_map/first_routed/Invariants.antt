use Rattle.std.proofs.Common.{◌≡◌}
use Rattle.prefix_trie.specs.TrieWalks.{first_key}
use Rattle.rib_rows.specs.Records.{routed}
use Rattle.rib_rows.proofs.record_map.first_routed.Given as goal

abbrev pub invariant-loop-prefix : goal.invariant-loop-prefix
invariant-loop-prefix g l =
    (first_key (routed l.fn.range) ≡ first_key (routed l.prefix-iterator))
    × (goal.iterator-loop-prefix g).can_next l.prefix-iterator × (goal.iterator-loop-prefix g).is_finite l.prefix-iterator
