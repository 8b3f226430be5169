use Rattle.std.proofs.Common.{◌≡◌}
use Rattle.prefix_trie.specs.TrieWalks.{first_key}
use Rattle.holdings.specs.Holdings.{held_by}
use Rattle.prefix_table.specs.Picked.{picked}
use Rattle.rib_rows.specs.Records.{PrefixRecord}
use Rattle.rib_rows.proofs.sent_map.first_held.Given as goal

abbrev pub invariant-loop-prefix : goal.invariant-loop-prefix
invariant-loop-prefix g l =
    (first_key (picked (λ (r : PrefixRecord). held_by r.sent l.fn.slot) l.fn.range) ≡ first_key (picked (λ (r : PrefixRecord). held_by r.sent l.fn.slot) l.prefix-iterator))
    × (goal.iterator-loop-prefix g).can_next l.prefix-iterator × (goal.iterator-loop-prefix g).is_finite l.prefix-iterator
