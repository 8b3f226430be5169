use Rattle.std.proofs.Common.{◌≡◌}
use Rattle.prefix_trie.specs.TrieWalks.{first_key}
use Rattle.rib_in.specs.LatestRoutes.{routes_of}
use Rattle.prefix_table.specs.Picked.{picked}
use Rattle.rib_rows.specs.PrefixRows.{adj_in_of, route_of}
use Rattle.rib_rows.specs.Records.{PrefixRecord, routed}
use Rattle.rib_rows.proofs.record_map.first_of_slot.Given as goal

abbrev pub invariant-loop-prefix : goal.invariant-loop-prefix
invariant-loop-prefix g l =
    (first_key (routes_of l.fn.slot (adj_in_of (routed l.fn.range))) ≡ first_key (picked (λ (r : PrefixRecord). route_of r.row l.fn.slot) l.prefix-iterator))
    × (goal.iterator-loop-prefix g).can_next l.prefix-iterator × (goal.iterator-loop-prefix g).is_finite l.prefix-iterator
