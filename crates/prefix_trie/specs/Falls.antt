-- Each side of a node has a longer prefix than the node, so that no way down a trie passes more than 33.
use Rattle.std.specs.Prelude.{ℕ, ◌+◌, ◌≤◌, max, Option, None, Some}
use Rattle.std.proofs.Common.{arith}
use Rattle.std.specs.declared.alloc.Allocator as allocator
use Rattle.net_prefix.specs.declared.prefix.Prefix.{Prefix}
use Rattle.prefix_trie.specs.declared.node.Link.{Link}
use Rattle.prefix_trie.specs.declared.node.Link.TheVariants.{Empty, Fork}
use Rattle.prefix_trie.specs.declared.node.Tree.TheDeep.{deep-Link}
use Rattle.prefix_trie.specs.Nodes.{IsTrie, RootIs, depth, shape}
use Rattle.prefix_trie.specs.Places.{IsInside}

-- a side's prefix is longer, where it has one
pub depth_below : (p : Prefix) (base : ℕ) (root : Option Prefix) → RootIs (IsInside base (p.len + 1)) root → depth root + 1 ≤ depth (Some p)
depth_below p base None h = let short = p.short in omega arith
depth_below p base (Some q) h = let short = p.short in let other = q.short in omega (arith, h.long)

pub falls : {V A : Type 0} (alloc : allocator.Ghosts A) (t : Link V A) → IsTrie t → max (deep-Link V A alloc t) 0 ≤ depth (shape t).root
falls alloc Empty h = omega arith
falls alloc (Fork n) h =
    omega (arith, depth_below n.value.prefix _ _ h.low_root, depth_below n.value.prefix _ _ h.high_root)
