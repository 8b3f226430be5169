use Rattle.prefix_trie.specs.Places.{IsInside, IsLow, IsHigh}
use Rattle.prefix_trie.proofs.Blocks.{low_inside, high_inside}
use Rattle.prefix_trie.proofs.AtNode.{root_weaker}
use Rattle.prefix_trie.proofs.node.mended.Goals as goal

pub returns-then-is_empty-clause-inside : goal.returns-then-is_empty-clause-inside
returns-then-is_empty-clause-inside g c =
    λ base len inside.
    let p = c.args.node.value.prefix in
    rw c.into_inner-high.ensures (root_weaker (IsHigh p) (IsInside base len) (λ q i. high_inside p q base len inside i) _ c.requires.high_root)

pub returns-then-is_empty-2-clause-inside : goal.returns-then-is_empty-2-clause-inside
returns-then-is_empty-2-clause-inside g c =
    λ base len inside.
    let p = c.args.node.value.prefix in
    rw c.into_inner-low.ensures (root_weaker (IsLow p) (IsInside base len) (λ q i. low_inside p q base len inside i) _ c.requires.low_root)
