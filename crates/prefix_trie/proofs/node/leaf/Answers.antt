use Rattle.prefix_trie.proofs.Changes.{leaf_parts}
use Rattle.prefix_trie.proofs.node.leaf.Goals as goal

pub joined-requires : goal.joined-requires
joined-requires g c =
    rw (c.in_ok-node.ensures.prefix, c.in_ok-node.ensures.value, c.empty.ensures, c.empty-2.ensures) (leaf_parts c.args.prefix c.args.value)
