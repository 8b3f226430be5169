use Rattle.std.proofs.Common.{true, false, sym, ◌∙◌}
use Rattle.prefix_trie.proofs.Counts.{counted_at}
use Rattle.prefix_trie.proofs.trie.Trie.remove.Goals as goal

pub invariant_of-self : goal.invariant_of-self
invariant_of-self g c =
    rw c.remove-removed.ensures.entries (counted_at c.self.inside.count c.args.prefix.now c.self.inside.tree.entries c.remove-removed.result true (sym c.remove-removed.ensures.removed) (sym c.is_some.ensures ∙ c.if-is_some.true) c.self.invariant)

pub invariant_of-self-else-is_some : goal.invariant_of-self-else-is_some
invariant_of-self-else-is_some g c =
    rw c.remove-removed.ensures.entries (counted_at c.self.inside.count c.args.prefix.now c.self.inside.tree.entries c.remove-removed.result false (sym c.remove-removed.ensures.removed) (sym c.is_some.ensures ∙ c.if-is_some.false) c.self.invariant)
