use Rattle.std.proofs.Common.{sym, arith}
use Rattle.prefix_trie.proofs.Counts.{counted_more, counted_same, few}
use Rattle.prefix_trie.proofs.trie.Trie.insert.Goals as goal

pub overflow_add-self : goal.overflow_add-self
overflow_add-self g c =
    let known = c.self.invariant in
    omega (arith, few c.self.inside.tree.entries known.rising known.addresses, known.count_is)

pub invariant_of-self : goal.invariant_of-self
invariant_of-self g c =
    let put = rw (c.in-Ok-None.is, c.in-Ok-None.field-0-is) at c.insert.ensures in
    rw put.entries (counted_more c.self.inside.count c.args.prefix c.args.value c.self.inside.tree.entries c.is_address.ensures (sym put.before) c.self.invariant)

pub invariant_of-self-in-Ok-Some : goal.invariant_of-self-in-Ok-Some
invariant_of-self-in-Ok-Some g c =
    let put = rw (c.in-Ok-Some.is, c.in-Ok-Some.field-0-is) at c.insert.ensures in
    rw put.entries (counted_same c.self.inside.count c.args.prefix c.args.value _ c.self.inside.tree.entries c.is_address.ensures (sym put.before) c.self.invariant)
