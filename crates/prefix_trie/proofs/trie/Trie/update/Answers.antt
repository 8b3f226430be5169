use Rattle.std.proofs.Common.{refl}
use Rattle.std.specs.Fn.{FnOnceReturnsAtMut}
use Rattle.prefix_trie.proofs.Counts.{counted_updated}
use Rattle.prefix_trie.proofs.trie.Trie.update.Goals as goal

pub invariant_of-self : goal.invariant_of-self
invariant_of-self g c =
    let step = λ (v w : g.row.V.Denot). FnOnceReturnsAtMut g.F.FnOnce c.args.change v tt w in
    counted_updated step c.update.result c.self.inside.count c.args.prefix.now _ c.self.inside.tree.entries c.update.new.self.entries refl c.update.ensures.updates c.is_address.ensures c.self.invariant
