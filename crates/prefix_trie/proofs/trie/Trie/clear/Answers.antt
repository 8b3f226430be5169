use Rattle.std.proofs.Common.{refl}
use Rattle.prefix_trie.proofs.Changes.{rising_nil}
use Rattle.prefix_trie.proofs.trie.Trie.clear.Goals as goal

pub invariant_of-self : goal.invariant_of-self
invariant_of-self g c = rw c.empty.ensures (record { count_is = refl; rising = rising_nil g.row.V.Denot; addresses = tt })
