use Rattle.std.proofs.Common.{refl}
use Rattle.prefix_trie.proofs.Changes.{rising_nil}
use Rattle.prefix_trie.proofs.trie.Trie.new.Goals as goal

pub invariant_of-result : goal.invariant_of-result
invariant_of-result g c = rw c.empty.ensures (record { count_is = refl; rising = rising_nil g.row.V.Denot; addresses = tt })
