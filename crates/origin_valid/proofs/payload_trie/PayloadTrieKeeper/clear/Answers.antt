use Rattle.origin_valid.proofs.Kept.{by_prefix_none}
use Rattle.origin_valid.proofs.payload_trie.PayloadTrieKeeper.clear.Goals as goal

pub invariant_of-self : goal.invariant_of-self
invariant_of-self g c = rw c.clear.ensures by_prefix_none
