use Rattle.origin_valid.proofs.Kept.{payloads_of-set}
use Rattle.origin_valid.proofs.payload_trie.PayloadTrie.rises.Goals as goal

pub returns : goal.returns
returns g c = rw (← c.self.view_is) (payloads_of-set c.self.inside.prefixes c.self.invariant)
