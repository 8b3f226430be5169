use Rattle.prefix_trie.proofs.MarkBits.{meets_bit}
use Rattle.rib_out.proofs.slots.has.Goals as goal

pub returns : goal.returns
returns c = rw c.only.ensures (meets_bit c.args.slots c.args.slot)
