use Rattle.std.proofs.Common.{refl}
use Rattle.prefix_trie.proofs.node.changed.Goals as goal

pub returns-in-Some : goal.returns-in-Some
returns-in-Some g c = rw c.in-Some.is (refl, (c.applied.new.value, c.applied.ensures, refl))
