use Rattle.std.proofs.Common.{◌≡◌, ◌++◌, length}
use Rattle.bgp_attr.specs.AttributeSpelling.{unknown_spelling}
use Rattle.bgp_attr.proofs.writing.append_list.Given as goal

abbrev pub invariant-loop-rest : goal.invariant-loop-rest
invariant-loop-rest g l = l.out.items ++ unknown_spelling l.first l.rest ≡ l.fn.out.items ++ unknown_spelling l.first l.attributes

abbrev pub decreases-loop-rest : goal.decreases-loop-rest
decreases-loop-rest g l = length l.rest
