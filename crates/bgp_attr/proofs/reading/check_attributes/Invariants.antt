use Rattle.std.proofs.Common.{length}
use Rattle.bgp_attr.specs.AttributeFaults.{attributes_fault}
use Rattle.bgp_attr.proofs.Faults.{IsChecked}
use Rattle.bgp_attr.proofs.reading.check_attributes.Given as goal

abbrev pub invariant-loop-rest : goal.invariant-loop-rest
invariant-loop-rest l = IsChecked l.kind l.came l.rest (attributes_fault l.kind l.octets)

abbrev pub decreases-loop-rest : goal.decreases-loop-rest
decreases-loop-rest l = length l.rest
