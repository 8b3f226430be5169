use Rattle.prefix_table.proofs.Remembered.{none_remembered}
use Rattle.prefix_table.proofs.places.Places.new.Goals as goal

pub invariant_of-result : goal.invariant_of-result
invariant_of-result g c = none_remembered c.new.result.entries c.new-2.result c.new-2.ensures
