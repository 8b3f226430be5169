use Rattle.bgp_attr.proofs.PrependedPaths.{ases_prepended, begins_prepended, length_prepended, neighbor_prepended, segments_prepended}
use Rattle.bgp_attr.proofs.laws.prepending_is_counted.Goals as goal

pub returns-clause-neighbor : goal.returns-clause-neighbor
returns-clause-neighbor c = neighbor_prepended

pub returns-clause-begins : goal.returns-clause-begins
returns-clause-begins c = begins_prepended

pub returns-clause-ases : goal.returns-clause-ases
returns-clause-ases c = ases_prepended

pub returns-clause-length : goal.returns-clause-length
returns-clause-length c = length_prepended

pub returns-clause-segments : goal.returns-clause-segments
returns-clause-segments c = segments_prepended
