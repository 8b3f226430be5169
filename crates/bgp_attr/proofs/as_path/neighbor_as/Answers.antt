use Rattle.std.proofs.Common.{rules}
use Rattle.bgp_attr.proofs.as_path.neighbor_as.Goals as goal

pub returns-in-Sequence : goal.returns-in-Sequence
returns-in-Sequence g c = search rules
