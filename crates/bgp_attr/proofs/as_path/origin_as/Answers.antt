use Rattle.std.proofs.Common.{rules}
use Rattle.bgp_attr.proofs.as_path.origin_as.Goals as goal

pub returns-in-Set : goal.returns-in-Set
returns-in-Set g c = search rules
