use Rattle.std.proofs.Common.{rules}
use Rattle.bgp_attr.proofs.fault.UpdateFault.data.Goals as goal

pub returns-in-MissingWellKnown : goal.returns-in-MissingWellKnown
returns-in-MissingWellKnown c = search rules
