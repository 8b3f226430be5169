use Rattle.std.proofs.Common.{rules}
use Rattle.bgp_attr.proofs.attrs.Origin.from_octet.Goals as goal

pub returns-in-1 : goal.returns-in-1
returns-in-1 c = search rules
