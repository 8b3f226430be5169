use Rattle.std.proofs.Common.{rules}
use Rattle.bgp_attr.proofs.attrs.Attrs.as_path.Goals as goal

pub returns : goal.returns
returns g c = search rules
