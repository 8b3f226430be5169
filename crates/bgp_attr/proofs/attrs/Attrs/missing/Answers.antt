use Rattle.std.proofs.Common.{rules}
use Rattle.bgp_attr.proofs.attrs.Attrs.missing.Goals as goal

pub returns-then-is_none-2 : goal.returns-then-is_none-2
returns-then-is_none-2 g c = search rules
