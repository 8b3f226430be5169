use Rattle.std.proofs.Common.{rules}
use Rattle.rib_out.specs.Alike.{octets_number}
use Rattle.rib_out.proofs.alike.number_of.Goals as goal

pub returns : goal.returns
unfolding octets_number
returns c = search rules
