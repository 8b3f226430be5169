use Rattle.std.proofs.Common.{arith}
use Rattle.std.proofs.lemmas.Grind.{common_steps}
use Rattle.std.specs.Net.Addr.{IsIpv4OfBits}
use Rattle.net_prefix.specs.PrefixText.{text_of}
use Rattle.net_prefix.proofs.text.PrefixDisplay.fmt.Goals as goal

pub returns-clause-writes : goal.returns-clause-writes
unfolding text_of IsIpv4OfBits
returns-clause-writes g c = grind (arith, common_steps)
