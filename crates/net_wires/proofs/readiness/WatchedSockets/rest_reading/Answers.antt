use Rattle.std.proofs.Common.{arith}
use Rattle.std.proofs.lemmas.Grind.{common_steps}
use Rattle.net_wires.proofs.readiness.WatchedSockets.rest_reading.Goals as goal

pub returns : goal.returns
returns c = grind (arith, common_steps)
