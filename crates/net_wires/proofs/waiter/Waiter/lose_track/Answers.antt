use Rattle.std.proofs.Common.{rules}
use Rattle.net_wires.proofs.waiter.Waiter.lose_track.Goals as goal

pub returns-clause-sockets : goal.returns-clause-sockets
returns-clause-sockets c = search rules
