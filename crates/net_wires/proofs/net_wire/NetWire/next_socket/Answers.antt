use Rattle.std.proofs.Common.{rules}
use Rattle.net_wires.proofs.net_wire.NetWire.next_socket.Goals as goal

pub returns-clause-number : goal.returns-clause-number
returns-clause-number g c = search rules
