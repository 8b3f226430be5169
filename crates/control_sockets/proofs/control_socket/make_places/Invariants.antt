use Rattle.std.proofs.Common.{◌≡◌, None, replicate}
use Rattle.control_sockets.proofs.control_socket.make_places.Given as goal

-- so many places as were made, at which nobody is
abbrev pub invariant-loop : goal.invariant-loop
invariant-loop l = l.made.items ≡ replicate l.counter None
