use Rattle.control_sockets.proofs.Visiting.{AreVisitedBelow}
use Rattle.control_sockets.proofs.control_socket.ControlSocketOperators.turn.Given as goal

-- those at the places in front of this one were visited
abbrev pub invariant-loop-place : goal.invariant-loop-place
invariant-loop-place l = AreVisitedBelow l.place-index l.fn.now l.initial.place-items l.place-items
