-- What a wire of the system's sockets keeps in mind: where it listens, and its calls.
use Rattle.std.specs.Prelude.{List, ◌∷◌, Option}
use Rattle.std.specs.declared.net.socket_addr.SocketAddr.{SocketAddr}
use Rattle.wires.specs.Calls.{WireCall}

-- where the system was asked to listen, and the calls with their answers, the newest first
pub record NotedCalls : Type 0 where
  pub listens : Option SocketAddr
  pub calls : List WireCall

-- one more
abbrev pub noting : WireCall → NotedCalls → NotedCalls
noting call noted = record noted { calls = call ∷ noted.calls }
