-- A loop of turns, and what a desk keeps (own).
use Rattle.std.specs.Prelude.{ℕ, Bool, List, Option}
use Rattle.std.specs.declared.net.socket_addr.SocketAddr.{SocketAddr}
use Rattle.speaker_turns.specs.Turns.{Turns}
use Rattle.speaker_desk.specs.Waiting.{Waiting}

-- where the peers of the settings are, which peers wait, of each slot whether its session is to begin again, and when the program
-- was to stop
pub record DeskState : Type 0 where
  pub remotes : List (ℕ × SocketAddr)
  pub waiting : Waiting
  pub again : List Bool
  pub stopped : Option ℕ

pub record Standing : Type 0 where
  pub served : Turns
  pub desk : DeskState
