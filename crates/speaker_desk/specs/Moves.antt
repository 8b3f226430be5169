-- What turns and operators' lines make of a loop together (own).
use Rattle.std.specs.Prelude.{◌≡◌, ◌≤◌, ◌++◌, ◌⊎◌, ℕ, ⊤, List, [], ◌∷◌, OnOk, Result, Ok, Err, codes, length}
use Rattle.std.specs.declared.net.socket_addr.SocketAddr.{SocketAddr}
use Rattle.bgp_conf.specs.declared.command.Command.{Command}
use Rattle.bgp_conf.specs.declared.command.Command.TheVariants.{Disable, Enable}
use Rattle.bgp_conf.specs.declared.refusal.Refusal.{Refusal}
use Rattle.clocks.specs.Moments.{NeverGoBack, told_behind}
use Rattle.command_lines.specs.CommandWords.{Says}
use Rattle.command_lines.specs.Words.{words_in}
use Rattle.runs.specs.Runs.{Command_call, Run, Turn, asked}
use Rattle.runs.specs.declared.event.Report.{Report}
use Rattle.wires.specs.declared.fault.LoopFault.TheVariants.{Accept}
use Rattle.speaker_turns.specs.Obeying.{Obeys}
use Rattle.speaker_turns.specs.Turns.{TakesTurn, Turns, with_remote}
use Rattle.speaker_turns.specs.declared.end.End.{End}

-- a line asks for the command that its words say; one that clears a slot for that which `disable` says of it; and one that stops the
-- program for the end of each session
abbrev pub AsksFor : List ℕ → Command → Type 0
AsksFor line command =
    Says (words_in line) command
    ⊎ (((word : List ℕ) × (words_in line ≡ codes "clear" ∷ word ∷ []) × Says (codes "disable" ∷ word ∷ []) command)
    ⊎ ((line ≡ codes "stop") × (slot : ℕ) × (command ≡ Disable slot)))

-- what happens to a loop: a turn at a moment, which goes well, or can't accept; a command that an operator's line asks for; a peer that
-- waited, or whose session is to begin again, is enabled; or the loop is told where a session's other side is
pub data Move : Type 0 where
  Turned : (now : ℕ) → Move
  Stopped : (now : ℕ) → Move
  Obeyed : (line : List ℕ) → (command : Command) → Move
  Let : (slot : ℕ) → Move
  Placed : (end : End) → (remote : SocketAddr) → Move

abbrev pub Moves : Move → Turns → Turns → Type 0
Moves (Turned now) old new = TakesTurn now old (Ok tt) new
Moves (Stopped now) old new = TakesTurn now old (Err Accept) new
Moves (Obeyed line command) old new = AsksFor line command × (result : Result Report Refusal) × Obeys command old result new
Moves (Let slot) old new = (result : Result Report Refusal) × Obeys (Enable slot) old result new
Moves (Placed end remote) old new = new ≡ with_remote end remote old

-- these, one after another
abbrev pub MovesAll : List Move → Turns → Turns → Type 0
MovesAll [] old new = new ≡ old
MovesAll (move ∷ moves) old new = (mid : Turns) × Moves move old mid × MovesAll moves mid new

-- the moments of the turns among them
abbrev pub moments_in : List Move → List ℕ
moments_in [] = []
moments_in (Turned now ∷ moves) = now ∷ moments_in moves
moments_in (Stopped now ∷ moves) = now ∷ moments_in moves
moments_in (Obeyed line command ∷ moves) = moments_in moves
moments_in (Let slot ∷ moves) = moments_in moves
moments_in (Placed end remote ∷ moves) = moments_in moves

-- each turn among them goes well
abbrev pub IsWell : Move → Type 0
IsWell (Turned now) = ⊤
IsWell (Stopped now) = ⊥
IsWell (Obeyed line command) = ⊤
IsWell (Let slot) = ⊤
IsWell (Placed end remote) = ⊤

abbrev pub AreWell : List Move → Type 0
AreWell [] = ⊤
AreWell (move ∷ moves) = IsWell move × AreWell moves

-- no turn is among them
abbrev pub IsAnOperators : Move → Type 0
IsAnOperators (Turned now) = ⊥
IsAnOperators (Stopped now) = ⊥
IsAnOperators (Obeyed line command) = ⊤
IsAnOperators (Let slot) = ⊤
IsAnOperators (Placed end remote) = ⊤

abbrev pub AreOperators : List Move → Type 0
AreOperators [] = ⊤
AreOperators (move ∷ moves) = IsAnOperators move × AreOperators moves

-- the calls of a move, the newest first: those of a turn are any; of a command that is accepted its own alone, and none where it is
-- refused; being told where a side is makes none
abbrev pub AreCallsOf : Move → Run → Type 0
AreCallsOf (Turned now) r = ⊤
AreCallsOf (Stopped now) r = ⊤
AreCallsOf (Obeyed line command) r = (r ≡ []) ⊎ ((t : Turn) × (r ≡ t ∷ []) × (asked t.call ≡ Command_call command))
AreCallsOf (Let slot) r = (r ≡ []) ⊎ ((t : Turn) × (r ≡ t ∷ []) × (asked t.call ≡ Command_call (Enable slot)))
AreCallsOf (Placed end remote) r = r ≡ []

-- the run, the newest call first, is that of these moves, in order
abbrev pub AreCallsOfAll : List Move → Run → Type 0
AreCallsOfAll [] r = r ≡ []
AreCallsOfAll (move ∷ moves) r = (later first : Run) × (r ≡ later ++ first) × AreCallsOf move first × AreCallsOfAll moves later

-- so many turns or fewer, each at the moment that the clock told for it, with what operators asked for between them; where nothing
-- failed each turn went well
pub record TakesMoves {E : Type 0} (count : ℕ) (result : Result (Unit {0}) E) (before behind : List ℕ) (old new : Turns) : Type 0 where
  pub moves : List Move
  pub made : MovesAll moves old new
  pub told : behind ≡ told_behind (moments_in moves) before
  pub forward : NeverGoBack before → NeverGoBack behind
  pub few : length (moments_in moves) ≤ count
  pub well : OnOk result (AreWell moves)
