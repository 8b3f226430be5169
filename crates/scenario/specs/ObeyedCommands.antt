-- What the commands on lines make of a speaker.
use Rattle.std.specs.Prelude.{◌≡◌, ◌+◌, ◌++◌, ◌⊎◌, ℕ, ⊤, false, IsAscii, List, [], ◌∷◌, None, Some, Result, Ok, Err, length}
use Rattle.std.specs.Bool.{MatchBool}
use Rattle.bgp_conf.specs.declared.command.Command.{Command}
use Rattle.bgp_conf.specs.declared.refusal.Refusal.{Refusal}
use Rattle.command_lines.specs.CommandWords.{SayNone, Says}
use Rattle.command_lines.specs.Words.{words_in}
use Rattle.runs.specs.AcceptedCommands.{AreAccepted}
use Rattle.runs.specs.Agreement.{Agrees}
use Rattle.runs.specs.FirstRefusal.{refusal_in, refusal_of}
use Rattle.runs.specs.Runs.{Run, Turn, Command_call, asked}
use Rattle.runs.specs.SpeakerState.{SpeakerState}
use Rattle.runs.specs.declared.config.Config.{Config}
use Rattle.runs.specs.declared.event.Event.TheVariants.{Command as Commanded}
use Rattle.scenario.specs.FileLines.{says_nothing, without_end}
use Rattle.scenario.specs.declared.commands.CommandsFault.{CommandsFault}
use Rattle.scenario.specs.declared.commands.CommandsFault.TheVariants.{BadLine, Refused, Device, NoMemory}

-- the turn is the command that the line says
abbrev pub IsCommandOn : List ℕ → Turn → Type 0
IsCommandOn line now = (command : Command) × Says (words_in (without_end line)) command × (asked now.call ≡ Command_call command)

-- the turns of a line: none where it says nothing, else that of its command
abbrev pub AreTurnsOf : List ℕ → Run → Type 0
AreTurnsOf line r = MatchBool (says_nothing line) (r ≡ []) ((now : Turn) × (r ≡ now ∷ []) × IsCommandOn line now)

-- the turns, the newest first, are those of the lines, in order
abbrev pub AreCommandsOf : List (List ℕ) → Run → Type 0
AreCommandsOf [] r = r ≡ []
AreCommandsOf (line ∷ lines) r = (later first : Run) × (r ≡ later ++ first) × AreTurnsOf line first × AreCommandsOf lines later

-- the commands on these lines were accepted: for every run that the speaker agreed with, none of them is refused behind that run and
-- those before it, and the speaker agrees with that run followed by them
abbrev pub Obeys : List (List ℕ) → SpeakerState → SpeakerState → Type 0
Obeys lines old new = (config : Config) (r : Run) → Agrees config r old → (more : Run) × AreCommandsOf lines more × AreAccepted config r more × Agrees config (more ++ r) new

-- those on some lines were
abbrev pub ObeysSome : SpeakerState → SpeakerState → Type 0
ObeysSome old new = (lines : List (List ℕ)) × Obeys lines old new

-- a command is accepted, or refused and nothing is changed that others see
abbrev pub Takes : Command → Result (Unit {0}) CommandsFault → SpeakerState → SpeakerState → Type 0
Takes command (Ok done) old new = (config : Config) (r : Run) → Agrees config r old → (now : Turn) × (asked now.call ≡ Command_call command) × (refusal_in config r (Commanded command) ≡ None) × Agrees config (now ∷ r) new
Takes command (Err fault) old new = (config : Config) (r : Run) → Agrees config r old → Agrees config r new

-- the line says something that is no command: octets that aren't ASCII, or words that say none
abbrev pub IsBad : List ℕ → Type 0
IsBad line = (says_nothing line ≡ false) × (¬ (IsAscii (without_end line)) ⊎ SayNone (words_in (without_end line)))

-- the line says a command, for which this is the first refusal of a speaker that is so
abbrev pub IsRefused : SpeakerState → Refusal → List ℕ → Type 0
IsRefused s why line = (command : Command) × (says_nothing line ≡ false) × Says (words_in (without_end line)) command × (refusal_of s (Commanded command) ≡ Some why)

-- where the fault is that of a line, it is this one's, for a speaker that is so
abbrev pub IsFaultOf : List ℕ → SpeakerState → CommandsFault → Type 0
IsFaultOf line s (BadLine number) = IsBad line
IsFaultOf line s (Refused number why) = IsRefused s why line
IsFaultOf line s Device = ⊤
IsFaultOf line s NoMemory = ⊤

-- where the fault is that of a command, it is this one's, for a speaker that is so
abbrev pub IsRefusalOf : Command → SpeakerState → CommandsFault → Type 0
IsRefusalOf command s (BadLine number) = ⊥
IsRefusalOf command s (Refused number why) = refusal_of s (Commanded command) ≡ Some why
IsRefusalOf command s Device = ⊤
IsRefusalOf command s NoMemory = ⊤

-- the line of this number, counted from 1, is so, and just the commands on those before it were accepted
abbrev pub StopsAt : (List ℕ → Type 0) → ℕ → List (List ℕ) → SpeakerState → SpeakerState → Type 0
StopsAt IsSo number lines old new =
    (line : List ℕ) × (before behind : List (List ℕ)) × (lines ≡ before ++ line ∷ behind) × (number ≡ length before + 1) × IsSo line × Obeys before old new

-- where the fault is that of a line, the line that it names is at fault so, and just the commands before it were accepted
abbrev pub ObeysBefore : List (List ℕ) → CommandsFault → SpeakerState → SpeakerState → Type 0
ObeysBefore lines (BadLine number) old new = StopsAt IsBad number lines old new
ObeysBefore lines (Refused number why) old new = StopsAt (IsRefused new why) number lines old new
ObeysBefore lines Device old new = ⊤
ObeysBefore lines NoMemory old new = ⊤

-- the commands on the lines were accepted: all of them, or those before the line of the fault
abbrev pub ObeysUpTo : List (List ℕ) → Result (Unit {0}) CommandsFault → SpeakerState → SpeakerState → Type 0
ObeysUpTo lines (Ok done) old new = Obeys lines old new
ObeysUpTo lines (Err fault) old new = ObeysBefore lines fault old new
