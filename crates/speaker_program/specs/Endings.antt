-- How serving ended.
use Rattle.std.specs.Prelude.{◌≡◌, ◌⊎◌, ℕ, List, Option, Some, Result, Ok, Err, String, string_bytes, ⊤}
use Rattle.std.specs.declared.alloc.Global.{Global}
use Rattle.std.specs.declared.io.Error.{Error as IoError}
use Rattle.program_endings.specs.Exits.{status_of}
use Rattle.program_endings.specs.Words.{IsCall}
use Rattle.scenario.specs.CommandFaults.{IsOutside}
use Rattle.scenario.specs.declared.commands.CommandsFault.{CommandsFault}
use Rattle.settings_keys.specs.declared.cause.SettingsFault.{SettingsFault}
use Rattle.speaker_exceptions.specs.declared.fault.ExceptionsFault.{ExceptionsFault}
use Rattle.speaker_program.specs.Exits.{exit_of_fault}
use Rattle.speaker_program.specs.declared.fault.SpeakerFault.{SpeakerFault}
use Rattle.speaker_program.specs.declared.unobeyed.Unobeyed.{Unobeyed}
use Rattle.speaker_settings.specs.declared.settings.SpeakerSettings.{SpeakerSettings}
use Rattle.wires.specs.declared.fault.LoopFault.{LoopFault}
use Rattle.speaker_program.specs.declared.fault.SpeakerFault.TheVariants.{Words, File, Settings, Commands, Exceptions, Slot, Refused, Listen, Metrics, Clock, Turn, Output, NoMemory}

-- the words are wrong
abbrev pub IsOfWords : SpeakerFault → Type 0
IsOfWords (Words why) = ⊤
IsOfWords (File path error) = ⊥
IsOfWords (Settings path why) = ⊥
IsOfWords (Commands path why) = ⊥
IsOfWords (Exceptions path why) = ⊥
IsOfWords (Slot path slot) = ⊥
IsOfWords (Refused refusal) = ⊥
IsOfWords (Listen address error) = ⊥
IsOfWords (Metrics address error) = ⊥
IsOfWords (Clock error) = ⊥
IsOfWords (Turn why) = ⊥
IsOfWords (Output error) = ⊥
IsOfWords NoMemory = ⊥

-- what a fault names as a path, as far as there was memory for it, is this one
abbrev pub Names : Option (List ℕ) → List ℕ → Type 0
Names named path = (known : List ℕ) → named ≡ Some known → known ≡ path

-- the commands of the path can't be obeyed, for this
abbrev pub IsOfCommands : List ℕ → CommandsFault → SpeakerFault → Type 0
IsOfCommands path fault ends = (named : Option (List ℕ)) × (unobeyed : Unobeyed) × (ends ≡ Commands named unobeyed) × (unobeyed.why ≡ fault) × Names named path

-- the settings of the path are refused, for this
abbrev pub IsOfSettings : List ℕ → SettingsFault → SpeakerFault → Type 0
IsOfSettings path why ends = (named : Option (List ℕ)) × (ends ≡ Settings named why) × Names named path

-- the file of the path can't be read, for this
abbrev pub IsOfFile : List ℕ → IoError → SpeakerFault → Type 0
IsOfFile path error ends = (named : Option (List ℕ)) × (ends ≡ File named error) × Names named path

-- the exceptions of the file of the path can't be obeyed, for this
abbrev pub IsOfExceptions : List ℕ → ExceptionsFault → SpeakerFault → Type 0
IsOfExceptions path why ends = (named : Option (List ℕ)) × (ends ≡ Exceptions named why) × Names named path

-- the slot has a peer and no table, or a table and no peer, behind the commands of the path
abbrev pub IsOfSlot : List ℕ → ℕ → SpeakerFault → Type 0
IsOfSlot path slot ends = (named : Option (List ℕ)) × (ends ≡ Slot named slot) × Names named path

-- nothing of the commands of the path could be read, for want of memory or since the file failed
abbrev pub IsUnread : List ℕ → SpeakerFault → Type 0
IsUnread path ends = (fault : CommandsFault) × IsOfCommands path fault ends × IsOutside fault

-- turns stop: the clock fails, or one of them does
abbrev pub IsOfTurns : SpeakerFault → Type 0
IsOfTurns ends = ((error : IoError) × (ends ≡ Clock error)) ⊎ ((why : LoopFault) × (ends ≡ Turn why))

-- a loop of the settings that has begun can't go on: there is no place for their operators or for their scrapers, the clock, a turn or
-- the output fails, or memory is wanting
abbrev pub IsOfRun : SpeakerSettings → SpeakerFault → Type 0
IsOfRun settings (Words why) = ⊥
IsOfRun settings (File named error) = (path : String Global) × (settings.control ≡ Some path) × Names named (string_bytes path)
IsOfRun settings (Settings path why) = ⊥
IsOfRun settings (Commands path why) = ⊥
IsOfRun settings (Exceptions path why) = ⊥
IsOfRun settings (Slot path slot) = ⊥
IsOfRun settings (Refused refusal) = ⊥
IsOfRun settings (Listen address error) = ⊥
IsOfRun settings (Metrics address error) = settings.metrics ≡ Some address
IsOfRun settings (Clock error) = ⊤
IsOfRun settings (Turn why) = ⊤
IsOfRun settings (Output error) = ⊤
IsOfRun settings NoMemory = ⊤

-- the words are no call, or the settings at the path of theirs fail so
pub record IsEnded (Fails : List ℕ → SpeakerFault → Type 0) (words : List (String Global)) (ends : SpeakerFault) : Type 0 where
  pub why : (IsOfWords ends × ((path : List ℕ) (turns : ℕ) → ¬ (IsCall words path turns)))
      ⊎ ((path : List ℕ) × (turns : ℕ) × IsCall words path turns × Fails path ends)

-- well, or by this fault
abbrev pub EndsSo : {T : Type 0} → Result T SpeakerFault → Result (Unit {0}) SpeakerFault → Type 0
EndsSo (Ok served) result = result ≡ Ok tt
EndsSo (Err fault) result = result ≡ Err fault

-- the exit status of a program that has ended so
abbrev pub status_at_end : Result (Unit {0}) SpeakerFault → ℕ
status_at_end (Ok done) = 0
status_at_end (Err fault) = status_of (exit_of_fault fault)
