-- What settings and their commands make of a speaker, and turns of its loop.
use Rattle.std.specs.Prelude.{◌≡◌, ◌<◌, ◌++◌, ◌⊎◌, ℕ, List, [], ◌∷◌, Option, None, Some, Result, Ok, Err, String, length, string_bytes}
use Rattle.std.specs.declared.alloc.Global.{Global}
use Rattle.clocks.specs.Moments.{NeverGoBack, told_behind}
use Rattle.local_exceptions.specs.ExceptionSets.{ExceptionSets}
use Rattle.scenario.specs.FileLines.{lines}
use Rattle.scenario.specs.ObeyedCommands.{AreCommandsOf, Obeys, ObeysBefore}
use Rattle.scenario.specs.declared.commands.CommandsFault.{CommandsFault}
use Rattle.slurm_files.specs.SlurmDocument.{IsSlurm, Said, nothing_said}
use Rattle.speaker_exceptions.specs.ObeyedExceptions.{AreTurnsOf, commands_of}
use Rattle.speaker_program.specs.Endings.{IsOfCommands}
use Rattle.speaker_program.specs.Slots.{HasJust}
use Rattle.speaker_program.specs.ToldConfig.{config_of}
use Rattle.speaker_program.specs.declared.fault.SpeakerFault.{SpeakerFault}
use Rattle.speaker_settings.specs.declared.settings.SpeakerSettings.{SpeakerSettings}
use Rattle.runs.specs.AcceptedCommands.{AreAccepted}
use Rattle.runs.specs.Agreement.{Agrees}
use Rattle.runs.specs.Runs.{Run}
use Rattle.runs.specs.SpeakerState.{SpeakerState}
use Rattle.runs.specs.declared.config.Config.{Config}
use Rattle.speaker_turns.specs.Turns.{TakesTurn, Turns}
use Rattle.wires.specs.declared.fault.LoopFault.TheVariants.{Accept}

-- the lines are those of the text, where it is known
abbrev pub AreLinesOf : Option (List ℕ) → List (List ℕ) → Type 0
AreLinesOf text on = (octets : List ℕ) → text ≡ Some octets → on ≡ lines octets

-- the octets of a SLURM file say this
abbrev pub IsSaidIn : List ℕ → Said → Type 0
IsSaidIn octets said = IsSlurm octets (Ok said)

-- the SLURM file of the path says this, whose text is told so, where that is known
abbrev pub IsSaidAt : (List ℕ → Option (List ℕ) → Type 0) → List ℕ → Said → Type 0
IsSaidAt Told path said = (text : Option (List ℕ)) × Told path text × ((octets : List ℕ) → text ≡ Some octets → IsSaidIn octets said)

-- so it does where the settings have one; else nothing is said
abbrev pub AreSaidOf : (List ℕ → Option (List ℕ) → Type 0) → Option (String Global) → Said → Type 0
AreSaidOf Told None said = said ≡ nothing_said
AreSaidOf Told (Some path) said = IsSaidAt Told (string_bytes path) said

-- the text of a reader that is given for the path, as far as it is known
abbrev pub TextAt : {L : Type 0} → (List ℕ → L → Type 0) → (L → Option (List ℕ)) → List ℕ → Option (List ℕ) → Type 0
TextAt {L} gives remaining path text = (lines : L) × gives path lines × (text ≡ remaining lines)

-- the speaker is as the exceptions, and then the commands on the lines of the text, leave one of this configuration, which refuses none of them
abbrev pub IsCommanded : ExceptionSets → Option (List ℕ) → Config → SpeakerState → Type 0
IsCommanded exceptions text config s =
    (on : List (List ℕ)) × (first later : Run) × AreTurnsOf (commands_of exceptions) first × AreLinesOf text on × AreCommandsOf on later
    × AreAccepted config [] (later ++ first) × Agrees config (later ++ first) s

-- a speaker of the settings has obeyed their exceptions, and then their commands, of such texts at their paths, and has just their slots
pub record IsSpeakerOf (Told : List ℕ → Option (List ℕ) → Type 0) (settings : SpeakerSettings) (speaker : SpeakerState) : Type 0 where
  pub said : Said
  pub text : Option (List ℕ)
  pub excepted : AreSaidOf Told settings.slurm said
  pub told : Told (string_bytes settings.commands) text
  pub commanded : IsCommanded said.exceptions text (config_of settings) speaker
  pub slots : HasJust settings.peers.items speaker

-- the commands on the lines of the text were accepted, in order
abbrev pub ObeysText : Option (List ℕ) → SpeakerState → SpeakerState → Type 0
ObeysText text old new = (on : List (List ℕ)) × AreLinesOf text on × Obeys on old new

-- the commands on these lines of the path were accepted, in order, or those before the line of a fault, which is what ends the program
abbrev pub IsCommandedBy : List ℕ → List (List ℕ) → Result (Unit {0}) SpeakerFault → SpeakerState → SpeakerState → Type 0
IsCommandedBy path on (Ok done) old new = Obeys on old new
IsCommandedBy path on (Err ends) old new = (fault : CommandsFault) × IsOfCommands path fault ends × ObeysBefore on fault old new

-- the commands of the path stop for this, at a line of the text where that is known, or they can't be read
abbrev pub IsStoppedIn : Option (List ℕ) → List ℕ → SpeakerState → SpeakerState → SpeakerFault → Type 0
IsStoppedIn text path old new ends =
    (fault : CommandsFault) × IsOfCommands path fault ends × ((octets : List ℕ) → text ≡ Some octets → ObeysBefore (lines octets) fault old new)

-- turns at these moments, one after another, each of which went well
abbrev pub TakeWell : List ℕ → Turns → Turns → Type 0
TakeWell [] old new = new ≡ old
TakeWell (now ∷ moments) old new = (mid : Turns) × TakesTurn now old (Ok tt) mid × TakeWell moments mid new

-- one more couldn't accept
pub record StopsBehind (moments : List ℕ) (now : ℕ) (old new : Turns) : Type 0 where
  pub mid : Turns
  pub well : TakeWell moments old mid
  pub stops : TakesTurn now mid (Err Accept) new

-- so many turns, each at the moment that the clock told for it
pub record TakesAll (count : ℕ) (before behind : List ℕ) (old new : Turns) : Type 0 where
  pub moments : List ℕ
  pub taken : TakeWell moments old new
  pub told : behind ≡ told_behind moments before
  pub forward : NeverGoBack before → NeverGoBack behind
  pub counted : length moments ≡ count

-- fewer, behind which the clock failed, or a turn that couldn't accept
pub record TakesFewer (count : ℕ) (before behind : List ℕ) (old new : Turns) : Type 0 where
  pub moments : List ℕ
  pub fewer : length moments < count
  pub ends : ((behind ≡ told_behind moments before) × TakeWell moments old new) ⊎ ((now : ℕ) × (behind ≡ now ∷ told_behind moments before) × StopsBehind moments now old new)
  pub forward : NeverGoBack before → NeverGoBack behind

-- turns were taken: just so many where nothing failed
abbrev pub TakesSoMany : {E : Type 0} → ℕ → Result (Unit {0}) E → List ℕ → List ℕ → Turns → Turns → Type 0
TakesSoMany count (Ok done) before behind old new = TakesAll count before behind old new
TakesSoMany count (Err fault) before behind old new = TakesFewer count before behind old new
