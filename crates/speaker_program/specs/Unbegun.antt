-- Why settings aren't served or checked well: what their files say can't be had, or isn't obeyed, or what they ask for can't go on.
use Rattle.std.specs.Prelude.{◌≡◌, ◌⊎◌, ℕ, true, List, [], Option, None, Some, Result, Ok, Err, String, string_bytes, ⊤}
use Rattle.std.specs.declared.alloc.Global.{Global}
use Rattle.std.specs.declared.io.Error.{Error as IoError}
use Rattle.bgp_conf.specs.declared.refusal.Refusal.{Refusal}
use Rattle.bgp_conf.specs.declared.refusal.Refusal.TheVariants.{Range, NoMemory as NoMemoryOfSpeaker}
use Rattle.local_exceptions.specs.ExceptionSets.{ExceptionSets}
use Rattle.runs.specs.Agreement.{Agrees}
use Rattle.runs.specs.SpeakerState.{SpeakerState, is_out_of_range}
use Rattle.runs.specs.declared.config.Config.{Config}
use Rattle.settings_keys.specs.declared.cause.SettingsFault.{SettingsFault}
use Rattle.slurm_files.specs.SlurmDocument.{IsSlurm, Said}
use Rattle.slurm_files.specs.declared.fault.SlurmFault.{SlurmFault}
use Rattle.slurm_files.specs.declared.fault.SlurmFault.TheVariants.{NoMemory as NoMemoryOfSlurm}
use Rattle.speaker_exceptions.specs.ObeyedExceptions.{Obeys, ObeysBefore, commands_of}
use Rattle.speaker_exceptions.specs.declared.fault.ExceptionsFault.TheVariants.{Slurm, Refused as RefusedException}
use Rattle.speaker_program.specs.Begun.{IsBegun}
use Rattle.speaker_program.specs.Commanded.{AreSaidOf, IsSpeakerOf, IsStoppedIn, ObeysText}
use Rattle.speaker_program.specs.Endings.{IsOfExceptions, IsOfFile, IsOfRun, IsOfSettings, IsOfSlot}
use Rattle.speaker_program.specs.Files.{AreOctetsAt, AreRefusedSettings, AreSettingsOf, IsLost}
use Rattle.speaker_program.specs.Slots.{IsOtherSlot}
use Rattle.speaker_program.specs.ToldConfig.{config_of}
use Rattle.speaker_program.specs.declared.fault.SpeakerFault.{SpeakerFault}
use Rattle.speaker_program.specs.declared.fault.SpeakerFault.TheVariants.{Refused, Listen, Output, NoMemory}
use Rattle.speaker_settings.specs.declared.settings.SpeakerSettings.{SpeakerSettings}
use Rattle.speaker_turns.specs.Turns.{Turns}
use Rattle.wires.specs.Wires.{WireState, nothing_told}

-- the octets of a SLURM file have this first fault, or memory is wanting for what they say
abbrev pub IsFaultIn : List ℕ → SlurmFault → Type 0
IsFaultIn octets why = (why ≡ NoMemoryOfSlurm) ⊎ IsSlurm octets (Err why)

-- so it is of the SLURM file of the path, where its text is known
abbrev pub IsFaultAt : (List ℕ → Option (List ℕ) → Type 0) → List ℕ → SlurmFault → Type 0
IsFaultAt Told path why = (text : Option (List ℕ)) × Told path text × ((octets : List ℕ) → text ≡ Some octets → IsFaultIn octets why)

-- the path of the SLURM file, or an empty one where there is none
abbrev pub slurm_path : Option (String Global) → List ℕ
slurm_path None = []
slurm_path (Some path) = string_bytes path

-- the exceptions were obeyed, or those before one that is refused, which is what ends the program
abbrev pub IsExceptedBy : List ℕ → ExceptionSets → Result (Unit {0}) SpeakerFault → SpeakerState → SpeakerState → Type 0
IsExceptedBy path exceptions (Ok done) old new = Obeys (commands_of exceptions) old new
IsExceptedBy path exceptions (Err ends) old new = (why : Refusal) × ObeysBefore (commands_of exceptions) why old new × IsOfExceptions path (RefusedException why) ends

-- no speaker of the configuration is made: it is out of range, or memory is wanting
abbrev pub IsUnmade : Config → SpeakerFault → Type 0
IsUnmade config ends = (why : Refusal) × (ends ≡ Refused why) × (((why ≡ Range) × (is_out_of_range config ≡ true)) ⊎ (why ≡ NoMemoryOfSpeaker))

-- the file of the path isn't opened, for this
abbrev pub IsUnopenedAt : (List ℕ → IoError → Type 0) → List ℕ → SpeakerFault → Type 0
IsUnopenedAt Unopened path ends = (error : IoError) × IsOfFile path error ends × Unopened path error

-- the settings of the path can't be had: what is read so isn't opened, or its octets tell none
abbrev pub IsUntold : (List ℕ → List ℕ → Type 0) → (List ℕ → IoError → Type 0) → List ℕ → SpeakerFault → Type 0
IsUntold Read Unread path ends =
    IsUnopenedAt Unread path ends
    ⊎ ((octets : List ℕ) × (why : SettingsFault) × Read path octets × AreRefusedSettings octets why × IsOfSettings path why ends)

-- why settings fail, by the texts that are told of files and by why files aren't opened
module _ (Told : List ℕ → Option (List ℕ) → Type 0) (Unopened : List ℕ → IoError → Type 0) where
  -- the file of the path isn't opened, or it is and can't be read to its end
  abbrev pub IsUnreadAt : List ℕ → SpeakerFault → Type 0
  IsUnreadAt path ends = IsUnopenedAt Unopened path ends ⊎ ((text : Option (List ℕ)) × (error : IoError) × Told path text × IsOfFile path error ends)

  -- what the SLURM file of the path says can't be had
  abbrev pub IsUnsaidAt : List ℕ → SpeakerFault → Type 0
  IsUnsaidAt path ends = IsUnreadAt path ends ⊎ ((why : SlurmFault) × IsFaultAt Told path why × IsOfExceptions path (Slurm why) ends)

  -- what that of settings says can't; where they have none, memory is wanting
  abbrev pub IsUnsaid : Option (String Global) → SpeakerFault → Type 0
  IsUnsaid None ends = ends ≡ NoMemory
  IsUnsaid (Some path) ends = IsUnsaidAt (string_bytes path) ends

  -- the commands of the settings aren't obeyed by the speaker: their file isn't opened, or a line of it stops them, or they leave another
  -- slot than those of the settings
  abbrev pub IsStopped : SpeakerSettings → SpeakerState → SpeakerState → SpeakerFault → Type 0
  IsStopped settings old new ends =
      IsUnopenedAt Unopened (string_bytes settings.commands) ends
      ⊎ (((text : Option (List ℕ)) × Told (string_bytes settings.commands) text × IsStoppedIn text (string_bytes settings.commands) old new ends)
      ⊎ ((text : Option (List ℕ)) × (slot : ℕ) × Told (string_bytes settings.commands) text × ObeysText text old new × IsOtherSlot settings.peers.items new slot × IsOfSlot (string_bytes settings.commands) slot ends))

  -- no speaker has obeyed the exceptions and the commands of the settings: none is made, or one of the exceptions is refused, or the
  -- commands behind them stop
  abbrev pub IsUncommanded : SpeakerSettings → ExceptionSets → SpeakerFault → Type 0
  IsUncommanded settings exceptions ends =
      IsUnmade (config_of settings) ends
      ⊎ (((old : SpeakerState) × (new : SpeakerState) × Agrees (config_of settings) [] old × IsExceptedBy (slurm_path settings.slurm) exceptions (Err ends) old new)
      ⊎ ((old : SpeakerState) × (mid : SpeakerState) × (new : SpeakerState) × Agrees (config_of settings) [] old × Obeys (commands_of exceptions) old mid × IsStopped settings mid new ends))

  -- there is no speaker of the settings: what their SLURM file says can't be had, or none has obeyed it and their commands
  abbrev pub HaveNoSpeaker : SpeakerSettings → SpeakerFault → Type 0
  HaveNoSpeaker settings ends = IsUnsaid settings.slurm ends ⊎ ((said : Said) × AreSaidOf Told settings.slurm said × IsUncommanded settings said.exceptions ends)

  -- no loop of the settings is begun: there is no speaker of them, or behind it no wire is opened, for such an error, or memory is wanting
  abbrev pub IsUnbegun : (IoError → Type 0) → SpeakerSettings → SpeakerFault → Type 0
  IsUnbegun Unlistened settings ends =
      HaveNoSpeaker settings ends
      ⊎ (((speaker : SpeakerState) × (error : IoError) × IsSpeakerOf Told settings speaker × (ends ≡ Listen settings.listen error) × Unlistened error) ⊎ (ends ≡ NoMemory))

  -- settings aren't served well: no loop of them is begun, and all rests, or one is, over such a wire, and can't go on
  pub record IsUnserved (Unlistened : IoError → Type 0) (Opened : WireState → Type 0) (Rests : Type 0) (settings : SpeakerSettings) (ends : SpeakerFault) : Type 0 where
    pub why : (Rests × IsUnbegun Unlistened settings ends) ⊎ ((begun : Turns) × IsBegun Told Opened settings begun × IsOfRun settings ends)

  -- they can't, and all rests, or they aren't served well
  pub record IsUnservedAt (Read : List ℕ → List ℕ → Type 0) (Unread : List ℕ → IoError → Type 0) (Unlistened : SpeakerSettings → IoError → Type 0) (Opened : SpeakerSettings → WireState → Type 0) (Rests : Type 0) (path : List ℕ) (ends : SpeakerFault) : Type 0 where
    pub why : (Rests × IsUntold Read Unread path ends) ⊎ ((settings : SpeakerSettings) × AreSettingsOf (Read path) settings × IsUnserved (Unlistened settings) (Opened settings) Rests settings ends)

  -- they can't, or there is no speaker of them, or the output fails behind it
  pub record IsUnchecked (Read : List ℕ → List ℕ → Type 0) (Unread : List ℕ → IoError → Type 0) (path : List ℕ) (ends : SpeakerFault) : Type 0 where
    pub why : IsUntold Read Unread path ends
        ⊎ ((settings : SpeakerSettings) × AreSettingsOf (Read path) settings
        × (HaveNoSpeaker settings ends ⊎ ((speaker : SpeakerState) × (error : IoError) × IsSpeakerOf Told settings speaker × (ends ≡ Output error))))

-- those of the path aren't served well over the system's sockets, by files that are opened so
abbrev pub IsUnservedBy : (List ℕ → Option (List ℕ) → Type 0) → (List ℕ → IoError → Type 0) → Type 0 → List ℕ → SpeakerFault → Type 0
IsUnservedBy Opened Denied Rests path ends =
    IsUnservedAt Opened (IsLost Opened Denied) (AreOctetsAt Opened) (IsLost Opened Denied) (λ settings error. ⊤) (λ settings wire. wire ≡ nothing_told settings.listen) Rests path ends
