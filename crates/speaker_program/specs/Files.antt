-- What was read of files that were opened at their paths.
use Rattle.std.specs.Prelude.{◌≡◌, ◌⊎◌, ℕ, List, Option, Result, Ok, Err, Vec}
use Rattle.std.specs.Global.{Global}
use Rattle.std.specs.declared.io.Error.{Error as IoError}
use Rattle.toml.specs.Data.{Members}
use Rattle.file_paths.specs.OpenedFiles.{AreOctetsOf}
use Rattle.settings_keys.specs.Keys.{AnswersInMemory, IsTableOf}
use Rattle.settings_keys.specs.declared.cause.SettingsFault.{SettingsFault}
use Rattle.speaker_settings.specs.ToldSettings.{IsToldBy}
use Rattle.speaker_settings.specs.declared.settings.SpeakerSettings.{SpeakerSettings}

-- the octets are those of a file that was opened at the path, as far as they are known
abbrev pub AreOctetsAt : (List ℕ → Option (List ℕ) → Type 0) → List ℕ → List ℕ → Type 0
AreOctetsAt Opened path octets = (text : Option (List ℕ)) × Opened path text × AreOctetsOf text octets

-- the octets are those that were given
abbrev pub IsGiven : (Vec ℕ Global → Type 0) → List ℕ → Type 0
IsGiven Gives octets = (given : Vec ℕ Global) × Gives given × (octets ≡ given.items)

-- the settings are those that octets tell which were read so
pub record AreSettingsOf (Read : List ℕ → Type 0) (settings : SpeakerSettings) : Type 0 where
  pub octets : List ℕ
  pub read : Read octets
  pub table : Members
  pub spelled : IsTableOf octets table
  pub told : IsToldBy table settings

-- octets tell no settings, for this; for want of memory nothing is said of them
abbrev pub AreRefusedSettings : List ℕ → SettingsFault → Type 0
AreRefusedSettings octets why = AnswersInMemory (λ (settings : SpeakerSettings). (table : Members) × IsTableOf octets table × IsToldBy table settings) (Err why)

-- for this no file was opened at the path; or one was, and it failed
abbrev pub IsLost : (List ℕ → Option (List ℕ) → Type 0) → (List ℕ → IoError → Type 0) → List ℕ → IoError → Type 0
IsLost Opened Refused path error = Refused path error ⊎ ((text : Option (List ℕ)) × Opened path text)

-- what is answered of the file at the path: it is so, or it is lost for this
abbrev pub IsAnswered : {T : Type 0} → (List ℕ → Option (List ℕ) → Type 0) → (List ℕ → IoError → Type 0) → (T → Type 0) → List ℕ → Result T IoError → Type 0
IsAnswered Opened Refused Is path (Ok it) = Is it
IsAnswered Opened Refused Is path (Err error) = IsLost Opened Refused path error
