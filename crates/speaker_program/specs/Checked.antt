-- What is known of settings that were checked (own).
use Rattle.std.specs.Prelude.{◌≡◌, ℕ, List, Option, ⊤}
use Rattle.std.specs.declared.io.Error.{Error as IoError}
use Rattle.program_endings.specs.declared.aside.Aside.{Aside}
use Rattle.program_endings.specs.declared.aside.Aside.TheVariants.{Help, Version, Check}
use Rattle.runs.specs.SpeakerState.{SpeakerState}
use Rattle.speaker_program.specs.Commanded.{IsSpeakerOf}
use Rattle.speaker_program.specs.Files.{AreOctetsAt, AreSettingsOf, IsLost}
use Rattle.speaker_program.specs.Unbegun.{IsUnchecked}
use Rattle.speaker_program.specs.declared.fault.SpeakerFault.{SpeakerFault}
use Rattle.speaker_program.specs.declared.fault.SpeakerFault.TheVariants.{Output}
use Rattle.speaker_settings.specs.declared.settings.SpeakerSettings.{SpeakerSettings}

-- octets that are read at the path tell settings, and there is a speaker of them, by such texts at their paths
pub record IsChecked (Read : List ℕ → List ℕ → Type 0) (Told : List ℕ → Option (List ℕ) → Type 0) (path : List ℕ) : Type 0 where
  pub settings : SpeakerSettings
  pub read : AreSettingsOf (Read path) settings
  pub speaker : SpeakerState
  pub is : IsSpeakerOf Told settings speaker

-- this holds of the path that is to be checked, or that where a text is to be printed
abbrev pub OfAside : (List ℕ → Type 0) → Type 0 → Aside → Type 0
OfAside Is Printed Help = Printed
OfAside Is Printed Version = Printed
OfAside Is Printed (Check path) = Is path.now

-- files that were opened at the paths are so, where it was to be checked
abbrev pub IsCheckedBy : (List ℕ → Option (List ℕ) → Type 0) → Aside → Type 0
IsCheckedBy Opened = OfAside (IsChecked (AreOctetsAt Opened) Opened) ⊤

-- they aren't, or can't be had, for this; or what was to be printed isn't
abbrev pub IsUncheckedBy : (List ℕ → Option (List ℕ) → Type 0) → (List ℕ → IoError → Type 0) → Aside → SpeakerFault → Type 0
IsUncheckedBy Opened Refused aside ends =
    OfAside (λ path. IsUnchecked Opened (IsLost Opened Refused) (AreOctetsAt Opened) (IsLost Opened Refused) path ends) ((error : IoError) × (ends ≡ Output error)) aside
