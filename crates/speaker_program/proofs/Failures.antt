-- Why settings fail, as it is known of other files.
use Rattle.std.proofs.Common.{◌≡◌, ◌⊎◌, ℕ, inl, inr, Global, List, Option, None, Some, String, string_bytes}
use Rattle.std.specs.declared.io.Error.{Error as IoError}
use Rattle.local_exceptions.specs.ExceptionSets.{ExceptionSets}
use Rattle.runs.specs.SpeakerState.{SpeakerState}
use Rattle.slurm_files.specs.SlurmDocument.{Said}
use Rattle.speaker_program.specs.Begun.{IsBegun}
use Rattle.speaker_program.specs.Commanded.{AreSaidOf, IsSpeakerOf}
use Rattle.program_endings.specs.Words.{IsCall}
use Rattle.speaker_program.specs.Endings.{IsEnded, IsOfRun, IsOfWords}
use Rattle.speaker_program.specs.Files.{AreSettingsOf}
use Rattle.speaker_program.specs.Unbegun.{HaveNoSpeaker, IsStopped, IsUnbegun, IsUnchecked, IsUncommanded, IsUnopenedAt, IsUnreadAt, IsUnsaid, IsUnsaidAt, IsUnserved, IsUnservedAt, IsUntold}
use Rattle.speaker_program.specs.declared.fault.SpeakerFault.{SpeakerFault}
use Rattle.speaker_program.specs.declared.fault.SpeakerFault.TheVariants.{Output}
use Rattle.speaker_settings.specs.declared.settings.SpeakerSettings.{SpeakerSettings}
use Rattle.speaker_turns.specs.Turns.{Turns}
use Rattle.wires.specs.Wires.{WireState}

-- what is known of the texts of files, and why files aren't opened
abbrev Texts : Type 1
Texts = List ℕ → Option (List ℕ) → Type 0

abbrev Errors : Type 1
Errors = List ℕ → IoError → Type 0

-- one is known where the other is
abbrev AreToldSo : Texts → Texts → Type 0
AreToldSo Told Tells = (path : List ℕ) (text : Option (List ℕ)) → Told path text → Tells path text

abbrev AreErrorsSo : Errors → Errors → Type 0
AreErrorsSo Unopened Lost = (path : List ℕ) (error : IoError) → Unopened path error → Lost path error

unopened_as : (Unopened Lost : Errors) (path : List ℕ) (ends : SpeakerFault) → AreErrorsSo Unopened Lost → IsUnopenedAt Unopened path ends → IsUnopenedAt Lost path ends
unopened_as Unopened Lost path ends lost is = (is.0, is.1, lost path is.0 is.2)

unread_as : (Told Tells : Texts) (Unopened Lost : Errors) (path : List ℕ) (ends : SpeakerFault) → AreToldSo Told Tells → AreErrorsSo Unopened Lost → IsUnreadAt Told Unopened path ends → IsUnreadAt Tells Lost path ends
unread_as Told Tells Unopened Lost path ends tells lost (inl is) = inl (unopened_as Unopened Lost path ends lost is)
unread_as Told Tells Unopened Lost path ends tells lost (inr is) = inr (is.0, is.1, tells path is.0 is.2, is.3)

unsaid_at_as : (Told Tells : Texts) (Unopened Lost : Errors) (path : List ℕ) (ends : SpeakerFault) → AreToldSo Told Tells → AreErrorsSo Unopened Lost → IsUnsaidAt Told Unopened path ends → IsUnsaidAt Tells Lost path ends
unsaid_at_as Told Tells Unopened Lost path ends tells lost (inl is) = inl (unread_as Told Tells Unopened Lost path ends tells lost is)
unsaid_at_as Told Tells Unopened Lost path ends tells lost (inr is) = inr (is.0, (is.1.0, tells path is.1.0 is.1.1, is.1.2), is.2)

unsaid_as : (Told Tells : Texts) (Unopened Lost : Errors) (slurm : Option (String Global)) (ends : SpeakerFault) → AreToldSo Told Tells → AreErrorsSo Unopened Lost → IsUnsaid Told Unopened slurm ends → IsUnsaid Tells Lost slurm ends
unsaid_as Told Tells Unopened Lost None ends tells lost is = is
unsaid_as Told Tells Unopened Lost (Some path) ends tells lost is = unsaid_at_as Told Tells Unopened Lost (string_bytes path) ends tells lost is

stopped_as : (Told Tells : Texts) (Unopened Lost : Errors) (settings : SpeakerSettings) (old new : SpeakerState) (ends : SpeakerFault) → AreToldSo Told Tells → AreErrorsSo Unopened Lost → IsStopped Told Unopened settings old new ends → IsStopped Tells Lost settings old new ends
stopped_as Told Tells Unopened Lost settings old new ends tells lost (inl is) = inl (unopened_as Unopened Lost (string_bytes settings.commands) ends lost is)
stopped_as Told Tells Unopened Lost settings old new ends tells lost (inr (inl is)) = inr (inl (is.0, tells (string_bytes settings.commands) is.0 is.1, is.2))
stopped_as Told Tells Unopened Lost settings old new ends tells lost (inr (inr is)) = inr (inr (is.0, is.1, tells (string_bytes settings.commands) is.0 is.2, is.3, is.4, is.5))

uncommanded_as : (Told Tells : Texts) (Unopened Lost : Errors) (settings : SpeakerSettings) (exceptions : ExceptionSets) (ends : SpeakerFault) → AreToldSo Told Tells → AreErrorsSo Unopened Lost → IsUncommanded Told Unopened settings exceptions ends → IsUncommanded Tells Lost settings exceptions ends
uncommanded_as Told Tells Unopened Lost settings exceptions ends tells lost (inl is) = inl is
uncommanded_as Told Tells Unopened Lost settings exceptions ends tells lost (inr (inl is)) = inr (inl is)
uncommanded_as Told Tells Unopened Lost settings exceptions ends tells lost (inr (inr is)) =
    inr (inr (is.0, is.1, is.2, is.3, is.4, stopped_as Told Tells Unopened Lost settings is.1 is.2 ends tells lost is.5))

-- what is known of texts may be said more weakly
said_as : (Told Tells : Texts) (slurm : Option (String Global)) (said : Said) → AreToldSo Told Tells → AreSaidOf Told slurm said → AreSaidOf Tells slurm said
said_as Told Tells None said tells is = is
said_as Told Tells (Some path) said tells is = (is.0, tells (string_bytes path) is.0 is.1, is.2)

pub speaker_as : (Told Tells : Texts) (settings : SpeakerSettings) (speaker : SpeakerState) → AreToldSo Told Tells → IsSpeakerOf Told settings speaker → IsSpeakerOf Tells settings speaker
speaker_as Told Tells settings speaker tells is = record {
  said = is.said;
  text = is.text;
  excepted = said_as Told Tells settings.slurm is.said tells is.excepted;
  told = tells (string_bytes settings.commands) is.text is.told;
  commanded = is.commanded;
  slots = is.slots;
}

no_speaker_as : (Told Tells : Texts) (Unopened Lost : Errors) (settings : SpeakerSettings) (ends : SpeakerFault) → AreToldSo Told Tells → AreErrorsSo Unopened Lost → HaveNoSpeaker Told Unopened settings ends → HaveNoSpeaker Tells Lost settings ends
no_speaker_as Told Tells Unopened Lost settings ends tells lost (inl is) = inl (unsaid_as Told Tells Unopened Lost settings.slurm ends tells lost is)
no_speaker_as Told Tells Unopened Lost settings ends tells lost (inr is) =
    inr (is.0, said_as Told Tells settings.slurm is.0 tells is.1, uncommanded_as Told Tells Unopened Lost settings (is.0).exceptions ends tells lost is.2)

-- and so may what is known of wires
pub begun_as : (Told Tells : Texts) (Opened Opens : WireState → Type 0) (settings : SpeakerSettings) (turns : Turns) → AreToldSo Told Tells → ((wire : WireState) → Opened wire → Opens wire) → IsBegun Told Opened settings turns → IsBegun Tells Opens settings turns
begun_as Told Tells Opened Opens settings turns tells opens is = record {
  speaker = is.speaker;
  wire = is.wire;
  is = speaker_as Told Tells settings is.speaker tells is.is;
  opened = opens is.wire is.opened;
  remotes = is.remotes;
}

unbegun_as : (Told Tells : Texts) (Unopened Lost : Errors) (Unlistened Deaf : IoError → Type 0) (settings : SpeakerSettings) (ends : SpeakerFault) → AreToldSo Told Tells → AreErrorsSo Unopened Lost → ((error : IoError) → Unlistened error → Deaf error)
    → IsUnbegun Told Unopened Unlistened settings ends → IsUnbegun Tells Lost Deaf settings ends
unbegun_as Told Tells Unopened Lost Unlistened Deaf settings ends tells lost deaf (inl is) = inl (no_speaker_as Told Tells Unopened Lost settings ends tells lost is)
unbegun_as Told Tells Unopened Lost Unlistened Deaf settings ends tells lost deaf (inr (inl is)) = inr (inl (is.0, is.1, speaker_as Told Tells settings is.0 tells is.2, is.3, deaf is.1 is.4))
unbegun_as Told Tells Unopened Lost Unlistened Deaf settings ends tells lost deaf (inr (inr is)) = inr (inr is)

unserved_as : (Told Tells : Texts) (Unopened Lost : Errors) (Unlistened Deaf : IoError → Type 0) (Opened Opens : WireState → Type 0) (Rests Rested : Type 0) (settings : SpeakerSettings) (ends : SpeakerFault) → IsUnserved Told Unopened Unlistened Opened Rests settings ends → AreToldSo Told Tells
    → AreErrorsSo Unopened Lost → ((error : IoError) → Unlistened error → Deaf error) → ((wire : WireState) → Opened wire → Opens wire) → (Rests → Rested) → IsUnserved Tells Lost Deaf Opens Rested settings ends
unserved_as Told Tells Unopened Lost Unlistened Deaf Opened Opens Rests Rested settings ends is tells lost deaf opens rested = record { why = by_why is.why }
  where
    by_why : (Rests × IsUnbegun Told Unopened Unlistened settings ends) ⊎ ((begun : Turns) × IsBegun Told Opened settings begun × IsOfRun settings ends) → (Rested × IsUnbegun Tells Lost Deaf settings ends) ⊎ ((begun : Turns) × IsBegun Tells Opens settings begun × IsOfRun settings ends)
    by_why (inl why) = inl (rested why.0, unbegun_as Told Tells Unopened Lost Unlistened Deaf settings ends tells lost deaf why.1)
    by_why (inr why) = inr (why.0, begun_as Told Tells Opened Opens settings why.0 tells opens why.1, why.2)

-- what is known of the octets of settings
abbrev Reading : Type 1
Reading = List ℕ → List ℕ → Type 0

abbrev AreReadSo : Reading → Reading → Type 0
AreReadSo Read Reads = (path octets : List ℕ) → Read path octets → Reads path octets

pub settings_as : (Read Reads : List ℕ → Type 0) (settings : SpeakerSettings) → ((octets : List ℕ) → Read octets → Reads octets) → AreSettingsOf Read settings → AreSettingsOf Reads settings
settings_as Read Reads settings reads is = record { octets = is.octets; read = reads is.octets is.read; table = is.table; spelled = is.spelled; told = is.told }

untold_as : (Read Reads : Reading) (Unread Lost : Errors) (path : List ℕ) (ends : SpeakerFault) → AreReadSo Read Reads → AreErrorsSo Unread Lost → IsUntold Read Unread path ends → IsUntold Reads Lost path ends
untold_as Read Reads Unread Lost path ends reads lost (inl is) = inl (unopened_as Unread Lost path ends lost is)
untold_as Read Reads Unread Lost path ends reads lost (inr is) = inr (is.0, is.1, reads path is.0 is.2, is.3, is.4)

pub unserved_at_as : (Told Tells : Texts) (Unopened Lost : Errors) (Read Reads : Reading) (Unread Gone : Errors) (Unlistened Deaf : SpeakerSettings → IoError → Type 0) (Opened Opens : SpeakerSettings → WireState → Type 0) (Rests Rested : Type 0) (path : List ℕ) (ends : SpeakerFault)
    → IsUnservedAt Told Unopened Read Unread Unlistened Opened Rests path ends → AreToldSo Told Tells → AreErrorsSo Unopened Lost → AreReadSo Read Reads → AreErrorsSo Unread Gone → ((settings : SpeakerSettings) (error : IoError) → Unlistened settings error → Deaf settings error)
    → ((settings : SpeakerSettings) (wire : WireState) → Opened settings wire → Opens settings wire) → (Rests → Rested) → IsUnservedAt Tells Lost Reads Gone Deaf Opens Rested path ends
unserved_at_as Told Tells Unopened Lost Read Reads Unread Gone Unlistened Deaf Opened Opens Rests Rested path ends is tells lost reads gone deaf opens rested = record { why = by_why is.why }
  where
    by_why : (Rests × IsUntold Read Unread path ends) ⊎ ((settings : SpeakerSettings) × AreSettingsOf (Read path) settings × IsUnserved Told Unopened (Unlistened settings) (Opened settings) Rests settings ends)
        → (Rested × IsUntold Reads Gone path ends) ⊎ ((settings : SpeakerSettings) × AreSettingsOf (Reads path) settings × IsUnserved Tells Lost (Deaf settings) (Opens settings) Rested settings ends)
    by_why (inl why) = inl (rested why.0, untold_as Read Reads Unread Gone path ends reads gone why.1)
    by_why (inr why) =
        inr (why.0, settings_as (Read path) (Reads path) why.0 (reads path) why.1, unserved_as Told Tells Unopened Lost (Unlistened why.0) (Deaf why.0) (Opened why.0) (Opens why.0) Rests Rested why.0 ends why.2 tells lost (deaf why.0) (opens why.0) rested)

pub unchecked_as : (Told Tells : Texts) (Unopened Lost : Errors) (Read Reads : Reading) (Unread Gone : Errors) (path : List ℕ) (ends : SpeakerFault) → IsUnchecked Told Unopened Read Unread path ends → AreToldSo Told Tells → AreErrorsSo Unopened Lost → AreReadSo Read Reads → AreErrorsSo Unread Gone
    → IsUnchecked Tells Lost Reads Gone path ends
unchecked_as Told Tells Unopened Lost Read Reads Unread Gone path ends is tells lost reads gone = record { why = by_why is.why }
  where
    by_speaker : (settings : SpeakerSettings) → HaveNoSpeaker Told Unopened settings ends ⊎ ((speaker : SpeakerState) × (error : IoError) × IsSpeakerOf Told settings speaker × (ends ≡ Output error)) → HaveNoSpeaker Tells Lost settings ends ⊎ ((speaker : SpeakerState) × (error : IoError) × IsSpeakerOf Tells settings speaker × (ends ≡ Output error))
    by_speaker settings (inl none) = inl (no_speaker_as Told Tells Unopened Lost settings ends tells lost none)
    by_speaker settings (inr told) = inr (told.0, told.1, speaker_as Told Tells settings told.0 tells told.2, told.3)

    by_why : IsUntold Read Unread path ends ⊎ ((settings : SpeakerSettings) × AreSettingsOf (Read path) settings × (HaveNoSpeaker Told Unopened settings ends ⊎ ((speaker : SpeakerState) × (error : IoError) × IsSpeakerOf Told settings speaker × (ends ≡ Output error))))
        → IsUntold Reads Gone path ends ⊎ ((settings : SpeakerSettings) × AreSettingsOf (Reads path) settings × (HaveNoSpeaker Tells Lost settings ends ⊎ ((speaker : SpeakerState) × (error : IoError) × IsSpeakerOf Tells settings speaker × (ends ≡ Output error))))
    by_why (inl why) = inl (untold_as Read Reads Unread Gone path ends reads gone why)
    by_why (inr why) = inr (why.0, settings_as (Read path) (Reads path) why.0 (reads path) why.1, by_speaker why.0 why.2)

-- what fails for words fails so
pub ended_as : (Fails Failed : List ℕ → SpeakerFault → Type 0) (words : List (String Global)) (ends : SpeakerFault) → IsEnded Fails words ends → ((path : List ℕ) → Fails path ends → Failed path ends) → IsEnded Failed words ends
ended_as Fails Failed words ends is failed = record { why = by_why is.why }
  where
    by_why : (IsOfWords ends × ((path : List ℕ) (turns : ℕ) → ¬ (IsCall words path turns))) ⊎ ((path : List ℕ) × (turns : ℕ) × IsCall words path turns × Fails path ends) → (IsOfWords ends × ((path : List ℕ) (turns : ℕ) → ¬ (IsCall words path turns))) ⊎ ((path : List ℕ) × (turns : ℕ) × IsCall words path turns × Failed path ends)
    by_why (inl why) = inl why
    by_why (inr why) = inr (why.0, why.1, why.2, failed why.0 why.3)
