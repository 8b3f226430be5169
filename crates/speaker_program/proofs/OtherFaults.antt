-- Faults that aren't those of words.
use Rattle.std.proofs.Common.{◌≡◌, ◌⊎◌, inl, inr, Global, Option, None, Some, String, Result, Ok, Err, IfErr, List, ℕ, string_bytes, subst, sym, ◌∙◌}
use Rattle.std.specs.Result.{IsErrAnd}
use Rattle.std.specs.declared.io.Error.{Error as IoError}
use Rattle.local_exceptions.specs.ExceptionSets.{ExceptionSets}
use Rattle.runs.specs.SpeakerState.{SpeakerState}
use Rattle.speaker_program.specs.Begun.{IsBegun}
use Rattle.speaker_program.specs.Endings.{IsOfFile, IsOfRun, IsOfTurns, IsOfWords}
use Rattle.speaker_program.specs.Unbegun.{HaveNoSpeaker, IsStopped, IsUnbegun, IsUncommanded, IsUnreadAt, IsUnsaid, IsUnsaidAt, IsUnserved, IsUntold}
use Rattle.speaker_program.specs.declared.fault.SpeakerFault.{SpeakerFault}
use Rattle.speaker_program.specs.declared.fault.SpeakerFault.TheVariants.{Words, File, Settings, Commands, Exceptions, Slot, Refused, Listen, Metrics, Clock, Turn, Output, NoMemory}
use Rattle.speaker_settings.specs.declared.settings.SpeakerSettings.{SpeakerSettings}
use Rattle.speaker_turns.specs.Turns.{Turns}
use Rattle.wires.specs.Wires.{WireState}

other : (ends fault : SpeakerFault) → ends ≡ fault → ¬ (IsOfWords fault) → ¬ (IsOfWords ends)
other ends fault is never words = never (subst IsOfWords is words)

unread_is_other : (Told : List ℕ → Option (List ℕ) → Type 0) (Unopened : List ℕ → IoError → Type 0) (path : List ℕ) (ends : SpeakerFault) → IsUnreadAt Told Unopened path ends → ¬ (IsOfWords ends)
unread_is_other Told Unopened path ends (inl is) = other ends (File is.1.0 is.0) is.1.1 (λ words. words)
unread_is_other Told Unopened path ends (inr is) = other ends (File is.3.0 is.1) is.3.1 (λ words. words)

unsaid_is_other : (Told : List ℕ → Option (List ℕ) → Type 0) (Unopened : List ℕ → IoError → Type 0) (slurm : Option (String Global)) (ends : SpeakerFault) → IsUnsaid Told Unopened slurm ends → ¬ (IsOfWords ends)
unsaid_is_other Told Unopened None ends is = other ends NoMemory is (λ words. words)
unsaid_is_other Told Unopened (Some path) ends (inl is) = unread_is_other Told Unopened (string_bytes path) ends is
unsaid_is_other Told Unopened (Some path) ends (inr is) = other ends (Exceptions is.2.0 _) is.2.1 (λ words. words)

stopped_is_other : (Told : List ℕ → Option (List ℕ) → Type 0) (Unopened : List ℕ → IoError → Type 0) (settings : SpeakerSettings) (old new : SpeakerState) (ends : SpeakerFault) → IsStopped Told Unopened settings old new ends → ¬ (IsOfWords ends)
stopped_is_other Told Unopened settings old new ends (inl is) = other ends (File is.1.0 is.0) is.1.1 (λ words. words)
stopped_is_other Told Unopened settings old new ends (inr (inl is)) = let stops = is.2.1 in other ends (Commands stops.0 stops.1) stops.2 (λ words. words)
stopped_is_other Told Unopened settings old new ends (inr (inr is)) = other ends (Slot is.5.0 is.1) is.5.1 (λ words. words)

no_speaker_is_other : (Told : List ℕ → Option (List ℕ) → Type 0) (Unopened : List ℕ → IoError → Type 0) (settings : SpeakerSettings) (ends : SpeakerFault) → HaveNoSpeaker Told Unopened settings ends → ¬ (IsOfWords ends)
no_speaker_is_other Told Unopened settings ends (inl is) = unsaid_is_other Told Unopened settings.slurm ends is
no_speaker_is_other Told Unopened settings ends (inr (said, says, inl is)) = other ends (Refused is.0) is.1 (λ words. words)
no_speaker_is_other Told Unopened settings ends (inr (said, says, inr (inl is))) = let refused = is.3.2 in other ends (Exceptions refused.0 _) refused.1 (λ words. words)
no_speaker_is_other Told Unopened settings ends (inr (said, says, inr (inr is))) = stopped_is_other Told Unopened settings is.1 is.2 ends is.5

pub run_is_other : (settings : SpeakerSettings) (ends : SpeakerFault) → IsOfRun settings ends → ¬ (IsOfWords ends)
run_is_other settings (Words why) is = absurd is
run_is_other settings (File path error) is = λ words. words
run_is_other settings (Settings path why) is = λ words. words
run_is_other settings (Commands path why) is = λ words. words
run_is_other settings (Exceptions path why) is = λ words. words
run_is_other settings (Slot path slot) is = λ words. words
run_is_other settings (Refused refusal) is = λ words. words
run_is_other settings (Listen address error) is = λ words. words
run_is_other settings (Metrics address error) is = λ words. words
run_is_other settings (Clock error) is = λ words. words
run_is_other settings (Turn why) is = λ words. words
run_is_other settings (Output error) is = λ words. words
run_is_other settings NoMemory is = λ words. words

pub unserved_is_other : (Told : List ℕ → Option (List ℕ) → Type 0) (Unopened : List ℕ → IoError → Type 0) (Unlistened : IoError → Type 0) (Opened : WireState → Type 0) (Rests : Type 0) (settings : SpeakerSettings) (ends : SpeakerFault) → IsUnserved Told Unopened Unlistened Opened Rests settings ends → ¬ (IsOfWords ends)
unserved_is_other Told Unopened Unlistened Opened Rests settings ends is = by_why is.why
  where
    by_why : (Rests × IsUnbegun Told Unopened Unlistened settings ends) ⊎ ((begun : Turns) × IsBegun Told Opened settings begun × IsOfRun settings ends) → ¬ (IsOfWords ends)
    by_why (inl (rests, inl why)) = no_speaker_is_other Told Unopened settings ends why
    by_why (inl (rests, inr (inl why))) = other ends (Listen settings.listen why.1) why.3 (λ words. words)
    by_why (inl (rests, inr (inr why))) = other ends NoMemory why (λ words. words)
    by_why (inr why) = run_is_other settings ends why.2

pub untold_is_other : (Read : List ℕ → List ℕ → Type 0) (Unread : List ℕ → IoError → Type 0) (path : List ℕ) (ends : SpeakerFault) → IsUntold Read Unread path ends → ¬ (IsOfWords ends)
untold_is_other Read Unread path ends (inl is) = other ends (File is.1.0 is.0) is.1.1 (λ words. words)
untold_is_other Read Unread path ends (inr is) = other ends (Settings is.4.0 is.1) is.4.1 (λ words. words)

-- a result that fails so isn't refused for its words
pub never_words : {T : Type 0} (P : SpeakerFault → Type 0) (r : Result T SpeakerFault) → IfErr r P → ((ends : SpeakerFault) → P ends → ¬ (IsOfWords ends)) → ¬ (IsErrAnd r IsOfWords)
never_words P (Ok x) is never words = absurd words
never_words P (Err ends) is never words = never ends is words

-- a loop that has begun can't go on for want of memory
pub memory_stops : {T : Type 0} (settings : SpeakerSettings) (r : Result T SpeakerFault) (fault : SpeakerFault) → IsErrAnd r (λ ends. ends ≡ fault) → fault ≡ NoMemory → IfErr r (IsOfRun settings)
memory_stops settings (Ok x) fault is memory = tt
memory_stops settings (Err ends) fault is memory = subst (IsOfRun settings) (sym (is ∙ memory)) tt

-- or where its turns stop
pub turns_stop : (settings : SpeakerSettings) (ends : SpeakerFault) → IsOfTurns ends → IsOfRun settings ends
turns_stop settings ends (inl is) = subst (IsOfRun settings) (sym is.1) tt
turns_stop settings ends (inr is) = subst (IsOfRun settings) (sym is.1) tt

-- or where its output fails
pub output_stops : (settings : SpeakerSettings) (ends : SpeakerFault) (error : IoError) → ends ≡ Output error → IsOfRun settings ends
output_stops settings ends error is = subst (IsOfRun settings) (sym is) tt

-- or where there is no place for its operators
pub control_lost : (settings : SpeakerSettings) (path : String Global) (at : List ℕ) (error : IoError) (ends : SpeakerFault) → settings.control ≡ Some path → at ≡ string_bytes path → IsOfFile at error ends → IsOfRun settings ends
control_lost settings path at error ends is there lost = subst (IsOfRun settings) (sym lost.1) (path, is, λ known named. lost.2 known named ∙ there)
