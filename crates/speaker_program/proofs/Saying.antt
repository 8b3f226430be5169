-- What a SLURM file says.
use Rattle.std.proofs.Common.{◌≡◌, ◌⊎◌, ℕ, inl, inr, Global, List, Option, Some, String, string_bytes, Result, Ok, Err, sym, subst, ap, true≢false, is_ok, ◌∙◌}
use Rattle.std.specs.declared.io.Error.{Error as IoError}
use Rattle.slurm_files.specs.SlurmDocument.{IsSlurm, Said}
use Rattle.slurm_files.specs.declared.fault.SlurmFault.{SlurmFault}
use Rattle.slurm_files.specs.declared.fault.SlurmFault.TheVariants.{NoMemory}
use Rattle.speaker_program.specs.Commanded.{IsSaidIn}
use Rattle.speaker_program.specs.Unbegun.{IsFaultIn, IsUnsaid, IsUnsaidAt}
use Rattle.speaker_program.specs.declared.fault.SpeakerFault.{SpeakerFault}

-- what was answered is said, and is no want of memory
pub said_well : (octets : List ℕ) (said : Said) (answer : Result Said SlurmFault) → answer ≡ Ok said → (answer ≡ Err NoMemory) ⊎ IsSlurm octets answer → IsSaidIn octets said
said_well octets said answer is (inl memory) = absurd (true≢false (sym (ap (λ (r : Result Said SlurmFault). is_ok r) is) ∙ ap (λ (r : Result Said SlurmFault). is_ok r) memory))
said_well octets said answer is (inr slurm) = subst (λ (r : Result Said SlurmFault). IsSlurm octets r) is slurm

-- a fault that was answered is said, or memory was wanting
pub said_badly : (octets : List ℕ) (why : SlurmFault) (answer : Result Said SlurmFault) → answer ≡ Err why → (answer ≡ Err NoMemory) ⊎ IsSlurm octets answer → IsFaultIn octets why
said_badly octets why answer is (inl memory) = inl (let one = is in let other = memory in cc)
said_badly octets why answer is (inr slurm) = inr (subst (λ (r : Result Said SlurmFault). IsSlurm octets r) is slurm)

-- what can't be had of the file of the settings' path can't be had of settings
pub unsaid_of : (Told : List ℕ → Option (List ℕ) → Type 0) (Unopened : List ℕ → IoError → Type 0) (slurm : Option (String Global)) (path : String Global) (at : List ℕ) (ends : SpeakerFault) → slurm ≡ Some path → at ≡ string_bytes path → IsUnsaidAt Told Unopened at ends → IsUnsaid Told Unopened slurm ends
unsaid_of Told Unopened slurm path at ends is there unsaid =
    subst (λ (s : Option (String Global)). IsUnsaid Told Unopened s ends) (sym is) (subst (λ (p : List ℕ). IsUnsaidAt Told Unopened p ends) there unsaid)
