-- A list, with or without a SLURM file.
use Rattle.std.proofs.Common.{◌≡◌, ◌⊎◌, ◌∙◌, ℕ, inl, inr, List, Option, None, Some, Result, Ok, Err, option_map, refl, sym, ap, subst}
use Rattle.file_paths.specs.declared.steady.Stamp.{Stamp}
use Rattle.net_prefix.specs.declared.payload.Vrp.{Vrp}
use Rattle.payload_sources.specs.PayloadSources.{IsRefused, IsRefusedList, IsRefusedSlurm, IsSetOfText, IsUnderFile, texts_of}
use Rattle.payload_sources.specs.declared.fault.SourceFault.{SourceFault}
use Rattle.payload_sources.specs.declared.fault.SourceFault.TheVariants.{List as OfList, Slurm, SlurmDevice, Changed}
use Rattle.payload_sources.specs.declared.fault.SourceFile.TheVariants as files
use Rattle.slurm_files.specs.SlurmDocument.{IsSlurm, Said}
use Rattle.slurm_files.specs.declared.fault.SlurmFault.{SlurmFault}
use Rattle.slurm_files.specs.declared.fault.SlurmFault.TheVariants.{NoMemory}

-- without a SLURM file the set is that of the list
pub alone : {L : Type 0} (remaining : L → Option (List ℕ)) (slurm : Option L) (set : List Vrp) → slurm ≡ None → IsUnderFile (option_map remaining slurm) None set set
alone remaining None set is = refl
alone remaining (Some file) set is = absurd cc

-- with one, it is what the SLURM file makes of it
pub with_file : {L : Type 0} (remaining : L → Option (List ℕ)) (slurm : Option L) (file : L) (said : Option Said) (listed set : List Vrp) → slurm ≡ Some file
    → IsUnderFile (Some (remaining file)) said listed set → IsUnderFile (option_map remaining slurm) said listed set
with_file remaining slurm file said listed set is under = subst (λ (o : Option (Option (List ℕ))). IsUnderFile o said listed set) (ap (option_map remaining) (sym is)) under

-- or the SLURM file is refused
pub refused_behind : {L : Type 0} (remaining : L → Option (List ℕ)) (stamp : L → Option Stamp) (second : Option ℕ) (list : L) (slurm : Option L) (file : L) (listed : List Vrp) (fault : SourceFault) → slurm ≡ Some file → IsSetOfText second (remaining list) listed
    → IsRefusedSlurm (remaining file) fault → IsRefused (texts_of remaining stamp list slurm second) fault
refused_behind remaining stamp second list slurm file listed (OfList refused) is of_list h = absurd h
refused_behind remaining stamp second list slurm file listed (Slurm fault) is of_list h =
    record { listed = listed; of_list = of_list; file = remaining file; there = ap (option_map remaining) is; refused = h }
refused_behind remaining stamp second list slurm file listed SlurmDevice is of_list h =
    record { listed = listed; of_list = of_list; file = remaining file; there = ap (option_map remaining) is; refused = h }
refused_behind remaining stamp second list slurm file listed (Changed files.List) is of_list h = absurd (cc h)
refused_behind remaining stamp second list slurm file listed (Changed files.Slurm) is of_list h =
    record { listed = listed; of_list = of_list; file = remaining file; there = ap (option_map remaining) is; refused = h }

-- or the list is
pub refused_list : {L : Type 0} (remaining : L → Option (List ℕ)) (stamp : L → Option Stamp) (second : Option ℕ) (list : L) (slurm : Option L) (fault : SourceFault) → IsRefusedList (remaining list) fault → IsRefused (texts_of remaining stamp list slurm second) fault
refused_list remaining stamp second list slurm (OfList refused) h = h
refused_list remaining stamp second list slurm (Slurm fault) h = absurd h
refused_list remaining stamp second list slurm SlurmDevice h = absurd h
refused_list remaining stamp second list slurm (Changed files.List) h = tt
refused_list remaining stamp second list slurm (Changed files.Slurm) h = absurd (cc h)

abbrev fault_or : Result Said SlurmFault → SlurmFault → SlurmFault
fault_or (Ok said) other = other
fault_or (Err why) other = why

-- the fault of the octets that were read is that of the text
pub refused_slurm : (octets text : List ℕ) (fault : SlurmFault) (answer : Result Said SlurmFault) → octets ≡ text → answer ≡ Err fault → (answer ≡ Err NoMemory) ⊎ IsSlurm octets answer → (fault ≡ NoMemory) ⊎ IsSlurm text (Err fault)
refused_slurm octets text fault answer same is (inl memory) = inl (ap (λ (r : Result Said SlurmFault). fault_or r fault) (sym is ∙ memory))
refused_slurm octets text fault answer same is (inr said) = inr (subst (λ (o : List ℕ). IsSlurm o (Err fault)) same (subst (λ (r : Result Said SlurmFault). IsSlurm octets r) is said))
