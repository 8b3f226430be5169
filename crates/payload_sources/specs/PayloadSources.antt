-- What files say of a cache's payloads: a payload list, under the exceptions of a SLURM file where there is one.
use Rattle.std.specs.Prelude.{◌≡◌, ◌⊎◌, ◌&&◌, ℕ, Bool, false, is_none, List, Option, None, Some, Ok, Err, option_map, ⊤}
use Rattle.file_paths.specs.OpenedFiles.{same_stamp}
use Rattle.file_paths.specs.declared.steady.Stamp.{Stamp}
use Rattle.net_prefix.specs.PayloadSets.{IsPayloadSet}
use Rattle.net_prefix.specs.declared.payload.Vrp.{Vrp}
use Rattle.payload_lists.specs.PayloadLists.{IsListOf, IsRefusedAs, IsWrittenBy}
use Rattle.payload_lists.specs.declared.fault.PayloadListFault.{PayloadListFault}
use Rattle.payload_lists.specs.declared.list.Listed.{Listed}
use Rattle.vrp_json.specs.declared.written.Written.{Written}
use Rattle.local_exceptions.specs.ExceptionSets.{IsUnder}
use Rattle.slurm_files.specs.SlurmDocument.{IsSlurm, Said}
use Rattle.slurm_files.specs.declared.fault.SlurmFault.TheVariants.{NoMemory}
use Rattle.payload_sources.specs.declared.fault.SourceFault.{SourceFault}
use Rattle.payload_sources.specs.declared.fault.SourceFault.TheVariants.{List as OfList, Slurm, SlurmDevice, Changed}
use Rattle.payload_sources.specs.declared.fault.SourceFile.{SourceFile}
use Rattle.payload_sources.specs.declared.fault.SourceFile.TheVariants as files
use Rattle.payload_sources.specs.declared.opening.SourceStamps.{SourceStamps}

-- the stamps by which files that were opened are known again: of the list, and of the SLURM file where there is one, if each has
-- one
abbrev pub stamps_of : Option Stamp → Option (Option Stamp) → Option SourceStamps
stamps_of None slurm = None
stamps_of (Some list) None = Some (record { list = list; slurm = None })
stamps_of (Some list) (Some None) = None
stamps_of (Some list) (Some (Some file)) = Some (record { list = list; slurm = Some file })

-- the stamps are the same, each in each number
abbrev pub same_if_any : Option Stamp → Option Stamp → Bool
same_if_any None other = is_none other
same_if_any (Some stamp) None = false
same_if_any (Some stamp) (Some other) = same_stamp stamp other

abbrev pub same_stamps : SourceStamps → SourceStamps → Bool
same_stamps stamps others = same_stamp stamps.list others.list && same_if_any stamps.slurm others.slurm

-- the texts of files that were opened, as far as they are known: of the list, and of the SLURM file where there is one; the
-- second since 1970 at which the list's rows may have expired, where they may; and the stamps of the files
pub record SourceTexts : Type 0 where
  pub list : Option (List ℕ)
  pub slurm : Option (Option (List ℕ))
  pub second : Option ℕ
  pub stamps : Option SourceStamps

abbrev pub texts_of : {L : Type 0} → (L → Option (List ℕ)) → (L → Option Stamp) → L → Option L → Option ℕ → SourceTexts
texts_of remaining stamp list slurm second =
    record { list = remaining list; slurm = option_map remaining slurm; second = second; stamps = stamps_of (stamp list) (option_map stamp slurm) }

-- the set is that of the list that the text spells, at that second; of a file whose text isn't known nothing is said
abbrev pub IsSetOfText : Option ℕ → Option (List ℕ) → List Vrp → Type 0
IsSetOfText second file set =
    (text : List ℕ) → file ≡ Some text
    → (listed : Listed) × IsListOf second text listed × (set ≡ listed.loaded.set.keys)

-- the list of the text is refused so
abbrev pub IsRefusedText : Option (List ℕ) → PayloadListFault → Type 0
IsRefusedText file refused = (text : List ℕ) → file ≡ Some text → IsRefusedAs text refused

-- the SLURM file of the text says this
abbrev pub IsSaidBy : Option (List ℕ) → Said → Type 0
IsSaidBy file said = (text : List ℕ) → file ≡ Some text → IsSlurm text (Ok said)

-- what a set is under the exceptions that the SLURM file says, where there is one
abbrev pub IsUnderFile : Option (Option (List ℕ)) → Option Said → List Vrp → List Vrp → Type 0
IsUnderFile None None set after = after ≡ set
IsUnderFile None (Some said) set after = ⊥
IsUnderFile (Some file) None set after = ⊥
IsUnderFile (Some file) (Some said) set after = IsSaidBy file said × IsPayloadSet after × IsUnder said.exceptions set after

-- the set is that of the list, under the exceptions that the SLURM file says
pub record IsRead (sources : SourceTexts) (said : Option Said) (set : List Vrp) : Type 0 where
  pub listed : List Vrp
  pub of_list : IsSetOfText sources.second sources.list listed
  pub under : IsUnderFile sources.slurm said listed set

-- the list says that it was written then
abbrev pub SaysWritten : SourceTexts → Written → Type 0
SaysWritten sources written = (text : List ℕ) → sources.list ≡ Some text → IsWrittenBy text written

abbrev pub IsSetOf : SourceTexts → List Vrp → Type 0
IsSetOf sources set = (said : Option Said) × IsRead sources said set

-- why a list can't be had: a fault of it, that reading stopped, or that the file changed, which the system tells
abbrev pub IsRefusedList : Option (List ℕ) → SourceFault → Type 0
IsRefusedList list (OfList refused) = IsRefusedText list refused
IsRefusedList list (Slurm fault) = ⊥
IsRefusedList list SlurmDevice = ⊥
IsRefusedList list (Changed which) = which ≡ files.List

-- why a SLURM file can't be had: a fault of it, no memory for what it says, that reading stopped, or that the file changed
abbrev pub IsRefusedSlurm : Option (List ℕ) → SourceFault → Type 0
IsRefusedSlurm file (OfList refused) = ⊥
IsRefusedSlurm file (Slurm fault) = (text : List ℕ) → file ≡ Some text → (fault ≡ NoMemory) ⊎ IsSlurm text (Err fault)
IsRefusedSlurm file SlurmDevice = ⊤
IsRefusedSlurm file (Changed which) = which ≡ files.Slurm

-- so it is where the list has no fault
pub record IsRefusedBehind (sources : SourceTexts) (fault : SourceFault) : Type 0 where
  pub listed : List Vrp
  pub of_list : IsSetOfText sources.second sources.list listed
  pub file : Option (List ℕ)
  pub there : sources.slurm ≡ Some file
  pub refused : IsRefusedSlurm file fault

-- why no set can be had: the first fault
abbrev pub IsRefused : SourceTexts → SourceFault → Type 0
IsRefused sources (OfList refused) = IsRefusedText sources.list refused
IsRefused sources (Slurm fault) = IsRefusedBehind sources (Slurm fault)
IsRefused sources SlurmDevice = IsRefusedBehind sources SlurmDevice
IsRefused sources (Changed files.List) = ⊤
IsRefused sources (Changed files.Slurm) = IsRefusedBehind sources (Changed files.Slurm)
