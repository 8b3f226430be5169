-- What a SLURM file says: the exceptions and what is skipped, or its first fault (RFC 8416 section 3).
use Rattle.std.specs.Prelude.{◌≡◌, ◌+◌, ◌⊎◌, ℕ, List, [], ◌∷◌, Option, None, Some, Result, Ok, Err, length}
use Rattle.std.specs.Str.{IsUtf8}
use Rattle.std.specs.Str.Lossy.{utf8_valid_len}
use Rattle.json.specs.Json.{Json, document}
use Rattle.net_prefix.specs.PayloadSets.{has}
use Rattle.local_exceptions.specs.ExceptionFaults.{adding_fault}
use Rattle.local_exceptions.specs.ExceptionSets.{ExceptionSets, no_exceptions, with_assertion, with_filter}
use Rattle.local_exceptions.specs.Filters.{has_filter}
use Rattle.local_exceptions.specs.declared.fault.ExceptionFault.{ExceptionFault}
use Rattle.slurm_files.specs.SlurmEntries.{IsEntry}
use Rattle.slurm_files.specs.SlurmParts.{SlurmParts, parts_of}
use Rattle.slurm_files.specs.declared.entry.Entry.{Entry}
use Rattle.slurm_files.specs.declared.entry.Entry.TheVariants.{Filter, Assertion, Ipv6, Bgpsec}
use Rattle.slurm_files.specs.declared.fault.Cause.{Cause}
use Rattle.slurm_files.specs.declared.fault.Cause.TheVariants as cause
use Rattle.slurm_files.specs.declared.fault.SlurmFault.{SlurmFault}
use Rattle.slurm_files.specs.declared.fault.SlurmFault.TheVariants as fault
use Rattle.slurm_files.specs.declared.member.Part.{Part}
use Rattle.slurm_files.specs.declared.member.Part.TheVariants as part

-- the exceptions, and how many entries are skipped
pub record Said : Type 0 where
  pub exceptions : ExceptionSets
  pub ipv6 : ℕ
  pub bgpsec : ℕ

abbrev pub nothing_said : Said
nothing_said = record { exceptions = no_exceptions; ipv6 = 0; bgpsec = 0 }

-- with what one more entry says
abbrev pub with_entry : Entry → Said → Said
with_entry (Filter f) said = record said { exceptions = with_filter f said.exceptions }
with_entry (Assertion payload) said = record said { exceptions = with_assertion payload said.exceptions }
with_entry Ipv6 said = record said { ipv6 = said.ipv6 + 1 }
with_entry Bgpsec said = record said { bgpsec = said.bgpsec + 1 }

-- why the exceptions of an entry aren't taken: there are too many others
abbrev pub entry_fault : Entry → Said → Option ExceptionFault
entry_fault (Filter f) said = adding_fault (has_filter said.exceptions.filters f) (length said.exceptions.filters)
entry_fault (Assertion payload) said = adding_fault (has said.exceptions.asserted payload) (length said.exceptions.asserted)
entry_fault Ipv6 said = None
entry_fault Bgpsec said = None

-- what was said in the end, where nothing was refused
abbrev pub outcome : Result (Unit {0}) SlurmFault → Said → Result Said SlurmFault
outcome (Err why) said = Err why
outcome (Ok done) said = Ok said

-- an entry is taken, and reading goes on, or there are too many
abbrev pub Takes : (Said → Result Said SlurmFault → Type 0) → Part → ℕ → Entry → Option ExceptionFault → Said → Result Said SlurmFault → Type 0
Takes goes_on part place entry (Some why) said result = result ≡ Err (fault.Entry part place cause.TooMany)
Takes goes_on part place entry None said result = goes_on (with_entry entry said) result

-- what an entry says is taken, or it has a fault
abbrev pub Goes : (Said → Result Said SlurmFault → Type 0) → Part → ℕ → Result Entry Cause → Said → Result Said SlurmFault → Type 0
Goes goes_on part place (Err why) said result = result ≡ Err (fault.Entry part place why)
Goes goes_on part place (Ok entry) said result = Takes goes_on part place entry (entry_fault entry said) said result

-- what the entries of an array, the first of which stands at this place, add to what was said, or their first fault
abbrev pub Reads : Part → ℕ → List Json → Said → Result Said SlurmFault → Type 0
Reads part place [] said result = result ≡ Ok said
Reads part place (entry ∷ more) said result =
    (answer : Result Entry Cause) × IsEntry part entry answer
    × Goes (λ after found. Reads part (place + 1) more after found) part place answer said result

-- where something was said, what is then
abbrev pub Then : Result Said SlurmFault → Result Said SlurmFault → (Said → Type 0) → Type 0
Then (Err why) result goes_on = result ≡ Err why
Then (Ok said) result goes_on = goes_on said

-- so it is of the four arrays
abbrev pub ReadsParts : SlurmParts → Result Said SlurmFault → Type 0
ReadsParts parts result =
    (first : Result Said SlurmFault) × Reads part.PrefixFilters 0 parts.prefix_filters nothing_said first × Then first result (λ one.
    (second : Result Said SlurmFault) × Reads part.BgpsecFilters 0 parts.bgpsec_filters one second × Then second result (λ two.
    (third : Result Said SlurmFault) × Reads part.PrefixAssertions 0 parts.prefix_assertions two third × Then third result (λ three.
    Reads part.BgpsecAssertions 0 parts.bgpsec_assertions three result)))

abbrev pub IsOfParts : Result SlurmParts SlurmFault → Result Said SlurmFault → Type 0
IsOfParts (Err why) result = result ≡ Err why
IsOfParts (Ok parts) result = ReadsParts parts result

-- what a value says
abbrev pub IsSaid : Json → Result Said SlurmFault → Type 0
IsSaid value result = IsOfParts (parts_of value) result

-- the octets are no JSON: they are UTF-8 up to this octet alone, or are no value of JSON
abbrev pub IsNoJson : List ℕ → ℕ → Type 0
IsNoJson octets octet =
    ((¬ (IsUtf8 octets)) × (octet ≡ utf8_valid_len octets)) ⊎ (IsUtf8 octets × (document octets ≡ None))

-- what the octets of a file say, but for want of memory
abbrev pub IsSlurm : List ℕ → Result Said SlurmFault → Type 0
IsSlurm octets result =
    ((octet : ℕ) × (result ≡ Err (fault.Text octet)) × IsNoJson octets octet)
    ⊎ (IsUtf8 octets × (value : Json) × (document octets ≡ Some value) × IsSaid value result)

-- two faults of one text, which is no JSON: where it stops being JSON isn't said
abbrev pub AreTexts : List ℕ → Result Said SlurmFault → Result Said SlurmFault → Type 0
AreTexts octets a b =
    IsUtf8 octets × (document octets ≡ None)
    × (one : ℕ) × (other : ℕ) × (a ≡ Err (fault.Text one)) × (b ≡ Err (fault.Text other))
