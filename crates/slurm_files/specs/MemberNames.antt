-- The names of members (RFC 8416 sections 3.2 to 3.4), and which members an object has.
use Rattle.std.specs.Prelude.{◌+◌, ℕ, Bool, List, [], ◌∷◌, codes, Option, None, Some, if◌then◌else◌, not}
use Rattle.std.specs.List.{list_any}
use Rattle.std.specs.Str.{bytes_eq}
use Rattle.json.specs.Json.{Json, null, boolean, number, string, array, object, Members, no_members, member}
use Rattle.slurm_files.specs.declared.fault.Cause.{Cause}
use Rattle.slurm_files.specs.declared.fault.Cause.TheVariants.{NotObject, UnknownMember, SecondMember}
use Rattle.slurm_files.specs.declared.member.Member.{Member}
use Rattle.slurm_files.specs.declared.member.Member.TheVariants as named
use Rattle.slurm_files.specs.declared.member.Part.{Part}
use Rattle.slurm_files.specs.declared.member.Part.TheVariants as part

-- the name of a member
abbrev pub name_of : Member → List ℕ
name_of named.SlurmVersion = codes "slurmVersion"
name_of named.ValidationOutputFilters = codes "validationOutputFilters"
name_of named.LocallyAddedAssertions = codes "locallyAddedAssertions"
name_of named.PrefixFilters = codes "prefixFilters"
name_of named.BgpsecFilters = codes "bgpsecFilters"
name_of named.PrefixAssertions = codes "prefixAssertions"
name_of named.BgpsecAssertions = codes "bgpsecAssertions"
name_of named.Prefix = codes "prefix"
name_of named.Asn = codes "asn"
name_of named.MaxPrefixLength = codes "maxPrefixLength"
name_of named.Comment = codes "comment"
name_of named.Ski = codes "SKI"
name_of named.RouterPublicKey = codes "routerPublicKey"

-- the member that an array of entries is
abbrev pub part_member : Part → Member
part_member part.PrefixFilters = named.PrefixFilters
part_member part.BgpsecFilters = named.BgpsecFilters
part_member part.PrefixAssertions = named.PrefixAssertions
part_member part.BgpsecAssertions = named.BgpsecAssertions

-- whether it is the name of one of these members
abbrev pub is_known : List Member → List ℕ → Bool
is_known known name = list_any (λ m. bytes_eq (name_of m) name) known

-- whether it is one of these names
abbrev pub is_named : List (List ℕ) → List ℕ → Bool
is_named names name = list_any (λ other. bytes_eq other name) names

-- the fault of the member at a place, before members with these names: its name is unknown, or one behind it has it too
abbrev pub name_fault : List Member → ℕ → List ℕ → List (List ℕ) → Option Cause
name_fault known place name behind =
    if not (is_known known name) then Some (UnknownMember place) else if is_named behind name then Some (SecondMember place) else None

-- the first of two faults
abbrev pub or_else : Option Cause → Option Cause → Option Cause
or_else (Some fault) later = Some fault
or_else None later = later

-- the first fault of members with these names, the first of which stands at this place
abbrev pub names_fault : List Member → ℕ → List (List ℕ) → Option Cause
names_fault known place [] = None
names_fault known place (name ∷ behind) = or_else (name_fault known place name behind) (names_fault known (place + 1) behind)

-- the names of members
abbrev pub names_of : Members → List (List ℕ)
names_of no_members = []
names_of (member name value rest) = name ∷ names_of rest

-- the first fault of a value that is to be an object with these members
abbrev pub object_fault : List Member → Json → Option Cause
object_fault known null = Some NotObject
object_fault known (boolean b) = Some NotObject
object_fault known (number s) = Some NotObject
object_fault known (string s) = Some NotObject
object_fault known (array js) = Some NotObject
object_fault known (object ms) = names_fault known 0 (names_of ms)
