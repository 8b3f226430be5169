-- The four arrays of a SLURM file, and the objects around them (RFC 8416 section 3.2).
use Rattle.std.specs.Prelude.{ℕ, Bool, false, List, [], ◌∷◌, codes, Option, None, Some, Result, Ok, Err, if◌then◌else◌, map}
use Rattle.std.specs.Str.{bytes_eq}
use Rattle.json.specs.Find.{as_number, get}
use Rattle.json.specs.Json.{Json, null, boolean, number, string, array, object, Items, no_items, item}
use Rattle.json.specs.Value.{value_view}
use Rattle.slurm_files.specs.MemberNames.{name_of, object_fault}
use Rattle.slurm_files.specs.declared.fault.Cause.{Cause}
use Rattle.slurm_files.specs.declared.fault.Cause.TheVariants as cause
use Rattle.slurm_files.specs.declared.fault.SlurmFault.{SlurmFault}
use Rattle.slurm_files.specs.declared.fault.SlurmFault.TheVariants as fault
use Rattle.slurm_files.specs.declared.member.Member.{Member}
use Rattle.slurm_files.specs.declared.member.Member.TheVariants as named
use Rattle.slurm_files.specs.declared.parts.Parts.{Parts}

-- the entries of the four arrays
pub record SlurmParts : Type 0 where
  pub prefix_filters : List Json
  pub bgpsec_filters : List Json
  pub prefix_assertions : List Json
  pub bgpsec_assertions : List Json

-- the answer, where there is no fault before it
abbrev pub unless : {A : Type 0} → Option Cause → Result A Cause → Result A Cause
unless (Some fault) answer = Err fault
unless None answer = answer

-- both, or the first fault of them
abbrev pub both : {A B : Type 0} → Result A Cause → Result B Cause → Result (A × B) Cause
both (Err fault) second = Err fault
both (Ok a) (Err fault) = Err fault
both (Ok a) (Ok b) = Ok (a, b)

-- the member, where there is one
abbrev pub found_or : Member → Option Json → Result Json Cause
found_or member None = Err (cause.Missing member)
found_or member (Some value) = Ok value

abbrev pub member_of : Member → Json → Result Json Cause
member_of member value = found_or member (get (name_of member) value)

-- the values of an array
abbrev pub entries_of : Items → List Json
entries_of no_items = []
entries_of (item j js) = j ∷ entries_of js

-- the entries of a member that is an array
abbrev pub entries_in : Member → Result Json Cause → Result (List Json) Cause
entries_in member (Err fault) = Err fault
entries_in member (Ok null) = Err (cause.NotArray member)
entries_in member (Ok (boolean b)) = Err (cause.NotArray member)
entries_in member (Ok (number s)) = Err (cause.NotArray member)
entries_in member (Ok (string s)) = Err (cause.NotArray member)
entries_in member (Ok (array js)) = Ok (entries_of js)
entries_in member (Ok (object ms)) = Err (cause.NotArray member)

abbrev pub array_of : Member → Json → Result (List Json) Cause
array_of member value = entries_in member (member_of member value)

-- the two arrays of an object that has no other members
abbrev pub arrays_of : Member → Member → Json → Result (List Json × List Json) Cause
arrays_of first second value =
    unless (object_fault (first ∷ second ∷ []) value) (both (array_of first value) (array_of second value))

-- whether a value is the number 1, as it is written
abbrev pub is_one : Option (List ℕ) → Bool
is_one None = false
is_one (Some word) = bytes_eq word (codes "1")

-- the fault of a version that is another one
abbrev pub version_fault : Result Json Cause → Option Cause
version_fault (Err fault) = Some fault
version_fault (Ok value) = if is_one (as_number value) then None else Some cause.Version

abbrev pub file_members : List Member
file_members = named.SlurmVersion ∷ named.ValidationOutputFilters ∷ named.LocallyAddedAssertions ∷ []

-- the filters and the assertions of a file of version 1
abbrev pub halves_of : Json → Result (Json × Json) Cause
halves_of value =
    unless (object_fault file_members value)
    (unless (version_fault (member_of named.SlurmVersion value))
    (both (member_of named.ValidationOutputFilters value) (member_of named.LocallyAddedAssertions value)))

abbrev pub with_assertions : List Json × List Json → Result (List Json × List Json) Cause → Result SlurmParts SlurmFault
with_assertions filters (Err why) = Err (fault.Assertions why)
with_assertions filters (Ok assertions) =
    Ok (record { prefix_filters = filters.0; bgpsec_filters = filters.1; prefix_assertions = assertions.0; bgpsec_assertions = assertions.1 })

abbrev pub with_filters : Result (List Json × List Json) Cause → Json → Result SlurmParts SlurmFault
with_filters (Err why) assertions = Err (fault.Filters why)
with_filters (Ok filters) assertions = with_assertions filters (arrays_of named.PrefixAssertions named.BgpsecAssertions assertions)

abbrev pub with_halves : Result (Json × Json) Cause → Result SlurmParts SlurmFault
with_halves (Err why) = Err (fault.File why)
with_halves (Ok halves) = with_filters (arrays_of named.PrefixFilters named.BgpsecFilters halves.0) halves.1

-- the arrays of the value of a file, or the first fault of the objects around them
abbrev pub parts_of : Json → Result SlurmParts SlurmFault
parts_of value = with_halves (halves_of value)

-- what the code keeps of them
abbrev pub parts_view : {A : Type 0} → Parts A → SlurmParts
parts_view parts = record {
  prefix_filters = map value_view parts.prefix_filters.now;
  bgpsec_filters = map value_view parts.bgpsec_filters.now;
  prefix_assertions = map value_view parts.prefix_assertions.now;
  bgpsec_assertions = map value_view parts.bgpsec_assertions.now;
}
