-- The attributes that this speaker does not know and passes on (RFC 4271 section 5).
use Rattle.std.specs.Prelude.{◌≡◌, ◌≤◌, ℕ, suc, Bool, true, false, ◌==◌, ◌&&◌, if◌then◌else◌, List, [], ◌∷◌, length, bit_and, slice_get, Option, Some, None}
use Rattle.std.specs.BTreeMap.{insert_entry, is_at}
use Rattle.std.specs.List.{AllByRecursion, find}
use Rattle.std.specs.List.Sorted.{IsStrictlySortedBy}
use Rattle.std.specs.Map.{keys_of, lookup}
use Rattle.std.specs.Option.{option_and_then, option_map_or}
use Rattle.std.specs.Ordering.{match_ordering, nat_cmp}
use Rattle.bgp_attr.specs.AttributeTable.{is_passed_on}
use Rattle.bgp_attr.specs.ReceivedAttributes.{Attribute}

-- the code and the value of each
abbrev pub Unknown : Type 0
Unknown = List (ℕ × List ℕ)

-- they are in rising order of their codes, no code twice; each may be passed on with its value, and a length of two octets tells its value
pub record ArePassedOn (unknown : Unknown) : Type 0 where
  pub rising : IsStrictlySortedBy nat_cmp (keys_of unknown)
  pub each : AllByRecursion (λ e. (is_passed_on e.0 e.1 ≡ true) × (length e.1 ≤ 65535)) unknown

-- an attribute is kept: it is of a code and a value that may be passed on, optional and transitive
abbrev pub is_kept : Attribute → Bool
is_kept a = is_passed_on a.code a.value && bit_and a.flags 192 == 192

-- the value of an attribute that is kept
abbrev pub kept_value : Attribute → Option (List ℕ)
kept_value a = if is_kept a then Some a.value else None

-- the value of the kept attribute that has this code
abbrev pub kept_of : ℕ → List Attribute → Option (List ℕ)
kept_of code attributes = option_and_then kept_value (find (λ a. a.code == code) attributes)

-- these attributes are the kept ones of those that came
pub record SpellsUnknown (attributes : List Attribute) (unknown : Unknown) : Type 0 where
  pub rising : IsStrictlySortedBy nat_cmp (keys_of unknown)
  pub kept : (code : ℕ) → lookup (is_at (nat_cmp code)) unknown ≡ kept_of code attributes

-- the attribute behind others of which these are kept
abbrev pub with_kept : Unknown → Attribute → Unknown
with_kept unknown a = if is_kept a then insert_entry nat_cmp unknown a.code a.value else unknown

-- attributes behind others of which these are kept
abbrev pub kept_behind : Unknown → List Attribute → Unknown
kept_behind unknown [] = unknown
kept_behind unknown (a ∷ more) = kept_behind (with_kept unknown a) more

-- the attributes that are kept
abbrev pub unknown_in : List Attribute → Unknown
unknown_in attributes = kept_behind [] attributes

-- the same where there are any
abbrev pub unknown_or_none : Option Unknown → Unknown
unknown_or_none None = []
unknown_or_none (Some unknown) = unknown

-- how many of them, from the first on, have a code below this one
abbrev pub place_of : ℕ → Unknown → ℕ
place_of code [] = 0
place_of code (e ∷ es) = match_ordering (nat_cmp code e.0) 0 0 (suc (place_of code es))

-- that at a place has this code
abbrev pub has_code : Unknown → ℕ → ℕ → Bool
has_code unknown place code = option_map_or (λ e. is_at (nat_cmp code) e.0) (slice_get unknown place) false
