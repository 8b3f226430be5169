-- The attributes that octets are, one behind the other (RFC 4271 section 4.3).
use Rattle.std.specs.Prelude.{◌≡◌, ◌-◌, ◌==◌, ◌≤◌, ◌<◌, nat_lt, slice_index, not, if◌then◌else◌, Bool, true, false, ℕ, zero, suc, List, [], ◌∷◌, ◌++◌, length, take, drop, bit_and, Option, Some, None}
use Rattle.std.specs.Int.{from_be_bytes, to_be_bytes, w16}
use Rattle.std.specs.List.{AllByRecursion, find, flat_map}
use Rattle.std.specs.Option.{option_map, option_and_then}

-- an attribute as it came: its flags, its code, its value, and all its octets
pub record Attribute : Type 0 where
  pub flags : ℕ
  pub code : ℕ
  pub value : List ℕ
  pub whole : List ℕ

-- numbers that are octets
abbrev pub AreOctets : List ℕ → Type 0
AreOctets octets = (i : ℕ) → slice_index octets i < 256

-- the extended length bit is set
abbrev pub is_extended : ℕ → Bool
is_extended flags = not (bit_and flags 16 == 0)

-- the optional bit is set
abbrev pub is_optional : ℕ → Bool
is_optional flags = not (bit_and flags 128 == 0)

-- the partial bit is set
abbrev pub is_partial : ℕ → Bool
is_partial flags = not (bit_and flags 32 == 0)

-- a length: two octets where the extended length bit is set, else one
abbrev pub length_octets : Bool → ℕ → List ℕ
length_octets true n = to_be_bytes w16 n
length_octets false n = n ∷ []

-- the greatest length that these octets can tell
abbrev pub longest : Bool → ℕ
longest true = 65535
longest false = 255

-- the octets of an attribute are its flags, its code, the length of its value, and its value
pub record IsAttribute (a : Attribute) : Type 0 where
  pub short : length a.value ≤ longest (is_extended a.flags)
  pub spelled : a.whole ≡ a.flags ∷ a.code ∷ (length_octets (is_extended a.flags) (length a.value) ++ a.value)

-- the octets of attributes, one behind the other
abbrev pub wholes : List Attribute → List ℕ
wholes attributes = flat_map (λ a. a.whole) attributes

-- the octets are these attributes, one behind the other, and then a rest with no whole attribute at its front
pub record IsSplit (octets : List ℕ) (attributes : List Attribute) (rest : List ℕ) : Type 0 where
  pub each : AllByRecursion IsAttribute attributes
  pub joined : octets ≡ wholes attributes ++ rest
  pub none : (a : Attribute) (more : List ℕ) → IsAttribute a → rest ≡ a.whole ++ more → ⊥

-- the length that stands at the front, and what is behind it; none where it is cut off
abbrev pub length_at : Bool → List ℕ → Option (ℕ × List ℕ)
length_at true [] = None
length_at true (high ∷ []) = None
length_at true (high ∷ low ∷ more) = Some (from_be_bytes w16 (high ∷ low ∷ []), more)
length_at false [] = None
length_at false (n ∷ more) = Some (n, more)

-- so many octets, and what is behind them; none where they are cut off
abbrev pub value_at : ℕ × List ℕ → Option (List ℕ × List ℕ)
value_at told = if nat_lt (length told.1) told.0 then None else Some (take told.0 told.1, drop told.0 told.1)

-- an attribute that has these flags, this code and this value, and what is behind it
abbrev pub found_at : ℕ → ℕ → List ℕ → List ℕ × List ℕ → Attribute × List ℕ
found_at flags code more parts =
    (record { flags = flags; code = code; value = parts.0; whole = flags ∷ code ∷ take (length more - length parts.1) more }, parts.1)

-- the attribute at the front, and what is behind it; none where it is cut off
unfoldable pub attribute_at : List ℕ → Option (Attribute × List ℕ)
attribute_at [] = None
attribute_at (flags ∷ []) = None
attribute_at (flags ∷ code ∷ more) = option_map (found_at flags code more) (option_and_then value_at (length_at (is_extended flags) more))

-- the attributes that octets are, and the rest behind them
abbrev pub Split : Type 0
Split = List Attribute × List ℕ

-- the attribute at the front, and the split of what is behind it
abbrev pub split_behind : (List ℕ → Split) → List ℕ → Option (Attribute × List ℕ) → Split
split_behind split octets None = ([], octets)
split_behind split octets (Some found) = (found.0 ∷ (split found.1).0, (split found.1).1)

-- the split into so many attributes at most
unfoldable pub split_within : ℕ → List ℕ → Split
split_within zero octets = ([], octets)
split_within (suc n) octets = split_behind (split_within n) octets (attribute_at octets)

-- the split into attributes and a rest with none at its front: each takes an octet at least
unfoldable pub split_of : List ℕ → Split
split_of octets = split_within (length octets) octets

-- the attributes that octets are
abbrev pub attributes_at : List ℕ → List Attribute
attributes_at octets = (split_of octets).0

-- the octets behind the last whole attribute
abbrev pub rest_at : List ℕ → List ℕ
rest_at octets = (split_of octets).1

-- the attribute that has this code
abbrev pub found_of : ℕ → List Attribute → Option Attribute
found_of code attributes = find (λ a. a.code == code) attributes

-- its value
abbrev pub value_of : ℕ → List Attribute → Option (List ℕ)
value_of code attributes = option_map (λ a. a.value) (found_of code attributes)
