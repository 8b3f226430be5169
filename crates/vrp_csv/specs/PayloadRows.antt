-- The records of a payload list, each as its fields (our own form, as validators write it).
use Rattle.std.specs.Prelude.{◌≡◌, ◌≢◌, ◌≤◌, ◌<◌, ◌^◌, ◌+◌, ◌==◌, ◌&&◌, ◌++◌, ◌⊎◌, ℕ, Bool, true, false, List, [], ◌∷◌, length, codes, nat_eq, unwrap_or, Option, None, Some, Result, Ok, Err, if◌then◌else◌}
use Rattle.std.specs.Char.{eq_ignore_ascii_case}
use Rattle.std.specs.List.{list_any}
use Rattle.std.specs.Str.Parse.{IsNumeral, digits_value}
use Rattle.csv.specs.Records.{field_at}
use Rattle.net_prefix.specs.MaxLengths.{IsMaxLength}
use Rattle.net_prefix.specs.PrefixText.{Writes}
use Rattle.net_prefix.specs.declared.payload.Vrp.{Vrp}
use Rattle.net_prefix.specs.declared.prefix.Prefix as declared
use Rattle.vrp_csv.specs.declared.fault.RowFault.{RowFault}
use Rattle.vrp_csv.specs.declared.fault.RowFault.TheVariants.{Header, Fields, Asn, Prefix, Max, Io, NoMemory, Csv}

-- the names of the fields of a payload
abbrev pub payload_names : List (List ℕ)
payload_names = codes "ASN" ∷ codes "IP Prefix" ∷ codes "Max Length" ∷ codes "Trust Anchor" ∷ []

-- the names of the fields of a row that tells its object's place and time too (Routinator's csvext)
abbrev pub extended_names : List (List ℕ)
extended_names =
    codes "URI" ∷ codes "ASN" ∷ codes "IP Prefix" ∷ codes "Max Length" ∷ codes "Not Before" ∷ codes "Not After" ∷ []

-- the names of the fields of a row without a trust anchor (fort)
abbrev pub short_names : List (List ℕ)
short_names = codes "ASN" ∷ codes "Prefix" ∷ codes "Max prefix length" ∷ []

-- the first record of a list
abbrev pub IsHeader : List (List ℕ) → Type 0
IsHeader fields =
    (fields ≡ payload_names) ⊎ (fields ≡ payload_names ++ codes "Expires" ∷ []) ⊎ (fields ≡ extended_names)
    ⊎ (fields ≡ short_names)

-- the first four fields are those of a payload
abbrev pub NamesPayloads : List (List ℕ) → Type 0
NamesPayloads fields =
    (field_at fields 0 ≡ Some (codes "ASN")) × (field_at fields 1 ≡ Some (codes "IP Prefix"))
    × (field_at fields 2 ≡ Some (codes "Max Length")) × (field_at fields 3 ≡ Some (codes "Trust Anchor"))

-- the three fields are those of a row without a trust anchor
abbrev pub NamesShort : List (List ℕ) → Type 0
NamesShort fields =
    (field_at fields 0 ≡ Some (codes "ASN")) × (field_at fields 1 ≡ Some (codes "Prefix"))
    × (field_at fields 2 ≡ Some (codes "Max prefix length"))

-- the six fields are those of a row that tells its object's place and time
abbrev pub NamesExtended : List (List ℕ) → Type 0
NamesExtended fields =
    (field_at fields 0 ≡ Some (codes "URI")) × (field_at fields 1 ≡ Some (codes "ASN"))
    × (field_at fields 2 ≡ Some (codes "IP Prefix")) × (field_at fields 3 ≡ Some (codes "Max Length"))
    × (field_at fields 4 ≡ Some (codes "Not Before")) × (field_at fields 5 ≡ Some (codes "Not After"))

-- how many fields stand in front of a payload's in rows of so many
abbrev pub front_of : ℕ → ℕ
front_of width = if width == 6 then 1 else 0

-- the field at a place, empty where there is none
abbrev pub field_of : List (List ℕ) → ℕ → List ℕ
field_of fields place = unwrap_or (field_at fields place) []

-- the text is one decimal digit or more, but no more than so many, and they write this number
abbrev pub WritesNumber : ℕ → List ℕ → ℕ → Type 0
WritesNumber most text number = IsNumeral 10 text × (length text ≤ most) × (number ≡ digits_value 10 text)

-- the text behind the letters AS in either case, where it begins with them
abbrev pub without_letters : List ℕ → List ℕ
without_letters [] = []
without_letters (a ∷ []) = a ∷ []
without_letters (a ∷ s ∷ rest) =
    if eq_ignore_ascii_case a 65 && eq_ignore_ascii_case s 83 then rest else a ∷ s ∷ rest

-- the text writes this AS: AS or nothing, then one to ten digits of a number below 2^32
abbrev pub WritesAsn : List ℕ → ℕ → Type 0
WritesAsn text asn = (asn < 2 ^ 32) × WritesNumber 10 (without_letters text) asn

-- the text writes this maximum length in one or two digits, or is empty for the prefix length
abbrev pub WritesMax : ℕ → List ℕ → ℕ → Type 0
WritesMax len text max_len = ((text ≡ []) × (max_len ≡ len)) ⊎ WritesNumber 2 text max_len

-- the text has a colon, as only an IPv6 prefix has
abbrev pub has_colon : List ℕ → Bool
has_colon text = list_any (λ octet. nat_eq octet 58) text

-- the row has this AS in a list whose rows have so many fields
abbrev pub HasAsn : ℕ → List (List ℕ) → ℕ → Type 0
HasAsn width fields asn = (length fields ≡ width) × WritesAsn (field_of fields (front_of width)) asn

-- the row has this prefix too
abbrev pub HasPrefix : ℕ → List (List ℕ) → ℕ → declared.Prefix → Type 0
HasPrefix width fields asn prefix =
    HasAsn width fields asn × (has_colon (field_of fields (front_of width + 1)) ≡ false)
    × Writes (field_of fields (front_of width + 1)) prefix.bits prefix.len

-- what a row says in a list whose rows have so many fields: its payload, or that it is skipped, or its first fault
abbrev pub IsRow : ℕ → List (List ℕ) → Result (Option Vrp) RowFault → Type 0
IsRow width fields (Ok (Some payload)) =
    HasPrefix width fields payload.asn.0 payload.prefix
    × WritesMax payload.prefix.len (field_of fields (front_of width + 2)) payload.max_len
IsRow width fields (Ok None) =
    (asn : ℕ) × HasAsn width fields asn × (has_colon (field_of fields (front_of width + 1)) ≡ true)
IsRow width fields (Err Fields) = length fields ≢ width
IsRow width fields (Err Asn) = (length fields ≡ width) × ((asn : ℕ) → ¬ (WritesAsn (field_of fields (front_of width)) asn))
IsRow width fields (Err Prefix) =
    (asn : ℕ) × HasAsn width fields asn × (has_colon (field_of fields (front_of width + 1)) ≡ false)
    × ((prefix : declared.Prefix) → ¬ (Writes (field_of fields (front_of width + 1)) prefix.bits prefix.len))
IsRow width fields (Err Max) =
    (asn : ℕ) × (prefix : declared.Prefix) × HasPrefix width fields asn prefix
    × ((max_len : ℕ) → WritesMax prefix.len (field_of fields (front_of width + 2)) max_len → ¬ (IsMaxLength prefix.len max_len))
IsRow width fields (Err Header) = ⊥
IsRow width fields (Err Io) = ⊥
IsRow width fields (Err NoMemory) = ⊥
IsRow width fields (Err Csv) = ⊥
