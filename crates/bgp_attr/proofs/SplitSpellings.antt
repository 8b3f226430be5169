use Rattle.std.proofs.Common.{◌≡◌, ◌<◌, ◌≤◌, ◌-◌, Bool, true, false, ℕ, zero, suc, List, [], ◌∷◌, ◌++◌, length, take, drop, nat_lt, if◌then◌else◌, Option, Some, None, arith, refl, sym, ap, subst, ◌∙◌, append_assoc, append-nil, length-append}
use Rattle.std.specs.List.{AllByRecursion}
use Rattle.std.specs.Option.{option_and_then, option_map}
use Rattle.std.specs.Int.{from_be_bytes, to_be_bytes, w16}
use Rattle.std.proofs.lemmas.Bool.{le-ltb, ltb-false}
use Rattle.std.proofs.lemmas.List.{drop_at, length-take-le, take-append-drop, take_at}
use Rattle.std.proofs.lemmas.Nat.{be_bytes_2, from_be_bytes-to_be_bytes_2}
use Rattle.std.proofs.lemmas.Option.{none-some, option_and_then_some, some_pair_parts}
use Rattle.bgp_attr.specs.ReceivedAttributes.{AreOctets, Attribute, IsAttribute, IsSplit, Split, attribute_at, found_at, is_extended, length_at, length_octets, longest, split_behind, split_of, split_within, value_at, wholes}
use Rattle.bgp_attr.proofs.Octets.{octets-right, octets-take}
use Rattle.bgp_attr.proofs.Splits.{shorter_at, split_of-none, split_of-some}

-- Octets are split into the attributes that they are, and into no others.

-- ---- an attribute is found at the front, whatever follows

length_at-octets : (long : Bool) (n : ℕ) (more : List ℕ) → n ≤ longest long → length_at long (length_octets long n ++ more) ≡ Some (let told : ℕ × List ℕ = (n, more) in told)
length_at-octets true n more h = ap (λ (m : ℕ). let told : ℕ × List ℕ = (m, more) in Some told) (from_be_bytes-to_be_bytes_2 n (omega arith))
length_at-octets false n more h = refl

value_at-front : (value rest : List ℕ) → value_at (length value, value ++ rest) ≡ Some (let parts : List ℕ × List ℕ = (value, rest) in parts)
value_at-front value rest =
    let whole : nat_lt (length (value ++ rest)) (length value) ≡ false = le-ltb (length (value ++ rest)) (length value) (omega (arith, length-append value rest)) in
    ap (λ (b : Bool). let parts : List ℕ × List ℕ = (take (length value) (value ++ rest), drop (length value) (value ++ rest)) in if b then None else Some parts) whole
    ∙ (ap (λ (front : List ℕ). let parts : List ℕ × List ℕ = (front, drop (length value) (value ++ rest)) in Some parts) (take_at value rest (length value) refl)
    ∙ ap (λ (back : List ℕ). let parts : List ℕ × List ℕ = (value, back) in Some parts) (drop_at value rest (length value) refl))

-- the attribute at the front of these octets
front_of : ℕ → ℕ → List ℕ → Option (Attribute × List ℕ)
front_of flags code more = option_map (found_at flags code more) (option_and_then value_at (length_at (is_extended flags) more))

found_whole : (flags code : ℕ) (told value rest : List ℕ) → found_at flags code (told ++ (value ++ rest)) (let parts : List ℕ × List ℕ = (value, rest) in parts) ≡ (let found : Attribute × List ℕ = (record { flags = flags; code = code; value = value; whole = flags ∷ code ∷ (told ++ value) }, rest) in found)
found_whole flags code told value rest =
    let more : List ℕ = told ++ (value ++ rest) in
    let size : length more - length rest ≡ length (told ++ value) = omega (arith, length-append told (value ++ rest), length-append value rest, length-append told value) in
    let front : take (length more - length rest) more ≡ told ++ value =
    ap (λ (n : ℕ). take n more) size ∙ (ap (take (length (told ++ value))) (sym (append_assoc told value rest)) ∙ take_at (told ++ value) rest (length (told ++ value)) refl) in
    ap (λ (octets : List ℕ). let found : Attribute × List ℕ = (record { flags = flags; code = code; value = value; whole = flags ∷ code ∷ octets }, rest) in found) front

front_of-spelled : (flags code : ℕ) (value rest : List ℕ) → length value ≤ longest (is_extended flags)
    → front_of flags code (length_octets (is_extended flags) (length value) ++ (value ++ rest))
    ≡ Some (let found : Attribute × List ℕ = (record { flags = flags; code = code; value = value; whole = flags ∷ code ∷ (length_octets (is_extended flags) (length value) ++ value) }, rest) in found)
unfolding front_of
front_of-spelled flags code value rest h =
    let told : List ℕ = length_octets (is_extended flags) (length value) in
    let more : List ℕ = told ++ (value ++ rest) in
    ap (λ (o : Option (ℕ × List ℕ)). option_map (found_at flags code more) (option_and_then value_at o)) (length_at-octets (is_extended flags) (length value) (value ++ rest) h)
    ∙ (ap (option_map (found_at flags code more)) (value_at-front value rest)
    ∙ ap (λ (found : Attribute × List ℕ). Some found) (found_whole flags code told value rest))

attribute_at-spelled : (a : Attribute) (rest : List ℕ) → IsAttribute a → attribute_at (a.whole ++ rest) ≡ Some (let found : Attribute × List ℕ = (a, rest) in found)
unfolding attribute_at front_of
attribute_at-spelled a rest h =
    let told : List ℕ = length_octets (is_extended a.flags) (length a.value) in
    ap (λ (octets : List ℕ). attribute_at (octets ++ rest)) h.spelled
    ∙ (ap (front_of a.flags a.code) (append_assoc told a.value rest)
    ∙ (front_of-spelled a.flags a.code a.value rest h.short
    ∙ ap (λ (whole : List ℕ). let found : Attribute × List ℕ = (record { flags = a.flags; code = a.code; value = a.value; whole = whole }, rest) in Some found) (sym h.spelled)))

-- attributes in front of octets are split off, whatever the octets are
pub split_of-front : (attributes : List Attribute) (octets : List ℕ) → AllByRecursion IsAttribute attributes → split_of (wholes attributes ++ octets) ≡ (attributes ++ (split_of octets).0, (split_of octets).1)
split_of-front [] octets h = refl
split_of-front (a ∷ more) octets h =
    ap split_of (append_assoc a.whole (wholes more) octets)
    ∙ (split_of-some (a.whole ++ (wholes more ++ octets)) a (wholes more ++ octets) (attribute_at-spelled a (wholes more ++ octets) h.0)
    ∙ ap (λ (s : Split). let split : Split = (a ∷ s.0, s.1) in split) (split_of-front more octets h.1))

-- ---- what is found at the front is an attribute

pub record IsFound (octets : List ℕ) (a : Attribute) (rest : List ℕ) : Type 0 where
  pub attribute : IsAttribute a
  pub joined : octets ≡ a.whole ++ rest

length_at-read : (long : Bool) (octets : List ℕ) (n : ℕ) (more : List ℕ) → AreOctets octets → length_at long octets ≡ Some (let told : ℕ × List ℕ = (n, more) in told) → (octets ≡ length_octets long n ++ more) × (n ≤ longest long)
length_at-read true [] n more fits h = absurd cc
length_at-read true (high ∷ []) n more fits h = absurd cc
length_at-read true (high ∷ low ∷ behind) n more fits h =
    let two : List ℕ = high ∷ low ∷ [] in
    let parts = some_pair_parts (from_be_bytes w16 two) n behind more h in
    let same : to_be_bytes w16 n ≡ two = be_bytes_2 two n refl (octets-take 2 (high ∷ low ∷ behind) fits) (sym parts.0) in
    (sym (ap (λ (octets : List ℕ). octets ++ more) same ∙ ap (λ (octets : List ℕ). two ++ octets) (sym parts.1)), omega (arith, fits 0, fits 1, parts.0))
length_at-read false [] n more fits h = absurd cc
length_at-read false (m ∷ behind) n more fits h =
    let parts = some_pair_parts m n behind more h in
    (ap (λ (k : ℕ). k ∷ behind) parts.0 ∙ ap (λ (octets : List ℕ). n ∷ octets) parts.1, omega (arith, fits 0, parts.0))

cut_read : (cut : Bool) (parts : List ℕ × List ℕ) (value rest : List ℕ) → (if cut then None else Some parts) ≡ Some (let read : List ℕ × List ℕ = (value, rest) in read) → (cut ≡ false) × (parts.0 ≡ value) × (parts.1 ≡ rest)
cut_read true parts value rest h = absurd cc
cut_read false parts value rest h = let same = some_pair_parts parts.0 value parts.1 rest h in (refl, same.0, same.1)

value_at-read : (told : ℕ × List ℕ) (value rest : List ℕ) → value_at told ≡ Some (let read : List ℕ × List ℕ = (value, rest) in read) → (told.1 ≡ value ++ rest) × (length value ≡ told.0)
value_at-read told value rest h =
    let parts : List ℕ × List ℕ = (take told.0 told.1, drop told.0 told.1) in
    let read = cut_read (nat_lt (length told.1) told.0) parts value rest h in
    let enough : told.0 ≤ length told.1 = ltb-false (length told.1) told.0 read.0 in (
      sym (take-append-drop told.0 told.1) ∙ (ap (λ (octets : List ℕ). octets ++ drop told.0 told.1) read.1 ∙ ap (λ (octets : List ℕ). value ++ octets) read.2),
      sym (ap length read.1) ∙ length-take-le told.0 told.1 enough,
    )

found_parts : (flags code : ℕ) (more : List ℕ) (o : Option (List ℕ × List ℕ)) (a : Attribute) (rest : List ℕ) → option_map (found_at flags code more) o ≡ Some (let found : Attribute × List ℕ = (a, rest) in found)
    → (parts : List ℕ × List ℕ) × (o ≡ Some parts) × (let found : Attribute × List ℕ = (a, rest) in found_at flags code more parts ≡ found)
found_parts flags code more None a rest h = absurd cc
found_parts flags code more (Some parts) a rest h = (parts, refl, cc)

found_of-read : (flags code : ℕ) (more told value rest : List ℕ) → length value ≤ longest (is_extended flags) → told ≡ length_octets (is_extended flags) (length value) → more ≡ told ++ (value ++ rest)
    → IsFound (flags ∷ code ∷ more) (found_at flags code more (let parts : List ℕ × List ℕ = (value, rest) in parts)).0 rest
found_of-read flags code more told value rest short is joined =
    let parts : List ℕ × List ℕ = (value, rest) in
    let whole : found_at flags code more parts ≡ (let found : Attribute × List ℕ = (record { flags = flags; code = code; value = value; whole = flags ∷ code ∷ (told ++ value) }, rest) in found) =
    ap (λ (octets : List ℕ). found_at flags code octets parts) joined ∙ found_whole flags code told value rest in
    let spelled : (found_at flags code more parts).0.whole ≡ flags ∷ code ∷ (told ++ value) = ap (λ (found : Attribute × List ℕ). found.0.whole) whole in
    record {
      attribute = record { short = short; spelled = spelled ∙ ap (λ (octets : List ℕ). flags ∷ code ∷ (octets ++ value)) is };
      joined = ap (λ (octets : List ℕ). flags ∷ code ∷ octets) (joined ∙ sym (append_assoc told value rest)) ∙ ap (λ (octets : List ℕ). octets ++ rest) (sym spelled);
    }

front_of-read : (flags code : ℕ) (more : List ℕ) (a : Attribute) (rest : List ℕ) → AreOctets more → front_of flags code more ≡ Some (let found : Attribute × List ℕ = (a, rest) in found) → IsFound (flags ∷ code ∷ more) a rest
unfolding front_of
front_of-read flags code more a rest fits h =
    let found = found_parts flags code more (option_and_then value_at (length_at (is_extended flags) more)) a rest h in
    option_and_then_some value_at (length_at (is_extended flags) more) found.0 found.1
    (λ told is read.
    let length_read = length_at-read (is_extended flags) more told.0 told.1 fits is in
    let value_read = value_at-read told found.0.0 found.0.1 read in
    let octets : List ℕ = length_octets (is_extended flags) told.0 in
    let here : IsFound (flags ∷ code ∷ more) (found_at flags code more found.0).0 found.0.1 =
    found_of-read flags code more octets found.0.0 found.0.1 (omega (arith, value_read.1, length_read.1)) (ap (length_octets (is_extended flags)) (sym value_read.1))
    (length_read.0 ∙ ap (λ (octets : List ℕ). length_octets (is_extended flags) told.0 ++ octets) value_read.0) in
    let P : Attribute × List ℕ → Type 0 = λ found. IsFound (flags ∷ code ∷ more) found.0 found.1 in
    subst P found.2 here)

attribute_at-read : (octets : List ℕ) (a : Attribute) (rest : List ℕ) → AreOctets octets → attribute_at octets ≡ Some (let found : Attribute × List ℕ = (a, rest) in found) → IsFound octets a rest
unfolding attribute_at front_of
attribute_at-read [] a rest fits h = absurd cc
attribute_at-read (flags ∷ []) a rest fits h = absurd cc
attribute_at-read (flags ∷ code ∷ more) a rest fits h = front_of-read flags code more a rest (λ i. fits (suc (suc i))) h

-- where nothing is found there is no attribute
none_found : (octets : List ℕ) → attribute_at octets ≡ None → (a : Attribute) (more : List ℕ) → IsAttribute a → octets ≡ a.whole ++ more → ⊥
none_found octets h a more is joined =
    let found : Attribute × List ℕ = (a, more) in
    none-some found (sym h ∙ (ap attribute_at joined ∙ attribute_at-spelled a more is))

split_more : (octets : List ℕ) (a : Attribute) (rest : List ℕ) (split : Split) → IsFound octets a rest → IsSplit rest split.0 split.1 → IsSplit octets (a ∷ split.0) split.1
split_more octets a rest split found is =
    record {
      each = (found.attribute, is.each);
      joined = found.joined ∙ (ap (λ (octets : List ℕ). a.whole ++ octets) is.joined ∙ sym (append_assoc a.whole (wholes split.0) split.1));
      none = is.none;
    }

split_found : (f : List ℕ → Split) (octets : List ℕ) (o : Option (Attribute × List ℕ)) → attribute_at octets ≡ o → AreOctets octets
    → ((rest : List ℕ) → AreOctets rest → length rest < length octets → IsSplit rest (f rest).0 (f rest).1) → IsSplit octets (split_behind f octets o).0 (split_behind f octets o).1
split_found f octets None h fits all = record { each = tt; joined = refl; none = none_found octets h }
split_found f octets (Some found) h fits all =
    let read : IsFound octets found.0 found.1 = attribute_at-read octets found.0 found.1 fits h in
    let P : List ℕ → Type 0 = AreOctets in
    let rest_fits : AreOctets found.1 = octets-right found.0.whole found.1 (subst P read.joined fits) in
    split_more octets found.0 found.1 (f found.1) read (all found.1 rest_fits (shorter_at octets found.0 found.1 h))

split_within-read : (n : ℕ) (octets : List ℕ) → AreOctets octets → length octets ≤ n → IsSplit octets (split_within n octets).0 (split_within n octets).1
unfolding split_within attribute_at
split_within-read zero [] fits h = record { each = tt; joined = refl; none = none_found [] refl }
split_within-read zero (octet ∷ more) fits h = absurd (omega arith)
split_within-read (suc n) octets fits h = split_found (split_within n) octets (attribute_at octets) refl fits (λ rest fit shorter. split_within-read n rest fit (omega arith))

-- octets are split into their attributes and a rest
pub is_split : (octets : List ℕ) → AreOctets octets → IsSplit octets (split_of octets).0 (split_of octets).1
unfolding split_of
is_split octets fits = split_within-read (length octets) octets fits (omega arith)

rest_alone : (rest : List ℕ) (o : Option (Attribute × List ℕ)) → attribute_at rest ≡ o → AreOctets rest → ((a : Attribute) (more : List ℕ) → IsAttribute a → rest ≡ a.whole ++ more → ⊥) → split_of rest ≡ (let split : Split = ([], rest) in split)
rest_alone rest None h fits none = split_of-none rest h
rest_alone rest (Some found) h fits none =
    let read : IsFound rest found.0 found.1 = attribute_at-read rest found.0 found.1 fits h in
    absurd (none found.0 found.1 read.attribute read.joined)

-- and in no other way
pub one_split : (octets : List ℕ) (attributes : List Attribute) (rest : List ℕ) → AreOctets octets → IsSplit octets attributes rest → split_of octets ≡ (attributes, rest)
one_split octets attributes rest fits is =
    let P : List ℕ → Type 0 = AreOctets in
    let rest_fits : AreOctets rest = octets-right (wholes attributes) rest (subst P is.joined fits) in
    ap split_of is.joined
    ∙ (split_of-front attributes rest is.each
    ∙ (ap (λ (s : Split). let split : Split = (attributes ++ s.0, s.1) in split) (rest_alone rest (attribute_at rest) refl rest_fits is.none)
    ∙ ap (λ (front : List Attribute). let split : Split = (front, rest) in split) (append-nil attributes)))
