use Rattle.std.proofs.Common.{◌≡◌, ◌≤◌, ◌<◌, Bool, true, false, ℕ, zero, suc, List, [], ◌∷◌, length, take, drop, length-drop, nat_lt, if◌then◌else◌, IfSome, Option, Some, None, arith, refl, sym, ap, subst, ◌∙◌}
use Rattle.std.proofs.lemmas.Bool.{eqb-true}
use Rattle.std.specs.Option.{option_map, option_and_then}
use Rattle.std.specs.Prelude.{◌==◌}
use Rattle.bgp_attr.specs.ReceivedAttributes.{Attribute, Split, attribute_at, split_behind, split_of, split_within, length_at, value_at, found_at, is_extended, found_of}

-- How octets are split into attributes.

-- what a test for octets says
pub some_octets : (octets : List ℕ) (empty : Bool) → empty ≡ (length octets == 0) → empty ≡ false → 0 < length octets
some_octets [] empty is h = absurd cc
some_octets (octet ∷ more) empty is h = omega arith

pub no_octets : (octets : List ℕ) (empty : Bool) → empty ≡ (length octets == 0) → empty ≡ true → length octets ≤ 0
no_octets octets empty is h = omega (arith, eqb-true (length octets) 0 (sym is ∙ h))

length_at_shorter : (long : Bool) (octets : List ℕ) → IfSome (length_at long octets) (λ told. length told.1 ≤ length octets)
length_at_shorter true [] = tt
length_at_shorter true (high ∷ []) = tt
length_at_shorter true (high ∷ low ∷ more) = omega arith
length_at_shorter false [] = tt
length_at_shorter false (n ∷ more) = omega arith

cut_within : (cut : Bool) (n : ℕ) (octets more : List ℕ) → length octets ≤ length more → IfSome {T = List ℕ × List ℕ} (if cut then None else Some (take n octets, drop n octets)) (λ parts. length parts.1 ≤ length more)
cut_within true n octets more h = tt
cut_within false n octets more h = omega (arith, length-drop n octets)

found_shorter : (flags code : ℕ) (more : List ℕ) (parts : Option (List ℕ × List ℕ)) → IfSome parts (λ p. length p.1 ≤ length more) → IfSome (option_map (found_at flags code more) parts) (λ found. length found.1 < suc (suc (length more)))
found_shorter flags code more None h = tt
found_shorter flags code more (Some p) h = omega arith

value_shorter : (flags code : ℕ) (more : List ℕ) (told : Option (ℕ × List ℕ)) → IfSome told (λ t. length t.1 ≤ length more)
    → IfSome (option_map (found_at flags code more) (option_and_then value_at told)) (λ found. length found.1 < suc (suc (length more)))
value_shorter flags code more None h = tt
value_shorter flags code more (Some t) h = found_shorter flags code more (value_at t) (cut_within (nat_lt (length t.1) t.0) t.0 t.1 more h)

-- what is behind an attribute is shorter
pub attribute_at_shorter : (octets : List ℕ) → IfSome (attribute_at octets) (λ found. length found.1 < length octets)
unfolding attribute_at
attribute_at_shorter [] = tt
attribute_at_shorter (flags ∷ []) = tt
attribute_at_shorter (flags ∷ code ∷ more) = value_shorter flags code more (length_at (is_extended flags) more) (length_at_shorter (is_extended flags) more)

pub shorter_at : (octets : List ℕ) (a : Attribute) (rest : List ℕ) → attribute_at octets ≡ Some (a, rest) → length rest < length octets
shorter_at octets a rest h = let P : Option (Attribute × List ℕ) → Type 0 = λ o. IfSome o (λ found. length found.1 < length octets) in subst P h (attribute_at_shorter octets)

behind_alike : (f g : List ℕ → Split) (octets : List ℕ) (o : Option (Attribute × List ℕ)) → IfSome o (λ found. length found.1 < length octets)
    → ((rest : List ℕ) → length rest < length octets → f rest ≡ g rest) → split_behind f octets o ≡ split_behind g octets o
behind_alike f g octets None h same = refl
behind_alike f g octets (Some found) h same = ap (λ (s : Split). (found.0 ∷ s.0, s.1)) (same found.1 h)

-- the number of attributes that are allowed does not matter once it is that of the octets
split_within-enough : (n m : ℕ) (octets : List ℕ) → length octets ≤ n → length octets ≤ m → split_within n octets ≡ split_within m octets
unfolding split_within attribute_at
split_within-enough zero zero octets h k = refl
split_within-enough zero (suc m) [] h k = refl
split_within-enough zero (suc m) (octet ∷ more) h k = absurd (omega arith)
split_within-enough (suc n) zero [] h k = refl
split_within-enough (suc n) zero (octet ∷ more) h k = absurd (omega arith)
split_within-enough (suc n) (suc m) octets h k =
    behind_alike (split_within n) (split_within m) octets (attribute_at octets) (attribute_at_shorter octets)
    (λ rest shorter. split_within-enough n m rest (omega arith) (omega arith))

-- where no attribute is at the front, nothing is split off
pub split_of-none : (octets : List ℕ) → attribute_at octets ≡ None → split_of octets ≡ ([], octets)
unfolding split_of split_within
split_of-none octets h =
    split_within-enough (length octets) (suc (length octets)) octets (omega arith) (omega arith)
    ∙ ap (λ (o : Option (Attribute × List ℕ)). split_behind (split_within (length octets)) octets o) h

-- the attribute at the front, and what is behind it
pub split_of-some : (octets : List ℕ) (a : Attribute) (rest : List ℕ) → attribute_at octets ≡ Some (a, rest) → split_of octets ≡ (a ∷ (split_of rest).0, (split_of rest).1)
unfolding split_of split_within
split_of-some octets a rest h =
    let shorter : length rest < length octets = shorter_at octets a rest h in
    split_within-enough (length octets) (suc (length octets)) octets (omega arith) (omega arith)
    ∙ (ap (λ (o : Option (Attribute × List ℕ)). split_behind (split_within (length octets)) octets o) h
    ∙ ap (λ (s : Split). (a ∷ s.0, s.1)) (split_within-enough (length octets) (length rest) rest (omega arith) (omega arith)))

-- what holds of the attributes in front holds of one and those behind it
pub behind_some : {T : Type 0} (f : List Attribute → T) (octets : List ℕ) (a : Attribute) (rest : List ℕ) → attribute_at octets ≡ Some (a, rest) → f (split_of octets).0 ≡ f (a ∷ (split_of rest).0)
behind_some f octets a rest h = ap (λ (s : Split). f s.0) (split_of-some octets a rest h)

pub behind_none : {T : Type 0} (f : List Attribute → T) (octets : List ℕ) → attribute_at octets ≡ None → f (split_of octets).0 ≡ f []
behind_none f octets h = ap (λ (s : Split). f s.0) (split_of-none octets h)

-- the attribute of a code behind one of another code, and of its own code
pub found_of-other : (code : ℕ) (octets : List ℕ) (a : Attribute) (rest : List ℕ) → attribute_at octets ≡ Some (a, rest) → (a.code ≡ code → ⊥) → found_of code (split_of octets).0 ≡ found_of code (split_of rest).0
found_of-other code octets a rest h other = behind_some (found_of code) octets a rest h ∙ grind arith

pub found_of-own : (code : ℕ) (octets : List ℕ) (a : Attribute) (rest : List ℕ) → attribute_at octets ≡ Some (a, rest) → a.code ≡ code → found_of code (split_of octets).0 ≡ Some a
found_of-own code octets a rest h own = behind_some (found_of code) octets a rest h ∙ grind arith

pub found_of-none : (code : ℕ) (octets : List ℕ) → attribute_at octets ≡ None → found_of code (split_of octets).0 ≡ None
found_of-none code octets h = behind_none (found_of code) octets h
