use Rattle.std.proofs.Common.{◌≡◌, ℕ, zero, suc, ◌-◌, ◌≤◌, ◌<◌, Bool, true, false, if◌then◌else◌, List, [], ◌∷◌, length, drop, take, Option, Some, None, refl, sym, ◌∙◌, ap, arith, nat_lt, nat_eq, length-drop}
use Rattle.std.proofs.lemmas.Bool.{eqb-true}
use Rattle.std.specs.Option.{option_and_then}
use Rattle.bgp_msg.specs.MessageSpelling.{Part, part_at, before, parts_within, parts_of, or_else, asn_told, first_asn}
use Rattle.bgp_msg.specs.OpenParts.{asn_behind, parameter_behind, parameters_behind}

-- Parts read one after another, as a loop does.

-- what a choice with `None` has
pub cond_some : {X : Type 0} (b : Bool) (x y : X) → (if b then None else Some x) ≡ Some y → x ≡ y
cond_some true x y h = cc
cond_some false x y h = cc

-- what is behind a part is shorter
shorter : (octets : List ℕ) (found : Part × List ℕ) → part_at octets ≡ Some found → length found.1 < length octets
shorter [] found h = cc
shorter (kind ∷ []) found h = cc
shorter (kind ∷ told ∷ rest) found h =
    let e : (record { kind = kind; value = take told rest }, drop told rest) ≡ found = cond_some (nat_lt (length rest) told) _ _ h in
    let d : length (drop told rest) ≡ length found.1 = ap (λ (x : Part × List ℕ). length x.1) e in
    let k : length (drop told rest) ≡ length rest - told = length-drop told rest in
    omega (arith, d, k)

-- the same parts behind a part are the same parts
same_behind : (found : Option (Part × List ℕ)) (n m : ℕ) → ((x : Part × List ℕ) → found ≡ Some x → parts_within n x.1 ≡ parts_within m x.1)
    → option_and_then (λ x. before x.0 (parts_within n x.1)) found ≡ option_and_then (λ x. before x.0 (parts_within m x.1)) found
same_behind None n m h = refl
same_behind (Some x) n m h = ap (before x.0) (h x refl)

-- more room than octets changes nothing
pub parts_within-more : (n m : ℕ) (octets : List ℕ) → length octets ≤ n → length octets ≤ m → parts_within n octets ≡ parts_within m octets
unfolding parts_within
parts_within-more n m [] p q = refl
parts_within-more zero m (o ∷ os) p q = absurd (omega (arith, p))
parts_within-more (suc n) zero (o ∷ os) p q = absurd (omega (arith, q))
parts_within-more (suc n) (suc m) (o ∷ os) p q =
    same_behind (part_at (o ∷ os)) n m (λ x e.
    let s : length x.1 < length (o ∷ os) = shorter (o ∷ os) x e in
    parts_within-more n m x.1 (omega (arith, p, s)) (omega (arith, q, s)))

-- the parts from one on
pub parts_of-step : (octets : List ℕ) (part : Part) (behind : List ℕ) → part_at octets ≡ Some (part, behind) → parts_of octets ≡ before part (parts_of behind)
unfolding parts_within
parts_of-step [] part behind h = cc
parts_of-step (o ∷ os) part behind h =
    let s : length behind < length (o ∷ os) = shorter (o ∷ os) (part, behind) h in
    ap (option_and_then (λ (x : Part × List ℕ). before x.0 (parts_within (length os) x.1))) h
    ∙ ap (before part) (parts_within-more (length os) (length behind) behind (omega (arith, s)) (omega arith))

-- octets that begin with a part that is cut off are no parts
pub parts_of-cut : (octets : List ℕ) → false ≡ nat_eq (length octets) 0 → part_at octets ≡ None → parts_of octets ≡ None
unfolding parts_within
parts_of-cut [] some h = cc
parts_of-cut (o ∷ os) some h = ap (option_and_then (λ (x : Part × List ℕ). before x.0 (parts_within (length os) x.1))) h

pub parts_of-nil : (octets : List ℕ) → true ≡ nat_eq (length octets) 0 → parts_of octets ≡ Some []
unfolding parts_within
parts_of-nil [] h = refl
parts_of-nil (o ∷ os) h =
    let k : length (o ∷ os) ≡ 0 = eqb-true _ _ (sym h) in
    absurd (omega (arith, k))

pub or_else-assoc : (a b c : Option ℕ) → or_else (or_else a b) c ≡ or_else a (or_else b c)
or_else-assoc None b c = refl
or_else-assoc (Some x) b c = refl

pub or_else-none : (a : Option ℕ) → or_else a None ≡ a
or_else-none None = refl
or_else-none (Some x) = refl

asn_behind-step : (asn : Option ℕ) (part : Part) (parts : Option (List Part)) → asn_behind asn (before part parts) ≡ asn_behind (or_else asn (asn_told part)) parts
asn_behind-step asn part None = refl
asn_behind-step asn part (Some parts) = ap Some (sym (or_else-assoc asn (asn_told part) (first_asn parts)))

-- the loop over capabilities: one more, one that is cut off, none left
pub asn-goes_on : (asn next : Option ℕ) (octets behind : List ℕ) (part : Part) (total : Option (Option ℕ)) → part_at octets ≡ Some (part, behind) → next ≡ or_else asn (asn_told part)
    → asn_behind asn (parts_of octets) ≡ total → asn_behind next (parts_of behind) ≡ total
asn-goes_on asn next octets behind part total h k so_far =
    ap (λ (x : Option ℕ). asn_behind x (parts_of behind)) k ∙ sym (asn_behind-step asn part (parts_of behind)) ∙ ap (asn_behind asn) (sym (parts_of-step octets part behind h)) ∙ so_far

pub asn-cut : (asn : Option ℕ) (octets : List ℕ) (total : Option (Option ℕ)) → false ≡ nat_eq (length octets) 0 → part_at octets ≡ None → asn_behind asn (parts_of octets) ≡ total → total ≡ None
asn-cut asn octets total some h so_far = sym so_far ∙ ap (asn_behind asn) (parts_of-cut octets some h)

pub asn-done : (asn : Option ℕ) (octets : List ℕ) (total : Option (Option ℕ)) → true ≡ nat_eq (length octets) 0 → asn_behind asn (parts_of octets) ≡ total → total ≡ Some asn
asn-done asn octets total h so_far = sym so_far ∙ ap (asn_behind asn) (parts_of-nil octets h) ∙ ap Some (or_else-none asn)

none_behind : (told : Option (Bool × Option ℕ)) → None ≡ option_and_then {U = Bool × Option ℕ} (λ next. None) told
none_behind None = refl
none_behind (Some x) = refl

parameters-step : (told : Bool × Option ℕ) (part : Part) (parts : Option (List Part)) → option_and_then (parameters_behind told) (before part parts) ≡ option_and_then (λ next. option_and_then (parameters_behind next) parts) (parameter_behind told part)
parameters-step told part None = none_behind (parameter_behind told part)
parameters-step told part (Some parts) = refl

-- the loop over parameters: one more, one that is malformed, one that is cut off, none left
pub parameters-goes_on : (told next : Bool × Option ℕ) (octets behind : List ℕ) (part : Part) (total : Option (Bool × Option ℕ)) → part_at octets ≡ Some (part, behind) → parameter_behind told part ≡ Some next
    → option_and_then (parameters_behind told) (parts_of octets) ≡ total → option_and_then (parameters_behind next) (parts_of behind) ≡ total
parameters-goes_on told next octets behind part total h k so_far =
    sym (ap (option_and_then (λ (x : Bool × Option ℕ). option_and_then (parameters_behind x) (parts_of behind))) k) ∙ sym (parameters-step told part (parts_of behind))
    ∙ ap (option_and_then (parameters_behind told)) (sym (parts_of-step octets part behind h)) ∙ so_far

pub parameters-malformed : (told : Bool × Option ℕ) (octets behind : List ℕ) (part : Part) (total : Option (Bool × Option ℕ)) → part_at octets ≡ Some (part, behind) → parameter_behind told part ≡ None
    → option_and_then (parameters_behind told) (parts_of octets) ≡ total → total ≡ None
parameters-malformed told octets behind part total h k so_far =
    sym so_far ∙ ap (option_and_then (parameters_behind told)) (parts_of-step octets part behind h) ∙ parameters-step told part (parts_of behind)
    ∙ ap (option_and_then (λ (x : Bool × Option ℕ). option_and_then (parameters_behind x) (parts_of behind))) k

pub parameters-cut : (told : Bool × Option ℕ) (octets : List ℕ) (total : Option (Bool × Option ℕ)) → false ≡ nat_eq (length octets) 0 → part_at octets ≡ None → option_and_then (parameters_behind told) (parts_of octets) ≡ total → total ≡ None
parameters-cut told octets total some h so_far = sym so_far ∙ ap (option_and_then (parameters_behind told)) (parts_of-cut octets some h)

pub parameters-done : (told : Bool × Option ℕ) (octets : List ℕ) (total : Option (Bool × Option ℕ)) → true ≡ nat_eq (length octets) 0 → option_and_then (parameters_behind told) (parts_of octets) ≡ total → total ≡ Some told
parameters-done told octets total h so_far = sym so_far ∙ ap (option_and_then (parameters_behind told)) (parts_of-nil octets h)
