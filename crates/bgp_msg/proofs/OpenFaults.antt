use Rattle.std.proofs.Common.{◌≡◌, ℕ, ◌+◌, ◌≤◌, ◌==◌, ◌||◌, ◌&&◌, not, Bool, true, false, if◌then◌else◌, List, [], ◌∷◌, ◌++◌, length, drop, take, slice_index, Option, Some, None, is_none, refl, sym, ◌∙◌, ap, arith, nat_lt, nat_eq, length-append}
use Rattle.std.specs.Option.{option_map, option_and_then}
use Rattle.std.specs.List.{list_all}
use Rattle.std.proofs.lemmas.Bool.{le-ltb, ltb-false, eq-eqb, ne_eqb}
use Rattle.std.proofs.lemmas.List.{take_at, drop_at, take-append-drop, length-take-le}
use Rattle.bgp_msg.specs.declared.fault.OpenFault.{OpenFault}
use Rattle.bgp_msg.specs.declared.fault.OpenFault.TheVariants.{MalformedParameters, UnsupportedVersion, BadPeerAs, BadIdentifier, UnsupportedParameter, UnacceptableHoldTime, UnsupportedCapability}
use Rattle.bgp_msg.specs.declared.open_message.Expected.{Expected}
use Rattle.bgp_msg.specs.MessageSpelling.{Part, part_at, before, parts_within, parts_of, parts_form, or_else, asn_told, first_asn, capabilities_of}
use Rattle.bgp_msg.specs.MessageFaults.{first_fault, is_other, has_other_parameter, hold_time_at, identifier_at, open_fault}
use Rattle.bgp_msg.specs.OpenParts.{parameters_behind, parameters_of, told_fault, proposal_fault, fault_found}
use Rattle.bgp_msg.proofs.OpenParts.{parts_of-step, parts_of-cut, or_else-assoc, or_else-none}

-- The reader of an OPEN finds its first fault.

-- what capabilities tell behind others
abbrev told_with : Bool → Option ℕ → List Part → Bool × Option ℕ
told_with only asn capabilities = (only, or_else asn (first_asn capabilities))

first_asn-append : (capabilities more : List Part) → first_asn (capabilities ++ more) ≡ or_else (first_asn capabilities) (first_asn more)
first_asn-append [] more = refl
first_asn-append (capability ∷ capabilities) more =
    ap (or_else (asn_told capability)) (first_asn-append capabilities more)
    ∙ sym (or_else-assoc (asn_told capability) (first_asn capabilities) (first_asn more))

and-true : (a : Bool) → (a && true) ≡ a
and-true true = refl
and-true false = refl

and-false : (a b : Bool) → (a && (false && b)) ≡ false
and-false true b = refl
and-false false b = refl

-- one parameter more, of a type by its test
with_capabilities :
    (only : Bool) (asn : Option ℕ) (found : List Part) (more : Option (List Part))
    → option_map (told_with only (or_else asn (first_asn found))) more
    ≡ option_map (told_with only asn) (option_map (λ (others : List Part). found ++ others) more)
with_capabilities only asn found None = refl
with_capabilities only asn found (Some more) =
    ap (λ (x : Option ℕ). Some (only, x)) (or_else-assoc asn (first_asn found) (first_asn more) ∙ ap (or_else asn) (sym (first_asn-append found more)))

nothing_before : (f : List Part → Bool × Option ℕ) (more : Option (List Part)) → option_map f more ≡ option_map f (option_map (λ (others : List Part). [] ++ others) more)
nothing_before f None = refl
nothing_before f (Some more) = refl

nothing_told : (f : List Part → Bool × Option ℕ) → (more : Option (List Part)) → None ≡ option_map f (option_and_then {U = List Part} (λ (first : List Part). None) more)
nothing_told f None = refl
nothing_told f (Some more) = refl

behind_by_type :
    (told : Bool × Option ℕ) (parameter : Part) (parameters : List Part) (test : Bool) (found : Option (List Part)) → (parameter.kind == 2) ≡ test
    → parts_of parameter.value ≡ found
    → ((next : Bool × Option ℕ) → parameters_behind next parameters ≡ option_map (told_with (next.0 && list_all (λ p. p.kind == 2) parameters) next.1) (capabilities_of parameters))
    → parameters_behind told (parameter ∷ parameters) ≡ option_map (told_with (told.0 && list_all (λ p. p.kind == 2) (parameter ∷ parameters)) told.1) (capabilities_of (parameter ∷ parameters))
behind_by_type told parameter parameters true None kind parts again = rw (kind, parts) refl
behind_by_type told parameter parameters true (Some found) kind parts again =
    let others = list_all (λ (p : Part). p.kind == 2) parameters in
    let step = again (told.0, or_else told.1 (first_asn found)) ∙ with_capabilities (told.0 && others) told.1 found (capabilities_of parameters) in
    rw (kind, parts) step
behind_by_type told parameter parameters false found kind parts again =
    let others = list_all (λ (p : Part). p.kind == 2) parameters in
    let step = again (false, told.1) ∙ ap (λ (b : Bool). option_map (told_with b told.1) (capabilities_of parameters)) (sym (and-false told.0 others)) ∙ nothing_before (told_with (told.0 && (false && others)) told.1) (capabilities_of parameters) in
    rw kind step

behind_is :
    (parameters : List Part) (told : Bool × Option ℕ)
    → parameters_behind told parameters ≡ option_map (told_with (told.0 && list_all (λ p. p.kind == 2) parameters) told.1) (capabilities_of parameters)
behind_is [] told = ap (λ (b : Bool). Some (b, told.1)) (sym (and-true told.0)) ∙ ap (λ (asn : Option ℕ). Some (told.0 && true, asn)) (sym (or_else-none told.1))
behind_is (parameter ∷ parameters) told = behind_by_type told parameter parameters _ _ refl refl (behind_is parameters)

none_is_some : {X : Type 0} (x : X) → None ≡ Some x → ⊥
none_is_some x e = absurd cc

abbrev with_rest : List ℕ → Part → Part × List ℕ
with_rest rest part = (part, rest)

found_parts : (kind : ℕ) (value rest : List ℕ) (part : Part) (behind : List ℕ) → Some (with_rest rest (record { kind = kind; value = value })) ≡ Some (part, behind)
    → (record { kind = kind; value = value } ≡ part) × (rest ≡ behind)
found_parts kind value rest part behind h =
    let same : with_rest rest (record { kind = kind; value = value }) ≡ (part, behind) = cc in
    (ap (λ (x : Part × List ℕ). x.0) same, ap (λ (x : Part × List ℕ). x.1) same)

no_part_is_left : (part : Part) (more : Option (List Part)) → before part more ≡ Some [] → ⊥
no_part_is_left part None h = absurd cc
no_part_is_left part (Some more) h = absurd cc

before_parts : (found : Part) (more : Option (List Part)) (part : Part) (parts : List Part) → before found more ≡ Some (part ∷ parts) → (found ≡ part) × (more ≡ Some parts)
before_parts found None part parts h = absurd cc
before_parts found (Some more) part parts h =
    let lists : found ∷ more ≡ part ∷ parts = cc in
    let first : found ≡ part = cc in
    let others : more ≡ parts = cc in
    (first, ap Some others)

no_parts : (part : Part) (parts : List Part) → Some [] ≡ Some (part ∷ parts) → ⊥
no_parts part parts h = absurd cc

-- the rows behind the version, by what was read
abbrev rows_of : Option (List Part) → ℕ → ℕ → Expected → Option OpenFault
rows_of parameters hold_time identifier expected =
    first_fault
    ((is_none (option_and_then capabilities_of parameters), MalformedParameters)
    ∷ (has_other_parameter parameters, UnsupportedParameter)
    ∷ (is_none (option_and_then first_asn (option_and_then capabilities_of parameters)), UnsupportedCapability expected.own_asn)
    ∷ (is_other (option_and_then first_asn (option_and_then capabilities_of parameters)) expected.peer_asn.0, BadPeerAs)
    ∷ (identifier == 0 || identifier == expected.own_identifier, BadIdentifier)
    ∷ (hold_time == 1 || hold_time == 2, UnacceptableHoldTime)
    ∷ [])

rows_by_capabilities :
    (parameters : List Part) (found : Option (List Part)) (hold_time identifier : ℕ) (expected : Expected) → capabilities_of parameters ≡ found
    → told_fault (option_map (told_with (list_all (λ p. p.kind == 2) parameters) None) found) hold_time identifier expected ≡ rows_of (Some parameters) hold_time identifier expected
unfolding proposal_fault
rows_by_capabilities parameters None hold_time identifier expected is = rw is refl
rows_by_capabilities parameters (Some capabilities) hold_time identifier expected is = rw is refl

rows_by_parameters :
    (parameters : Option (List Part)) (hold_time identifier : ℕ) (expected : Expected)
    → told_fault (option_and_then (parameters_behind (true, None)) parameters) hold_time identifier expected ≡ rows_of parameters hold_time identifier expected
rows_by_parameters None hold_time identifier expected = refl
rows_by_parameters (Some parameters) hold_time identifier expected =
    ap (λ (told : Option (Bool × Option ℕ)). told_fault told hold_time identifier expected) (behind_is parameters (true, None))
    ∙ rows_by_capabilities parameters _ hold_time identifier expected refl

by_length :
    (all : Bool) (octets : List ℕ) (hold_time identifier : ℕ) (expected : Expected)
    → (if not all then Some MalformedParameters else told_fault (parameters_of octets) hold_time identifier expected)
    ≡ rows_of (if all then parts_of octets else None) hold_time identifier expected
unfolding parameters_of
by_length true octets hold_time identifier expected = rows_by_parameters (parts_of octets) hold_time identifier expected
by_length false octets hold_time identifier expected = refl

-- what the reader finds is the first fault
pub found_is_first : (body : List ℕ) (expected : Expected) → fault_found body expected ≡ open_fault body expected
unfolding fault_found open_fault
found_is_first body expected =
    ap (λ (x : Option OpenFault). if nat_lt (length body) 10 then Some MalformedParameters else (if not (slice_index body 0 == 4) then Some UnsupportedVersion else x))
    (by_length (slice_index body 9 + 10 == length body) (drop 10 body) (hold_time_at body) (identifier_at body) expected)

-- parts are read exactly from their form
part_by_fit :
    (kind told : ℕ) (rest : List ℕ) (cut : Bool) (part : Part) (behind : List ℕ) → nat_lt (length rest) told ≡ cut
    → part_at (kind ∷ told ∷ rest) ≡ Some (part, behind) → kind ∷ told ∷ rest ≡ part.kind ∷ length part.value ∷ (part.value ++ behind)
part_by_fit kind told rest true part behind is h = absurd (none_is_some _ (rw is at h))
part_by_fit kind told rest false part behind is h =
    let same = found_parts kind (take told rest) (drop told rest) part behind (rw is at h) in
    let count : length (take told rest) ≡ told = length-take-le told rest (ltb-false (length rest) told is) in
    let all : take told rest ++ drop told rest ≡ rest = take-append-drop told rest in
    ap (λ (x : List ℕ). kind ∷ told ∷ x) (sym all) ∙ ap (λ (n : ℕ). kind ∷ n ∷ (take told rest ++ drop told rest)) (sym count)
    ∙ ap (λ (x : Part). x.kind ∷ length x.value ∷ (x.value ++ drop told rest)) same.0 ∙ ap (λ (x : List ℕ). part.kind ∷ length part.value ∷ (part.value ++ x)) same.1

form-part_at : (octets : List ℕ) (part : Part) (behind : List ℕ) → part_at octets ≡ Some (part, behind) → octets ≡ part.kind ∷ length part.value ∷ (part.value ++ behind)
form-part_at [] part behind h = absurd cc
form-part_at (kind ∷ []) part behind h = absurd cc
form-part_at (kind ∷ told ∷ rest) part behind h = part_by_fit kind told rest _ part behind refl h

some_octets : (octet : ℕ) (octets : List ℕ) → false ≡ nat_eq (length (octet ∷ octets)) 0
some_octets octet octets = sym (ne_eqb (length (octet ∷ octets)) 0 (λ e. omega (arith, e)))

nothing_left : (octets : List ℕ) (found : Option (Part × List ℕ)) → part_at octets ≡ found → parts_of octets ≡ Some [] → octets ≡ []
unfolding parts_within
nothing_left [] found is h = refl
nothing_left (octet ∷ octets) None is h = absurd (none_is_some _ (sym (parts_of-cut (octet ∷ octets) (some_octets octet octets) is) ∙ h))
nothing_left (octet ∷ octets) (Some found) is h = absurd (no_part_is_left found.0 (parts_of found.1) (sym (parts_of-step (octet ∷ octets) found.0 found.1 is) ∙ h))

first_part :
    (octets : List ℕ) (part : Part) (parts : List Part) (found : Option (Part × List ℕ)) → part_at octets ≡ found → parts_of octets ≡ Some (part ∷ parts)
    → (behind : List ℕ) × (octets ≡ part.kind ∷ length part.value ∷ (part.value ++ behind)) × (parts_of behind ≡ Some parts)
unfolding parts_within
first_part [] part parts found is h = absurd (no_parts part parts h)
first_part (octet ∷ octets) part parts None is h = absurd (none_is_some _ (sym (parts_of-cut (octet ∷ octets) (some_octets octet octets) is) ∙ h))
first_part (octet ∷ octets) part parts (Some found) is h =
    let same = before_parts found.0 (parts_of found.1) part parts (sym (parts_of-step (octet ∷ octets) found.0 found.1 is) ∙ h) in
    (found.1, form-part_at (octet ∷ octets) part found.1 (is ∙ ap (λ (x : Part). Some (x, found.1)) same.0), same.1)

pub form_from_parts : (octets : List ℕ) (parts : List Part) → parts_of octets ≡ Some parts → octets ≡ parts_form parts
form_from_parts octets [] h = nothing_left octets _ refl h
form_from_parts octets (part ∷ parts) h =
    let first = first_part octets part parts _ refl h in
    first.1 ∙ ap (λ (x : List ℕ). part.kind ∷ length part.value ∷ (part.value ++ x)) (form_from_parts first.0 parts first.2)

part_at-form : (part : Part) (more : List ℕ) → part_at (part.kind ∷ length part.value ∷ (part.value ++ more)) ≡ Some (part, more)
part_at-form part more =
    let fits : nat_lt (length (part.value ++ more)) (length part.value) ≡ false = le-ltb (length (part.value ++ more)) (length part.value) (omega (arith, length-append part.value more)) in
    let front : take (length part.value) (part.value ++ more) ≡ part.value = take_at part.value more (length part.value) refl in
    let back : drop (length part.value) (part.value ++ more) ≡ more = drop_at part.value more (length part.value) refl in
    rw (fits, front, back) refl

form_read : (parts : List Part) → parts_of (parts_form parts) ≡ Some parts
unfolding parts_within
form_read [] = refl
form_read (part ∷ parts) = parts_of-step (parts_form (part ∷ parts)) part (parts_form parts) (part_at-form part (parts_form parts)) ∙ ap (before part) (form_read parts)

pub parts_from_form : (octets : List ℕ) (parts : List Part) → octets ≡ parts_form parts → parts_of octets ≡ Some parts
parts_from_form octets parts h = ap parts_of h ∙ form_read parts

-- where the version is spoken and the parameters are read, the proposal is judged
pub found-proposal :
    (body : List ℕ) (expected : Expected) (told : Bool × Option ℕ) (hold_time identifier : ℕ) → 10 ≤ length body → slice_index body 0 ≡ 4
    → slice_index body 9 + 10 ≡ length body → parameters_of (drop 10 body) ≡ Some told → hold_time ≡ hold_time_at body → identifier ≡ identifier_at body
    → fault_found body expected ≡ proposal_fault told hold_time identifier expected
unfolding fault_found
found-proposal body expected told hold_time identifier long version ends parameters hold_time_is identifier_is =
    let fixed : nat_lt (length body) 10 ≡ false = le-ltb (length body) 10 long in
    let spoken : (slice_index body 0 == 4) ≡ true = eq-eqb (slice_index body 0) 4 version in
    let whole : (slice_index body 9 + 10 == length body) ≡ true = eq-eqb (slice_index body 9 + 10) (length body) ends in
    rw (fixed, spoken, whole, parameters, hold_time_is, identifier_is) refl
