use Rattle.std.proofs.Common.{◌≡◌, ℕ, zero, suc, ◌+◌, ◌≤◌, ◌<◌, Bool, true, false, if◌then◌else◌, List, [], ◌∷◌, ◌++◌, length, take, drop, Option, Some, None, option_map, All, Ok, length-append, subst, ◌^◌, refl, sym, ◌∙◌, ap, arith, nat_lt, nat_le, nat_eq, ◌==◌, length-drop}
use Rattle.std.proofs.lemmas.Bool.{eqb-true, eq-eqb, le-ltb, lt-ltb, ltb-false, leb-false, leb-true}
use Rattle.std.proofs.lemmas.List.{nil_from_length, length-take-le, drop_at}
use Rattle.net_prefix.specs.declared.fault.PrefixFault.{PrefixFault}
use Rattle.net_prefix.specs.declared.fault.PrefixFault.TheVariants.{LenOver32, HostBits, Text, Cut, MaxRange}
use Rattle.net_prefix.specs.declared.prefix.Prefix.{Prefix}
use Rattle.net_prefix.specs.Cover.{masked_bits}
use Rattle.net_prefix.specs.PrefixSpelling.{BeginsWith, BeginsWithNone, octets_for, address_from, address_octets, spelling_of}
use Rattle.net_prefix.proofs.Prefixes.{same_prefix}
use Rattle.net_prefix.proofs.Spellings.{reads_again}
use Rattle.bgp_msg.specs.MessageSpelling.{prefix_if, prefix_at, from_prefix, front_prefixes_within, front_prefixes, are_prefixes_in, prefixes_in, ArePrefixes, wire_form}

-- Prefixes read one after another, as a loop does.

abbrev bits_of : Option Prefix → ℕ
bits_of None = 0
bits_of (Some prefix) = prefix.bits

abbrev len_of : Option Prefix → ℕ
len_of None = 0
len_of (Some prefix) = prefix.len

cons_is_not_nil : (prefix : Prefix) (prefixes : List Prefix) → prefix ∷ prefixes ≡ [] → ⊥
cons_is_not_nil prefix prefixes h = absurd cc

same_cons : (p q : Prefix) (ps qs : List Prefix) → p ∷ ps ≡ q ∷ qs → (p ≡ q) × (ps ≡ qs)
same_cons p q ps qs h = (cc, cc)

suc_is : (n : ℕ) → suc n ≡ 1 + n
suc_is n = omega arith

some_is_not_none : {X : Type 0} (found : Option X) (x : X) → found ≡ Some x → found ≡ None → ⊥
some_is_not_none found x e f = absurd cc

-- a prefix by its length
prefix_if_small : (bits len : ℕ) (test : Bool) (e : nat_le len 32 ≡ test) (prefix : Prefix) → prefix.bits ≡ masked_bits bits len → prefix.len ≡ len → prefix_if bits len test e ≡ Some prefix
prefix_if_small bits len true e prefix bits_is len_is = ap Some (same_prefix _ prefix (sym bits_is) (sym len_is))
prefix_if_small bits len false e prefix bits_is len_is =
    let long : 32 < len = leb-false len 32 e in
    absurd (omega (arith, prefix.short, len_is, long))

prefix_if_long : (bits len : ℕ) (test : Bool) (e : nat_le len 32 ≡ test) → 32 < len → prefix_if bits len test e ≡ None
prefix_if_long bits len true e long =
    let small : len ≤ 32 = leb-true len 32 e in
    absurd (omega (arith, small, long))
prefix_if_long bits len false e long = refl

-- the prefix at the front
pub prefix_at-begins : (octets : List ℕ) (prefix : Prefix) (used : ℕ) → BeginsWith octets prefix.bits prefix.len used → prefix_at octets ≡ Some (prefix, drop used octets)
unfolding prefix_at
prefix_at-begins [] prefix used h = absurd (omega (arith, h.0))
prefix_at-begins (len ∷ rest) prefix used h =
    let l : prefix.len ≡ len = h.1 in
    let k : octets_for prefix.len ≡ octets_for len = ap octets_for l in
    let u : used ≡ suc (octets_for len) = omega (arith, k, h.3) in
    let room : octets_for len ≤ length rest = omega (arith, u, h.4) in
    let fits : nat_lt (length rest) (octets_for len) ≡ false = le-ltb (length rest) (octets_for len) room in
    let bits_is : prefix.bits ≡ masked_bits (address_from (take (octets_for len) rest)) len = h.5 ∙ ap (λ (n : ℕ). masked_bits (address_from (take (octets_for n) rest)) n) l in
    let there : prefix_if (address_from (take (octets_for len) rest)) len (nat_le len 32) refl ≡ Some prefix = prefix_if_small _ len _ refl prefix bits_is l in
    rw (fits, there, u) refl

either_none : {X : Type 0} (b : Bool) (x : Option X) → x ≡ None → (if b then None else x) ≡ None
either_none true x h = refl
either_none false x h = h

pub prefix_at-none : (octets : List ℕ) (fault : PrefixFault) → BeginsWithNone octets fault → prefix_at octets ≡ None
unfolding prefix_at
prefix_at-none [] fault h = refl
prefix_at-none (len ∷ rest) LenOver32 h =
    let none : prefix_if (address_from (take (octets_for len) rest)) len (nat_le len 32) refl ≡ None = prefix_if_long _ len _ refl h.1 in
    either_none (nat_lt (length rest) (octets_for len)) _ (rw none refl)
prefix_at-none (len ∷ rest) HostBits h = absurd h
prefix_at-none (len ∷ rest) Text h = absurd h
prefix_at-none (len ∷ rest) MaxRange h = absurd h
prefix_at-none (len ∷ rest) Cut h =
    let short : length (len ∷ rest) < 1 + octets_for len = h.1 in
    let cut : nat_lt (length rest) (octets_for len) ≡ true = lt-ltb (length rest) (octets_for len) (omega (arith, short)) in
    rw cut refl

-- what is behind a prefix is shorter
behind_is :
    (b : Bool) (x : Option Prefix) (behind : List ℕ) (found : Prefix × List ℕ)
    → (if b then None else option_map (λ (prefix : Prefix). (prefix, behind)) x) ≡ Some found → behind ≡ found.1
behind_is true x behind found h = absurd cc
behind_is false None behind found h = absurd cc
behind_is false (Some prefix) behind found h =
    let e : (prefix, behind) ≡ found = cc in
    ap (λ (x : Prefix × List ℕ). x.1) e

pub prefix_at-shorter : (octets : List ℕ) (found : Prefix × List ℕ) → prefix_at octets ≡ Some found → length found.1 < length octets
unfolding prefix_at
prefix_at-shorter [] found h = absurd cc
prefix_at-shorter (len ∷ rest) found h =
    let e : drop (octets_for len) rest ≡ found.1 = behind_is (nat_lt (length rest) (octets_for len)) _ (drop (octets_for len) rest) found h in
    omega (arith, ap length e, length-drop (octets_for len) rest)

same_behind :
    (n m : ℕ) (octets : List ℕ) (found : Option (Prefix × List ℕ))
    → ((x : Prefix × List ℕ) → found ≡ Some x → front_prefixes_within n x.1 ≡ front_prefixes_within m x.1)
    → from_prefix (front_prefixes_within n) octets found ≡ from_prefix (front_prefixes_within m) octets found
same_behind n m octets None h = refl
same_behind n m octets (Some x) h = ap (λ (y : List Prefix × List ℕ). (x.0 ∷ y.0, y.1)) (h x refl)

no_prefix_in_nothing : prefix_at [] ≡ None
unfolding prefix_at
no_prefix_in_nothing = refl

none_within : (n : ℕ) (octets : List ℕ) → prefix_at octets ≡ None → front_prefixes_within n octets ≡ ([], octets)
unfolding front_prefixes_within
none_within zero octets h = refl
none_within (suc n) octets h = ap (from_prefix (front_prefixes_within n) octets) h

-- more room than octets changes nothing
within-more : (n m : ℕ) (octets : List ℕ) → length octets ≤ n → length octets ≤ m → front_prefixes_within n octets ≡ front_prefixes_within m octets
unfolding front_prefixes_within
within-more n m [] p q = none_within n [] no_prefix_in_nothing ∙ sym (none_within m [] no_prefix_in_nothing)
within-more zero m (o ∷ os) p q = absurd (omega (arith, p))
within-more (suc n) zero (o ∷ os) p q = absurd (omega (arith, q))
within-more (suc n) (suc m) (o ∷ os) p q =
    same_behind n m (o ∷ os) (prefix_at (o ∷ os)) (λ x e.
    let s : length x.1 < length (o ∷ os) = prefix_at-shorter (o ∷ os) x e in
    within-more n m x.1 (omega (arith, p, s)) (omega (arith, q, s)))

-- the prefixes from the front on, where there is one at the front, and where there is none
pub front_prefixes-cons :
    (octets rest : List ℕ) (prefix : Prefix) → prefix_at octets ≡ Some (prefix, rest)
    → front_prefixes octets ≡ (prefix ∷ (front_prefixes rest).0, (front_prefixes rest).1)
unfolding front_prefixes_within
front_prefixes-cons [] rest prefix h = absurd (some_is_not_none _ _ h no_prefix_in_nothing)
front_prefixes-cons (o ∷ os) rest prefix h =
    let s : length rest < length (o ∷ os) = prefix_at-shorter (o ∷ os) (prefix, rest) h in
    ap (from_prefix (front_prefixes_within (length os)) (o ∷ os)) h
    ∙ ap (λ (y : List Prefix × List ℕ). (prefix ∷ y.0, y.1)) (within-more (length os) (length rest) rest (omega (arith, s)) (omega arith))

pub front_prefixes-none : (octets : List ℕ) → prefix_at octets ≡ None → front_prefixes octets ≡ ([], octets)
front_prefixes-none octets h = none_within (length octets) octets h

-- the loop over prefixes: one more, one that is too long or cut off, none left
pub prefixes-goes_on : (octets rest : List ℕ) (prefix : Prefix) (total : Bool) → prefix_at octets ≡ Some (prefix, rest) → are_prefixes_in octets ≡ total → are_prefixes_in rest ≡ total
prefixes-goes_on octets rest prefix total h so_far =
    sym (ap (λ (y : List Prefix × List ℕ). length y.1 == 0) (front_prefixes-cons octets rest prefix h)) ∙ so_far

pub prefixes-cut : (octets : List ℕ) (total : Bool) → false ≡ nat_eq (length octets) 0 → prefix_at octets ≡ None → are_prefixes_in octets ≡ total → total ≡ false
prefixes-cut octets total some h so_far =
    sym so_far ∙ ap (λ (y : List Prefix × List ℕ). length y.1 == 0) (front_prefixes-none octets h) ∙ sym some

pub prefixes-done : (octets : List ℕ) (total : Bool) → true ≡ nat_eq (length octets) 0 → are_prefixes_in octets ≡ total → total ≡ true
prefixes-done octets total none so_far =
    let empty : octets ≡ [] = nil_from_length octets (eqb-true _ _ (sym none)) in
    let nothing : prefix_at octets ≡ None = ap prefix_at empty ∙ no_prefix_in_nothing in
    sym so_far ∙ ap (λ (y : List Prefix × List ℕ). length y.1 == 0) (front_prefixes-none octets nothing) ∙ sym none

-- an iterator over prefixes: one more, none left
pub prefixes-next : (octets rest : List ℕ) (prefix : Prefix) → prefix_at octets ≡ Some (prefix, rest) → (front_prefixes octets).0 ≡ prefix ∷ (front_prefixes rest).0
prefixes-next octets rest prefix h = ap (λ (y : List Prefix × List ℕ). y.0) (front_prefixes-cons octets rest prefix h)

pub prefixes-end : (octets : List ℕ) → prefix_at octets ≡ None → (front_prefixes octets).0 ≡ []
prefixes-end octets h = ap (λ (y : List Prefix × List ℕ). y.0) (front_prefixes-none octets h)

cons_if : (b : Bool) (xs prefixes : List Prefix) (prefix : Prefix) → (if b then Some xs else None) ≡ Some prefixes → (if b then Some (prefix ∷ xs) else None) ≡ Some (prefix ∷ prefixes)
cons_if true xs prefixes prefix h = cc
cons_if false xs prefixes prefix h = absurd cc

-- what a list of prefixes is read as
abbrev whole : List Prefix × List ℕ → Option (List Prefix)
whole found = if length found.1 == 0 then Some found.0 else None

prefixes_in-cons :
    (octets rest : List ℕ) (prefix : Prefix) (prefixes : List Prefix) → prefix_at octets ≡ Some (prefix, rest)
    → prefixes_in rest ≡ Some prefixes → prefixes_in octets ≡ Some (prefix ∷ prefixes)
prefixes_in-cons octets rest prefix prefixes h again =
    ap whole (front_prefixes-cons octets rest prefix h) ∙ cons_if (length (front_prefixes rest).1 == 0) (front_prefixes rest).0 prefixes prefix again

-- prefixes that are so are read so
pub prefixes_in-are : (octets : List ℕ) (prefixes : List Prefix) → ArePrefixes octets prefixes → prefixes_in octets ≡ Some prefixes
prefixes_in-are octets [] h =
    let nothing : prefix_at octets ≡ None = ap prefix_at h ∙ no_prefix_in_nothing in
    ap whole (front_prefixes-none octets nothing) ∙ rw h refl
prefixes_in-are octets (prefix ∷ prefixes) h =
    prefixes_in-cons octets (drop (1 + octets_for prefix.len) octets) prefix prefixes (prefix_at-begins octets prefix _ h.0) (prefixes_in-are (drop (1 + octets_for prefix.len) octets) prefixes h.1)

-- and what is read is so
begins_if_small :
    (len : ℕ) (rest : List ℕ) (test : Bool) (e : nat_le len 32 ≡ test) (prefix : Prefix)
    → prefix_if (address_from (take (octets_for len) rest)) len test e ≡ Some prefix → octets_for len ≤ length rest
    → BeginsWith (len ∷ rest) prefix.bits prefix.len (1 + octets_for prefix.len)
begins_if_small len rest true e prefix h fits =
    let len_is : len ≡ prefix.len = ap (λ (x : Option Prefix). len_of x) h in
    let bits_is : masked_bits (address_from (take (octets_for len) rest)) len ≡ prefix.bits = ap (λ (x : Option Prefix). bits_of x) h in
    let count : octets_for len ≡ octets_for prefix.len = ap octets_for len_is in
    (omega arith, sym len_is, prefix.short, refl, omega (arith, count, fits), sym bits_is ∙ ap (λ (n : ℕ). masked_bits (address_from (take (octets_for n) rest)) n) len_is)
begins_if_small len rest false e prefix h fits = absurd cc

abbrev with_behind : List ℕ → Prefix → Prefix × List ℕ
with_behind behind prefix = (prefix, behind)

begins_of :
    (len : ℕ) (rest : List ℕ) (found : Option Prefix) (prefix : Prefix) (behind : List ℕ) (cut : Bool) → nat_lt (length rest) (octets_for len) ≡ cut
    → prefix_if (address_from (take (octets_for len) rest)) len (nat_le len 32) refl ≡ found
    → (if cut then None else option_map (with_behind (drop (octets_for len) rest)) found) ≡ Some (prefix, behind)
    → BeginsWith (len ∷ rest) prefix.bits prefix.len (1 + octets_for prefix.len) × (behind ≡ drop (1 + octets_for prefix.len) (len ∷ rest))
begins_of len rest found prefix behind true is_cut is h = absurd cc
begins_of len rest None prefix behind false is_cut is h = absurd cc
begins_of len rest (Some p) prefix behind false is_cut is h =
    let same : with_behind (drop (octets_for len) rest) p ≡ (prefix, behind) = cc in
    let p_is : p ≡ prefix = ap (λ (x : Prefix × List ℕ). x.0) same in
    let behind_is : drop (octets_for len) rest ≡ behind = ap (λ (x : Prefix × List ℕ). x.1) same in
    let begins = begins_if_small len rest (nat_le len 32) refl prefix (is ∙ ap Some p_is) (ltb-false (length rest) (octets_for len) is_cut) in
    let count : octets_for prefix.len ≡ octets_for len = ap octets_for begins.1 in
    (begins, sym behind_is ∙ ap (λ (n : ℕ). drop n rest) (sym count) ∙ ap (λ (n : ℕ). drop n (len ∷ rest)) (suc_is (octets_for prefix.len)))

pub begins-prefix_at : (octets behind : List ℕ) (prefix : Prefix) → prefix_at octets ≡ Some (prefix, behind)
    → BeginsWith octets prefix.bits prefix.len (1 + octets_for prefix.len) × (behind ≡ drop (1 + octets_for prefix.len) octets)
unfolding prefix_at
begins-prefix_at [] behind prefix h = absurd cc
begins-prefix_at (len ∷ rest) behind prefix h = begins_of len rest _ prefix behind _ refl refl h

whole_parts : (found : List Prefix × List ℕ) (prefixes : List Prefix) (test : Bool) → (length found.1 == 0) ≡ test → (if test then Some found.0 else None) ≡ Some prefixes → (found.0 ≡ prefixes) × (length found.1 ≡ 0)
whole_parts found prefixes true none h =
    let same : found.0 ≡ prefixes = cc in
    (same, eqb-true _ _ none)
whole_parts found prefixes false some h = absurd cc

pub prefixes_in-parts : (octets : List ℕ) (prefixes : List Prefix) → prefixes_in octets ≡ Some prefixes → ((front_prefixes octets).0 ≡ prefixes) × (length (front_prefixes octets).1 ≡ 0)
prefixes_in-parts octets prefixes h = whole_parts (front_prefixes octets) prefixes _ refl h

pub prefixes_in-from : (octets : List ℕ) (prefixes : List Prefix) → (front_prefixes octets).0 ≡ prefixes → length (front_prefixes octets).1 ≡ 0 → prefixes_in octets ≡ Some prefixes
prefixes_in-from octets prefixes same none = rw (eq-eqb _ _ none, same) refl

-- what is read, by its first prefix
nothing_read : (octets : List ℕ) (found : Option (Prefix × List ℕ)) → prefix_at octets ≡ found → prefixes_in octets ≡ Some [] → octets ≡ []
nothing_read octets None is h =
    let parts = prefixes_in-parts octets [] h in
    let left : (front_prefixes octets).1 ≡ octets = ap (λ (y : List Prefix × List ℕ). y.1) (front_prefixes-none octets is) in
    nil_from_length octets (ap length (sym left) ∙ parts.1)
nothing_read octets (Some found) is h =
    let parts = prefixes_in-parts octets [] h in
    let next = prefixes-next octets found.1 found.0 is in
    absurd (cons_is_not_nil _ _ (sym next ∙ parts.0))

first_read :
    (octets : List ℕ) (prefix : Prefix) (prefixes : List Prefix) (found : Option (Prefix × List ℕ)) → prefix_at octets ≡ found
    → prefixes_in octets ≡ Some (prefix ∷ prefixes)
    → BeginsWith octets prefix.bits prefix.len (1 + octets_for prefix.len) × (prefixes_in (drop (1 + octets_for prefix.len) octets) ≡ Some prefixes)
first_read octets prefix prefixes None is h =
    let parts = prefixes_in-parts octets (prefix ∷ prefixes) h in
    absurd (cons_is_not_nil _ _ (sym parts.0 ∙ prefixes-end octets is))
first_read octets prefix prefixes (Some found) is h =
    let parts = prefixes_in-parts octets (prefix ∷ prefixes) h in
    let next = prefixes-next octets found.1 found.0 is in
    let left : (front_prefixes octets).1 ≡ (front_prefixes found.1).1 = ap (λ (y : List Prefix × List ℕ). y.1) (front_prefixes-cons octets found.1 found.0 is) in
    let same = same_cons _ _ _ _ (sym next ∙ parts.0) in
    let at : prefix_at octets ≡ Some (prefix, found.1) = is ∙ ap (λ (p : Prefix). Some (p, found.1)) same.0 in
    let begins = begins-prefix_at octets found.1 prefix at in
    (begins.0, ap prefixes_in (sym begins.1) ∙ prefixes_in-from found.1 prefixes same.1 (ap length (sym left) ∙ parts.1))

pub prefixes-are : (octets : List ℕ) (prefixes : List Prefix) → prefixes_in octets ≡ Some prefixes → ArePrefixes octets prefixes
prefixes-are octets [] h = nothing_read octets _ refl h
prefixes-are octets (prefix ∷ prefixes) h =
    let first = first_read octets prefix prefixes _ refl h in
    (first.0, prefixes-are (drop (1 + octets_for prefix.len) octets) prefixes first.1)

-- what a prefix is written as is read as that prefix
prefix_if_some : (bits len : ℕ) (test : Bool) (e : nat_le len 32 ≡ test) → len ≤ 32 → (prefix : Prefix) × (prefix_if bits len test e ≡ Some prefix)
prefix_if_some bits len true e small = (_, refl)
prefix_if_some bits len false e small =
    let long : 32 < len = leb-false len 32 e in
    absurd (omega (arith, small, long))

prefix_at-some : (len : ℕ) (rest : List ℕ) → len ≤ 32 → octets_for len ≤ length rest → (prefix : Prefix) × (prefix_at (len ∷ rest) ≡ Some (prefix, drop (octets_for len) rest))
unfolding prefix_at
prefix_at-some len rest small fits =
    let found = prefix_if_some (address_from (take (octets_for len) rest)) len (nat_le len 32) refl small in
    let room : nat_lt (length rest) (octets_for len) ≡ false = le-ltb (length rest) (octets_for len) fits in
    (found.0, rw (room, found.1) refl)

spelling_length : (prefix : Prefix) → length (spelling_of prefix.bits prefix.len) ≡ 1 + octets_for prefix.len
spelling_length prefix =
    let kept : length (take (octets_for prefix.len) (address_octets prefix.bits)) ≡ octets_for prefix.len = length-take-le (octets_for prefix.len) (address_octets prefix.bits) (omega (arith, prefix.short)) in
    omega (arith, kept)

written_begins : (prefix : Prefix) (rest : List ℕ) → prefix.bits < 2 ^ 32 → BeginsWith (spelling_of prefix.bits prefix.len ++ rest) prefix.bits prefix.len (1 + octets_for prefix.len)
written_begins prefix rest small =
    let address = take (octets_for prefix.len) (address_octets prefix.bits) in
    let fits : octets_for prefix.len ≤ length (address ++ rest) = omega (arith, spelling_length prefix, length-append address rest) in
    let found = prefix_at-some prefix.len (address ++ rest) prefix.short fits in
    let begins = (begins-prefix_at (spelling_of prefix.bits prefix.len ++ rest) _ found.0 found.1).0 in
    let same = reads_again prefix.bits prefix.len rest (Ok (found.0, 1 + octets_for found.0.len)) small (prefix.short, prefix.no_host_bits) begins in
    let is : found.0 ≡ prefix = same_prefix found.0 prefix same.0 same.1 in
    subst (λ (p : Prefix). BeginsWith (spelling_of prefix.bits prefix.len ++ rest) p.bits p.len (1 + octets_for p.len)) is begins

pub wire_form-are : (prefixes : List Prefix) → All (λ prefix. prefix.bits < 2 ^ 32) prefixes → ArePrefixes (wire_form prefixes) prefixes
wire_form-are [] small = refl
wire_form-are (prefix ∷ prefixes) small =
    let rest : drop (1 + octets_for prefix.len) (wire_form (prefix ∷ prefixes)) ≡ wire_form prefixes = drop_at (spelling_of prefix.bits prefix.len) (wire_form prefixes) _ (spelling_length prefix) in
    let others : All (λ p. p.bits < 2 ^ 32) prefixes = λ k d h. small (suc k) d (omega (arith, h)) in
    (written_begins prefix (wire_form prefixes) (small 0 prefix (omega arith)), subst (λ (x : List ℕ). ArePrefixes x prefixes) (sym rest) (wire_form-are prefixes others))

pub wire_form-read : (prefixes : List Prefix) → All (λ prefix. prefix.bits < 2 ^ 32) prefixes → prefixes_in (wire_form prefixes) ≡ Some prefixes
wire_form-read prefixes small = prefixes_in-are (wire_form prefixes) prefixes (wire_form-are prefixes small)
