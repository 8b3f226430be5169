use Rattle.std.proofs.Common.{◌≡◌, ◌≤◌, ◌+◌, Bool, true, false, cond, ℕ, List, [], ◌∷◌, ◌++◌, length, map, Option, Some, None, inl, inr, arith, refl, sym, ap, subst, ◌∙◌, append-nil}
use Rattle.std.specs.Prelude.{◌==◌, ◌&&◌, ◌||◌, bit_and, is_none, nat_eq, nat_lt, not, MatchOption, ⊤}
use Rattle.std.specs.List.{AllByRecursion, IsDistinct, flat_map, list_any}
use Rattle.std.specs.List.Sorted.{IsStrictlySortedBy}
use Rattle.std.specs.Map.{keys_of}
use Rattle.std.specs.Option.{option_and_then, option_map, option_or}
use Rattle.std.specs.Ordering.{nat_cmp}
use Rattle.std.specs.Int.{to_be_bytes, w16}
use Rattle.std.proofs.lemmas.Bool.{cases_eq, eq-eqb, ltb-false, ne_eqb}
use Rattle.std.proofs.lemmas.Grind.{flat_map-append}
use Rattle.std.proofs.lemmas.List.Folds.{find-append}
use Rattle.std.proofs.lemmas.Map.Keys.{sorted_head, sorted_tail}
use Rattle.bgp_attr.specs.AsPath.{PathSegment, path_octets}
use Rattle.bgp_attr.specs.AttributeReading.{taken_of, value_taken}
use Rattle.bgp_attr.specs.AttributeSpelling.{CanBeSpelled, HasClass, SpellsAttributes, aggregator_spelling, attribute_spelling, attributes_spelling, flags_in, is_in_part, mark_spelling, number_spelling, optional_spelling, origin_spelling, partial_flag, path_spelling, type_spelling, unknown_flags, unknown_in_part, unknown_spelling, value_in}
use Rattle.bgp_attr.specs.AttributeTable.{class_flags_of, class_of, is_passed_on, is_taken, octet_of, travels_by, type_of, types, unknown_codes}
use Rattle.bgp_attr.specs.PathAttributes.{PathAttributes}
use Rattle.bgp_attr.specs.ReceivedAttributes.{Attribute, IsAttribute, found_of, is_extended, is_optional, is_partial, length_octets, longest, wholes}
use Rattle.bgp_attr.specs.UnknownAttributes.{ArePassedOn, Unknown, kept_of, kept_value}
use Rattle.bgp_attr.specs.declared.aggregator.Aggregator.{Aggregator}
use Rattle.bgp_attr.specs.declared.attribute_type.AttributeType.{AttributeType}
use Rattle.bgp_attr.specs.declared.attribute_type.AttributeType.TheVariants as type
use Rattle.bgp_attr.specs.declared.peer.PeerKind.{PeerKind}
use Rattle.bgp_attr.proofs.Appendings.{length-path_spelling}
use Rattle.bgp_attr.proofs.AttributeSpellings.{all_types, type_at, type_code}
use Rattle.bgp_attr.proofs.UnknownLists.{at, found_head, found_tail}
use Rattle.std.specs.Cmp.{nat_cmp_is}
use Rattle.std.specs.declared.cmp.Ordering.TheVariants.{Less, Equal}
use Rattle.std.proofs.lemmas.Option.{same_Some}

-- What is written spells the attributes that it is written for.

-- the flags that are written, by whether the length takes two octets
abbrev pub flags_at : ℕ → Bool → ℕ
flags_at flags long = cond long (flags + 16) flags

-- an attribute as it is written
abbrev pub written : ℕ → ℕ → List ℕ → Attribute
written flags code value = record { flags = flags_at flags (nat_lt 255 (length value)); code = code; value = value; whole = attribute_spelling flags code value }

-- flags whose bit for a long value is not set, and is with 16 more
abbrev pub IsShort : ℕ → Type 0
IsShort flags = (is_extended flags ≡ false) × (is_extended (flags + 16) ≡ true)

attribute_if : (flags code : ℕ) (value : List ℕ) (long extended : Bool) → is_extended (flags_at flags long) ≡ extended → extended ≡ long → long ≡ nat_lt 255 (length value) → length value ≤ 65535
    → IsAttribute (record { flags = flags_at flags long; code = code; value = value; whole = cond long ((flags + 16) ∷ code ∷ to_be_bytes w16 (length value)) (flags ∷ code ∷ length value ∷ []) ++ value })
attribute_if flags code value true true bit same is few = record {
  short = let P : Bool → Type 0 = λ b. length value ≤ longest b in subst P (sym bit) few;
  spelled = ap (λ (b : Bool). (flags + 16) ∷ code ∷ (length_octets b (length value) ++ value)) (sym bit);
}
attribute_if flags code value true false bit same is few = absurd cc
attribute_if flags code value false true bit same is few = absurd cc
attribute_if flags code value false false bit same is few = record {
  short = let P : Bool → Type 0 = λ b. length value ≤ longest b in subst P (sym bit) (ltb-false 255 (length value) (sym is));
  spelled = ap (λ (b : Bool). flags ∷ code ∷ (length_octets b (length value) ++ value)) (sym bit);
}

extended_at : (flags : ℕ) (long : Bool) → IsShort flags → is_extended (flags_at flags long) ≡ long
extended_at flags true short = short.1
extended_at flags false short = short.0

pub is_attribute : (flags code : ℕ) (value : List ℕ) → IsShort flags → length value ≤ 65535 → IsAttribute (written flags code value)
is_attribute flags code value short few =
    attribute_if flags code value (nat_lt 255 (length value)) (is_extended (flags_at flags (nat_lt 255 (length value)))) refl (extended_at flags (nat_lt 255 (length value)) short) refl few

-- ---- the attributes that are written

abbrev pub part_one : Bool → ℕ × List ℕ → List Attribute
part_one first e = cond (is_in_part first e.0) (written unknown_flags e.0 e.1 ∷ []) []

abbrev pub part_list : Bool → Unknown → List Attribute
part_list first unknown = flat_map (part_one first) unknown

abbrev pub optional_list : ℕ → ℕ → Option (List ℕ) → List Attribute
optional_list flags code None = []
optional_list flags code (Some value) = written flags code value ∷ []

abbrev pub type_list : PathAttributes → AttributeType → List Attribute
type_list attrs known = optional_list (flags_in attrs known) (octet_of known) (value_in attrs known)

abbrev pub known_list : PathAttributes → List AttributeType → List Attribute
known_list attrs among = flat_map (type_list attrs) among

abbrev pub written_list : PathAttributes → List Attribute
written_list attrs = part_list true attrs.unknown ++ (known_list attrs types ++ part_list false attrs.unknown)

-- their octets
wholes-append : (xs ys : List Attribute) → wholes (xs ++ ys) ≡ wholes xs ++ wholes ys
wholes-append xs ys = flat_map-append (λ (a : Attribute). a.whole) xs ys

both : (xs ys zs ws : List ℕ) → xs ≡ ys → zs ≡ ws → xs ++ zs ≡ ys ++ ws
both xs ys zs ws e f = ap (λ (front : List ℕ). front ++ zs) e ∙ ap (λ (more : List ℕ). ys ++ more) f

part_whole : (b : Bool) (e : ℕ × List ℕ) → wholes (cond b (written unknown_flags e.0 e.1 ∷ []) []) ≡ cond b (attribute_spelling unknown_flags e.0 e.1) []
part_whole true e = append-nil (attribute_spelling unknown_flags e.0 e.1)
part_whole false e = refl

part_joined : (first : Bool) (unknown : Unknown) → wholes (part_list first unknown) ≡ unknown_spelling first unknown
part_joined first [] = refl
part_joined first (e ∷ es) =
    wholes-append (part_one first e) (part_list first es)
    ∙ both (wholes (part_one first e)) (unknown_in_part first e) (wholes (part_list first es)) (unknown_spelling first es) (part_whole (is_in_part first e.0) e) (part_joined first es)

optional_whole : (flags code : ℕ) (o : Option (List ℕ)) → wholes (optional_list flags code o) ≡ optional_spelling flags code o
optional_whole flags code None = refl
optional_whole flags code (Some value) = append-nil (attribute_spelling flags code value)

known_joined : (attrs : PathAttributes) (among : List AttributeType) → wholes (known_list attrs among) ≡ flat_map (type_spelling attrs) among
known_joined attrs [] = refl
known_joined attrs (t ∷ more) =
    wholes-append (type_list attrs t) (known_list attrs more)
    ∙ both (wholes (type_list attrs t)) (type_spelling attrs t) (wholes (known_list attrs more)) (flat_map (type_spelling attrs) more) (optional_whole (flags_in attrs t) (octet_of t) (value_in attrs t)) (known_joined attrs more)

pub written_joined : (attrs : PathAttributes) → wholes (written_list attrs) ≡ attributes_spelling attrs
written_joined attrs =
    wholes-append (part_list true attrs.unknown) (known_list attrs types ++ part_list false attrs.unknown)
    ∙ both (wholes (part_list true attrs.unknown)) (unknown_spelling true attrs.unknown) (wholes (known_list attrs types ++ part_list false attrs.unknown)) (flat_map (type_spelling attrs) types ++ unknown_spelling false attrs.unknown)
    (part_joined true attrs.unknown)
    (wholes-append (known_list attrs types) (part_list false attrs.unknown)
    ∙ both (wholes (known_list attrs types)) (flat_map (type_spelling attrs) types) (wholes (part_list false attrs.unknown)) (unknown_spelling false attrs.unknown) (known_joined attrs types) (part_joined false attrs.unknown))

-- what holds of each part holds of all
pub all_append : {A : Type 0} (P : A → Type 0) (xs ys : List A) → AllByRecursion P xs → AllByRecursion P ys → AllByRecursion P (xs ++ ys)
all_append P [] ys h k = k
all_append P (x ∷ xs) ys h k = (h.0, all_append P xs ys h.1 k)

-- what holds of each unknown attribute, as it is written, holds of a part
pub part_one_all : (P : Attribute → Type 0) (b : Bool) (e : ℕ × List ℕ) → (b ≡ true → P (written unknown_flags e.0 e.1)) → AllByRecursion P (cond b (written unknown_flags e.0 e.1 ∷ []) [])
part_one_all P true e h = (h refl, tt)
part_one_all P false e h = tt

part_all : (P : Attribute → Type 0) (first : Bool) (unknown : Unknown)
    → ((e : ℕ × List ℕ) → is_in_part first e.0 ≡ true → (is_passed_on e.0 e.1 ≡ true) × (length e.1 ≤ 65535) → P (written unknown_flags e.0 e.1))
    → AllByRecursion (λ e. (is_passed_on e.0 e.1 ≡ true) × (length e.1 ≤ 65535)) unknown → AllByRecursion P (part_list first unknown)
part_all P first [] h each = tt
part_all P first (e ∷ es) h each =
    all_append P (part_one first e) (part_list first es) (part_one_all P (is_in_part first e.0) e (λ there. h e there each.0)) (part_all P first es h each.1)

-- and what holds of each type
optional_all : (P : Attribute → Type 0) (flags code : ℕ) (o : Option (List ℕ)) → MatchOption o ⊤ (λ value. P (written flags code value)) → AllByRecursion P (optional_list flags code o)
optional_all P flags code None h = tt
optional_all P flags code (Some value) h = (h, tt)

pub known_all : (P : Attribute → Type 0) (attrs : PathAttributes) (among : List AttributeType)
    → ((t : AttributeType) → MatchOption (value_in attrs t) ⊤ (λ value. P (written (flags_in attrs t) (octet_of t) value))) → AllByRecursion P (known_list attrs among)
known_all P attrs [] h = tt
known_all P attrs (t ∷ more) h = all_append P (type_list attrs t) (known_list attrs more) (optional_all P (flags_in attrs t) (octet_of t) (value_in attrs t) (h t)) (known_all P attrs more h)

pub any_value : {T : Type 0} (P : T → Type 0) (o : Option T) → ((value : T) → P value) → MatchOption o ⊤ P
any_value P None h = tt
any_value P (Some value) h = h value

-- ---- each is an attribute

partial_short : (b : Bool) → IsShort (192 + cond b 32 0)
partial_short true = (refl, refl)
partial_short false = (refl, refl)

aggregator_short : (o : Option Aggregator) → IsShort (192 + partial_flag o)
aggregator_short None = (refl, refl)
aggregator_short (Some aggregator) = partial_short aggregator.is_partial

pub flags_short : (attrs : PathAttributes) (known : AttributeType) → IsShort (flags_in attrs known)
flags_short attrs type.Origin = (refl, refl)
flags_short attrs type.AsPath = (refl, refl)
flags_short attrs type.NextHop = (refl, refl)
flags_short attrs type.MultiExitDisc = (refl, refl)
flags_short attrs type.LocalPref = (refl, refl)
flags_short attrs type.AtomicAggregate = (refl, refl)
flags_short attrs type.Aggregator = aggregator_short attrs.aggregator

abbrev IsFew : Option (List ℕ) → Type 0
IsFew o = MatchOption o ⊤ (λ value. length value ≤ 65535)

mapped_few : {T : Type 0} (f : T → List ℕ) (o : Option T) → ((x : T) → length (f x) ≤ 65535) → IsFew (option_map f o)
mapped_few f None h = tt
mapped_few f (Some x) h = h x

path_few : (o : Option (List PathSegment)) → MatchOption o ⊤ (λ path. path_octets path ≤ 65535) → IsFew (option_map path_spelling o)
path_few None h = tt
path_few (Some path) h = omega (arith, h, length-path_spelling path)

mark_few : (b : Bool) → IsFew (mark_spelling b)
mark_few false = tt
mark_few true = omega arith

values_few : (attrs : PathAttributes) → MatchOption attrs.as_path ⊤ (λ path. path_octets path ≤ 65535) → (known : AttributeType) → IsFew (value_in attrs known)
values_few attrs short type.Origin = mapped_few origin_spelling attrs.origin (λ o. omega arith)
values_few attrs short type.AsPath = path_few attrs.as_path short
values_few attrs short type.NextHop = mapped_few number_spelling attrs.next_hop (λ n. omega arith)
values_few attrs short type.MultiExitDisc = mapped_few number_spelling attrs.multi_exit_disc (λ n. omega arith)
values_few attrs short type.LocalPref = mapped_few number_spelling attrs.local_pref (λ n. omega arith)
values_few attrs short type.AtomicAggregate = mark_few attrs.atomic_aggregate
values_few attrs short type.Aggregator = mapped_few aggregator_spelling attrs.aggregator (λ a. omega arith)

few_attribute : (attrs : PathAttributes) (known : AttributeType) (o : Option (List ℕ)) → IsFew o → MatchOption o ⊤ (λ value. IsAttribute (written (flags_in attrs known) (octet_of known) value))
few_attribute attrs known None few = tt
few_attribute attrs known (Some value) few = is_attribute (flags_in attrs known) (octet_of known) value (flags_short attrs known) few

written_each : (attrs : PathAttributes) → MatchOption attrs.as_path ⊤ (λ path. path_octets path ≤ 65535) → ArePassedOn attrs.unknown → AllByRecursion IsAttribute (written_list attrs)
written_each attrs short unknown =
    let part : (first : Bool) → AllByRecursion IsAttribute (part_list first attrs.unknown) = λ first.
    part_all IsAttribute first attrs.unknown (λ e there passed. is_attribute unknown_flags e.0 e.1 (refl, refl) passed.1) unknown.each in
    all_append IsAttribute (part_list true attrs.unknown) (known_list attrs types ++ part_list false attrs.unknown) (part true)
    (all_append IsAttribute (known_list attrs types) (part_list false attrs.unknown)
    (known_all IsAttribute attrs types (λ t. few_attribute attrs t (value_in attrs t) (values_few attrs short t))) (part false))

-- ---- each has the flags of its class

abbrev IsKnown : PeerKind → Attribute → Type 0
IsKnown kind a = HasClass kind (type_of a.code) a.flags

none_from : (o : Option AttributeType) (b : Bool) → (is_none o && b) ≡ true → o ≡ None
none_from None b h = refl
none_from (Some t) b h = absurd cc

-- what may be passed on is of no type
no_type : (code : ℕ) (value : List ℕ) → is_passed_on code value ≡ true → type_of code ≡ None
no_type code value h = none_from (type_of code) (travels_by unknown_codes code value) h

unknown_optional : (long : Bool) → is_optional (flags_at unknown_flags long) ≡ true
unknown_optional true = refl
unknown_optional false = refl

unknown_class : (kind : PeerKind) (e : ℕ × List ℕ) → is_passed_on e.0 e.1 ≡ true → IsKnown kind (written unknown_flags e.0 e.1)
unknown_class kind e passed =
    let P : Option AttributeType → Type 0 = λ o. HasClass kind o (flags_at unknown_flags (nat_lt 255 (length e.1))) in
    subst P (sym (no_type e.0 e.1 passed)) (unknown_optional (nat_lt 255 (length e.1)))

partial_class : (b long : Bool) → bit_and (flags_at (192 + cond b 32 0) long) 192 ≡ 192
partial_class true true = refl
partial_class true false = refl
partial_class false true = refl
partial_class false false = refl

aggregator_class : (o : Option Aggregator) (long : Bool) → bit_and (flags_at (192 + partial_flag o) long) 192 ≡ 192
aggregator_class None long = partial_class false long
aggregator_class (Some aggregator) long = partial_class aggregator.is_partial long

flags_class : (attrs : PathAttributes) (known : AttributeType) (long : Bool) → bit_and (flags_at (flags_in attrs known) long) 192 ≡ class_flags_of (class_of known)
flags_class attrs type.Origin true = refl
flags_class attrs type.Origin false = refl
flags_class attrs type.AsPath true = refl
flags_class attrs type.AsPath false = refl
flags_class attrs type.NextHop true = refl
flags_class attrs type.NextHop false = refl
flags_class attrs type.MultiExitDisc true = refl
flags_class attrs type.MultiExitDisc false = refl
flags_class attrs type.LocalPref true = refl
flags_class attrs type.LocalPref false = refl
flags_class attrs type.AtomicAggregate true = refl
flags_class attrs type.AtomicAggregate false = refl
flags_class attrs type.Aggregator long = aggregator_class attrs.aggregator long

known_class : (kind : PeerKind) (attrs : PathAttributes) (known : AttributeType) (value : List ℕ) → IsKnown kind (written (flags_in attrs known) (octet_of known) value)
known_class kind attrs known value =
    let long : Bool = nat_lt 255 (length value) in
    let P : Option AttributeType → Type 0 = λ o. HasClass kind o (flags_at (flags_in attrs known) long) in
    subst P (sym (type_at known)) (λ taken. flags_class attrs known long)

written_known : (kind : PeerKind) (attrs : PathAttributes) → ArePassedOn attrs.unknown → AllByRecursion (IsKnown kind) (written_list attrs)
written_known kind attrs unknown =
    let part : (first : Bool) → AllByRecursion (IsKnown kind) (part_list first attrs.unknown) = λ first.
    part_all (IsKnown kind) first attrs.unknown (λ e there passed. unknown_class kind e passed.0) unknown.each in
    all_append (IsKnown kind) (part_list true attrs.unknown) (known_list attrs types ++ part_list false attrs.unknown) (part true)
    (all_append (IsKnown kind) (known_list attrs types) (part_list false attrs.unknown)
    (known_all (IsKnown kind) attrs types (λ t. any_value (λ value. IsKnown kind (written (flags_in attrs t) (octet_of t) value)) (value_in attrs t) (known_class kind attrs t))) (part false))

-- ---- no code comes twice

abbrev IsOnce : List Attribute → Type 0
IsOnce attributes = IsDistinct nat_eq (map (λ a. a.code) attributes)

-- the code is none of theirs
abbrev IsElse : ℕ → List Attribute → Type 0
IsElse code attributes = AllByRecursion (λ (a : Attribute). nat_eq code a.code ≡ false) attributes

codes_else : (code : ℕ) (attributes : List Attribute) → IsElse code attributes → AllByRecursion (λ (other : ℕ). nat_eq code other ≡ false) (map (λ a. a.code) attributes)
codes_else code [] h = tt
codes_else code (a ∷ more) h = (h.0, codes_else code more h.1)

once_behind : (a : Attribute) (more : List Attribute) → IsElse a.code more → IsOnce more → IsOnce (a ∷ more)
unfolding IsDistinct
once_behind a more other once = (codes_else a.code more other, once)

once_none : IsOnce []
unfolding IsDistinct
once_none = tt

once_else : (a : Attribute) (more : List Attribute) → IsOnce (a ∷ more) → IsOnce more
unfolding IsDistinct
once_else a more once = once.1

apart : (p : ℕ → Bool) (x y : ℕ) → p x ≡ true → p y ≡ false → nat_eq x y ≡ false
apart p x y h k = ne_eqb x y (λ same. let both : true ≡ false = sym h ∙ (ap p same ∙ k) in cc)

all_apart : (p : ℕ → Bool) (x : ℕ) (ys : List Attribute) → p x ≡ true → AllByRecursion (λ (a : Attribute). p a.code ≡ false) ys → IsElse x ys
all_apart p x [] h others = tt
all_apart p x (y ∷ ys) h others = (apart p x y.code h others.0, all_apart p x ys h others.1)

else_codes : (code : ℕ) (attributes : List Attribute) → AllByRecursion (λ (other : ℕ). nat_eq code other ≡ false) (map (λ a. a.code) attributes) → IsElse code attributes
else_codes code [] h = tt
else_codes code (a ∷ more) h = (h.0, else_codes code more h.1)

once_first : (a : Attribute) (more : List Attribute) → IsOnce (a ∷ more) → IsElse a.code more
unfolding IsDistinct
once_first a more once = else_codes a.code more once.0

-- codes that a test tells apart
once_append : (p : ℕ → Bool) (xs ys : List Attribute) → AllByRecursion (λ (a : Attribute). p a.code ≡ true) xs → AllByRecursion (λ (a : Attribute). p a.code ≡ false) ys → IsOnce xs → IsOnce ys → IsOnce (xs ++ ys)
once_append p [] ys here there one other = other
once_append p (x ∷ xs) ys here there one other =
    once_behind x (xs ++ ys)
    (all_append (λ (a : Attribute). nat_eq x.code a.code ≡ false) xs ys (once_first x xs one) (all_apart p x.code ys here.0 there))
    (once_append p xs ys here.1 there (once_else x xs one) other)

less_other : (k y : ℕ) → nat_cmp k y ≡ Less → nat_eq k y ≡ false
less_other k y h = ne_eqb k y (λ same. let both : Equal ≡ Less = nat_cmp_is k y Equal same ∙ h in cc)

else_part : (k : ℕ) (first : Bool) (es : Unknown) → AllByRecursion (λ y. nat_cmp k y ≡ Less) (keys_of es) → IsElse k (part_list first es)
else_part k first [] h = tt
else_part k first (e ∷ es) h =
    all_append (λ (a : Attribute). nat_eq k a.code ≡ false) (part_one first e) (part_list first es)
    (part_one_all (λ (a : Attribute). nat_eq k a.code ≡ false) (is_in_part first e.0) e (λ there. less_other k e.0 h.0)) (else_part k first es h.1)

once_one : (b : Bool) (e : ℕ × List ℕ) (more : List Attribute) → IsElse e.0 more → IsOnce more → IsOnce (cond b (written unknown_flags e.0 e.1 ∷ []) [] ++ more)
once_one true e more other once = once_behind (written unknown_flags e.0 e.1) more other once
once_one false e more other once = once

once_part : (first : Bool) (es : Unknown) → IsStrictlySortedBy nat_cmp (keys_of es) → IsOnce (part_list first es)
once_part first [] h = once_none
once_part first (e ∷ es) h =
    once_one (is_in_part first e.0) e (part_list first es) (else_part e.0 first es (sorted_head nat_cmp e.0 (keys_of es) h)) (once_part first es (sorted_tail nat_cmp e.0 (keys_of es) h))

else_known : (attrs : PathAttributes) (code : ℕ) (among : List AttributeType) → AllByRecursion (λ t. nat_eq code (octet_of t) ≡ false) among → IsElse code (known_list attrs among)
else_known attrs code [] h = tt
else_known attrs code (t ∷ more) h =
    all_append (λ (a : Attribute). nat_eq code a.code ≡ false) (type_list attrs t) (known_list attrs more)
    (optional_all (λ (a : Attribute). nat_eq code a.code ≡ false) (flags_in attrs t) (octet_of t) (value_in attrs t) (any_value (λ value. nat_eq code (octet_of t) ≡ false) (value_in attrs t) (λ value. h.0)))
    (else_known attrs code more h.1)

once_optional : (flags code : ℕ) (o : Option (List ℕ)) (more : List Attribute) → IsElse code more → IsOnce more → IsOnce (optional_list flags code o ++ more)
once_optional flags code None more other once = once
once_optional flags code (Some value) more other once = once_behind (written flags code value) more other once

-- the codes of types are none of those behind them
abbrev AreRising : List AttributeType → Type 0
AreRising [] = ⊤
AreRising (t ∷ more) = AllByRecursion (λ u. nat_eq (octet_of t) (octet_of u) ≡ false) more × AreRising more

once_known : (attrs : PathAttributes) (among : List AttributeType) → AreRising among → IsOnce (known_list attrs among)
once_known attrs [] h = once_none
once_known attrs (t ∷ more) h = once_optional (flags_in attrs t) (octet_of t) (value_in attrs t) (known_list attrs more) (else_known attrs (octet_of t) more h.0) (once_known attrs more h.1)

types_rise : AreRising types
types_rise =
    ((refl, (refl, (refl, (refl, (refl, (refl, tt)))))), ((refl, (refl, (refl, (refl, (refl, tt))))), ((refl, (refl, (refl, (refl, tt)))), ((refl, (refl, (refl, tt))), ((refl, (refl, tt)), ((refl, tt), (tt, tt)))))))

not_zero : (b : Bool) → not b ≡ true → b ≡ false
not_zero true h = absurd cc
not_zero false h = refl

octet_some : (known : AttributeType) → (octet_of known == 0) ≡ false
octet_some known = all_types (λ t. (octet_of t == 0) ≡ false) refl refl refl refl refl refl refl known

is_typed : ℕ → Bool
is_typed code = not (is_none (type_of code))

typed_known : (known : AttributeType) → is_typed (octet_of known) ≡ true
unfolding is_typed
typed_known known = ap (λ (o : Option AttributeType). not (is_none o)) (type_at known)

typed_unknown : (code : ℕ) (value : List ℕ) → is_passed_on code value ≡ true → is_typed code ≡ false
unfolding is_typed
typed_unknown code value passed = ap (λ (o : Option AttributeType). not (is_none o)) (no_type code value passed)

written_once : (attrs : PathAttributes) → ArePassedOn attrs.unknown → IsOnce (written_list attrs)
written_once attrs unknown =
    let behind : IsOnce (known_list attrs types ++ part_list false attrs.unknown) =
    once_append is_typed (known_list attrs types) (part_list false attrs.unknown)
    (known_all (λ (a : Attribute). is_typed a.code ≡ true) attrs types (λ t. any_value (λ value. is_typed (octet_of t) ≡ true) (value_in attrs t) (λ value. typed_known t)))
    (part_all (λ (a : Attribute). is_typed a.code ≡ false) false attrs.unknown (λ e there passed. typed_unknown e.0 e.1 passed.0) unknown.each)
    (once_known attrs types types_rise) (once_part false attrs.unknown unknown.rising) in
    once_append (λ (code : ℕ). code == 0) (part_list true attrs.unknown) (known_list attrs types ++ part_list false attrs.unknown)
    (part_all (λ (a : Attribute). (a.code == 0) ≡ true) true attrs.unknown (λ e there passed. there) unknown.each)
    (all_append (λ (a : Attribute). (a.code == 0) ≡ false) (known_list attrs types) (part_list false attrs.unknown)
    (known_all (λ (a : Attribute). (a.code == 0) ≡ false) attrs types (λ t. any_value (λ value. (octet_of t == 0) ≡ false) (value_in attrs t) (λ value. octet_some t)))
    (part_all (λ (a : Attribute). (a.code == 0) ≡ false) false attrs.unknown (λ e there passed. not_zero (e.0 == 0) there) unknown.each))
    (once_part true attrs.unknown unknown.rising) behind

-- ---- each is found by its code

abbrev Found : Type 0
Found = Option Attribute

found-append : (code : ℕ) (xs ys : List Attribute) → found_of code (xs ++ ys) ≡ option_or (found_of code xs) (found_of code ys)
found-append code xs ys = find-append (λ (a : Attribute). a.code == code) xs ys

or_none : (o : Found) → option_or o None ≡ o
or_none None = refl
or_none (Some a) = refl

or_again : (o : Found) (b : Bool) → option_or o (cond b o None) ≡ o
or_again None true = refl
or_again None false = refl
or_again (Some a) b = refl

abbrev unknown_at : ℕ → Option (List ℕ) → Found
unknown_at code o = option_map (λ value. written unknown_flags code value) o

none_either : (b : Bool) → cond b (let none : Found = None in none) None ≡ None
none_either true = refl
none_either false = refl

here_if : (e : ℕ × List ℕ) (es : Unknown) (more : List Attribute) (b : Bool) → found_of e.0 more ≡ cond b (unknown_at e.0 (at e.0 es)) None
    → found_of e.0 (cond b (written unknown_flags e.0 e.1 ∷ []) [] ++ more) ≡ cond b (Some (written unknown_flags e.0 e.1)) None
here_if e es more true next = ap (λ (b : Bool). cond b (Some (written unknown_flags e.0 e.1)) (found_of e.0 more)) (eq-eqb e.0 e.0 refl)
here_if e es more false next = next

passed_if : (e : ℕ × List ℕ) (code : ℕ) (more : List Attribute) (b : Bool) → (e.0 ≡ code → ⊥) → found_of code (cond b (written unknown_flags e.0 e.1 ∷ []) [] ++ more) ≡ found_of code more
passed_if e code more true other = ap (λ (b : Bool). cond b (Some (written unknown_flags e.0 e.1)) (found_of code more)) (ne_eqb e.0 code other)
passed_if e code more false other = refl

IsFoundIn : Bool → Unknown → ℕ → Type 0
IsFoundIn first es code = found_of code (part_list first es) ≡ cond (is_in_part first code) (unknown_at code (at code es)) None

found_part : (first : Bool) (es : Unknown) (code : ℕ) → IsFoundIn first es code
unfolding IsFoundIn
found_part first [] code = sym (none_either (is_in_part first code))
found_part first (e ∷ es) code =
    let P : ℕ → Type 0 = λ c. found_of c (part_list first (e ∷ es)) ≡ cond (is_in_part first c) (unknown_at c (at c (e ∷ es))) None in
    elim (cases_eq e.0 code) [
      | inl own ↦
          subst P own
          (here_if e es (part_list first es) (is_in_part first e.0) (found_part first es e.0)
          ∙ ap (λ (o : Option (List ℕ)). cond (is_in_part first e.0) (unknown_at e.0 o) None) (sym (found_head e es)))
      | inr other ↦
          passed_if e code (part_list first es) (is_in_part first e.0) other
          ∙ (found_part first es code
          ∙ ap (λ (o : Option (List ℕ)). cond (is_in_part first code) (unknown_at code o) None) (sym (found_tail code e es (λ same. other (sym same)))))
    ]

optional_found : (flags code : ℕ) (o : Option (List ℕ)) → found_of code (optional_list flags code o) ≡ option_map (λ value. written flags code value) o
optional_found flags code None = refl
optional_found flags code (Some value) = ap (λ (b : Bool). let none : Found = None in cond b (Some (written flags code value)) none) (eq-eqb code code refl)

optional_passed : (flags other code : ℕ) (o : Option (List ℕ)) → (other ≡ code → ⊥) → found_of code (optional_list flags other o) ≡ None
optional_passed flags other code None apart = refl
optional_passed flags other code (Some value) apart = ap (λ (b : Bool). let none : Found = None in cond b (Some (written flags other value)) none) (ne_eqb other code apart)

abbrev known_at : PathAttributes → AttributeType → Found
known_at attrs t = option_map (λ value. written (flags_in attrs t) (octet_of t) value) (value_in attrs t)

abbrev is_among : AttributeType → List AttributeType → Bool
is_among t among = list_any (λ u. octet_of u == octet_of t) among

same_type : (t u : AttributeType) → octet_of u ≡ octet_of t → u ≡ t
same_type t u h = same_Some u t (sym (type_at u) ∙ (ap type_of h ∙ type_at t))

found_known : (attrs : PathAttributes) (t : AttributeType) (among : List AttributeType) → found_of (octet_of t) (known_list attrs among) ≡ cond (is_among t among) (known_at attrs t) None
found_known attrs t [] = refl
found_known attrs t (u ∷ more) =
    elim (cases_eq (octet_of u) (octet_of t)) [
      | inl own ↦
          found-append (octet_of t) (type_list attrs u) (known_list attrs more)
          ∙ (ap (λ (o : Found). option_or o (found_of (octet_of t) (known_list attrs more)))
          (ap (λ (v : AttributeType). found_of (octet_of t) (type_list attrs v)) (same_type t u own) ∙ optional_found (flags_in attrs t) (octet_of t) (value_in attrs t))
          ∙ (ap (option_or (known_at attrs t)) (found_known attrs t more)
          ∙ (or_again (known_at attrs t) (is_among t more)
          ∙ sym (ap (λ (b : Bool). cond (b || is_among t more) (known_at attrs t) None) (eq-eqb (octet_of u) (octet_of t) own)))))
      | inr other ↦
          found-append (octet_of t) (type_list attrs u) (known_list attrs more)
          ∙ (ap (λ (o : Found). option_or o (found_of (octet_of t) (known_list attrs more))) (optional_passed (flags_in attrs u) (octet_of u) (octet_of t) (value_in attrs u) other)
          ∙ (found_known attrs t more
          ∙ sym (ap (λ (b : Bool). cond (b || is_among t more) (known_at attrs t) None) (ne_eqb (octet_of u) (octet_of t) other))))
    ]

none_type : (code : ℕ) (u : AttributeType) → type_of code ≡ None → octet_of u ≡ code → ⊥
none_type code u none same = let both : Some u ≡ None = sym (type_at u) ∙ (ap type_of same ∙ none) in cc

absent_known : (attrs : PathAttributes) (code : ℕ) (among : List AttributeType) → type_of code ≡ None → found_of code (known_list attrs among) ≡ None
absent_known attrs code [] none = refl
absent_known attrs code (u ∷ more) none =
    found-append code (type_list attrs u) (known_list attrs more)
    ∙ (ap (λ (o : Found). option_or o (found_of code (known_list attrs more))) (optional_passed (flags_in attrs u) (octet_of u) code (value_in attrs u) (none_type code u none)) ∙ absent_known attrs code more none)

-- what is found among the unknown ones may be passed on
at_passed : (code : ℕ) (es : Unknown) (value : List ℕ) → AllByRecursion (λ e. (is_passed_on e.0 e.1 ≡ true) × (length e.1 ≤ 65535)) es → at code es ≡ Some value → is_passed_on code value ≡ true
at_passed code [] value each h = absurd cc
at_passed code (e ∷ es) value each h =
    elim (cases_eq code e.0) [
      | inl own ↦
          let same : e.1 ≡ value = same_Some e.1 value (sym (ap (λ (c : ℕ). at c (e ∷ es)) own ∙ found_head e es) ∙ h) in
          ap (λ (c : ℕ). is_passed_on c value) own ∙ (ap (λ (v : List ℕ). is_passed_on e.0 v) (sym same) ∙ each.0.0)
      | inr other ↦ at_passed code es value each.1 (sym (found_tail code e es other) ∙ h)
    ]

absent_if : (code : ℕ) (es : Unknown) (known : AttributeType) (o : Option (List ℕ)) → AllByRecursion (λ e. (is_passed_on e.0 e.1 ≡ true) × (length e.1 ≤ 65535)) es → type_of code ≡ Some known → at code es ≡ o → o ≡ None
absent_if code es known None each is h = refl
absent_if code es known (Some value) each is h =
    let both : Some known ≡ None = sym is ∙ no_type code value (at_passed code es value each h) in absurd cc

found_written : (attrs : PathAttributes) (code : ℕ) → found_of code (written_list attrs) ≡ option_or (found_of code (part_list true attrs.unknown)) (option_or (found_of code (known_list attrs types)) (found_of code (part_list false attrs.unknown)))
found_written attrs code =
    found-append code (part_list true attrs.unknown) (known_list attrs types ++ part_list false attrs.unknown)
    ∙ ap (option_or (found_of code (part_list true attrs.unknown))) (found-append code (known_list attrs types) (part_list false attrs.unknown))

not_zero_first : (b : Bool) (o : Found) → b ≡ false → cond b o None ≡ None
not_zero_first true o h = absurd cc
not_zero_first false o h = refl

among_types : (known : AttributeType) → is_among known types ≡ true
among_types known = all_types (λ t. is_among t types ≡ true) refl refl refl refl refl refl refl known

-- an attribute of each type
type_written : (attrs : PathAttributes) (known : AttributeType) → ArePassedOn attrs.unknown → found_of (octet_of known) (written_list attrs) ≡ known_at attrs known
unfolding IsFoundIn
type_written attrs known unknown =
    let code : ℕ = octet_of known in
    let absent : at code attrs.unknown ≡ None = absent_if code attrs.unknown known (at code attrs.unknown) unknown.each (type_at known) refl in
    let first : found_of code (part_list true attrs.unknown) ≡ None =
    found_part true attrs.unknown code ∙ not_zero_first (code == 0) (unknown_at code (at code attrs.unknown)) (octet_some known) in
    let last : found_of code (part_list false attrs.unknown) ≡ None =
    found_part false attrs.unknown code ∙ (ap (λ (o : Option (List ℕ)). cond (not (code == 0)) (unknown_at code o) None) absent ∙ none_either (not (code == 0))) in
    let middle : found_of code (known_list attrs types) ≡ known_at attrs known = found_known attrs known types ∙ ap (λ (b : Bool). cond b (known_at attrs known) None) (among_types known) in
    found_written attrs code
    ∙ (ap (λ (o : Found). option_or o (option_or (found_of code (known_list attrs types)) (found_of code (part_list false attrs.unknown)))) first
    ∙ (ap (λ (o : Found). option_or o (found_of code (part_list false attrs.unknown))) middle
    ∙ (ap (option_or (known_at attrs known)) last ∙ or_none (known_at attrs known))))

value_again : (flags code : ℕ) (o : Option (List ℕ)) → option_map (λ a. a.value) (option_map (λ value. written flags code value) o) ≡ o
value_again flags code None = refl
value_again flags code (Some value) = refl

value_if : (attrs : PathAttributes) (known : AttributeType) (taken : Bool) → (taken ≡ false → value_in attrs known ≡ None) → ArePassedOn attrs.unknown
    → option_map (λ a. a.value) (cond taken (found_of (octet_of known) (written_list attrs)) None) ≡ value_in attrs known
value_if attrs known true none unknown = ap (λ (o : Found). option_map (λ (a : Attribute). a.value) o) (type_written attrs known unknown) ∙ value_again (flags_in attrs known) (octet_of known) (value_in attrs known)
value_if attrs known false none unknown = sym (none refl)

written_values : (kind : PeerKind) (attrs : PathAttributes) → CanBeSpelled kind attrs → (known : AttributeType) → value_taken kind known (written_list attrs) ≡ value_in attrs known
written_values kind attrs can known = value_if attrs known (is_taken kind known) (can.taken known) can.unknown

partial_again : (b : Bool) → is_partial (192 + cond b 32 0) ≡ b
partial_again true = refl
partial_again false = refl

partial_said : (o : Option Aggregator) → option_map (λ a. is_partial a.flags) (option_map (λ value. written (192 + partial_flag o) 7 value) (option_map aggregator_spelling o)) ≡ option_map (λ a. a.is_partial) o
partial_said None = refl
partial_said (Some aggregator) = ap (λ (b : Bool). Some b) (partial_again aggregator.is_partial)

written_partial : (kind : PeerKind) (attrs : PathAttributes) → ArePassedOn attrs.unknown → option_map (λ a. is_partial a.flags) (taken_of kind type.Aggregator (written_list attrs)) ≡ option_map (λ a. a.is_partial) attrs.aggregator
written_partial kind attrs unknown = ap (λ (o : Found). option_map (λ (a : Attribute). is_partial a.flags) o) (type_written attrs type.Aggregator unknown) ∙ partial_said attrs.aggregator

-- ---- and the unknown ones

either_part : (b : Bool) (o : Found) → option_or (cond b o None) (cond (not b) o None) ≡ o
either_part true o = or_none o
either_part false o = refl

unknown_written : (attrs : PathAttributes) (code : ℕ) → type_of code ≡ None → found_of code (written_list attrs) ≡ unknown_at code (at code attrs.unknown)
unfolding IsFoundIn
unknown_written attrs code none =
    let o : Found = unknown_at code (at code attrs.unknown) in
    found_written attrs code
    ∙ (ap (λ (found : Found). option_or (found_of code (part_list true attrs.unknown)) (option_or found (found_of code (part_list false attrs.unknown)))) (absent_known attrs code types none)
    ∙ (ap (λ (found : Found). option_or found (found_of code (part_list false attrs.unknown))) (found_part true attrs.unknown code)
    ∙ (ap (option_or (cond (code == 0) o None)) (found_part false attrs.unknown code) ∙ either_part (code == 0) o)))

kept_flags : (long : Bool) → (bit_and (flags_at unknown_flags long) 192 == 192) ≡ true
kept_flags true = refl
kept_flags false = refl

kept_again : (code : ℕ) (value : List ℕ) → is_passed_on code value ≡ true → kept_value (written unknown_flags code value) ≡ Some value
kept_again code value passed =
    let long : Bool = nat_lt 255 (length value) in
    ap (λ (b : Bool). cond (b && bit_and (flags_at unknown_flags long) 192 == 192) (Some value) None) passed
    ∙ ap (λ (b : Bool). cond b (Some value) None) (kept_flags long)

kept_if : (code : ℕ) (es : Unknown) (o : Option (List ℕ)) → AllByRecursion (λ e. (is_passed_on e.0 e.1 ≡ true) × (length e.1 ≤ 65535)) es → at code es ≡ o → option_and_then kept_value (unknown_at code o) ≡ o
kept_if code es None each h = refl
kept_if code es (Some value) each h = kept_again code value (at_passed code es value each h)

typed_kept : (code : ℕ) (known : AttributeType) (a : Attribute) → type_of code ≡ Some known → a.code ≡ code → kept_value a ≡ None
typed_kept code known a is own =
    ap (λ (o : Option AttributeType). cond ((is_none o && travels_by unknown_codes a.code a.value) && bit_and a.flags 192 == 192) (Some a.value) None) (ap type_of own ∙ is)

typed_none : (attrs : PathAttributes) (code : ℕ) (known : AttributeType) (o : Option (List ℕ)) → type_of code ≡ Some known → octet_of known ≡ code
    → option_and_then kept_value (option_map (λ value. written (flags_in attrs known) (octet_of known) value) o) ≡ None
typed_none attrs code known None is own = refl
typed_none attrs code known (Some value) is own = typed_kept code known (written (flags_in attrs known) (octet_of known) value) is own

kept_by : (attrs : PathAttributes) (code : ℕ) (o : Option AttributeType) → ArePassedOn attrs.unknown → type_of code ≡ o → at code attrs.unknown ≡ kept_of code (written_list attrs)
kept_by attrs code None unknown is =
    sym (ap (λ (found : Found). option_and_then kept_value found) (unknown_written attrs code is) ∙ kept_if code attrs.unknown (at code attrs.unknown) unknown.each refl)
kept_by attrs code (Some known) unknown is =
    let own : octet_of known ≡ code = type_code code known is in
    absent_if code attrs.unknown known (at code attrs.unknown) unknown.each is refl
    ∙ sym (ap (λ (found : Found). option_and_then kept_value found) (ap (λ (c : ℕ). found_of c (written_list attrs)) (sym own) ∙ type_written attrs known unknown) ∙ typed_none attrs code known (value_in attrs known) is own)

-- what is written spells the attributes
pub written_spells : (kind : PeerKind) (attrs : PathAttributes) → CanBeSpelled kind attrs → SpellsAttributes kind (attributes_spelling attrs) attrs
written_spells kind attrs can =
    record {
      attributes = written_list attrs;
      joined = sym (written_joined attrs);
      each = written_each attrs can.short can.unknown;
      known = written_known kind attrs can.unknown;
      once = written_once attrs can.unknown;
      values = written_values kind attrs can;
      partial = written_partial kind attrs can.unknown;
      unknown = record { rising = can.unknown.rising; kept = λ code. kept_by attrs code (type_of code) can.unknown refl };
      lawful = can.lawful;
    }
