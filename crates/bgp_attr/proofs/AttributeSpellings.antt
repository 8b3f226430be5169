use Rattle.std.proofs.Common.{◌≡◌, ◌||◌, ◌/◌, ◌^◌, Bool, true, false, cond, ℕ, List, [], ◌∷◌, ◌++◌, length, map, Option, Some, None, inl, inr, refl, sym, ap, subst, ◌∙◌, append-nil}
use Rattle.std.specs.Prelude.{◌==◌, bit_and, is_none, is_some, nat_eq, not, slice_index, MatchOption, ⊤}
use Rattle.std.specs.List.{AllByRecursion, IsDistinct, find}
use Rattle.std.specs.Option.{option_and_then, option_map}
use Rattle.std.proofs.lemmas.Bool.{cases_eq, eq-eqb, eqb-false, eqb-true, ne_eqb}
use Rattle.std.proofs.lemmas.Option.{same_Some}
use Rattle.bgp_attr.specs.AsPath.{PathSegment}
use Rattle.bgp_attr.specs.AttributeFaults.{Fault, attribute_fault, attribute_tests, attributes_fault, cut_fault, fault_among, first_fault, has_code, is_host, is_no_host, known_tests, or_else, type_tests, AttributeFlags, AttributeLength, InvalidNextHop, InvalidOrigin, MalformedAsPath, MalformedAttributeList, UnrecognizedWellKnown}
use Rattle.bgp_attr.specs.AttributeReading.{attributes_from, attributes_in, number_in, origin_in, taken_of, value_taken}
use Rattle.bgp_attr.specs.AttributeSpelling.{AreLawful, HasClass, IsHost, SpellsAttributes, value_in}
use Rattle.bgp_attr.specs.AttributeTable.{class_flags_of, class_of, is_taken, octet_of, type_of, types}
use Rattle.bgp_attr.specs.PathAttributes.{PathAttributes, origin_at}
use Rattle.bgp_attr.specs.PathReading.{is_malformed_path, path_at}
use Rattle.bgp_attr.specs.ReceivedAttributes.{AreOctets, Attribute, IsAttribute, Split, found_of, is_extended, is_optional, length_octets, split_of, split_within, value_of, wholes}
use Rattle.bgp_attr.specs.UnknownAttributes.{Unknown}
use Rattle.bgp_attr.specs.declared.aggregator.Aggregator.{Aggregator}
use Rattle.bgp_attr.specs.declared.attrs.Origin.{Origin}
use Rattle.bgp_attr.specs.declared.attribute_type.AttributeType.{AttributeType}
use Rattle.bgp_attr.specs.declared.attribute_type.AttributeType.TheVariants as type
use Rattle.bgp_attr.specs.declared.peer.PeerKind.{PeerKind}
use Rattle.bgp_attr.proofs.Faults.{first_fault-none, or_else-none}
use Rattle.bgp_attr.proofs.Octets.{octets-left, octets-right}
use Rattle.bgp_attr.proofs.PathSpellings.{or_false}
use Rattle.bgp_attr.proofs.SoundValues.{IsGood, IsSound, aggregator_is_read, aggregator_is_spelled, as_path_is_read, as_path_is_spelled, mark_is_read, mark_is_spelled, next_hop_is_read, next_hop_is_spelled, no_host_false, not_false, number_is_read, number_is_spelled, origin_is_read, origin_is_spelled, value_sound}
use Rattle.bgp_attr.proofs.SplitSpellings.{is_split, split_of-front}
use Rattle.bgp_attr.proofs.UnknownLists.{unknown_is_read, unknown_is_spelled}

-- Attributes have no fault exactly where their octets spell something.

abbrev codes : List Attribute → List ℕ
codes attributes = map (λ a. a.code) attributes

-- none of the codes came before
abbrev AreNew : List ℕ → List ℕ → Type 0
AreNew earlier later = AllByRecursion (λ (code : ℕ). has_code earlier code ≡ false) later

-- the code is none of these
abbrev IsOther : ℕ → List ℕ → Type 0
IsOther code others = AllByRecursion (λ (other : ℕ). nat_eq code other ≡ false) others

new_behind : (code : ℕ) (earlier later : List ℕ) → IsOther code later → AreNew earlier later → AreNew (code ∷ earlier) later
new_behind code earlier [] other new = tt
new_behind code earlier (x ∷ xs) other new = (ap (λ (b : Bool). b || has_code earlier x) other.0 ∙ new.0, new_behind code earlier xs other.1 new.1)

other_before : (code : ℕ) (earlier later : List ℕ) → AreNew (code ∷ earlier) later → IsOther code later
other_before code earlier [] new = tt
other_before code earlier (x ∷ xs) new = ((or_false (nat_eq code x) (has_code earlier x) new.0).0, other_before code earlier xs new.1)

new_before : (code : ℕ) (earlier later : List ℕ) → AreNew (code ∷ earlier) later → AreNew earlier later
new_before code earlier [] new = tt
new_before code earlier (x ∷ xs) new = ((or_false (nat_eq code x) (has_code earlier x) new.0).1, new_before code earlier xs new.1)

-- the attribute of a code behind one attribute
found_own : (code : ℕ) (a : Attribute) (more : List Attribute) → a.code ≡ code → found_of code (a ∷ more) ≡ Some a
found_own code a more own = ap (λ (b : Bool). cond b (Some a) (found_of code more)) (eq-eqb a.code code own)

found_other : (code : ℕ) (a : Attribute) (more : List Attribute) → (a.code ≡ code → ⊥) → found_of code (a ∷ more) ≡ found_of code more
found_other code a more other = ap (λ (b : Bool). cond b (Some a) (found_of code more)) (ne_eqb a.code code other)

found_absent : (code : ℕ) (attributes : List Attribute) → IsOther code (codes attributes) → found_of code attributes ≡ None
found_absent code [] h = refl
found_absent code (a ∷ more) h = found_other code a more (λ same. eqb-false code a.code h.0 (sym same)) ∙ found_absent code more h.1

-- the type of a code has that code
passes_if : (p : AttributeType → Bool) (x known : AttributeType) (more : List AttributeType) (b : Bool) → p x ≡ b → cond b (Some x) (find p more) ≡ Some known → (find p more ≡ Some known → p known ≡ true) → p known ≡ true
passes_if p x known more true is h next = ap p (sym (same_Some x known h)) ∙ is
passes_if p x known more false is h next = next h

passes : (p : AttributeType → Bool) (known : AttributeType) (among : List AttributeType) → find p among ≡ Some known → p known ≡ true
passes p known [] h = absurd cc
passes p known (x ∷ more) h = passes_if p x known more (p x) refl h (passes p known more)

pub type_code : (code : ℕ) (known : AttributeType) → type_of code ≡ Some known → octet_of known ≡ code
type_code code known h = eqb-true (octet_of known) code (passes (λ (t : AttributeType). octet_of t == code) known types h)

-- what is taken of an attribute that such a peer may send
taken_true : (kind : PeerKind) (known : AttributeType) (attributes : List Attribute) → is_taken kind known ≡ true → taken_of kind known attributes ≡ found_of (octet_of known) attributes
taken_true kind known attributes h = ap (λ (b : Bool). cond b (found_of (octet_of known) attributes) None) h

-- ---- what is spelled has no fault

three_tests : (x y z : Bool) (f g h : Fault) → x ≡ false → y ≡ false → z ≡ false → first_fault ((x, f) ∷ (y, g) ∷ (z, h) ∷ []) ≡ None
three_tests true y z f g h a b c = absurd cc
three_tests false true z f g h a b c = absurd cc
three_tests false false true f g h a b c = absurd cc
three_tests false false false f g h a b c = refl

two_tests : (x y : Bool) (f g : Fault) → x ≡ false → y ≡ false → first_fault ((x, f) ∷ (y, g) ∷ []) ≡ None
two_tests true y f g a b = absurd cc
two_tests false true f g a b = absurd cc
two_tests false false f g a b = refl

not_true : (b : Bool) → b ≡ true → not b ≡ false
not_true b h = ap not h

-- an attribute has the flags of its class
has_flags : (known : AttributeType) (a : Attribute) → bit_and a.flags 192 ≡ class_flags_of (class_of known) → not (bit_and a.flags 192 == class_flags_of (class_of known)) ≡ false
has_flags known a class = not_true (bit_and a.flags 192 == class_flags_of (class_of known)) (eq-eqb (bit_and a.flags 192) (class_flags_of (class_of known)) class)

-- and the length of its type
has_length : (a : Attribute) (n : ℕ) → length a.value ≡ n → not (length a.value == n) ≡ false
has_length a n h = not_true (length a.value == n) (eq-eqb (length a.value) n h)

-- one whose value has no test
untested : (known : AttributeType) (a : Attribute) (n : ℕ) → bit_and a.flags 192 ≡ class_flags_of (class_of known) → length a.value ≡ n
    → first_fault ((not (bit_and a.flags 192 == class_flags_of (class_of known)), AttributeFlags a.whole) ∷ (not (length a.value == n), AttributeLength a.whole) ∷ []) ≡ None
untested known a n class h =
    two_tests (not (bit_and a.flags 192 == class_flags_of (class_of known))) (not (length a.value == n)) (AttributeFlags a.whole) (AttributeLength a.whole) (has_flags known a class) (has_length a n h)

known_tests-pass : (kind : PeerKind) (known : AttributeType) (a : Attribute) → bit_and a.flags 192 ≡ class_flags_of (class_of known) → IsGood kind known a.value → first_fault (known_tests kind known a) ≡ None
known_tests-pass kind type.Origin a class good =
    three_tests (not (bit_and a.flags 192 == 64)) (not (length a.value == 1)) (is_none (origin_at (slice_index a.value 0))) (AttributeFlags a.whole) (AttributeLength a.whole) (InvalidOrigin a.whole)
    (has_flags type.Origin a class) (has_length a 1 good.0) good.1
known_tests-pass kind type.AsPath a class good =
    three_tests (not (bit_and a.flags 192 == 64)) false (is_malformed_path kind a.value) (AttributeFlags a.whole) (AttributeLength a.whole) MalformedAsPath
    (has_flags type.AsPath a class) refl good
known_tests-pass kind type.NextHop a class good =
    three_tests (not (bit_and a.flags 192 == 64)) (not (length a.value == 4)) (is_no_host (slice_index a.value 0)) (AttributeFlags a.whole) (AttributeLength a.whole) (InvalidNextHop a.whole)
    (has_flags type.NextHop a class) (has_length a 4 good.0) good.1
known_tests-pass kind type.MultiExitDisc a class good = untested type.MultiExitDisc a 4 class good
known_tests-pass kind type.LocalPref a class good = untested type.LocalPref a 4 class good
known_tests-pass kind type.AtomicAggregate a class good = untested type.AtomicAggregate a 0 class good
known_tests-pass kind type.Aggregator a class good = untested type.Aggregator a 8 class good

-- an attribute of such a type is good where it is taken
abbrev IsGoodAs : PeerKind → Option AttributeType → Attribute → Type 0
IsGoodAs kind o a = (known : AttributeType) → o ≡ Some known → is_taken kind known ≡ true → IsGood kind known a.value

taken_if : (taken : Bool) (tests : List (Bool × Fault)) → (taken ≡ true → first_fault tests ≡ None) → first_fault (cond taken tests []) ≡ None
taken_if true tests pass = pass refl
taken_if false tests pass = refl

type_tests-pass : (kind : PeerKind) (o : Option AttributeType) (a : Attribute) → HasClass kind o a.flags → IsGoodAs kind o a → first_fault (type_tests kind o a) ≡ None
type_tests-pass kind None a class good = ap (λ (b : Bool). first_fault ((not b, UnrecognizedWellKnown a.whole) ∷ [])) class
type_tests-pass kind (Some known) a class good = taken_if (is_taken kind known) (known_tests kind known a) (λ taken. known_tests-pass kind known a (class taken) (good known refl taken))

attribute_passes : (kind : PeerKind) (earlier : List ℕ) (a : Attribute) → has_code earlier a.code ≡ false → HasClass kind (type_of a.code) a.flags → IsGoodAs kind (type_of a.code) a → attribute_fault kind earlier a ≡ None
unfolding attribute_fault
attribute_passes kind earlier a new class good = ap (λ (came : Bool). first_fault (attribute_tests kind came a)) new ∙ type_tests-pass kind (type_of a.code) a class good

-- the values of all types that are taken
abbrev AreSound : PeerKind → List Attribute → Type 0
AreSound kind attributes = (known : AttributeType) → is_taken kind known ≡ true → IsSound kind known (value_of (octet_of known) attributes)

sound_here : (kind : PeerKind) (known : AttributeType) (a : Attribute) (more : List Attribute) → a.code ≡ octet_of known → IsSound kind known (value_of (octet_of known) (a ∷ more)) → IsGood kind known a.value
sound_here kind known a more own h = let P : Option Attribute → Type 0 = λ o. IsSound kind known (option_map (λ a. a.value) o) in subst P (found_own (octet_of known) a more own) h

sound_behind : (kind : PeerKind) (known : AttributeType) (a : Attribute) (more : List Attribute) → IsOther a.code (codes more) → IsSound kind known (value_of (octet_of known) (a ∷ more))
    → IsSound kind known (value_of (octet_of known) more)
sound_behind kind known a more others h =
    let P : Option Attribute → Type 0 = λ o. IsSound kind known (option_map (λ a. a.value) o) in
    elim (cases_eq a.code (octet_of known)) [
      | inl own ↦ subst P (sym (ap (λ (c : ℕ). found_of c more) (sym own) ∙ found_absent a.code more others)) tt
      | inr other ↦ subst P (found_other (octet_of known) a more other) h
    ]

first_passes : (kind : PeerKind) (earlier : List ℕ) (a : Attribute) (more : List Attribute) → has_code earlier a.code ≡ false → HasClass kind (type_of a.code) a.flags → AreSound kind (a ∷ more) → attribute_fault kind earlier a ≡ None
first_passes kind earlier a more new class sound =
    attribute_passes kind earlier a new class (λ known is taken. sound_here kind known a more (sym (type_code a.code known is)) (sound known taken))

faultless : (kind : PeerKind) (earlier : List ℕ) (attributes : List Attribute) → AllByRecursion (λ (a : Attribute). HasClass kind (type_of a.code) a.flags) attributes → IsDistinct nat_eq (codes attributes) → AreNew earlier (codes attributes)
    → AreSound kind attributes → fault_among kind earlier attributes [] ≡ None
unfolding fault_among IsDistinct
faultless kind earlier [] known once new sound = refl
faultless kind earlier (a ∷ more) known once new sound =
    let behind : AreSound kind more = λ known taken. sound_behind kind known a more once.0 (sound known taken) in
    ap (λ (o : Option Fault). or_else o (fault_among kind (a.code ∷ earlier) more [])) (first_passes kind earlier a more new.0 known.0 sound)
    ∙ faultless kind (a.code ∷ earlier) more known.1 once.1 (new_behind a.code earlier (codes more) once.0 new.1) behind

nothing_new : (later : List ℕ) → AreNew [] later
nothing_new [] = tt
nothing_new (x ∷ xs) = (refl, nothing_new xs)

split_whole : (attributes : List Attribute) (octets : List ℕ) → AllByRecursion IsAttribute attributes → octets ≡ wholes attributes → split_of octets ≡ (let split : Split = (attributes, []) in split)
unfolding split_of split_within
split_whole attributes octets each joined =
    ap split_of (joined ∙ sym (append-nil (wholes attributes)))
    ∙ (split_of-front attributes [] each ∙ ap (λ (front : List Attribute). let split : Split = (front, []) in split) (append-nil attributes))

-- the values that attributes spell are sound
spelled_sound : (kind : PeerKind) (attrs : PathAttributes) (attributes : List Attribute) → ((known : AttributeType) → value_taken kind known attributes ≡ value_in attrs known) → AreLawful kind attrs → AreSound kind attributes
spelled_sound kind attrs attributes values lawful known taken =
    let P : Option (List ℕ) → Type 0 = IsSound kind known in
    let same : value_in attrs known ≡ value_of (octet_of known) attributes = sym (values known) ∙ ap (λ (o : Option Attribute). option_map (λ (a : Attribute). a.value) o) (taken_true kind known attributes taken) in
    subst P same (value_sound kind attrs lawful known)

-- octets that spell attributes have no fault
pub spelled_faultless : (kind : PeerKind) (octets : List ℕ) (attrs : PathAttributes) → SpellsAttributes kind octets attrs → attributes_fault kind octets ≡ None
unfolding attributes_fault
spelled_faultless kind octets attrs s =
    ap (λ (split : Split). fault_among kind [] split.0 split.1) (split_whole s.attributes octets s.each s.joined)
    ∙ faultless kind [] s.attributes s.known s.once (nothing_new (codes s.attributes)) (spelled_sound kind attrs s.attributes s.values s.lawful)

made : Option Origin → Option (List PathSegment) → Option ℕ → Option ℕ → Option ℕ → Bool → Option Aggregator → Unknown → PathAttributes
made origin as_path next_hop multi_exit_disc local_pref atomic_aggregate aggregator unknown =
    record {
      origin = origin;
      as_path = as_path;
      next_hop = next_hop;
      multi_exit_disc = multi_exit_disc;
      local_pref = local_pref;
      atomic_aggregate = atomic_aggregate;
      aggregator = aggregator;
      unknown = unknown;
    }

-- what each type says, one type behind the other
made_alike : (o p : Option Origin) (ps qs : Option (List PathSegment)) (n1 n2 m1 m2 l1 l2 : Option ℕ) (g1 g2 : Bool) (a1 a2 : Option Aggregator) (u1 u2 : Unknown)
    → o ≡ p → ps ≡ qs → n1 ≡ n2 → m1 ≡ m2 → l1 ≡ l2 → g1 ≡ g2 → a1 ≡ a2 → u1 ≡ u2 → made o ps n1 m1 l1 g1 a1 u1 ≡ made p qs n2 m2 l2 g2 a2 u2
made_alike o p ps qs n1 n2 m1 m2 l1 l2 g1 g2 a1 a2 u1 u2 eo es en em el eg ea eu =
    ap (λ (x : Option Origin). made x ps n1 m1 l1 g1 a1 u1) eo
    ∙ (ap (λ (x : Option (List PathSegment)). made p x n1 m1 l1 g1 a1 u1) es
    ∙ (ap (λ (x : Option ℕ). made p qs x m1 l1 g1 a1 u1) en
    ∙ (ap (λ (x : Option ℕ). made p qs n2 x l1 g1 a1 u1) em
    ∙ (ap (λ (x : Option ℕ). made p qs n2 m2 x g1 a1 u1) el
    ∙ (ap (λ (x : Bool). made p qs n2 m2 l2 x a1 u1) eg
    ∙ (ap (λ (x : Option Aggregator). made p qs n2 m2 l2 g2 x u1) ea
    ∙ ap (λ (x : Unknown). made p qs n2 m2 l2 g2 a2 x) eu))))))

-- a number that is spelled is read
number_said : (o : Option (List ℕ)) (n : Option ℕ) (v : Option (List ℕ)) → o ≡ v → option_and_then number_in v ≡ n → option_and_then number_in o ≡ n
number_said o n v same read = ap (option_and_then number_in) same ∙ read

-- and are read as these
pub spelled_read : (kind : PeerKind) (octets : List ℕ) (attrs : PathAttributes) → SpellsAttributes kind octets attrs → attributes_in kind octets ≡ attrs
unfolding attributes_in made
spelled_read kind octets attrs s =
    ap (λ (split : Split). attributes_from kind split.0) (split_whole s.attributes octets s.each s.joined)
    ∙ made_alike _ attrs.origin _ attrs.as_path _ attrs.next_hop _ attrs.multi_exit_disc _ attrs.local_pref _ attrs.atomic_aggregate _ attrs.aggregator _ attrs.unknown
    (ap (option_and_then origin_in) (s.values type.Origin) ∙ origin_is_read attrs.origin)
    (ap (option_and_then path_at) (s.values type.AsPath) ∙ as_path_is_read kind attrs.as_path s.lawful.as_path)
    (number_said (value_taken kind type.NextHop s.attributes) attrs.next_hop (value_in attrs type.NextHop) (s.values type.NextHop) (next_hop_is_read attrs.next_hop s.lawful.next_hop))
    (number_said (value_taken kind type.MultiExitDisc s.attributes) attrs.multi_exit_disc (value_in attrs type.MultiExitDisc) (s.values type.MultiExitDisc) (number_is_read attrs.multi_exit_disc s.lawful.multi_exit_disc))
    (number_said (value_taken kind type.LocalPref s.attributes) attrs.local_pref (value_in attrs type.LocalPref) (s.values type.LocalPref) (number_is_read attrs.local_pref s.lawful.local_pref))
    (ap (λ (o : Option (List ℕ)). is_some o) (s.values type.AtomicAggregate) ∙ mark_is_read attrs.atomic_aggregate)
    (aggregator_is_read (taken_of kind type.Aggregator s.attributes) attrs.aggregator (s.values type.Aggregator) s.partial s.lawful.aggregator)
    (unknown_is_read s.attributes attrs.unknown s.once s.unknown)

-- ---- what has no fault is spelled

passed_class : (a : Attribute) (flags : ℕ) → not (bit_and a.flags 192 == flags) ≡ false → bit_and a.flags 192 ≡ flags
passed_class a flags h = eqb-true (bit_and a.flags 192) flags (not_false (bit_and a.flags 192 == flags) h)

-- the tests in front of the one of the value, and it
pub record HasPassed (a : Attribute) (flags : ℕ) (long bad : Bool) : Type 0 where
  pub class : bit_and a.flags 192 ≡ flags
  pub length : long ≡ false
  pub value : bad ≡ false

three_passed : (a : Attribute) (flags : ℕ) (long bad : Bool) (f g h : Fault) → first_fault ((not (bit_and a.flags 192 == flags), f) ∷ (long, g) ∷ (bad, h) ∷ []) ≡ None → HasPassed a flags long bad
three_passed a flags long bad f g h none =
    let first = first_fault-none (not (bit_and a.flags 192 == flags)) f ((long, g) ∷ (bad, h) ∷ []) none in
    let second = first_fault-none long g ((bad, h) ∷ []) first.1 in
    let third = first_fault-none bad h [] second.1 in
    record { class = passed_class a flags first.0; length = second.0; value = third.0 }

length_is : (value : List ℕ) (n : ℕ) → not (length value == n) ≡ false → length value ≡ n
length_is value n h = eqb-true (length value) n (not_false (length value == n) h)

-- the flags, the length and the value of a type pass
pub record IsFine (kind : PeerKind) (known : AttributeType) (a : Attribute) : Type 0 where
  pub class : bit_and a.flags 192 ≡ class_flags_of (class_of known)
  pub good : IsGood kind known a.value

two_passed : (a : Attribute) (flags n : ℕ) (f g : Fault) → first_fault ((not (bit_and a.flags 192 == flags), f) ∷ (not (length a.value == n), g) ∷ []) ≡ None → (bit_and a.flags 192 ≡ flags) × (length a.value ≡ n)
two_passed a flags n f g none =
    let first = first_fault-none (not (bit_and a.flags 192 == flags)) f ((not (length a.value == n), g) ∷ []) none in
    let second = first_fault-none (not (length a.value == n)) g [] first.1 in
    (passed_class a flags first.0, length_is a.value n second.0)

known_passed : (kind : PeerKind) (known : AttributeType) (a : Attribute) → first_fault (known_tests kind known a) ≡ None → IsFine kind known a
known_passed kind type.Origin a h =
    let p = three_passed a 64 (not (length a.value == 1)) (is_none (origin_at (slice_index a.value 0))) (AttributeFlags a.whole) (AttributeLength a.whole) (InvalidOrigin a.whole) h in
    record { class = p.class; good = (length_is a.value 1 p.length, p.value) }
known_passed kind type.AsPath a h =
    let p = three_passed a 64 false (is_malformed_path kind a.value) (AttributeFlags a.whole) (AttributeLength a.whole) MalformedAsPath h in
    record { class = p.class; good = p.value }
known_passed kind type.NextHop a h =
    let p = three_passed a 64 (not (length a.value == 4)) (is_no_host (slice_index a.value 0)) (AttributeFlags a.whole) (AttributeLength a.whole) (InvalidNextHop a.whole) h in
    record { class = p.class; good = (length_is a.value 4 p.length, p.value) }
known_passed kind type.MultiExitDisc a h = let p = two_passed a 128 4 (AttributeFlags a.whole) (AttributeLength a.whole) h in record { class = p.0; good = p.1 }
known_passed kind type.LocalPref a h = let p = two_passed a 64 4 (AttributeFlags a.whole) (AttributeLength a.whole) h in record { class = p.0; good = p.1 }
known_passed kind type.AtomicAggregate a h = let p = two_passed a 64 0 (AttributeFlags a.whole) (AttributeLength a.whole) h in record { class = p.0; good = p.1 }
known_passed kind type.Aggregator a h = let p = two_passed a 192 8 (AttributeFlags a.whole) (AttributeLength a.whole) h in record { class = p.0; good = p.1 }

-- an attribute whose flags, length and value pass
pub record IsPassed (kind : PeerKind) (o : Option AttributeType) (a : Attribute) : Type 0 where
  pub class : HasClass kind o a.flags
  pub good : IsGoodAs kind o a

fine_if : (kind : PeerKind) (known : AttributeType) (a : Attribute) (taken : Bool) → first_fault (cond taken (known_tests kind known a) []) ≡ None → taken ≡ true → IsFine kind known a
fine_if kind known a true h is = known_passed kind known a h
fine_if kind known a false h is = absurd cc

good_alone : (kind : PeerKind) (known other : AttributeType) (a : Attribute) → known ≡ other → IsGood kind known a.value → IsGood kind other a.value
good_alone kind known other a same good = let P : AttributeType → Type 0 = λ t. IsGood kind t a.value in subst P same good

fine_as : (kind : PeerKind) (known other : AttributeType) (a : Attribute) → first_fault (type_tests kind (Some known) a) ≡ None → known ≡ other → is_taken kind other ≡ true → IsGood kind other a.value
fine_as kind known other a h same taken =
    good_alone kind known other a same (fine_if kind known a (is_taken kind known) h (ap (is_taken kind) same ∙ taken)).good

tests_passed : (kind : PeerKind) (o : Option AttributeType) (a : Attribute) → first_fault (type_tests kind o a) ≡ None → IsPassed kind o a
tests_passed kind None a h =
    let first = first_fault-none (not (is_optional a.flags)) (UnrecognizedWellKnown a.whole) [] h in
    record { class = not_false (is_optional a.flags) first.0; good = λ known is taken. absurd cc }
tests_passed kind (Some known) a h =
    record { class = λ taken. (fine_if kind known a (is_taken kind known) h taken).class; good = λ other is taken. fine_as kind known other a h (same_Some known other is) taken }

-- attributes without fault, behind others
pub record AreFaultless (kind : PeerKind) (earlier : List ℕ) (attributes : List Attribute) (rest : List ℕ) : Type 0 where
  pub none : rest ≡ []
  pub known : AllByRecursion (λ (a : Attribute). HasClass kind (type_of a.code) a.flags) attributes
  pub new : AreNew earlier (codes attributes)
  pub once : IsDistinct nat_eq (codes attributes)
  pub good : AllByRecursion (λ (a : Attribute). IsGoodAs kind (type_of a.code) a) attributes

not_cut : (rest : List ℕ) → cut_fault rest ≡ None → rest ≡ []
not_cut [] h = refl
not_cut (octet ∷ more) h = absurd cc

are_faultless : (kind : PeerKind) (earlier : List ℕ) (attributes : List Attribute) (rest : List ℕ) → fault_among kind earlier attributes rest ≡ None → AreFaultless kind earlier attributes rest
unfolding fault_among attribute_fault IsDistinct
are_faultless kind earlier [] rest h = record { none = not_cut rest h; known = tt; new = tt; once = tt; good = tt }
are_faultless kind earlier (a ∷ more) rest h =
    let parts = or_else-none (first_fault (attribute_tests kind (has_code earlier a.code) a)) (fault_among kind (a.code ∷ earlier) more rest) h in
    let behind = are_faultless kind (a.code ∷ earlier) more rest parts.1 in
    let here = first_fault-none (has_code earlier a.code) MalformedAttributeList (type_tests kind (type_of a.code) a) parts.0 in
    let tested = tests_passed kind (type_of a.code) a here.1 in
    record {
      none = behind.none;
      known = (tested.class, behind.known);
      new = (here.0, new_before a.code earlier (codes more) behind.new);
      once = (other_before a.code earlier (codes more) behind.new, behind.once);
      good = (tested.good, behind.good);
    }

-- what holds of each type
pub all_types : (P : AttributeType → Type 0) → P type.Origin → P type.AsPath → P type.NextHop → P type.MultiExitDisc → P type.LocalPref → P type.AtomicAggregate → P type.Aggregator → (known : AttributeType) → P known
all_types P origin as_path next_hop multi_exit_disc local_pref atomic_aggregate aggregator type.Origin = origin
all_types P origin as_path next_hop multi_exit_disc local_pref atomic_aggregate aggregator type.AsPath = as_path
all_types P origin as_path next_hop multi_exit_disc local_pref atomic_aggregate aggregator type.NextHop = next_hop
all_types P origin as_path next_hop multi_exit_disc local_pref atomic_aggregate aggregator type.MultiExitDisc = multi_exit_disc
all_types P origin as_path next_hop multi_exit_disc local_pref atomic_aggregate aggregator type.LocalPref = local_pref
all_types P origin as_path next_hop multi_exit_disc local_pref atomic_aggregate aggregator type.AtomicAggregate = atomic_aggregate
all_types P origin as_path next_hop multi_exit_disc local_pref atomic_aggregate aggregator type.Aggregator = aggregator

pub type_at : (known : AttributeType) → type_of (octet_of known) ≡ Some known
type_at type.Origin = refl
type_at type.AsPath = refl
type_at type.NextHop = refl
type_at type.MultiExitDisc = refl
type_at type.LocalPref = refl
type_at type.AtomicAggregate = refl
type_at type.Aggregator = refl

sound_at : (kind : PeerKind) (known : AttributeType) (attributes : List Attribute) → is_taken kind known ≡ true
    → AllByRecursion (λ (a : Attribute). IsGoodAs kind (type_of a.code) a) attributes → IsSound kind known (value_of (octet_of known) attributes)
sound_at kind known [] taken good = tt
sound_at kind known (a ∷ more) taken good =
    let P : Option Attribute → Type 0 = λ o. IsSound kind known (option_map (λ a. a.value) o) in
    elim (cases_eq a.code (octet_of known)) [
      | inl own ↦ subst P (sym (found_own (octet_of known) a more own)) (good.0 known (ap type_of own ∙ type_at known) taken)
      | inr other ↦ subst P (sym (found_other (octet_of known) a more other)) (sound_at kind known more taken good.1)
    ]

sound_if : (kind : PeerKind) (known : AttributeType) (found : Option Attribute) (taken : Bool) → (taken ≡ true → IsSound kind known (option_map (λ a. a.value) found)) → IsSound kind known (option_map (λ a. a.value) (cond taken found None))
sound_if kind known found true h = h refl
sound_if kind known found false h = tt

-- what is taken is sound
sound_taken : (kind : PeerKind) (known : AttributeType) (attributes : List Attribute) → AllByRecursion (λ (a : Attribute). IsGoodAs kind (type_of a.code) a) attributes → IsSound kind known (value_taken kind known attributes)
sound_taken kind known attributes good = sound_if kind known (found_of (octet_of known) attributes) (is_taken kind known) (λ taken. sound_at kind known attributes taken good)

-- values are octets
value_octets : (a : Attribute) → IsAttribute a → AreOctets a.whole → AreOctets a.value
value_octets a is fits =
    let P : List ℕ → Type 0 = AreOctets in
    octets-right (a.flags ∷ a.code ∷ length_octets (is_extended a.flags) (length a.value)) a.value (subst P is.spelled fits)

-- the value of an attribute that may be there
abbrev HasOctets : Option Attribute → Type 0
HasOctets o = MatchOption o ⊤ (λ a. AreOctets a.value)

found_octets : (code : ℕ) (attributes : List Attribute) → AllByRecursion IsAttribute attributes → AreOctets (wholes attributes) → HasOctets (found_of code attributes)
found_octets code [] each fits = tt
found_octets code (a ∷ more) each fits =
    let P : Option Attribute → Type 0 = HasOctets in
    elim (cases_eq a.code code) [
      | inl own ↦ subst P (sym (found_own code a more own)) (value_octets a each.0 (octets-left a.whole (wholes more) fits))
      | inr other ↦ subst P (sym (found_other code a more other)) (found_octets code more each.1 (octets-right a.whole (wholes more) fits))
    ]

octets_if : (taken : Bool) (found : Option Attribute) → HasOctets found → HasOctets (cond taken found None)
octets_if true found h = h
octets_if false found h = tt

value_fits : (found : Option Attribute) → HasOctets found → MatchOption (option_map (λ a. a.value) found) ⊤ AreOctets
value_fits None h = tt
value_fits (Some a) h = h

eight_found : (kind : PeerKind) (found : Option Attribute) → IsSound kind type.Aggregator (option_map (λ a. a.value) found) → MatchOption found ⊤ (λ a. length a.value ≡ 8)
eight_found kind None h = tt
eight_found kind (Some a) h = h

-- octets without fault spell what is read
pub faultless_spelled : (kind : PeerKind) (octets : List ℕ) → AreOctets octets → attributes_fault kind octets ≡ None → SpellsAttributes kind octets (attributes_in kind octets)
unfolding attributes_fault attributes_in
faultless_spelled kind octets fits h =
    let attributes : List Attribute = (split_of octets).0 in
    let split = is_split octets fits in
    let all = are_faultless kind [] attributes (split_of octets).1 h in
    let joined : octets ≡ wholes attributes = split.joined ∙ (ap (λ (rest : List ℕ). wholes attributes ++ rest) all.none ∙ append-nil (wholes attributes)) in
    let P : List ℕ → Type 0 = AreOctets in
    let whole : AreOctets (wholes attributes) = subst P joined fits in
    let taken : (known : AttributeType) → HasOctets (taken_of kind known attributes) = λ known. octets_if (is_taken kind known) (found_of (octet_of known) attributes) (found_octets (octet_of known) attributes split.each whole) in
    let value : (known : AttributeType) → MatchOption (value_taken kind known attributes) ⊤ AreOctets = λ known. value_fits (taken_of kind known attributes) (taken known) in
    let sound : (known : AttributeType) → IsSound kind known (value_taken kind known attributes) = λ known. sound_taken kind known attributes all.good in
    let path = as_path_is_spelled kind (value_taken kind type.AsPath attributes) (value type.AsPath) (sound type.AsPath) in
    let next_hop = next_hop_is_spelled kind (value_taken kind type.NextHop attributes) (value type.NextHop) (sound type.NextHop) in
    let multi_exit_disc = number_is_spelled (value_taken kind type.MultiExitDisc attributes) (value type.MultiExitDisc) (sound type.MultiExitDisc) in
    let local_pref = number_is_spelled (value_taken kind type.LocalPref attributes) (value type.LocalPref) (sound type.LocalPref) in
    let aggregator = aggregator_is_spelled (taken_of kind type.Aggregator attributes) (taken type.Aggregator) (eight_found kind (taken_of kind type.Aggregator attributes) (sound type.Aggregator)) in
    record {
      attributes = attributes;
      joined = joined;
      each = split.each;
      known = all.known;
      once = all.once;
      values =
          all_types (λ (known : AttributeType). value_taken kind known attributes ≡ value_in (attributes_from kind attributes) known)
          (origin_is_spelled kind (value_taken kind type.Origin attributes) (sound type.Origin)) path.same next_hop.same multi_exit_disc.same local_pref.same
          (mark_is_spelled (value_taken kind type.AtomicAggregate attributes) (sound type.AtomicAggregate)) aggregator.same;
      partial = aggregator.partial;
      unknown = unknown_is_spelled attributes all.once;
      lawful = record {
        as_path = path.lawful;
        next_hop = next_hop.lawful;
        multi_exit_disc = multi_exit_disc.lawful;
        local_pref = local_pref.lawful;
        aggregator = aggregator.lawful;
      };
    }

host_sound : (o : Option ℕ) → MatchOption o ⊤ IsHost → MatchOption o ⊤ (λ address. is_host address ≡ true)
host_sound None h = tt
host_sound (Some address) h = ap not (no_host_false (address / 2 ^ 24) h.1 h.2 h.3)

-- a next hop without fault is the address of a host
pub next_hop_sound : (kind : PeerKind) (octets : List ℕ) → AreOctets octets → attributes_fault kind octets ≡ None → MatchOption (attributes_in kind octets).next_hop ⊤ (λ address. is_host address ≡ true)
next_hop_sound kind octets fits h = host_sound (attributes_in kind octets).next_hop (faultless_spelled kind octets fits h).lawful.next_hop
