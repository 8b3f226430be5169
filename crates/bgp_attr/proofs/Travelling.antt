use Rattle.std.proofs.Common.{◌≡◌, ◌≢◌, ◌≤◌, ◌<◌, ◌*◌, ◌/◌, ◌%◌, Bool, true, false, cond, ℕ, zero, suc, List, [], ◌∷◌, ◌++◌, length, length-append, arith, refl, sym, ap, subst, ◌∙◌, append-nil}
use Rattle.std.specs.Prelude.{◌==◌, ◌&&◌, bit_and, is_none, not}
use Rattle.std.proofs.Math.Nat.{div-add-mod, mul-zero}
use Rattle.std.proofs.lemmas.Bool.{eqb-true}
use Rattle.std.proofs.lemmas.Map.Lookups.{exact_unsigned}
use Rattle.std.specs.BTreeMap.{insert_entry}
use Rattle.std.specs.List.{AllByRecursion}
use Rattle.std.specs.Ordering.{match_ordering, nat_cmp}
use Rattle.std.specs.declared.cmp.Ordering.{Ordering}
use Rattle.std.specs.declared.cmp.Ordering.TheVariants.{Less, Equal, Greater}
use Rattle.bgp_attr.specs.AttributeReading.{attributes_in}
use Rattle.bgp_attr.specs.AttributeSpelling.{attributes_spelling, flags_in, header_spelling, is_in_part, unknown_flags, value_in}
use Rattle.bgp_attr.specs.AttributeTable.{is_an_as, is_list_of, is_passed_on, octet_of, travels_by, type_of, types, unknown_codes}
use Rattle.bgp_attr.specs.PathAttributes.{PathAttributes}
use Rattle.bgp_attr.specs.ReceivedAttributes.{Attribute, IsAttribute, attribute_at, split_of, wholes}
use Rattle.bgp_attr.specs.TravellingAttributes.{AreTravelling, IsListOf, MayAllTravel, MayTravel}
use Rattle.bgp_attr.specs.UnknownAttributes.{ArePassedOn, Unknown, is_kept, kept_behind, with_kept}
use Rattle.bgp_attr.specs.declared.attribute_type.AttributeType.{AttributeType}
use Rattle.bgp_attr.specs.declared.peer.PeerKind.{PeerKind}
use Rattle.bgp_attr.proofs.AttributeSpellings.{all_types}
use Rattle.bgp_attr.proofs.SplitSpellings.{split_of-front}
use Rattle.bgp_attr.proofs.Splits.{split_of-none}
use Rattle.bgp_attr.proofs.WrittenSpellings.{IsShort, all_append, any_value, flags_short, is_attribute, known_all, known_list, part_list, part_one, part_one_all, written, written_joined, written_list}

-- Which attributes go on.

-- ---- what is kept may travel

list_if : (item n q : ℕ) → item * q ≡ n → (n ≡ 0 → ⊥) → IsListOf item n
list_if item n zero is some = absurd (some (sym is ∙ mul-zero item))
list_if item n (suc more) is some = (more, sym is)

and_left : (a b : Bool) → (a && b) ≡ true → a ≡ true
and_left true b h = refl
and_left false b h = absurd cc

and_right : (a b : Bool) → (a && b) ≡ true → b ≡ true
and_right true b h = h
and_right false b h = absurd cc

not_zero_some : (n : ℕ) (b : Bool) → (n == 0) ≡ b → not b ≡ true → n ≡ 0 → ⊥
not_zero_some n true is h none = absurd cc
not_zero_some n false is h none = let both : false ≡ true = sym is ∙ ap (λ (m : ℕ). m == 0) none in absurd cc

list_travels : (item n : ℕ) → is_list_of item n ≡ true → IsListOf item n
list_travels item n h =
    let rest : n % item ≡ 0 = eqb-true (n % item) 0 (and_right (not (n == 0)) (n % item == 0) h) in
    let whole : item * (n / item) ≡ n = omega (arith, rest, div-add-mod n item) in
    list_if item n (n / item) whole (not_zero_some n (n == 0) refl (and_left (not (n == 0)) (n % item == 0) h))

as_octets : (value : List ℕ) → is_an_as value ≡ true → length value ≡ 4
as_octets [] h = absurd cc
as_octets (a ∷ []) h = absurd cc
as_octets (a ∷ b ∷ []) h = absurd cc
as_octets (a ∷ b ∷ c ∷ []) h = absurd cc
as_octets (a ∷ b ∷ c ∷ d ∷ []) h = refl
as_octets (a ∷ b ∷ c ∷ d ∷ e ∷ more) h = absurd cc

as_some : (value : List ℕ) → is_an_as value ≡ true → value ≢ 0 ∷ 0 ∷ 0 ∷ 0 ∷ []
as_some value h = λ same. let off : is_an_as (0 ∷ 0 ∷ 0 ∷ 0 ∷ []) ≡ true = subst (λ (v : List ℕ). is_an_as v ≡ true) same h in absurd cc

travels_so : (code : ℕ) (value : List ℕ) → travels_by unknown_codes code value ≡ true → MayTravel code value
travels_so code value h =
    let at : (c : ℕ) → code ≡ c → travels_by unknown_codes c value ≡ true = λ c same. subst (λ (c : ℕ). travels_by unknown_codes c value ≡ true) same h in
    record {
      originator_id = λ same. let off = at 9 same in absurd cc;
      cluster_list = λ same. let off = at 10 same in absurd cc;
      mp_reach_nlri = λ same. let off = at 14 same in absurd cc;
      mp_unreach_nlri = λ same. let off = at 15 same in absurd cc;
      as4_path = λ same. let off = at 17 same in absurd cc;
      as4_aggregator = λ same. let off = at 18 same in absurd cc;
      pmsi_tunnel = λ same. let off = at 22 same in absurd cc;
      tunnel_encapsulation = λ same. let off = at 23 same in absurd cc;
      prefix_sid = λ same. let off = at 40 same in absurd cc;
      communities = λ same. list_travels 4 (length value) (at 8 same);
      extended_communities = λ same. list_travels 8 (length value) (at 16 same);
      ipv6_extended_communities = λ same. list_travels 20 (length value) (at 25 same);
      large_communities = λ same. list_travels 12 (length value) (at 32 same);
      only_to_customer = λ same. record { octets = as_octets value (at 35 same); some = as_some value (at 35 same) };
    }

pub passed_travels : (code : ℕ) (value : List ℕ) → is_passed_on code value ≡ true → MayTravel code value
passed_travels code value h = travels_so code value (and_right (is_none (type_of code)) (travels_by unknown_codes code value) h)

each_travels : (es : Unknown) → AllByRecursion (λ e. (is_passed_on e.0 e.1 ≡ true) × (length e.1 ≤ 65535)) es → MayAllTravel es
each_travels [] each = tt
each_travels (e ∷ es) each = (passed_travels e.0 e.1 each.0.0, each_travels es each.1)

pub all_travel : (es : Unknown) → ArePassedOn es → MayAllTravel es
all_travel es passed = each_travels es passed.each

all_if : (P : ℕ × List ℕ → Type 0) (k : ℕ) (v : List ℕ) (e : ℕ × List ℕ) (es : Unknown) (r : Ordering) → nat_cmp k e.0 ≡ r → P (k, v) → P e → AllByRecursion P es
    → AllByRecursion P (insert_entry nat_cmp es k v) → AllByRecursion P (match_ordering r ((k, v) ∷ e ∷ es) ((e.0, v) ∷ es) (e ∷ insert_entry nat_cmp es k v))
all_if P k v e es Less is one first all more = (one, (first, all))
all_if P k v e es Equal is one first all more = (subst (λ (c : ℕ). P (c, v)) (exact_unsigned k e.0 is) one, all)
all_if P k v e es Greater is one first all more = (first, more)

all_insert : (P : ℕ × List ℕ → Type 0) (k : ℕ) (v : List ℕ) (es : Unknown) → P (k, v) → AllByRecursion P es → AllByRecursion P (insert_entry nat_cmp es k v)
all_insert P k v [] one all = (one, tt)
all_insert P k v (e ∷ es) one all = all_if P k v e es (nat_cmp k e.0) refl one all.0 all.1 (all_insert P k v es one all.1)

kept_travels : (b : Bool) (es : Unknown) (a : Attribute) → is_kept a ≡ b → MayAllTravel es → MayAllTravel (cond b (insert_entry nat_cmp es a.code a.value) es)
kept_travels true es a is all =
    all_insert (λ e. MayTravel e.0 e.1) a.code a.value es
    (passed_travels a.code a.value (and_left (is_passed_on a.code a.value) (bit_and a.flags 192 == 192) is)) all
kept_travels false es a is all = all

behind_travels : (es : Unknown) (attributes : List Attribute) → MayAllTravel es → MayAllTravel (kept_behind es attributes)
behind_travels es [] all = all
behind_travels es (a ∷ more) all = behind_travels (with_kept es a) more (kept_travels (is_kept a) es a refl all)

pub kept_all_travel : (kind : PeerKind) (octets : List ℕ) → MayAllTravel (attributes_in kind octets).unknown
unfolding attributes_in
kept_all_travel kind octets = behind_travels [] (split_of octets).0 tt

-- ---- and so may what is written

small_travels : (code : ℕ) (value : List ℕ) → code < 8 → MayTravel code value
small_travels code value small =
    record {
      originator_id = λ same. absurd (omega (arith, small, same));
      cluster_list = λ same. absurd (omega (arith, small, same));
      mp_reach_nlri = λ same. absurd (omega (arith, small, same));
      mp_unreach_nlri = λ same. absurd (omega (arith, small, same));
      as4_path = λ same. absurd (omega (arith, small, same));
      as4_aggregator = λ same. absurd (omega (arith, small, same));
      pmsi_tunnel = λ same. absurd (omega (arith, small, same));
      tunnel_encapsulation = λ same. absurd (omega (arith, small, same));
      prefix_sid = λ same. absurd (omega (arith, small, same));
      communities = λ same. absurd (omega (arith, small, same));
      extended_communities = λ same. absurd (omega (arith, small, same));
      ipv6_extended_communities = λ same. absurd (omega (arith, small, same));
      large_communities = λ same. absurd (omega (arith, small, same));
      only_to_customer = λ same. absurd (omega (arith, small, same));
    }

type_small : (known : AttributeType) → octet_of known < 8
type_small known = all_types (λ t. octet_of t < 8) (omega arith) (omega arith) (omega arith) (omega arith) (omega arith) (omega arith) (omega arith) known

-- what holds of each unknown attribute holds of each as it is written
part_each : (P : Attribute → Type 0) (Q : ℕ × List ℕ → Type 0) (first : Bool) (unknown : Unknown) → ((e : ℕ × List ℕ) → Q e → P (written unknown_flags e.0 e.1))
    → AllByRecursion Q unknown → AllByRecursion P (part_list first unknown)
part_each P Q first [] h each = tt
part_each P Q first (e ∷ es) h each =
    all_append P (part_one first e) (part_list first es) (part_one_all P (is_in_part first e.0) e (λ there. h e each.0)) (part_each P Q first es h each.1)

-- what holds of each unknown attribute and of each type holds of all that is written
written_all : (P : Attribute → Type 0) (Q : ℕ × List ℕ → Type 0) (attrs : PathAttributes) → ((e : ℕ × List ℕ) → Q e → P (written unknown_flags e.0 e.1))
    → ((t : AttributeType) (value : List ℕ) → P (written (flags_in attrs t) (octet_of t) value)) → AllByRecursion Q attrs.unknown → AllByRecursion P (written_list attrs)
written_all P Q attrs unknown known each =
    all_append P (part_list true attrs.unknown) (known_list attrs types ++ part_list false attrs.unknown) (part_each P Q true attrs.unknown unknown each)
    (all_append P (known_list attrs types) (part_list false attrs.unknown)
    (known_all P attrs types (λ t. any_value (λ value. P (written (flags_in attrs t) (octet_of t) value)) (value_in attrs t) (known t))) (part_each P Q false attrs.unknown unknown each))

written_travels : (attrs : PathAttributes) → MayAllTravel attrs.unknown → AllByRecursion (λ a. MayTravel a.code a.value) (written_list attrs)
written_travels attrs all =
    written_all (λ a. MayTravel a.code a.value) (λ e. MayTravel e.0 e.1) attrs (λ e may. may) (λ t value. small_travels (octet_of t) value (type_small t)) all

-- an attribute that is no longer than this is one
abbrev IsOneIfShort : Attribute → Type 0
IsOneIfShort a = length a.whole ≤ 65535 → IsAttribute a

one_if_short : (flags code : ℕ) (value : List ℕ) → IsShort flags → IsOneIfShort (written flags code value)
one_if_short flags code value flag = λ short. is_attribute flags code value flag (omega (arith, short, length-append (header_spelling flags code (length value)) value))

each_short : (most : ℕ) (attributes : List Attribute) → length (wholes attributes) ≤ most → AllByRecursion (λ a. length a.whole ≤ most) attributes
each_short most [] short = tt
each_short most (a ∷ more) short =
    (omega (arith, short, length-append a.whole (wholes more)), each_short most more (omega (arith, short, length-append a.whole (wholes more))))

each_one : (attributes : List Attribute) → AllByRecursion IsOneIfShort attributes → AllByRecursion (λ a. length a.whole ≤ 65535) attributes → AllByRecursion IsAttribute attributes
each_one [] one short = tt
each_one (a ∷ more) one short = (one.0 short.0, each_one more one.1 short.1)

none_split : split_of [] ≡ ([], [])
unfolding attribute_at
none_split = split_of-none [] refl

written_split : (attributes : List Attribute) → AllByRecursion IsAttribute attributes → split_of (wholes attributes) ≡ (attributes, [])
written_split attributes each =
    let front : split_of (wholes attributes ++ []) ≡ (attributes ++ (split_of []).0, (split_of []).1) = split_of-front attributes [] each in
    ap split_of (sym (append-nil (wholes attributes)))
    ∙ (front
    ∙ (ap (λ (parts : List Attribute × List ℕ). (attributes ++ parts.0, parts.1)) none_split
    ∙ ap (λ (all : List Attribute). let none : List ℕ = [] in (all, none)) (append-nil attributes)))

travelling_from : (octets : List ℕ) (attributes : List Attribute) → split_of octets ≡ (attributes, []) → AllByRecursion (λ a. MayTravel a.code a.value) attributes → AreTravelling octets
travelling_from octets attributes is all =
    record {
      each = subst (λ (parts : List Attribute × List ℕ). AllByRecursion (λ a. MayTravel a.code a.value) parts.0) (sym is) all;
      whole = ap (λ (parts : List Attribute × List ℕ). parts.1) is;
    }

pub spelling_travels : (attrs : PathAttributes) → MayAllTravel attrs.unknown → length (attributes_spelling attrs) ≤ 65535 → AreTravelling (attributes_spelling attrs)
spelling_travels attrs all short =
    let joined : wholes (written_list attrs) ≡ attributes_spelling attrs = written_joined attrs in
    let few : length (wholes (written_list attrs)) ≤ 65535 = subst (λ (octets : List ℕ). length octets ≤ 65535) (sym joined) short in
    let one : AllByRecursion IsOneIfShort (written_list attrs) =
    written_all IsOneIfShort (λ e. MayTravel e.0 e.1) attrs (λ e may. one_if_short unknown_flags e.0 e.1 (refl, refl)) (λ t value. one_if_short (flags_in attrs t) (octet_of t) value (flags_short attrs t)) all in
    subst AreTravelling joined
    (travelling_from (wholes (written_list attrs)) (written_list attrs) (written_split (written_list attrs) (each_one (written_list attrs) one (each_short 65535 (written_list attrs) few))) (written_travels attrs all))
