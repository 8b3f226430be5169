use Rattle.std.proofs.Common.{◌≡◌, ◌≤◌, ◌<◌, ◌||◌, Bool, true, false, cond, ℕ, List, [], ◌∷◌, length, map, Option, Some, None, inl, inr, arith, refl, sym, ap, subst, ◌∙◌}
use Rattle.std.proofs.lemmas.Bool.{cases_eq, eq-eqb, eqb-false, ne_eqb}
use Rattle.std.proofs.lemmas.Cmp.{nat_cmp_total}
use Rattle.std.proofs.lemmas.Map.{lookup-none}
use Rattle.std.proofs.lemmas.Map.Entries.{none_below_head}
use Rattle.std.proofs.lemmas.Map.Keys.{sorted_head, sorted_tail}
use Rattle.std.proofs.lemmas.Map.Lookups.{exact_unsigned}
use Rattle.std.proofs.lemmas.Option.{same_Some}
use Rattle.std.specs.BTreeMap.{is_at, insert_entry}
use Rattle.std.specs.Cmp.{nat_cmp_is}
use Rattle.std.specs.List.{AllByRecursion, IsDistinct, find, insert, list_any}
use Rattle.std.specs.List.Sorted.{IsStrictlySortedBy}
use Rattle.std.specs.Map.{keys_of, lookup}
use Rattle.std.specs.Option.{option_and_then, option_or}
use Rattle.std.specs.Ordering.{is_eq, match_ordering, nat_cmp, ordering_reverse}
use Rattle.std.specs.Prelude.{◌==◌, nat_eq, slice_set, suc, OnErr, OnOk, Result, Ok, Err}
use Rattle.std.specs.declared.cmp.Ordering.{Ordering}
use Rattle.std.specs.declared.cmp.Ordering.TheVariants.{Less, Equal, Greater}
use Rattle.bgp_attr.specs.AttributeTable.{is_passed_on}
use Rattle.bgp_attr.specs.ReceivedAttributes.{Attribute}
use Rattle.bgp_attr.specs.UnknownAttributes.{ArePassedOn, SpellsUnknown, has_code, place_of, Unknown, is_kept, kept_behind, kept_of, kept_value, unknown_in, with_kept}
use Rattle.bgp_attr.proofs.EntryLists.{equal_from, length-insert_entry, lookup-insert_entry, some-insert_entry, sorted-insert_entry}

-- Which unknown attributes are kept.

abbrev pub at : ℕ → Unknown → Option (List ℕ)
at code unknown = lookup (is_at (nat_cmp code)) unknown

pub at_same : (a b : ℕ) → a ≡ b → is_at (nat_cmp a) b ≡ true
at_same a b h = sym (ap is_eq (nat_cmp_is a b Equal h))

at_other_if : (a b : ℕ) (r : Bool) → is_at (nat_cmp a) b ≡ r → (a ≡ b → ⊥) → r ≡ false
at_other_if a b true is other = absurd (other (exact_unsigned a b (equal_from (nat_cmp a b) is)))
at_other_if a b false is other = refl

pub at_other : (a b : ℕ) → (a ≡ b → ⊥) → is_at (nat_cmp a) b ≡ false
at_other a b other = at_other_if a b (is_at (nat_cmp a) b) refl other

-- ---- what may be passed on stays so with one more

each_if : (k : ℕ) (v : List ℕ) (e : ℕ × List ℕ) (es : Unknown) (r : Ordering) → nat_cmp k e.0 ≡ r → (is_passed_on k v ≡ true) × (length v ≤ 65535) → (is_passed_on e.0 e.1 ≡ true) × (length e.1 ≤ 65535)
    → AllByRecursion (λ x. (is_passed_on x.0 x.1 ≡ true) × (length x.1 ≤ 65535)) es → AllByRecursion (λ x. (is_passed_on x.0 x.1 ≡ true) × (length x.1 ≤ 65535)) (insert_entry nat_cmp es k v)
    → AllByRecursion (λ x. (is_passed_on x.0 x.1 ≡ true) × (length x.1 ≤ 65535)) (match_ordering r ((k, v) ∷ e ∷ es) ((e.0, v) ∷ es) (e ∷ insert_entry nat_cmp es k v))
each_if k v e es Less is one first all more = (one, (first, all))
each_if k v e es Equal is one first all more = ((sym (ap (λ (code : ℕ). is_passed_on code v) (exact_unsigned k e.0 is)) ∙ one.0, one.1), all)
each_if k v e es Greater is one first all more = (first, more)

each_insert : (k : ℕ) (v : List ℕ) (es : Unknown) → (is_passed_on k v ≡ true) × (length v ≤ 65535) → AllByRecursion (λ x. (is_passed_on x.0 x.1 ≡ true) × (length x.1 ≤ 65535)) es
    → AllByRecursion (λ x. (is_passed_on x.0 x.1 ≡ true) × (length x.1 ≤ 65535)) (insert_entry nat_cmp es k v)
each_insert k v [] one all = (one, tt)
each_insert k v (e ∷ es) one all = each_if k v e es (nat_cmp k e.0) refl one all.0 all.1 (each_insert k v es one all.1)

pub passed_on_insert : (k : ℕ) (v : List ℕ) (es : Unknown) → is_passed_on k v ≡ true → length v ≤ 65535 → ArePassedOn es → ArePassedOn (insert_entry nat_cmp es k v)
passed_on_insert k v es passed short all = record { rising = sorted-insert_entry nat_cmp_total k v es all.rising; each = each_insert k v es (passed, short) all.each }

-- also where memory was refused, and none came
pub passed_on_put : {T E : Type 0} (k : ℕ) (v : List ℕ) (es new : Unknown) (result : Result T E) → is_passed_on k v ≡ true → length v ≤ 65535 → ArePassedOn es
    → OnOk result (new ≡ insert_entry nat_cmp es k v) → OnErr result (new ≡ es) → ArePassedOn new
passed_on_put k v es new (Ok value) passed short all put refused = subst ArePassedOn (sym put) (passed_on_insert k v es passed short all)
passed_on_put k v es new (Err refusal) passed short all put refused = subst ArePassedOn (sym refused) all

-- ---- they rise

rising_if : (b : Bool) (es : Unknown) (a : Attribute) → IsStrictlySortedBy nat_cmp (keys_of es) → IsStrictlySortedBy nat_cmp (keys_of (cond b (insert_entry nat_cmp es a.code a.value) es))
rising_if true es a h = sorted-insert_entry nat_cmp_total a.code a.value es h
rising_if false es a h = h

rising_behind : (es : Unknown) (attributes : List Attribute) → IsStrictlySortedBy nat_cmp (keys_of es) → IsStrictlySortedBy nat_cmp (keys_of (kept_behind es attributes))
rising_behind es [] h = h
rising_behind es (a ∷ more) h = rising_behind (with_kept es a) more (rising_if (is_kept a) es a h)

nothing_rises : IsStrictlySortedBy nat_cmp (keys_of (let none : Unknown = [] in none))
unfolding IsStrictlySortedBy
nothing_rises = tt

pub none_passed_on : ArePassedOn []
none_passed_on = record { rising = nothing_rises; each = tt }

-- ---- each is found by its code

-- the code is none of these
abbrev IsOther : ℕ → List ℕ → Type 0
IsOther code others = AllByRecursion (λ (other : ℕ). nat_eq code other ≡ false) others

kept_own : (code : ℕ) (a : Attribute) (more : List Attribute) → a.code ≡ code → kept_of code (a ∷ more) ≡ kept_value a
kept_own code a more own = ap (λ (b : Bool). option_and_then kept_value (cond b (Some a) (find (λ (found : Attribute). found.code == code) more))) (eq-eqb a.code code own)

kept_other : (code : ℕ) (a : Attribute) (more : List Attribute) → (a.code ≡ code → ⊥) → kept_of code (a ∷ more) ≡ kept_of code more
kept_other code a more other = ap (λ (b : Bool). option_and_then kept_value (cond b (Some a) (find (λ (found : Attribute). found.code == code) more))) (ne_eqb a.code code other)

kept_absent : (code : ℕ) (attributes : List Attribute) → IsOther code (map (λ a. a.code) attributes) → kept_of code attributes ≡ None
kept_absent code [] h = refl
kept_absent code (a ∷ more) h = kept_other code a more (λ same. eqb-false code a.code h.0 (sym same)) ∙ kept_absent code more h.1

own_if : (code : ℕ) (es : Unknown) (a : Attribute) (b : Bool) → a.code ≡ code → at code (cond b (insert_entry nat_cmp es a.code a.value) es) ≡ option_or (cond b (Some a.value) None) (at code es)
own_if code es a true own = lookup-insert_entry nat_cmp_total code a.code a.value es ∙ ap (λ (b : Bool). cond b (Some a.value) (at code es)) (at_same a.code code own)
own_if code es a false own = refl

other_if : (code : ℕ) (es : Unknown) (a : Attribute) (b : Bool) → (a.code ≡ code → ⊥) → at code (cond b (insert_entry nat_cmp es a.code a.value) es) ≡ at code es
other_if code es a true other = lookup-insert_entry nat_cmp_total code a.code a.value es ∙ ap (λ (b : Bool). cond b (Some a.value) (at code es)) (at_other a.code code other)
other_if code es a false other = refl

kept_found : (code : ℕ) (es : Unknown) (attributes : List Attribute) → IsDistinct nat_eq (map (λ a. a.code) attributes) → at code (kept_behind es attributes) ≡ option_or (kept_of code attributes) (at code es)
unfolding IsDistinct
kept_found code es [] once = refl
kept_found code es (a ∷ more) once =
    elim (cases_eq a.code code) [
      | inl own ↦
          let P : ℕ → Type 0 = λ c. IsOther c (map (λ a. a.code) more) in
          kept_found code (with_kept es a) more once.1
          ∙ (ap (λ (o : Option (List ℕ)). option_or o (at code (with_kept es a))) (kept_absent code more (subst P own once.0))
          ∙ (own_if code es a (is_kept a) own ∙ sym (ap (λ (o : Option (List ℕ)). option_or o (at code es)) (kept_own code a more own))))
      | inr other ↦
          kept_found code (with_kept es a) more once.1
          ∙ (ap (option_or (kept_of code more)) (other_if code es a (is_kept a) other)
          ∙ sym (ap (λ (o : Option (List ℕ)). option_or o (at code es)) (kept_other code a more other)))
    ]

or_none : (o : Option (List ℕ)) → option_or o None ≡ o
or_none None = refl
or_none (Some value) = refl

-- what is kept of attributes is spelled by them
pub unknown_is_spelled : (attributes : List Attribute) → IsDistinct nat_eq (map (λ a. a.code) attributes) → SpellsUnknown attributes (unknown_in attributes)
unknown_is_spelled attributes once =
    record { rising = rising_behind [] attributes nothing_rises; kept = λ code. kept_found code [] attributes once ∙ or_none (kept_of code attributes) }

-- ---- entries in order are told apart by what is found of them

pub found_head : (e : ℕ × List ℕ) (es : Unknown) → at e.0 (e ∷ es) ≡ Some e.1
found_head e es = ap (λ (b : Bool). cond b (Some e.1) (at e.0 es)) (at_same e.0 e.0 refl)

pub found_tail : (code : ℕ) (e : ℕ × List ℕ) (es : Unknown) → (code ≡ e.0 → ⊥) → at code (e ∷ es) ≡ at code es
found_tail code e es other = ap (λ (b : Bool). cond b (Some e.1) (at code es)) (at_other code e.0 other)

none_among : (code : ℕ) (es : Unknown) → AllByRecursion (λ y. nat_cmp code y ≡ Less) (keys_of es) → at code es ≡ None
none_among code [] all = refl
none_among code (e ∷ es) all = ap (λ (b : Bool). cond b (Some e.1) (at code es)) (ap is_eq all.0) ∙ none_among code es all.1

behind_head : (e : ℕ × List ℕ) (es : Unknown) → IsStrictlySortedBy nat_cmp (keys_of (e ∷ es)) → at e.0 es ≡ None
behind_head e es rising = none_among e.0 es (sorted_head nat_cmp e.0 (keys_of es) rising)

below_head : (code : ℕ) (e : ℕ × List ℕ) (es : Unknown) → IsStrictlySortedBy nat_cmp (keys_of (e ∷ es)) → nat_cmp code e.0 ≡ Less → at code (e ∷ es) ≡ None
below_head code e es rising less = lookup-none (is_at (nat_cmp code)) (e ∷ es) (none_below_head nat_cmp_total code e es rising less)

same_pair : (e f : ℕ × List ℕ) (es fs : Unknown) → e.0 ≡ f.0 → e.1 ≡ f.1 → es ≡ fs → e ∷ es ≡ f ∷ fs
same_pair e f es fs code value more =
    ap (λ (n : ℕ). (n, e.1) ∷ es) code ∙ (ap (λ (octets : List ℕ). (f.0, octets) ∷ es) value ∙ ap (λ (rest : Unknown). f ∷ rest) more)

same_tails : (e f : ℕ × List ℕ) (es fs : Unknown) → IsStrictlySortedBy nat_cmp (keys_of (e ∷ es)) → IsStrictlySortedBy nat_cmp (keys_of (f ∷ fs)) → e.0 ≡ f.0
    → ((code : ℕ) → at code (e ∷ es) ≡ at code (f ∷ fs)) → (code : ℕ) → at code es ≡ at code fs
same_tails e f es fs rising others same h code =
    elim (cases_eq code e.0) [
      | inl own ↦
          ap (λ (c : ℕ). at c es) own ∙ (behind_head e es rising ∙ (sym (behind_head f fs others) ∙ ap (λ (c : ℕ). at c fs) (sym (own ∙ same))))
      | inr other ↦ sym (found_tail code e es other) ∙ (h code ∙ found_tail code f fs (λ is. other (is ∙ sym same)))
    ]

none_some : (value : List ℕ) → (let none : Option (List ℕ) = None in none) ≡ Some value → ⊥
none_some value h = cc

apart_if : (e f : ℕ × List ℕ) (es fs : Unknown) (r : Ordering) → nat_cmp e.0 f.0 ≡ r → nat_cmp f.0 e.0 ≡ ordering_reverse r
    → IsStrictlySortedBy nat_cmp (keys_of (e ∷ es)) → IsStrictlySortedBy nat_cmp (keys_of (f ∷ fs)) → ((code : ℕ) → at code (e ∷ es) ≡ at code (f ∷ fs)) → e.0 ≡ f.0
apart_if e f es fs Less is back rising others h = absurd (none_some e.1 (sym (below_head e.0 f fs others is) ∙ (sym (h e.0) ∙ found_head e es)))
apart_if e f es fs Equal is back rising others h = exact_unsigned e.0 f.0 is
apart_if e f es fs Greater is back rising others h = absurd (none_some f.1 (sym (below_head f.0 e es rising back) ∙ (h f.0 ∙ found_head f fs)))

same_entries : (es fs : Unknown) → IsStrictlySortedBy nat_cmp (keys_of es) → IsStrictlySortedBy nat_cmp (keys_of fs) → ((code : ℕ) → at code es ≡ at code fs) → es ≡ fs
same_entries [] [] rising others h = refl
same_entries [] (f ∷ fs) rising others h = absurd (none_some f.1 (h f.0 ∙ found_head f fs))
same_entries (e ∷ es) [] rising others h = absurd (none_some e.1 (sym (h e.0) ∙ found_head e es))
same_entries (e ∷ es) (f ∷ fs) rising others h =
    let same : e.0 ≡ f.0 = apart_if e f es fs (nat_cmp e.0 f.0) refl (nat_cmp_total.antisymm f.0 e.0) rising others h in
    let value : Some e.1 ≡ Some f.1 = sym (found_head e es) ∙ (h e.0 ∙ (ap (λ (c : ℕ). at c (f ∷ fs)) same ∙ found_head f fs)) in
    same_pair e f es fs same (same_Some e.1 f.1 value)
    (same_entries es fs (sorted_tail nat_cmp e.0 (keys_of es) rising) (sorted_tail nat_cmp f.0 (keys_of fs) others) (same_tails e f es fs rising others same h))

-- and nothing else is
pub unknown_is_read : (attributes : List Attribute) (unknown : Unknown) → IsDistinct nat_eq (map (λ a. a.code) attributes) → SpellsUnknown attributes unknown → unknown_in attributes ≡ unknown
unknown_is_read attributes unknown once spells =
    let read = unknown_is_spelled attributes once in
    same_entries (unknown_in attributes) unknown read.rising spells.rising (λ code. read.kept code ∙ sym (spells.kept code))

-- ---- whether there are any

grown_if : (b : Bool) (es : Unknown) (a : Attribute) → length es ≤ length (cond b (insert_entry nat_cmp es a.code a.value) es)
grown_if true es a = length-insert_entry nat_cmp_total a.code a.value es
grown_if false es a = omega arith

grown : (es : Unknown) (attributes : List Attribute) → length es ≤ length (kept_behind es attributes)
grown es [] = omega arith
grown es (a ∷ more) = omega (arith, grown_if (is_kept a) es a, grown (with_kept es a) more)

any_if : (b : Bool) (es : Unknown) (a : Attribute) (more : List Attribute) → is_kept a ≡ b → (b || list_any (λ x. is_kept x) more) ≡ true
    → (list_any (λ x. is_kept x) more ≡ true → 0 < length (kept_behind (cond b (insert_entry nat_cmp es a.code a.value) es) more))
    → 0 < length (kept_behind (cond b (insert_entry nat_cmp es a.code a.value) es) more)
any_if true es a more is any next = omega (arith, some-insert_entry nat_cmp_total a.code a.value es, grown (insert_entry nat_cmp es a.code a.value) more)
any_if false es a more is any next = next any

some_behind : (es : Unknown) (attributes : List Attribute) → list_any (λ x. is_kept x) attributes ≡ true → 0 < length (kept_behind es attributes)
some_behind es [] any = absurd cc
some_behind es (a ∷ more) any = any_if (is_kept a) es a more refl any (λ behind. some_behind (with_kept es a) more behind)

pub some_unknown : (attributes : List Attribute) → list_any (λ x. is_kept x) attributes ≡ true → 0 < length (unknown_in attributes)
some_unknown attributes any = some_behind [] attributes any

none_if : (b : Bool) (es : Unknown) (a : Attribute) (more : List Attribute) → (b || list_any (λ x. is_kept x) more) ≡ false
    → (list_any (λ x. is_kept x) more ≡ false → kept_behind es more ≡ es) → kept_behind (cond b (insert_entry nat_cmp es a.code a.value) es) more ≡ es
none_if true es a more none next = absurd cc
none_if false es a more none next = next none

none_behind : (es : Unknown) (attributes : List Attribute) → list_any (λ x. is_kept x) attributes ≡ false → kept_behind es attributes ≡ es
none_behind es [] none = refl
none_behind es (a ∷ more) none = none_if (is_kept a) es a more none (λ behind. none_behind es more behind)

pub no_unknown : (attributes : List Attribute) → list_any (λ x. is_kept x) attributes ≡ false → unknown_in attributes ≡ []
no_unknown attributes none = none_behind [] attributes none

-- ---- at its place

set_if : (k : ℕ) (v : List ℕ) (e : ℕ × List ℕ) (es : Unknown) (r : Ordering) → nat_cmp k e.0 ≡ r → has_code (e ∷ es) (match_ordering r 0 0 (suc (place_of k es))) k ≡ true
    → (has_code es (place_of k es) k ≡ true → slice_set es (place_of k es) (k, v) ≡ insert_entry nat_cmp es k v)
    → slice_set (e ∷ es) (match_ordering r 0 0 (suc (place_of k es))) (k, v) ≡ match_ordering r ((k, v) ∷ e ∷ es) ((e.0, v) ∷ es) (e ∷ insert_entry nat_cmp es k v)
set_if k v e es Less is has more = let no : false ≡ true = sym (ap is_eq is) ∙ has in absurd cc
set_if k v e es Equal is has more = ap (λ c. (c, v) ∷ es) (exact_unsigned k e.0 is)
set_if k v e es Greater is has more = ap (λ t. e ∷ t) (more has)

-- where that at the place of a code has the code, it takes the value
pub set_at_place : (k : ℕ) (v : List ℕ) (es : Unknown) → has_code es (place_of k es) k ≡ true → slice_set es (place_of k es) (k, v) ≡ insert_entry nat_cmp es k v
set_at_place k v [] has = absurd cc
set_at_place k v (e ∷ es) has = set_if k v e es (nat_cmp k e.0) refl has (set_at_place k v es)

insert_if : (k : ℕ) (v : List ℕ) (e : ℕ × List ℕ) (es : Unknown) (r : Ordering) → nat_cmp k e.0 ≡ r → has_code (e ∷ es) (match_ordering r 0 0 (suc (place_of k es))) k ≡ false
    → (has_code es (place_of k es) k ≡ false → insert es (place_of k es) (k, v) ≡ insert_entry nat_cmp es k v)
    → insert (e ∷ es) (match_ordering r 0 0 (suc (place_of k es))) (k, v) ≡ match_ordering r ((k, v) ∷ e ∷ es) ((e.0, v) ∷ es) (e ∷ insert_entry nat_cmp es k v)
insert_if k v e es Less is has more = refl
insert_if k v e es Equal is has more = let no : true ≡ false = sym (ap is_eq is) ∙ has in absurd cc
insert_if k v e es Greater is has more = ap (λ t. e ∷ t) (more has)

-- and where it doesn't, the attribute comes there
pub insert_at_place : (k : ℕ) (v : List ℕ) (es : Unknown) → has_code es (place_of k es) k ≡ false → insert es (place_of k es) (k, v) ≡ insert_entry nat_cmp es k v
insert_at_place k v [] has = refl
insert_at_place k v (e ∷ es) has = insert_if k v e es (nat_cmp k e.0) refl has (insert_at_place k v es)
