-- What a list means is one thing.
use Rattle.std.proofs.Common.{◌≡◌, ◌++◌, ◌⊎◌, ◌∙◌, ℕ, Bool, true, false, List, [], ◌∷◌, length, Option, None, Some, Result, Ok, Err, inl, inr, refl, sym, ap, subst, arith}
use Rattle.json.specs.Json.{Json, null, boolean, number, string, array, object, Items, no_items, Members, document}
use Rattle.std.specs.Str.{IsUtf8}
use Rattle.json.proofs.Found.{Some_inj, not_found}
use Rattle.net_prefix.specs.MaxLengths.{IsMaxLength}
use Rattle.net_prefix.specs.declared.payload.Vrp.{Vrp}
use Rattle.net_prefix.specs.declared.prefix.Prefix.{Prefix}
use Rattle.net_prefix.proofs.PayloadSets.{same_payload, same_set}
use Rattle.net_prefix.proofs.Prefixes.{same_prefix}
use Rattle.net_prefix.proofs.Unique.{writes_one}
use Rattle.vrp_csv.specs.PayloadRows.{has_colon}
use Rattle.vrp_csv.specs.declared.list.Loaded.{Loaded}
use Rattle.vrp_csv.specs.ExpiredRows.{IsLeft}
use Rattle.vrp_csv.proofs.ReadRows.{left_one}
use Rattle.vrp_json.specs.ExpiredEntries.{AreEntriesAt, IsEntryAt, IsExpired, IsLoadAt, IsLoadOfAt, IsLoadOfValueAt, LoadsAt}
use Rattle.vrp_json.specs.PayloadDocument.{AreEntries, AreRefused, AreTexts, HasFaultBehind, HasRoas, IsLoad, IsNoJson, IsRefused, IsRefusedValue, entries_of, first_roas, is_array}
use Rattle.vrp_json.specs.PayloadEntries.{GivesAsn, HasPrefix, HasPrefixWord, IsEntry, is_object}
use Rattle.vrp_json.specs.declared.fault.EntryFault.{EntryFault}
use Rattle.vrp_json.specs.declared.fault.EntryFault.TheVariants as entry_fault
use Rattle.vrp_json.specs.declared.fault.JsonFault.{JsonFault}
use Rattle.vrp_json.specs.declared.fault.JsonFault.TheVariants as fault
use Rattle.vrp_json.proofs.Documents.{none_at_value}
use Rattle.vrp_json.proofs.Entries.{max_one}
use Rattle.vrp_json.proofs.ReadEntries.{said_by}

not_both : (b : Bool) → b ≡ true → b ≡ false → ⊥
not_both true h k = cc k
not_both false h k = cc h

asn_one : (entry : Json) (a b : ℕ) → GivesAsn entry a → GivesAsn entry b → a ≡ b
asn_one entry a b (word, is, h) (other, also, k) =
    let same : word ≡ other = Some_inj word other (sym is ∙ also) in
    let here = rw same at h in
    here.1.2 ∙ sym k.1.2

word_one : (entry : Json) (c d : Bool) (v w : List ℕ) → HasPrefixWord entry c v → HasPrefixWord entry d w → (v ≡ w) × (c ≡ d)
word_one entry c d v w h k =
    let same : v ≡ w = Some_inj v w (sym h.0 ∙ k.0) in
    (same, sym h.1 ∙ ap has_colon same ∙ k.1)

prefix_one : (entry : Json) (a b : ℕ) (p q : Prefix) → HasPrefix entry a p → HasPrefix entry b q → (a ≡ b) × (p ≡ q)
prefix_one entry a b p q (has, v, word, writes) (also, w, other, k) =
    let here = rw (word_one entry false false v w word other).0 at writes in
    let same = writes_one w p.bits p.len q.bits q.len here k in
    (asn_one entry a b has.1 also.1, same_prefix p q same.0 same.1)

payload_one : (entry : Json) (v w : Vrp) → IsEntry entry (Ok (Some v)) → IsEntry entry (Ok (Some w)) → v ≡ w
payload_one entry v w h k =
    let same = prefix_one entry v.asn.0 w.asn.0 v.prefix w.prefix h.0 k.0 in
    same_payload v w same.1 (max_one entry v.max_len w.max_len h.1 k.1) same.0

payload_or_max : (entry : Json) (v : Vrp) → IsEntry entry (Ok (Some v)) → IsEntry entry (Err entry_fault.Max) → ⊥
payload_or_max entry v h (asn, prefix, has, none) =
    let same = (prefix_one entry v.asn.0 asn v.prefix prefix h.0 has).1 in
    let fits : IsMaxLength v.prefix.len v.max_len = (v.reaches, v.short) in
    let len = ap (λ (p : Prefix). p.len) same in
    none v.max_len h.1 (rw len at fits)

has_or_bad : (entry : Json) (asn : ℕ) (p : Prefix) → HasPrefix entry asn p → IsEntry entry (Err entry_fault.Prefix) → ⊥
has_or_bad entry asn p (has, word, (is, colon), writes) (other, also, none) = (none word is).1 p writes

has_or_skipped : (entry : Json) (asn : ℕ) (p : Prefix) → HasPrefix entry asn p → IsEntry entry (Ok None) → ⊥
has_or_skipped entry asn p (has, v, word, writes) (other, also, w, colon) = absurd (cc (word_one entry false true v w word colon).1)

skipped_or_bad : (entry : Json) → IsEntry entry (Ok None) → IsEntry entry (Err entry_fault.Prefix) → ⊥
skipped_or_bad entry (asn, has, word, (is, colon)) (other, also, none) = not_both (has_colon word) colon (none word is).0

-- an entry has one answer
entry_one : (entry : Json) (a b : Result (Option Vrp) EntryFault) → IsEntry entry a → IsEntry entry b → a ≡ b
entry_one e (Ok (Some v)) (Ok (Some w)) h k = ap (λ (x : Vrp). Ok (Some x)) (payload_one e v w h k)
entry_one e (Ok (Some v)) (Ok None) h k = absurd (has_or_skipped e v.asn.0 v.prefix h.0 k)
entry_one e (Ok (Some v)) (Err entry_fault.Object) h k = absurd (not_both (is_object e) h.0.0.0 k)
entry_one e (Ok (Some v)) (Err entry_fault.Asn) h k = absurd (k.1 v.asn.0 h.0.0.1)
entry_one e (Ok (Some v)) (Err entry_fault.Prefix) h k = absurd (has_or_bad e v.asn.0 v.prefix h.0 k)
entry_one e (Ok (Some v)) (Err entry_fault.Max) h k = absurd (payload_or_max e v h k)
entry_one e (Ok None) (Ok (Some w)) h k = absurd (has_or_skipped e w.asn.0 w.prefix k.0 h)
entry_one e (Ok None) (Ok None) h k = refl
entry_one e (Ok None) (Err entry_fault.Object) h k = absurd (not_both (is_object e) h.1.0 k)
entry_one e (Ok None) (Err entry_fault.Asn) h k = absurd (k.1 h.0 h.1.1)
entry_one e (Ok None) (Err entry_fault.Prefix) h k = absurd (skipped_or_bad e h k)
entry_one e (Ok None) (Err entry_fault.Max) h k = absurd (has_or_skipped e k.0 k.1 k.2 h)
entry_one e (Err entry_fault.Object) (Ok (Some w)) h k = absurd (not_both (is_object e) k.0.0.0 h)
entry_one e (Err entry_fault.Object) (Ok None) h k = absurd (not_both (is_object e) k.1.0 h)
entry_one e (Err entry_fault.Object) (Err entry_fault.Object) h k = refl
entry_one e (Err entry_fault.Object) (Err entry_fault.Asn) h k = absurd (not_both (is_object e) k.0 h)
entry_one e (Err entry_fault.Object) (Err entry_fault.Prefix) h k = absurd (not_both (is_object e) k.1.0 h)
entry_one e (Err entry_fault.Object) (Err entry_fault.Max) h k = absurd (not_both (is_object e) k.2.0.0 h)
entry_one e (Err entry_fault.Asn) (Ok (Some w)) h k = absurd (h.1 w.asn.0 k.0.0.1)
entry_one e (Err entry_fault.Asn) (Ok None) h k = absurd (h.1 k.0 k.1.1)
entry_one e (Err entry_fault.Asn) (Err entry_fault.Object) h k = absurd (not_both (is_object e) h.0 k)
entry_one e (Err entry_fault.Asn) (Err entry_fault.Asn) h k = refl
entry_one e (Err entry_fault.Asn) (Err entry_fault.Prefix) h k = absurd (h.1 k.0 k.1.1)
entry_one e (Err entry_fault.Asn) (Err entry_fault.Max) h k = absurd (h.1 k.0 k.2.0.1)
entry_one e (Err entry_fault.Prefix) (Ok (Some w)) h k = absurd (has_or_bad e w.asn.0 w.prefix k.0 h)
entry_one e (Err entry_fault.Prefix) (Ok None) h k = absurd (skipped_or_bad e k h)
entry_one e (Err entry_fault.Prefix) (Err entry_fault.Object) h k = absurd (not_both (is_object e) h.1.0 k)
entry_one e (Err entry_fault.Prefix) (Err entry_fault.Asn) h k = absurd (k.1 h.0 h.1.1)
entry_one e (Err entry_fault.Prefix) (Err entry_fault.Prefix) h k = refl
entry_one e (Err entry_fault.Prefix) (Err entry_fault.Max) h k = absurd (has_or_bad e k.0 k.1 k.2 h)
entry_one e (Err entry_fault.Max) (Ok (Some w)) h k = absurd (payload_or_max e w k h)
entry_one e (Err entry_fault.Max) (Ok None) h k = absurd (has_or_skipped e h.0 h.1 h.2 k)
entry_one e (Err entry_fault.Max) (Err entry_fault.Object) h k = absurd (not_both (is_object e) h.2.0.0 k)
entry_one e (Err entry_fault.Max) (Err entry_fault.Asn) h k = absurd (k.1 h.0 h.2.0.1)
entry_one e (Err entry_fault.Max) (Err entry_fault.Prefix) h k = absurd (has_or_bad e h.0 h.1 h.2 k)
entry_one e (Err entry_fault.Max) (Err entry_fault.Max) h k = refl

answer_of : Result (Option Vrp) EntryFault → Option Vrp
answer_of (Ok answer) = answer
answer_of (Err why) = None

fault_of : Result (Option Vrp) EntryFault → EntryFault
fault_of (Ok answer) = entry_fault.Object
fault_of (Err why) = why

is_good : Result (Option Vrp) EntryFault → Bool
is_good (Ok answer) = true
is_good (Err why) = false

one_answer : (entry : Json) (x y : Option Vrp) → IsEntry entry (Ok x) → IsEntry entry (Ok y) → x ≡ y
unfolding answer_of
one_answer entry x y h k = ap answer_of (entry_one entry (Ok x) (Ok y) h k)

one_fault : (entry : Json) (f g : EntryFault) → IsEntry entry (Err f) → IsEntry entry (Err g) → f ≡ g
unfolding fault_of
one_fault entry f g h k = ap fault_of (entry_one entry (Err f) (Err g) h k)

good_or_faulty : (entry : Json) (x : Option Vrp) (f : EntryFault) → IsEntry entry (Ok x) → IsEntry entry (Err f) → ⊥
unfolding is_good
good_or_faulty entry x f h k = not_both true refl (sym (sym (ap is_good (entry_one entry (Ok x) (Err f) h k))))

one_left : (second : Option ℕ) (entry : Json) (x y : Option Vrp) → IsEntryAt second entry x → IsEntryAt second entry y → x ≡ y
one_left None entry x y h k = one_answer entry x y h k
one_left (Some second) entry x y (said, is, left) (other, also, left') =
    let same = one_answer entry said other is also in
    left_one (IsExpired second entry) other x y (subst (λ (o : Option Vrp). IsLeft (IsExpired second entry) o x) same left) left'

entries_one : (second : Option ℕ) (entries : List Json) (xs ys : List (Option Vrp)) → AreEntriesAt second entries xs → AreEntriesAt second entries ys → xs ≡ ys
entries_one second [] [] [] h k = refl
entries_one second [] [] (y ∷ ys) h k = absurd k
entries_one second [] (x ∷ xs) ys h k = absurd h
entries_one second (e ∷ entries) [] ys h k = absurd h
entries_one second (e ∷ entries) (x ∷ xs) [] h k = absurd k
entries_one second (e ∷ entries) (x ∷ xs) (y ∷ ys) h k =
    let head = one_left second e x y h.0 k.0 in
    let tail = entries_one second entries xs ys h.1 k.1 in
    λ i. head i ∷ tail i

-- two that are loaded are alike
abbrev pub AreAlike : Loaded → Loaded → Type 0
AreAlike a b = (a.set.keys ≡ b.set.keys) × (a.rows ≡ b.rows) × (a.skipped ≡ b.skipped)

load_one : (second : Option ℕ) (entries : List Json) (a b : Loaded) → IsLoadOfAt second entries a → IsLoadOfAt second entries b → AreAlike a b
load_one second entries a b (xs, are, set, count, skipped) (ys, also, other, as_many, as_skipped) =
    let same = entries_one second entries xs ys are also in
    let set_a = rw same at set in
    let skipped_a = rw same at skipped in (
      same_set a.set.keys b.set.keys set_a.0 other.0 (λ payload. set_a.1 payload ∙ sym (other.1 payload)),
      count ∙ sym as_many,
      skipped_a ∙ sym as_skipped,
    )

among : (before : List Json) (entry : Json) (after : List Json) (answers : List (Option Vrp)) → AreEntries (before ++ entry ∷ after) answers → (x : Option Vrp) × IsEntry entry (Ok x)
among [] entry after [] h = absurd h
among [] entry after (x ∷ xs) h = (x, h.0)
among (e ∷ before) entry after [] h = absurd h
among (e ∷ before) entry after (x ∷ xs) h = among before entry after xs h.1

good_entries : (entries : List Json) (answers : List (Option Vrp)) (f : EntryFault) (count : ℕ) → AreEntries entries answers → HasFaultBehind entries f count → ⊥
good_entries entries answers f count are (before, faulty, after, earlier, whole, good, len, is) =
    let here = among before faulty after answers (rw whole at are) in
    good_or_faulty faulty here.0 f here.1 is

head_of : List Json → Json
head_of [] = null
head_of (e ∷ es) = e

tail_of : List Json → List Json
tail_of [] = []
tail_of (e ∷ es) = es

-- of the same entries the first faults are one, and stand behind as many entries
same_place : (before other : List Json) (entry place : Json) (after rest : List Json) (xs ys : List (Option Vrp)) (f g : EntryFault)
    → before ++ entry ∷ after ≡ other ++ place ∷ rest → AreEntries before xs → AreEntries other ys → IsEntry entry (Err f) → IsEntry place (Err g) → (f ≡ g) × (length before ≡ length other)
unfolding head_of tail_of
same_place [] [] entry place after rest xs ys f g e h k p q =
    let same : entry ≡ place = ap head_of e in
    (one_fault place f g (subst (λ r. IsEntry r (Err f)) same p) q, refl)
same_place [] (o ∷ other) entry place after rest xs [] f g e h k p q = absurd k
same_place [] (o ∷ other) entry place after rest xs (y ∷ ys) f g e h k p q =
    let same : entry ≡ o = ap head_of e in
    absurd (good_or_faulty o y f k.0 (subst (λ r. IsEntry r (Err f)) same p))
same_place (b ∷ before) [] entry place after rest [] ys f g e h k p q = absurd h
same_place (b ∷ before) [] entry place after rest (x ∷ xs) ys f g e h k p q =
    let same : b ≡ place = ap head_of e in
    absurd (good_or_faulty place x g (subst (λ r. IsEntry r (Ok x)) same h.0) q)
same_place (b ∷ before) (o ∷ other) entry place after rest [] ys f g e h k p q = absurd h
same_place (b ∷ before) (o ∷ other) entry place after rest (x ∷ xs) [] f g e h k p q = absurd k
same_place (b ∷ before) (o ∷ other) entry place after rest (x ∷ xs) (y ∷ ys) f g e h k p q =
    let more = same_place before other entry place after rest xs ys f g (ap tail_of e) h.1 k.1 p q in
    (more.0, omega (arith, more.1))

behind_one : (entries : List Json) (f g : EntryFault) (n m : ℕ) → HasFaultBehind entries f n → HasFaultBehind entries g m → (f ≡ g) × (n ≡ m)
behind_one entries f g n m (before, entry, after, xs, whole, good, len, is) (other, place, rest, ys, also, well, as_long, faulty) =
    let same = same_place before other entry place after rest xs ys f g (sym whole ∙ also) good well is faulty in
    (same.0, len ∙ same.1 ∙ sym as_long)

-- ---- members

items_in : Json → Items
items_in null = no_items
items_in (boolean b) = no_items
items_in (number s) = no_items
items_in (string s) = no_items
items_in (array js) = js
items_in (object ms) = no_items

roas_one : (ms : Members) (js ks : Items) (behind after : Members) → HasRoas ms js behind → HasRoas ms ks after → (js ≡ ks) × (behind ≡ after)
unfolding items_in
roas_one ms js ks behind after h k =
    let same = Some_inj (array js, behind) (array ks, after) (sym h ∙ k) in
    (ap (λ p. items_in p.0) same, ap (λ p. p.1) same)

no_array : (ms : Members) (js : Items) (behind : Members) → HasRoas ms js behind → AreRefused ms fault.NotArray → ⊥
no_array ms js behind h (j, after, k, kind) =
    let same = Some_inj (array js, behind) (j, after) (sym h ∙ k) in
    not_both (is_array j) (ap (λ p. is_array p.0) (sym same)) kind

members_load_one : (second : Option ℕ) (ms : Members) (a b : Loaded) → LoadsAt second ms a → LoadsAt second ms b → AreAlike a b
members_load_one second ms a b (js, behind, h, once, load) (ks, after, k, also, other) =
    let same = sym (roas_one ms js ks behind after h k).0 in
    load_one second (entries_of js) a b load (subst (λ l. IsLoadOfAt second (entries_of l) b) same other)

-- members that load are refused only for want of memory
members_load_or_not : (second : Option ℕ) (ms : Members) (a : Loaded) (f : JsonFault) → LoadsAt second ms a → AreRefused ms f → f ≡ fault.NoMemory
members_load_or_not second ms a (fault.Text octet) h k = absurd k
members_load_or_not second ms a fault.NotObject h k = absurd k
members_load_or_not second ms a fault.NoRoas (js, behind, h, once, load) k = absurd (not_found (array js, behind) (sym k ∙ h))
members_load_or_not second ms a fault.NotArray (js, behind, h, once, load) k = absurd (no_array ms js behind h k)
members_load_or_not second ms a (fault.Entry place why) (js, behind, h, once, load) (ks, after, k, faulty) =
    let same = sym (roas_one ms js ks behind after h k).0 in
    let said = said_by second (entries_of js) load.0 load.1 in
    absurd (good_entries (entries_of js) said.0 why place said.1 (subst (λ l. HasFaultBehind (entries_of l) why place) same faulty))
members_load_or_not second ms a fault.SecondRoas (js, behind, h, once, load) (ks, after, k, found, is, answers, are) =
    let same = sym (roas_one ms js ks behind after h k).1 in
    absurd (not_found found (sym once ∙ subst (λ m. first_roas m ≡ Some found) same is))
members_load_or_not second ms a fault.NoMemory h k = refl

-- why members are refused is one thing, but for want of memory
members_refused_one : (ms : Members) (f g : JsonFault) → AreRefused ms f → AreRefused ms g → (f ≡ fault.NoMemory) ⊎ (g ≡ fault.NoMemory) ⊎ (f ≡ g)
members_refused_one ms fault.NoMemory g h k = inl refl
members_refused_one ms (fault.Text x) g h k = absurd h
members_refused_one ms fault.NotObject g h k = absurd h
members_refused_one ms fault.NoRoas fault.NoMemory h k = inr (inl refl)
members_refused_one ms fault.NoRoas (fault.Text x) h k = absurd k
members_refused_one ms fault.NoRoas fault.NotObject h k = absurd k
members_refused_one ms fault.NoRoas fault.NoRoas h k = inr (inr refl)
members_refused_one ms fault.NoRoas fault.NotArray h (j, after, k, kind) = absurd (not_found (j, after) (sym h ∙ k))
members_refused_one ms fault.NoRoas (fault.Entry place why) h (js, after, k, faulty) = absurd (not_found (array js, after) (sym h ∙ k))
members_refused_one ms fault.NoRoas fault.SecondRoas h (js, after, k, second, is, answers, are) = absurd (not_found (array js, after) (sym h ∙ k))
members_refused_one ms fault.NotArray fault.NoMemory h k = inr (inl refl)
members_refused_one ms fault.NotArray (fault.Text x) h k = absurd k
members_refused_one ms fault.NotArray fault.NotObject h k = absurd k
members_refused_one ms fault.NotArray fault.NoRoas (j, after, h, kind) k = absurd (not_found (j, after) (sym k ∙ h))
members_refused_one ms fault.NotArray fault.NotArray h k = inr (inr refl)
members_refused_one ms fault.NotArray (fault.Entry place why) h (js, after, k, faulty) = absurd (no_array ms js after k h)
members_refused_one ms fault.NotArray fault.SecondRoas h (js, after, k, second, is, answers, are) = absurd (no_array ms js after k h)
members_refused_one ms (fault.Entry place why) fault.NoMemory h k = inr (inl refl)
members_refused_one ms (fault.Entry place why) (fault.Text x) h k = absurd k
members_refused_one ms (fault.Entry place why) fault.NotObject h k = absurd k
members_refused_one ms (fault.Entry place why) fault.NoRoas (js, behind, h, faulty) k = absurd (not_found (array js, behind) (sym k ∙ h))
members_refused_one ms (fault.Entry place why) fault.NotArray (js, behind, h, faulty) k = absurd (no_array ms js behind h k)
members_refused_one ms (fault.Entry place why) (fault.Entry other also) (js, behind, h, faulty) (ks, after, k, bad) =
    let same = sym (roas_one ms js ks behind after h k).0 in
    let one = behind_one (entries_of js) why also place other faulty (subst (λ l. HasFaultBehind (entries_of l) also other) same bad) in
    inr (inr (λ i. fault.Entry (one.1 i) (one.0 i)))
members_refused_one ms (fault.Entry place why) fault.SecondRoas (js, behind, h, faulty) (ks, after, k, second, is, answers, are) =
    let same = sym (roas_one ms js ks behind after h k).0 in
    absurd (good_entries (entries_of js) answers why place (subst (λ l. AreEntries (entries_of l) answers) same are) faulty)
members_refused_one ms fault.SecondRoas fault.NoMemory h k = inr (inl refl)
members_refused_one ms fault.SecondRoas (fault.Text x) h k = absurd k
members_refused_one ms fault.SecondRoas fault.NotObject h k = absurd k
members_refused_one ms fault.SecondRoas fault.NoRoas (js, behind, h, second, is, answers, are) k = absurd (not_found (array js, behind) (sym k ∙ h))
members_refused_one ms fault.SecondRoas fault.NotArray (js, behind, h, second, is, answers, are) k = absurd (no_array ms js behind h k)
members_refused_one ms fault.SecondRoas (fault.Entry place why) (js, behind, h, second, is, answers, are) (ks, after, k, faulty) =
    let same = sym (roas_one ms js ks behind after h k).0 in
    absurd (good_entries (entries_of js) answers why place are (subst (λ l. HasFaultBehind (entries_of l) why place) same faulty))
members_refused_one ms fault.SecondRoas fault.SecondRoas h k = inr (inr refl)

-- ---- values and octets

value_loads_one : (second : Option ℕ) (j : Json) (a b : Loaded) → IsLoadOfValueAt second j a → IsLoadOfValueAt second j b → AreAlike a b
value_loads_one second null a b h k = absurd h
value_loads_one second (boolean x) a b h k = absurd h
value_loads_one second (number s) a b h k = absurd h
value_loads_one second (string s) a b h k = absurd h
value_loads_one second (array js) a b h k = absurd h
value_loads_one second (object ms) a b h k = members_load_one second ms a b h k

value_loads_or_not : (second : Option ℕ) (j : Json) (a : Loaded) (f : JsonFault) → IsLoadOfValueAt second j a → IsRefusedValue j f → f ≡ fault.NoMemory
value_loads_or_not second null a f h k = absurd h
value_loads_or_not second (boolean x) a f h k = absurd h
value_loads_or_not second (number s) a f h k = absurd h
value_loads_or_not second (string s) a f h k = absurd h
value_loads_or_not second (array js) a f h k = absurd h
value_loads_or_not second (object ms) a f h k = members_load_or_not second ms a f h k

value_refused_one : (j : Json) (f g : JsonFault) → IsRefusedValue j f → IsRefusedValue j g → (f ≡ fault.NoMemory) ⊎ (g ≡ fault.NoMemory) ⊎ (f ≡ g)
value_refused_one null f g h k = inr (inr (h ∙ sym k))
value_refused_one (boolean x) f g h k = inr (inr (h ∙ sym k))
value_refused_one (number s) f g h k = inr (inr (h ∙ sym k))
value_refused_one (string s) f g h k = inr (inr (h ∙ sym k))
value_refused_one (array js) f g h k = inr (inr (h ∙ sym k))
value_refused_one (object ms) f g h k = members_refused_one ms f g h k

-- octets that are the text of a value are JSON
no_value : (octets : List ℕ) (octet : ℕ) (j : Json) → IsUtf8 octets → document octets ≡ Some j → IsNoJson octets octet → ⊥
no_value octets octet j utf8 is (inl (never, place)) = never utf8
no_value octets octet j utf8 is (inr (also, none)) = not_found j (sym none ∙ is)

-- octets load one set at a second
pub loads_one_at : (second : Option ℕ) (octets : List ℕ) (a b : Loaded) → IsLoadAt second octets a → IsLoadAt second octets b → AreAlike a b
loads_one_at second octets a b (utf8, j, is, h) (also, i, same, k) =
    let one = Some_inj i j (sym same ∙ is) in
    value_loads_one second j a b h (subst (λ v. IsLoadOfValueAt second v b) one k)

at_none : (octets : List ℕ) (loaded : Loaded) → IsLoad octets loaded → IsLoadAt None octets loaded
at_none octets loaded (utf8, j, is, h) = (utf8, j, is, none_at_value j loaded h)

-- octets load one set
pub loads_one : (octets : List ℕ) (a b : Loaded) → IsLoad octets a → IsLoad octets b → AreAlike a b
loads_one octets a b h k = loads_one_at None octets a b (at_none octets a h) (at_none octets b k)

-- octets that load are refused only for want of memory
pub loads_or_not_at : (second : Option ℕ) (octets : List ℕ) (a : Loaded) (f : JsonFault) → IsLoadAt second octets a → IsRefused octets f → f ≡ fault.NoMemory
loads_or_not_at second octets a f h (inl memory) = memory
loads_or_not_at second octets a f (utf8, j, is, h) (inr (inl (octet, text, none))) = absurd (no_value octets octet j utf8 is none)
loads_or_not_at second octets a f (utf8, j, is, h) (inr (inr (also, i, same, k))) =
    let one = Some_inj i j (sym same ∙ is) in
    value_loads_or_not second j a f h (subst (λ v. IsRefusedValue v f) one k)

pub loads_or_not : (octets : List ℕ) (a : Loaded) (f : JsonFault) → IsLoad octets a → IsRefused octets f → f ≡ fault.NoMemory
loads_or_not octets a f h k = loads_or_not_at None octets a f (at_none octets a h) k

-- why octets are refused is one thing, but for want of memory and the octet of a text that is no JSON
pub refused_one : (octets : List ℕ) (f g : JsonFault) → IsRefused octets f → IsRefused octets g → (f ≡ fault.NoMemory) ⊎ (g ≡ fault.NoMemory) ⊎ (f ≡ g) ⊎ AreTexts f g
refused_one octets f g (inl memory) k = inl memory
refused_one octets f g (inr h) (inl memory) = inr (inl memory)
refused_one octets f g (inr (inl (x, text, none))) (inr (inl (y, also, no_json))) = inr (inr (inr (x, y, text, also)))
refused_one octets f g (inr (inl (x, text, none))) (inr (inr (utf8, j, is, k))) = absurd (no_value octets x j utf8 is none)
refused_one octets f g (inr (inr (utf8, j, is, h))) (inr (inl (x, text, none))) = absurd (no_value octets x j utf8 is none)
refused_one octets f g (inr (inr (utf8, j, is, h))) (inr (inr (also, i, same, k))) =
    let one = Some_inj i j (sym same ∙ is) in
    widened f g (value_refused_one j f g h (subst (λ v. IsRefusedValue v g) one k))
  where
    widened : (a b : JsonFault) → (a ≡ fault.NoMemory) ⊎ (b ≡ fault.NoMemory) ⊎ (a ≡ b) → (a ≡ fault.NoMemory) ⊎ (b ≡ fault.NoMemory) ⊎ (a ≡ b) ⊎ AreTexts a b
    widened a b (inl x) = inl x
    widened a b (inr (inl x)) = inr (inl x)
    widened a b (inr (inr x)) = inr (inr (inl x))
