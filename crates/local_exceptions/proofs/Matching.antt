-- Which of the filters that are kept match a payload.
use Rattle.std.proofs.Common.{◌≡◌, ◌≤◌, ◌/◌, ◌*◌, ◌&&◌, ◌||◌, ◌==◌, ℕ, Bool, true, false, not, cond, nat_le, List, [], ◌∷◌, Option, None, Some, inl, inr, refl, sym, ap, subst, ◌∙◌, arith}
use Rattle.std.proofs.lemmas.Bool.{and_from, and_parts, both_ways, cases_Bool, eqb-true, false_from_ne_true, or_from, or_left, or_parts, or_right}
use Rattle.std.proofs.lemmas.Bool.Decides.{nat_tests}
use Rattle.std.specs.BTreeMap.{is_at}
use Rattle.std.specs.Cmp.{Equal-is, tied_itself}
use Rattle.std.specs.List.{list_any}
use Rattle.net_prefix.specs.Cover.{block_size, masked_bits}
use Rattle.net_prefix.specs.declared.asn.Asn.{Asn}
use Rattle.net_prefix.specs.declared.payload.Vrp.{Vrp}
use Rattle.net_prefix.specs.declared.prefix.Prefix as declared
use Rattle.net_prefix.proofs.Blocks.{block_pos, divided, whole}
use Rattle.net_prefix.proofs.Prefixes.{same_prefix}
use Rattle.local_exceptions.specs.FilterLengths.{NoneMatches, but_for, matches_but}
use Rattle.local_exceptions.specs.FilterOrder.{filter_cmp}
use Rattle.local_exceptions.specs.Filters.{covers, has_filter, is_filtered, matches, out_filter}
use Rattle.local_exceptions.specs.declared.filter.Filter.{Filter}
use Rattle.local_exceptions.specs.declared.filter.Filter.TheVariants.{Prefix, As, Both}
use Rattle.local_exceptions.proofs.Filters.{filter_cmp_exact, filter_cmp_total}

at_itself : (f : Filter) → is_at (filter_cmp f) f ≡ true
at_itself f = rw (tied_itself filter_cmp_total f) refl

one_filter : (f x : Filter) → is_at (filter_cmp f) x ≡ true → f ≡ x
one_filter f x h = filter_cmp_exact f x ((Equal-is (filter_cmp f x)).0 h)

-- a filter that is kept and matches is one that matches
pub has_matching : (filters : List Filter) (f : Filter) (payload : Vrp) → has_filter filters f ≡ true → matches f payload ≡ true → is_filtered filters payload ≡ true
has_matching [] f payload h m = h
has_matching (x ∷ xs) f payload h m =
    elim (cases_Bool (is_at (filter_cmp f) x)) [
      | inl here ↦ or_left (matches x payload) (is_filtered xs payload) (subst (λ (g : Filter). matches g payload ≡ true) (one_filter f x here) m)
      | inr other ↦ or_right (matches x payload) (is_filtered xs payload) (has_matching xs f payload (rw other at h) m)
    ]

-- where no filter that is kept matches, none does
pub none_matching : (filters : List Filter) (payload : Vrp) → ((f : Filter) → matches f payload ≡ true → has_filter filters f ≡ false) → is_filtered filters payload ≡ false
none_matching [] payload none = refl
none_matching (x ∷ xs) payload none =
    or_from (matches x payload) (is_filtered xs payload)
    (false_from_ne_true (matches x payload) (λ m. both_ways (has_filter (x ∷ xs) x) (none x m) (or_left (is_at (filter_cmp x) x) (has_filter xs x) (at_itself x))))
    (none_matching xs payload (λ f m. (or_parts (is_at (filter_cmp f) x) (has_filter xs f) (none f m)).1))

test_from : (a b c d : ℕ) → a ≤ b → c ≡ d → (nat_le a b && (c == d)) ≡ true
test_from a b c d h e = grind (arith, nat_tests)

test_to : (a b c d : ℕ) → (nat_le a b && (c == d)) ≡ true → (a ≤ b) × (c ≡ d)
test_to a b c d h = (grind (arith, nat_tests), grind (arith, nat_tests))

-- the prefix of this length that holds a prefix covers it
pub masked_covers : (p q : declared.Prefix) (len : ℕ) → p.bits ≡ masked_bits q.bits len → p.len ≡ len → len ≤ q.len → covers p q ≡ true
masked_covers p q len bits is le =
    let size = block_size p.len in
    let here : p.bits ≡ q.bits / block_size p.len * block_size p.len = rw is bits in
    let pos = block_pos p.len in
    let same : p.bits / block_size p.len ≡ q.bits / block_size p.len = divided (q.bits / block_size p.len) (block_size p.len) p.bits (omega arith) (omega arith) in
    test_from p.len q.len (p.bits / block_size p.len) (q.bits / block_size p.len) (omega arith) same

-- and it is the only one of this length
pub covering_one : (p q r : declared.Prefix) → covers p r ≡ true → covers q r ≡ true → p.len ≡ q.len → p ≡ q
covering_one p q r hp hq len =
    let at_p = test_to p.len r.len (p.bits / block_size p.len) (r.bits / block_size p.len) hp in
    let at_q = test_to q.len r.len (q.bits / block_size q.len) (r.bits / block_size q.len) hq in
    let same : p.bits / block_size p.len ≡ q.bits / block_size q.len = at_p.1 ∙ ap (λ (n : ℕ). r.bits / block_size n) len ∙ sym at_q.1 in
    let whole_p = whole (block_size p.len) p.bits p.no_host_bits in
    let whole_q = whole (block_size q.len) q.bits q.no_host_bits in
    let bits : p.bits ≡ q.bits = sym whole_p ∙ ap (λ (n : ℕ). n * block_size p.len) same ∙ ap (λ (n : ℕ). q.bits / block_size q.len * block_size n) len ∙ whole_q in
    same_prefix p q bits len

some_one : (a b : ℕ) → Some a ≡ Some b → a ≡ b
some_one a b h = cc

same_asn : (a b : Asn) → (a.0 == b.0) ≡ true → a ≡ b
same_asn a b h = let e = eqb-true a.0 b.0 h in λ i. record { 0 = e i }

-- filters of this prefix alone, and of it and the payload's AS, are all of its length that can match
pub none_covering : (filters : List Filter) (payload : Vrp) (prefix : declared.Prefix) → covers prefix payload.prefix ≡ true
    → has_filter filters (Prefix prefix) ≡ false → has_filter filters (Both prefix payload.asn) ≡ false → NoneMatches filters payload prefix.len
none_covering filters payload prefix at alone both (Prefix p) is m =
    let same = covering_one p prefix payload.prefix m at (some_one p.len prefix.len is) in
    subst (λ (q : declared.Prefix). has_filter filters (Prefix q) ≡ false) (sym same) alone
none_covering filters payload prefix at alone both (As a) is m = absurd cc
none_covering filters payload prefix at alone both (Both p a) is m =
    let parts = and_parts (covers p payload.prefix) (a.0 == payload.asn.0) m in
    let same = covering_one p prefix payload.prefix parts.0 at (some_one p.len prefix.len is) in
    let asn = same_asn a payload.asn parts.1 in
    subst (λ (q : declared.Prefix). has_filter filters (Both q a) ≡ false) (sym same) (subst (λ (b : Asn). has_filter filters (Both prefix b) ≡ false) (sym asn) both)

covered_length : (p q : declared.Prefix) → covers p q ≡ true → p.len ≤ q.len
covered_length p q h = (test_to p.len q.len (p.bits / block_size p.len) (q.bits / block_size p.len) h).0

-- where neither the filter of the AS nor one of a prefix as long as the payload's or shorter matches, none does
pub none_of_all : (filters : List Filter) (payload : Vrp) → has_filter filters (As payload.asn) ≡ false
    → ((len : ℕ) → len ≤ payload.prefix.len → NoneMatches filters payload len) → is_filtered filters payload ≡ false
none_of_all filters payload own none = none_matching filters payload each
  where
    each : (f : Filter) → matches f payload ≡ true → has_filter filters f ≡ false
    each (Prefix p) m = none p.len (covered_length p payload.prefix m) (Prefix p) refl m
    each (As a) m = subst (λ (b : Asn). has_filter filters (As b) ≡ false) (sym (same_asn a payload.asn m)) own
    each (Both p a) m = none p.len (covered_length p payload.prefix (and_parts (covers p payload.prefix) (a.0 == payload.asn.0) m).0) (Both p a) refl m

same_number : (a b : ℕ) → a ≡ b → (a == b) ≡ true
same_number a b h = grind (arith, nat_tests)

-- the filter of the prefix and of the payload's AS matches it
pub has_both : (filters : List Filter) (prefix : declared.Prefix) (payload : Vrp) → has_filter filters (Both prefix payload.asn) ≡ true → covers prefix payload.prefix ≡ true
    → is_filtered filters payload ≡ true
has_both filters prefix payload h at =
    has_matching filters (Both prefix payload.asn) payload h
    (and_from (covers prefix payload.prefix) (payload.asn.0 == payload.asn.0) at (same_number payload.asn.0 payload.asn.0 refl))

-- the filter of the payload's AS matches it
pub has_own : (filters : List Filter) (payload : Vrp) → has_filter filters (As payload.asn) ≡ true → is_filtered filters payload ≡ true
has_own filters payload h = has_matching filters (As payload.asn) payload h (same_number payload.asn.0 payload.asn.0 refl)

pub same_answer : (a b : Bool) → (a ≡ true → b ≡ true) → (a ≡ false → b ≡ false) → a ≡ b
same_answer a b so not_so = elim (cases_Bool a) [ inl h ↦ h ∙ sym (so h) | inr h ↦ h ∙ sym (not_so h) ]

kept_case : (b m rest : Bool) (v : Vrp) (f : Filter) (left : List Filter) → matches f v ≡ m → rest ≡ is_filtered left v → ((not b && m) || rest) ≡ is_filtered (cond (not b) (f ∷ left) left) v
kept_case true m rest v f left is more = more
kept_case false m rest v f left is more = rw (sym is, more) refl

-- those of the filters but for one that match
pub any_other : (filters : List Filter) (but : Option Filter) (v : Vrp) → list_any (matches_but but v) filters ≡ is_filtered (but_for but filters) v
any_other filters None v = refl
any_other [] (Some but) v = refl
any_other (f ∷ filters) (Some but) v =
    kept_case (is_at (filter_cmp but) f) (matches f v) (list_any (matches_but (Some but) v) filters) v f (out_filter but filters) refl (any_other filters (Some but) v)
