-- What is listed by number and prefix, in order.
use Rattle.std.proofs.Common.{◌≡◌, ◌≢◌, ◌≤◌, ℕ, Bool, true, false, cond, Result, Ok, Err, OnOk, ◌⊎◌, inl, inr, refl, sym, ◌∙◌, arith}
use Rattle.std.proofs.lemmas.Bool.Decides.{nat_tests}
use Rattle.std.specs.BTreeMap.{is_at}
use Rattle.std.specs.BTreeSet.{BTreeSet, Updates}
use Rattle.std.specs.Result.{is_err}
use Rattle.std.specs.Ordering.{nat_cmp, is_eq, is_gt, ordering_then}
use Rattle.std.specs.declared.cmp.Ordering.{Ordering}
use Rattle.std.specs.declared.cmp.Ordering.TheVariants.{Less, Equal, Greater}
use Rattle.net_prefix.specs.PrefixOrder.{prefix_cmp}
use Rattle.net_prefix.specs.declared.prefix.Prefix.{Prefix}
use Rattle.prefix_trie.proofs.MapLaws.{one_prefix}
use Rattle.rib_out.specs.Alike.{alike, alike_cmp, has_alike}
use Rattle.rib_out.specs.Held.{is_prefix}
use Rattle.rib_out.specs.declared.slot_list.Alike.{Alike as Entry}

number_at : (a : ℕ) → nat_cmp a a ≡ Equal
number_at a = grind (arith, nat_tests)

-- what stands below another by two orders, one after the other, isn't above it by the first
low_case : (a b : ℕ) (r : Ordering) → ordering_then (nat_cmp a b) r ≡ Less → a ≤ b
low_case a b Less h = grind (arith, nat_tests)
low_case a b Equal h = grind (arith, nat_tests)
low_case a b Greater h = grind (arith, nat_tests)

at_most_case : (a b : ℕ) (r : Ordering) → is_gt (ordering_then (nat_cmp a b) r) ≡ false → a ≤ b
at_most_case a b Less h = grind (arith, nat_tests)
at_most_case a b Equal h = grind (arith, nat_tests)
at_most_case a b Greater h = grind (arith, nat_tests)

-- of one number, entries stand as their prefixes do
pub behind : (number : ℕ) (after q : Prefix) → prefix_cmp after q ≡ Less → alike_cmp (alike number after) (alike number q) ≡ Less
behind number after q above = rw (number_at number, above) refl

pub behind_so : (e : Entry) (number : ℕ) (after : Prefix) → e.number ≡ number → alike_cmp (alike number after) e ≡ Less → prefix_cmp after e.prefix ≡ Less
behind_so e number after same h = rw (same, number_at number) at h

pub not_above : (e : Entry) (number : ℕ) (q : Prefix) → e.number ≡ number → is_gt (alike_cmp e (alike number q)) ≡ false → is_gt (prefix_cmp e.prefix q) ≡ false
not_above e number q same h = rw (same, number_at number) at h

-- what stands between two entries of a number has that number
pub number_between : (e : Entry) (number : ℕ) (after q : Prefix) → alike_cmp (alike number after) e ≡ Less → is_gt (alike_cmp e (alike number q)) ≡ false → e.number ≡ number
number_between e number after q low high =
    let below = low_case number e.number (prefix_cmp after e.prefix) low in
    let above = at_most_case e.number number (prefix_cmp e.prefix q) high in
    omega arith

-- an entry by its parts
pub as_alike : (list : BTreeSet Entry) (e : Entry) (number : ℕ) → e.number ≡ number → has_alike list e ≡ true → has_alike list (alike number e.prefix) ≡ true
as_alike list e number same h = rw (← same) h

same_case : (o p : Ordering) → is_eq p ≡ false → is_eq (ordering_then o p) ≡ false
same_case Less p h = refl
same_case Equal p h = h
same_case Greater p h = refl

-- what can't be listed isn't
not_listed : (b : Bool) → (b ≡ true → ⊥) → b ≡ false
not_listed true h = absurd (h refl)
not_listed false h = refl

held_case : (b c : Bool) → c ≡ true → cond b true c ≡ true
held_case true c h = refl
held_case false c h = h

-- what is listed is listed still behind one more
pub put_keeps : (k e : Entry) (old new : BTreeSet Entry) → Updates alike_cmp old new k true → has_alike old e ≡ true → has_alike new e ≡ true
put_keeps k e old new u h = u.0 e ∙ held_case (is_at (alike_cmp k) e) (has_alike old e) h

equal_parts : (o p : Ordering) → is_eq (ordering_then o p) ≡ true → (is_eq o ≡ true) × (is_eq p ≡ true)
equal_parts Less p h = absurd cc
equal_parts Equal p h = (refl, h)
equal_parts Greater p h = absurd cc

same_number : (a b : ℕ) → is_eq (nat_cmp a b) ≡ true → b ≡ a
same_number a b h = grind (arith, nat_tests)

-- entries that stand at one place are one
same_entry : (e f : Entry) → is_eq (alike_cmp e f) ≡ true → f ≡ e
same_entry e f h =
    let parts = equal_parts (nat_cmp e.number f.number) (prefix_cmp e.prefix f.prefix) h in
    λ i. record { number = same_number e.number f.number parts.0 i; prefix = sym (one_prefix e.prefix f.prefix parts.1) i }

-- what is listed behind one more was listed before, or is that one
pub put_only : (k e : Entry) (old new : BTreeSet Entry) → Updates alike_cmp old new k true → has_alike new e ≡ true → (has_alike old e ≡ true) ⊎ (e ≡ k)
put_only k e old new u there = by_place (is_at (alike_cmp k) e) refl (sym (u.0 e) ∙ there)
  where
    by_place : (b : Bool) → is_at (alike_cmp k) e ≡ b → cond b true (has_alike old e) ≡ true → (has_alike old e ≡ true) ⊎ (e ≡ k)
    by_place true is h = inr (same_entry k e is)
    by_place false other h = inl h

gone_case : (b c : Bool) → c ≡ false → cond b false c ≡ false
gone_case true c h = refl
gone_case false c h = h

less_case : (b c : Bool) → cond b false c ≡ true → c ≡ true
less_case true c h = absurd cc
less_case false c h = h

-- behind a removal, what is listed was listed before, and what wasn't isn't
pub removed_fewer : (k e : Entry) (old new : BTreeSet Entry) → Updates alike_cmp old new k false → has_alike new e ≡ true → has_alike old e ≡ true
removed_fewer k e old new u h = less_case (is_at (alike_cmp k) e) (has_alike old e) (sym (u.0 e) ∙ h)

pub removed_none : (k e : Entry) (old new : BTreeSet Entry) → Updates alike_cmp old new k false → has_alike old e ≡ false → has_alike new e ≡ false
removed_none k e old new u h = u.0 e ∙ gone_case (is_at (alike_cmp k) e) (has_alike old e) h

-- and any other entry is as it was, as is each of another prefix
pub removed_others : (k e : Entry) (old new : BTreeSet Entry) → Updates alike_cmp old new k false → e ≢ k → has_alike new e ≡ has_alike old e
removed_others k e old new u apart = u.2 e (not_listed (is_eq (alike_cmp k e)) (λ is. apart (same_entry k e is)))

pub removed_apart : (number n : ℕ) (prefix p : Prefix) (old new : BTreeSet Entry) → Updates alike_cmp old new (alike number prefix) false → is_prefix prefix p ≡ false → has_alike new (alike n p) ≡ has_alike old (alike n p)
removed_apart number n prefix p old new u apart = u.2 (alike n p) (same_case (nat_cmp number n) (prefix_cmp prefix p) apart)

pub on_ok : {T E : Type 0} (r : Result T E) (P : Type 0) → OnOk r P → is_err r ≡ false → P
on_ok (Ok x) P h is = h
on_ok (Err e) P h is = absurd cc
