-- What sets of payloads have.
use Rattle.std.proofs.Common.{◌≡◌, None, List, [], ◌∷◌, Bool, true, false, not, ◌&&◌, ◌||◌, cond, ap, sym, refl}
use Rattle.std.specs.Cmp.{Equal-is, tied_itself}
use Rattle.std.specs.List.{filter, list_any}
use Rattle.std.specs.BTreeMap.{is_at}
use Rattle.std.specs.Ordering.{is_eq, eq_by_cmp}
use Rattle.std.proofs.lemmas.Map.Views.{any-filter_same}
use Rattle.net_prefix.specs.declared.payload.Vrp.{Vrp}
use Rattle.net_prefix.specs.PayloadOrder.{payload_cmp}
use Rattle.net_prefix.specs.PayloadSets.{has}
use Rattle.vrp_delta.specs.Delta.{Change, lacked, change_between, is_left, withdraws_unknown, announces_known, change_fault}
use Rattle.net_prefix.proofs.PayloadSets.{payload_cmp_total}

-- a set has a payload as it has an equal one
pub has-alike : (set : List Vrp) (p q : Vrp) → is_eq (payload_cmp p q) ≡ true → has set p ≡ has set q
has-alike [] p q e = refl
has-alike (x ∷ xs) p q e =
    let same : payload_cmp p x ≡ payload_cmp q x = payload_cmp_total.congr p q x ((Equal-is (payload_cmp p q)).0 e) in
    rw (same, has-alike xs p q e) refl

-- what is lacked
pub has-lacked : (set other : List Vrp) (q : Vrp) → has (lacked set other) q ≡ (not (has other q) && has set q)
has-lacked set other q =
    any-filter_same (is_at (payload_cmp q)) (λ p. not (has other p)) (not (has other q)) (λ p e. ap not (sym (has-alike other q p e))) set

both : (a b : Bool) → ((a && not (not b && a)) || (not a && b)) ≡ b
both true true = refl
both true false = refl
both false true = refl
both false false = refl

-- what changed between two sets, applied to the first, has what the second has
pub has-after_change : (old new : List Vrp) (q : Vrp) → (is_left old (change_between old new) q || has (lacked new old) q) ≡ has new q
has-after_change old new q = rw (has-lacked old new q, has-lacked new old q) (both (has old q) (has new q))

has_here : (x : Vrp) (xs : List Vrp) → has (x ∷ xs) x ≡ true
has_here x xs = rw (tied_itself payload_cmp_total x) refl

or_right : (a b : Bool) → b ≡ true → (a || b) ≡ true
or_right true b h = refl
or_right false b h = h

-- no member of a part of a set is unknown to it
none_unknown : (set part : List Vrp) (keep : Vrp → Bool) → ((q : Vrp) → has part q ≡ true → has set q ≡ true)
    → list_any (λ payload. not (has set payload)) (filter keep part) ≡ false
none_unknown set [] keep inside = refl
none_unknown set (x ∷ xs) keep inside =
    unknown_step set x (filter keep xs) (keep x) (inside x (has_here x xs)) (none_unknown set xs keep (λ q h. inside q (or_right _ _ h)))
  where
    unknown_step : (set : List Vrp) (x : Vrp) (rest : List Vrp) (kept : Bool) → has set x ≡ true
        → list_any (λ payload. not (has set payload)) rest ≡ false → list_any (λ payload. not (has set payload)) (cond kept (x ∷ rest) rest) ≡ false
    unknown_step set x rest true h k = rw h k
    unknown_step set x rest false h k = k

pub withdraws_unknown-change : (old new : List Vrp) → withdraws_unknown old (change_between old new) ≡ false
withdraws_unknown-change old new = none_unknown old old (λ payload. not (has new payload)) (λ q h. h)

-- no payload that a set lacks is left of it
none_left : (set : List Vrp) (change : Change) (more : List Vrp) → list_any (is_left set change) (lacked more set) ≡ false
none_left set change [] = refl
none_left set change (x ∷ xs) = left_step (has set x) refl (none_left set change xs)
  where
    left_step : (b : Bool) → has set x ≡ b → list_any (is_left set change) (lacked xs set) ≡ false
        → list_any (is_left set change) (cond (not b) (x ∷ lacked xs set) (lacked xs set)) ≡ false
    left_step true h k = k
    left_step false h k = rw (h, k) refl

pub announces_known-change : (old new : List Vrp) → announces_known old (change_between old new) ≡ false
announces_known-change old new = none_left old (change_between old new) new

-- what changed between two sets is no fault for the first
pub change_fault-change : (old new : List Vrp) → change_fault old (change_between old new) ≡ None
change_fault-change old new = rw (withdraws_unknown-change old new, announces_known-change old new) refl

-- a payload that is another compares equal to it
pub same_from_clone : (x y : Vrp) → y ≡ x → eq_by_cmp payload_cmp x y ≡ true
same_from_clone x y k = rw (k, tied_itself payload_cmp_total x) refl
