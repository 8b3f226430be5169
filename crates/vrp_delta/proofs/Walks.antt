-- Two lists of sets, walked side by side.
use Rattle.std.proofs.Common.{◌≡◌, List, [], ◌∷◌, ◌++◌, Bool, true, false, not, append_assoc, cond, ap, sym, ◌∙◌, refl}
use Rattle.std.specs.Cmp.{tied_itself}
use Rattle.std.specs.List.{AllByRecursion, filter}
use Rattle.std.specs.List.Sorted.{IsStrictlySortedBy}
use Rattle.std.specs.BTreeMap.{is_at}
use Rattle.std.specs.BTreeSet.{insert_key}
use Rattle.std.specs.Ordering.{is_gt, is_lt, ordering_reverse}
use Rattle.std.specs.declared.cmp.Ordering.{Ordering}
use Rattle.std.specs.declared.cmp.Ordering.TheVariants.{Less, Equal, Greater}
use Rattle.net_prefix.specs.declared.payload.Vrp.{Vrp}
use Rattle.net_prefix.specs.PayloadOrder.{payload_cmp}
use Rattle.net_prefix.specs.PayloadSets.{IsPayloadSet, has}
use Rattle.vrp_delta.specs.Delta.{lacked}
use Rattle.vrp_delta.specs.Walks.{from_payload, is_first}
use Rattle.net_prefix.proofs.PayloadSets.{payload_cmp_total}

-- every member stands above the payload
AllAbove : Vrp → List Vrp → Type 0
AllAbove p xs = AllByRecursion (λ q. payload_cmp p q ≡ Less) xs

-- what stands above a payload stands above those that it stands above
above_trans : (p x : Vrp) (xs : List Vrp) → payload_cmp p x ≡ Less → AllByRecursion (λ q. payload_cmp x q ≡ Less) xs → AllByRecursion (λ q. payload_cmp p q ≡ Less) xs
above_trans p x [] e all = tt
above_trans p x (y ∷ ys) e all = (payload_cmp_total.trans p x y e all.0, above_trans p x ys e all.1)

-- nothing above a payload is it
none_above : (p : Vrp) (xs : List Vrp) → AllByRecursion (λ q. payload_cmp p q ≡ Less) xs → has xs p ≡ false
none_above p [] all = refl
none_above p (x ∷ xs) all = rw (all.0, none_above p xs all.1) refl

-- ---- the walk along the other list

pub from_payload-rises : (p : Vrp) (xs : List Vrp) → IsPayloadSet xs → IsPayloadSet (from_payload p xs)
unfolding IsStrictlySortedBy
from_payload-rises p [] rises = rises
from_payload-rises p (x ∷ xs) rises = step (is_lt (payload_cmp x p)) (from_payload-rises p xs rises.1)
  where
    step : (b : Bool) → IsPayloadSet (from_payload p xs) → IsPayloadSet (cond b (from_payload p xs) (x ∷ xs))
    step true h = h
    step false h = rises

reversed_less : (o : Ordering) → is_lt o ≡ true → ordering_reverse o ≡ Greater
reversed_less Less h = refl
reversed_less Equal h = cc
reversed_less Greater h = cc

less_is : (o : Ordering) → is_lt o ≡ true → o ≡ Less
less_is Less h = refl
less_is Equal h = cc
less_is Greater h = cc

-- a payload that isn't below p is not one that is below p
apart : (p q x : Vrp) (o : Ordering) → payload_cmp p q ≡ o → is_gt o ≡ false → is_lt (payload_cmp x p) ≡ true → is_at (payload_cmp q) x ≡ false
apart p q x Less e h k = rw (payload_cmp_total.antisymm q x, payload_cmp_total.trans x p q (less_is _ k) e) refl
apart p q x Equal e h k = rw (sym (payload_cmp_total.congr p q x e), payload_cmp_total.antisymm p x, less_is _ k) refl
apart p q x Greater e h k = cc

-- what isn't below a payload is in the rest as in the whole
pub has-from_payload : (p q : Vrp) (xs : List Vrp) → is_gt (payload_cmp p q) ≡ false → has (from_payload p xs) q ≡ has xs q
has-from_payload p q [] h = refl
has-from_payload p q (x ∷ xs) h = step (is_lt (payload_cmp x p)) refl (has-from_payload p q xs h)
  where
    step : (b : Bool) → is_lt (payload_cmp x p) ≡ b → has (from_payload p xs) q ≡ has xs q → has (cond b (from_payload p xs) (x ∷ xs)) q ≡ has (x ∷ xs) q
    step true k same = rw (apart p q x (payload_cmp p q) refl h k) same
    step false k same = refl

-- the rest has the payload where it begins with it
pub has-is_first : (p : Vrp) (xs : List Vrp) → IsPayloadSet xs → has (from_payload p xs) p ≡ is_first p (from_payload p xs)
unfolding IsStrictlySortedBy
has-is_first p [] rises = refl
has-is_first p (x ∷ xs) rises = step (payload_cmp x p) refl (has-is_first p xs rises.1)
  where
    step : (o : Ordering) → payload_cmp x p ≡ o → has (from_payload p xs) p ≡ is_first p (from_payload p xs)
        → has (cond (is_lt o) (from_payload p xs) (x ∷ xs)) p ≡ is_first p (cond (is_lt o) (from_payload p xs) (x ∷ xs))
    step Less e h = h
    step Equal e h = rw (payload_cmp_total.antisymm p x, e) refl
    step Greater e h = let back : payload_cmp p x ≡ Less = payload_cmp_total.antisymm p x ∙ ap ordering_reverse e in
        rw (back, e, none_above p xs (above_trans p x xs back rises.0)) refl

-- ---- what is lacked

-- a filter asks of the members alone
filter_above : (p : Vrp) (f g : Vrp → Bool) → ((q : Vrp) → is_gt (payload_cmp p q) ≡ false → f q ≡ g q)
    → (xs : List Vrp) → AllByRecursion (λ q. payload_cmp p q ≡ Less) xs → filter f xs ≡ filter g xs
filter_above p f g same [] all = refl
filter_above p f g same (x ∷ xs) all = rw (same x (ap is_gt all.0), filter_above p f g same xs all.1) refl

-- one more payload of the set: it is lacked where the rest of the other doesn't begin with it
pub lacked-cons : (x : Vrp) (xs other : List Vrp) → IsPayloadSet (x ∷ xs) → IsPayloadSet other
    → lacked (x ∷ xs) other ≡ (cond (is_first x (from_payload x other)) [] (x ∷ [])) ++ lacked xs (from_payload x other)
unfolding IsStrictlySortedBy
lacked-cons x xs other rises others =
    let here : has other x ≡ is_first x (from_payload x other) = sym (has-from_payload x x other (ap is_gt (tied_itself payload_cmp_total x))) ∙ has-is_first x other others in
    let later : lacked xs other ≡ lacked xs (from_payload x other) =
    filter_above x (λ q. not (has other q)) (λ q. not (has (from_payload x other) q)) (λ q h. ap not (sym (has-from_payload x q other h))) xs rises.0 in
    rw (here, later) (choice (is_first x (from_payload x other)))
  where
    choice : (b : Bool) → cond (not b) (x ∷ lacked xs (from_payload x other)) (lacked xs (from_payload x other)) ≡ (cond b [] (x ∷ [])) ++ lacked xs (from_payload x other)
    choice true = refl
    choice false = refl

-- ---- the set that is found

-- a list rises without one of its members
pub rises_without : (fs : List Vrp) (x : Vrp) (xs : List Vrp) → IsPayloadSet (fs ++ x ∷ xs) → IsPayloadSet (fs ++ xs)
unfolding IsStrictlySortedBy
rises_without [] x xs rises = rises.1
rises_without (f ∷ fs) x xs rises = (all_without fs x xs rises.0, rises_without fs x xs rises.1)
  where
    all_without : (fs : List Vrp) (x : Vrp) (xs : List Vrp) → AllByRecursion (λ q. payload_cmp f q ≡ Less) (fs ++ x ∷ xs) → AllByRecursion (λ q. payload_cmp f q ≡ Less) (fs ++ xs)
    all_without [] x xs all = all.1
    all_without (g ∷ gs) x xs all = (all.0, all_without gs x xs all.1)

-- what stands behind a list that rises stands above its members
last_above : (fs : List Vrp) (f x : Vrp) (xs : List Vrp) → AllByRecursion (λ q. payload_cmp f q ≡ Less) (fs ++ x ∷ xs) → payload_cmp f x ≡ Less
last_above [] f x xs all = all.0
last_above (g ∷ gs) f x xs all = last_above gs f x xs all.1

-- the greatest payload of a set is put last
pub insert_key-last : (fs : List Vrp) (x : Vrp) (xs : List Vrp) → IsPayloadSet (fs ++ x ∷ xs) → insert_key payload_cmp fs x ≡ fs ++ x ∷ []
unfolding IsStrictlySortedBy
insert_key-last [] x xs rises = refl
insert_key-last (f ∷ fs) x xs rises =
    rw (payload_cmp_total.antisymm x f ∙ ap ordering_reverse (last_above fs f x xs rises.0), insert_key-last fs x xs rises.1) refl

-- how far a walk along a set has come: what was found, and what is left of the set and of the other
pub record Walked (found set rest whole : List Vrp) : Type 0 where
  pub rises : IsPayloadSet (found ++ set)
  pub set_rises : IsPayloadSet set
  pub rest_rises : IsPayloadSet rest
  pub is : found ++ lacked set rest ≡ whole

-- one step of it
pub walked-step : (found set rest whole after : List Vrp) (x : Vrp) (b : Bool) → Walked found (x ∷ set) rest whole → b ≡ is_first x (from_payload x rest)
    → after ≡ cond b found (insert_key payload_cmp found x) → Walked after set (from_payload x rest) whole
unfolding IsStrictlySortedBy
walked-step found set rest whole after x true w first e = record {
  rises = rw e (rises_without found x set w.rises);
  set_rises = w.set_rises.1;
  rest_rises = from_payload-rises x rest w.rest_rises;
  is = rw e (ap (λ l. found ++ l) (rw (lacked-cons x set rest w.set_rises w.rest_rises, ← first) refl) ∙ w.is);
}
walked-step found set rest whole after x false w first e = let put : after ≡ found ++ x ∷ [] = e ∙ insert_key-last found x set w.rises in record {
  rises = rw (put, append_assoc) w.rises;
  set_rises = w.set_rises.1;
  rest_rises = from_payload-rises x rest w.rest_rises;
  is = rw (put, append_assoc) (ap (λ l. found ++ l) (sym (rw (lacked-cons x set rest w.set_rises w.rest_rises, ← first) refl)) ∙ w.is);
}
