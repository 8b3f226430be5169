-- Changes that are made payload by payload, and the sets that they lead to.
use Rattle.std.proofs.Common.{◌≡◌, Bool, true, false, not, ◌&&◌, ◌||◌, cond, List, [], ◌∷◌, ap, sym, refl, ◌∙◌, subst}
use Rattle.std.specs.BTreeMap.{is_at}
use Rattle.std.specs.List.Sorted.{IsStrictlySortedBy}
use Rattle.std.specs.Ordering.{is_eq}
use Rattle.std.specs.Cmp.{Equal-is, tied_itself}
use Rattle.net_prefix.specs.declared.payload.Vrp.{Vrp}
use Rattle.net_prefix.specs.PayloadOrder.{payload_cmp}
use Rattle.net_prefix.specs.PayloadSets.{IsPayloadSet, has, out, put}
use Rattle.net_prefix.proofs.PayloadSets.{has-out, has-put, out-is_set, payload_cmp_exact, payload_cmp_total, put-is_set, same_set, sorted-filter}
use Rattle.vrp_delta.specs.Delta.{Change, IsApplied, change_between, lacked}
use Rattle.vrp_delta.specs.Keeping.{IsChangeOf, no_change}
use Rattle.vrp_delta.specs.Staged.{came, left, loaded_from, with_all}
use Rattle.vrp_delta.proofs.PayloadMembers.{has-after_change, has-lacked}
use Rattle.vrp_delta.proofs.Changing.{is_at-turned}

-- ---- plain cases

pub empty_rises : IsPayloadSet []
unfolding IsStrictlySortedBy
empty_rises = tt

pub lacked-nothing : (set : List Vrp) → lacked set [] ≡ set
lacked-nothing [] = refl
lacked-nothing (x ∷ xs) = ap (λ l. x ∷ l) (lacked-nothing xs)

pub loaded_from-nothing : (set : List Vrp) → loaded_from set no_change ≡ set
unfolding loaded_from
loaded_from-nothing set = lacked-nothing set

pub change_between-nothing : (set : List Vrp) → change_between set [] ≡ record { withdrawn = set; announced = [] }
change_between-nothing set = ap (λ l. record { withdrawn = l; announced = [] }) (lacked-nothing set)

pub no_change-fits : (set : List Vrp) → IsChangeOf set no_change
no_change-fits set = record {
  withdrawn_rises = empty_rises;
  announced_rises = empty_rises;
  withdraws_known = λ q h. cc;
  announces_unknown = λ q h. cc;
}

-- ---- what is loaded

or_joined : (a b c : Bool) → (a || (b || c)) ≡ ((a || b) || c)
or_joined true b c = refl
or_joined false b c = refl

has-with_all : (list set : List Vrp) (q : Vrp) → has (with_all list set) q ≡ (has list q || has set q)
has-with_all [] set q = refl
has-with_all (p ∷ more) set q =
    has-put (with_all more set) p q ∙ rw (has-with_all more set q) (or_joined (is_at (payload_cmp q) p) (has more q) (has set q))

with_all-is_set : (list set : List Vrp) → IsPayloadSet set → IsPayloadSet (with_all list set)
with_all-is_set [] set h = h
with_all-is_set (p ∷ more) set h = put-is_set (with_all more set) p (with_all-is_set more set h)

pub has-loaded : (start : List Vrp) (change : Change) (q : Vrp)
    → has (loaded_from start change) q ≡ (has change.announced q || (not (has change.withdrawn q) && has start q))
unfolding loaded_from
has-loaded start change q =
    has-with_all change.announced (lacked start change.withdrawn) q
    ∙ ap (λ b. has change.announced q || b) (has-lacked start change.withdrawn q)

pub loaded_from-is_set : (start : List Vrp) (change : Change) → IsPayloadSet start → IsPayloadSet (loaded_from start change)
unfolding loaded_from
loaded_from-is_set start change h =
    with_all-is_set change.announced (lacked start change.withdrawn) (sorted-filter payload_cmp_total (λ p. not (has change.withdrawn p)) start h)

-- ---- one payload comes or leaves

-- a set has the payload or not, and of all others what it had
pub record Moves (p : Vrp) (b : Bool) (old new : List Vrp) : Type 0 where
  pub here : has new p ≡ b
  pub apart : (q : Vrp) → is_at (payload_cmp p) q ≡ false → has new q ≡ has old q

pub at_itself : (p : Vrp) → is_at (payload_cmp p) p ≡ true
at_itself p = ap is_eq (tied_itself payload_cmp_total p)

by_place : (P : Vrp → Type 0) (p q : Vrp) (b : Bool) → is_at (payload_cmp p) q ≡ b → P p → (is_at (payload_cmp p) q ≡ false → P q) → P q
by_place P p q true e here apart = subst P (payload_cmp_exact p q ((Equal-is (payload_cmp p q)).0 e)) here
by_place P p q false e here apart = apart e

-- what is so at a payload and at each other one is so everywhere
pub at_each : (P : Vrp → Type 0) (p : Vrp) → P p → ((q : Vrp) → is_at (payload_cmp p) q ≡ false → P q) → (q : Vrp) → P q
at_each P p here apart q = by_place P p q (is_at (payload_cmp p) q) refl here (apart q)

pub moved_alike : (p : Vrp) (b : Bool) (old new other : List Vrp) → Moves p b old new → Moves p b old other → IsPayloadSet new → IsPayloadSet other → new ≡ other
moved_alike p b old new other m n h k =
    same_set new other h k (at_each (λ q. has new q ≡ has other q) p (m.here ∙ sym n.here) (λ q e. m.apart q e ∙ sym (n.apart q e)))

pub put-moves : (p : Vrp) (set : List Vrp) → Moves p true set (put p set)
put-moves p set = record {
  here = has-put set p p ∙ rw (at_itself p) refl;
  apart = λ q e. has-put set p q ∙ rw (sym (is_at-turned p q), e) refl;
}

pub out-moves : (p : Vrp) (set : List Vrp) → Moves p false set (out p set)
out-moves p set = record {
  here = has-out set p p ∙ rw (at_itself p) refl;
  apart = λ q e. has-out set p q ∙ rw e refl;
}

-- ---- one payload of a load

-- a load that is kept as these lists
abbrev loaded : List Vrp → List Vrp → List Vrp → List Vrp
loaded start withdrawn announced = loaded_from start (record { withdrawn = withdrawn; announced = announced })

or_true : (b : Bool) → (b || (true && true)) ≡ true
or_true true = refl
or_true false = refl

-- it comes, and what the load started from lacks it
pub load_put : (p : Vrp) (start w a b : List Vrp) → Moves p true a b → Moves p true (loaded start w a) (loaded start w b)
load_put p start w a b m = record {
  here = has-loaded start (record { withdrawn = w; announced = b }) p ∙ rw m.here refl;
  apart = λ q e. has-loaded start (record { withdrawn = w; announced = b }) q ∙ rw (m.apart q e) (sym (has-loaded start (record { withdrawn = w; announced = a }) q));
}

-- it had left what the load started from, and comes back
pub load_put_back : (p : Vrp) (start w v a : List Vrp) → Moves p false w v → has start p ≡ true → Moves p true (loaded start w a) (loaded start v a)
load_put_back p start w v a m known = record {
  here = has-loaded start (record { withdrawn = v; announced = a }) p ∙ rw (m.here, known) (or_true (has a p));
  apart = λ q e. has-loaded start (record { withdrawn = v; announced = a }) q ∙ rw (m.apart q e) (sym (has-loaded start (record { withdrawn = w; announced = a }) q));
}

-- it had come, and leaves again
pub load_out : (p : Vrp) (start w a b : List Vrp) → Moves p false a b → (not (has w p) && has start p) ≡ false → Moves p false (loaded start w a) (loaded start w b)
load_out p start w a b m gone = record {
  here = has-loaded start (record { withdrawn = w; announced = b }) p ∙ rw m.here gone;
  apart = λ q e. has-loaded start (record { withdrawn = w; announced = b }) q ∙ rw (m.apart q e) (sym (has-loaded start (record { withdrawn = w; announced = a }) q));
}

-- it leaves what the load started from
pub load_leave : (p : Vrp) (start w v a : List Vrp) → Moves p true w v → has a p ≡ false → Moves p false (loaded start w a) (loaded start v a)
load_leave p start w v a m other = record {
  here = has-loaded start (record { withdrawn = v; announced = a }) p ∙ rw (m.here, other) refl;
  apart = λ q e. has-loaded start (record { withdrawn = v; announced = a }) q ∙ rw (m.apart q e) (sym (has-loaded start (record { withdrawn = w; announced = a }) q));
}

-- and the load stays a change of what it started from
pub fits_put : (p : Vrp) (start w a b : List Vrp) → IsChangeOf start (record { withdrawn = w; announced = a }) → Moves p true a b → IsPayloadSet b → has start p ≡ false
    → IsChangeOf start (record { withdrawn = w; announced = b })
fits_put p start w a b fits m rises unknown = record {
  withdrawn_rises = fits.withdrawn_rises;
  announced_rises = rises;
  withdraws_known = fits.withdraws_known;
  announces_unknown = at_each (λ q. has b q ≡ true → has start q ≡ false) p (λ h. unknown) (λ q e h. fits.announces_unknown q (sym (m.apart q e) ∙ h));
}

pub fits_put_back : (p : Vrp) (start w v a : List Vrp) → IsChangeOf start (record { withdrawn = w; announced = a }) → Moves p false w v → IsPayloadSet v
    → IsChangeOf start (record { withdrawn = v; announced = a })
fits_put_back p start w v a fits m rises = record {
  withdrawn_rises = rises;
  announced_rises = fits.announced_rises;
  withdraws_known = at_each (λ q. has v q ≡ true → has start q ≡ true) p (λ h. let gone = m.here in cc) (λ q e h. fits.withdraws_known q (sym (m.apart q e) ∙ h));
  announces_unknown = fits.announces_unknown;
}

pub fits_out : (p : Vrp) (start w a b : List Vrp) → IsChangeOf start (record { withdrawn = w; announced = a }) → Moves p false a b → IsPayloadSet b
    → IsChangeOf start (record { withdrawn = w; announced = b })
fits_out p start w a b fits m rises = record {
  withdrawn_rises = fits.withdrawn_rises;
  announced_rises = rises;
  withdraws_known = fits.withdraws_known;
  announces_unknown = at_each (λ q. has b q ≡ true → has start q ≡ false) p (λ h. let gone = m.here in cc) (λ q e h. fits.announces_unknown q (sym (m.apart q e) ∙ h));
}

pub fits_leave : (p : Vrp) (start w v a : List Vrp) → IsChangeOf start (record { withdrawn = w; announced = a }) → Moves p true w v → IsPayloadSet v → has start p ≡ true
    → IsChangeOf start (record { withdrawn = v; announced = a })
fits_leave p start w v a fits m rises known = record {
  withdrawn_rises = rises;
  announced_rises = fits.announced_rises;
  withdraws_known = at_each (λ q. has v q ≡ true → has start q ≡ true) p (λ h. known) (λ q e h. fits.withdraws_known q (sym (m.apart q e) ∙ h));
  announces_unknown = fits.announces_unknown;
}

-- ---- a load that is in force

-- what a change of a set leaves is what was loaded
pub applied-loaded : (start new : List Vrp) (change : Change) → IsPayloadSet start → IsPayloadSet new → IsApplied start change new → new ≡ loaded_from start change
applied-loaded start new change rose rises applied =
    same_set new (loaded_from start change) rises (loaded_from-is_set start change rose)
    (λ q. applied q ∙ turned (has start q) (has change.withdrawn q) (has change.announced q) ∙ sym (has-loaded start change q))
  where
    turned : (s w a : Bool) → ((s && not w) || a) ≡ (a || (not w && s))
    turned true true true = refl
    turned true true false = refl
    turned true false true = refl
    turned true false false = refl
    turned false true true = refl
    turned false true false = refl
    turned false false true = refl
    turned false false false = refl

out_case : (s w a : Bool) → (w ≡ true → s ≡ true) → (a ≡ true → s ≡ false) → w ≡ (not (a || (not w && s)) && s)
out_case true true true known unknown = let wrong : true ≡ false = unknown refl in cc
out_case true true false known unknown = refl
out_case true false true known unknown = refl
out_case true false false known unknown = refl
out_case false true a known unknown = let wrong : false ≡ true = known refl in cc
out_case false false true known unknown = refl
out_case false false false known unknown = refl

in_case : (s w a : Bool) → (w ≡ true → s ≡ true) → (a ≡ true → s ≡ false) → a ≡ (not s && (a || (not w && s)))
in_case true w true known unknown = let wrong : true ≡ false = unknown refl in cc
in_case true w false known unknown = refl
in_case false true a known unknown = let wrong : false ≡ true = known refl in cc
in_case false false true known unknown = refl
in_case false false false known unknown = refl

-- a change of a set is what changed between it and what was loaded
pub change_between-loaded : (start : List Vrp) (change : Change) → IsPayloadSet start → IsChangeOf start change → change ≡ change_between start (loaded_from start change)
change_between-loaded start change rose fits =
    let new = loaded_from start change in
    let rises = loaded_from-is_set start change rose in
    let withdrawn : change.withdrawn ≡ lacked start new =
    same_set change.withdrawn (lacked start new) fits.withdrawn_rises (sorted-filter payload_cmp_total (λ p. not (has new p)) start rose)
    (λ q. out_case (has start q) (has change.withdrawn q) (has change.announced q) (fits.withdraws_known q) (fits.announces_unknown q)
    ∙ ap (λ b. not b && has start q) (sym (has-loaded start change q)) ∙ sym (has-lacked start new q)) in
    let announced : change.announced ≡ lacked new start =
    same_set change.announced (lacked new start) fits.announced_rises (sorted-filter payload_cmp_total (λ p. not (has start p)) new rises)
    (λ q. in_case (has start q) (has change.withdrawn q) (has change.announced q) (fits.withdraws_known q) (fits.announces_unknown q)
    ∙ ap (λ b. not (has start q) && b) (sym (has-loaded start change q)) ∙ sym (has-lacked new start q)) in
    λ i. record { withdrawn = withdrawn i; announced = announced i }

known_case : (o n : Bool) → (not n && o) ≡ true → o ≡ true
known_case true n h = refl
known_case false true h = h
known_case false false h = h

unknown_case : (o n : Bool) → (not o && n) ≡ true → o ≡ false
unknown_case true n h = cc
unknown_case false n h = refl

-- what changed between two sets is a change of the first
pub change_between-fits : (old new : List Vrp) → IsPayloadSet old → IsPayloadSet new → IsChangeOf old (change_between old new)
change_between-fits old new rose rises = record {
  withdrawn_rises = sorted-filter payload_cmp_total (λ p. not (has new p)) old rose;
  announced_rises = sorted-filter payload_cmp_total (λ p. not (has old p)) new rises;
  withdraws_known = λ q h. known_case (has old q) (has new q) (sym (has-lacked old new q) ∙ h);
  announces_unknown = λ q h. unknown_case (has old q) (has new q) (sym (has-lacked new old q) ∙ h);
}

-- and leads from the first to the second
pub loaded-change_between : (old new : List Vrp) → IsPayloadSet old → IsPayloadSet new → loaded_from old (change_between old new) ≡ new
loaded-change_between old new rose rises =
    sym (applied-loaded old new (change_between old new) rose rises (λ q. sym (has-after_change old new q)))

-- a load that starts from no payloads is what came in it
pub loaded-from_none : (change : Change) → IsChangeOf [] change → loaded_from [] change ≡ change.announced
loaded-from_none change fits =
    same_set (loaded_from [] change) change.announced (loaded_from-is_set [] change empty_rises) fits.announced_rises
    (λ q. has-loaded [] change q ∙ none_case (has change.announced q) (has change.withdrawn q))
  where
    none_case : (a w : Bool) → (a || (not w && false)) ≡ a
    none_case true w = refl
    none_case false true = refl
    none_case false false = refl

-- ---- what is loaded, case by case

pub loaded-announced : (start : List Vrp) (change : Change) (q : Vrp) → has change.announced q ≡ true → has (loaded_from start change) q ≡ true
loaded-announced start change q h = has-loaded start change q ∙ rw h refl

pub loaded-withdrawn : (start : List Vrp) (change : Change) (q : Vrp) → has change.announced q ≡ false → has change.withdrawn q ≡ true → has (loaded_from start change) q ≡ false
loaded-withdrawn start change q h k = has-loaded start change q ∙ rw (h, k) refl

pub loaded-started : (start : List Vrp) (change : Change) (q : Vrp) → has change.announced q ≡ false → has change.withdrawn q ≡ false → has (loaded_from start change) q ≡ has start q
loaded-started start change q h k = has-loaded start change q ∙ rw (h, k) refl

pub lacks_case : (a w s : Bool) → (a || (not w && s)) ≡ false → w ≡ false → s ≡ false
lacks_case true w s h k = cc
lacks_case false true s h k = cc
lacks_case false false s h k = h

came_case : (p : Vrp) (start : List Vrp) (load : Change) (b : Bool) → has load.withdrawn p ≡ b → IsPayloadSet start → IsChangeOf start load → has (loaded_from start load) p ≡ false
    → IsChangeOf start (cond b (record { withdrawn = out p load.withdrawn; announced = load.announced }) (record { withdrawn = load.withdrawn; announced = put p load.announced }))
    × (loaded_from start (cond b (record { withdrawn = out p load.withdrawn; announced = load.announced }) (record { withdrawn = load.withdrawn; announced = put p load.announced })) ≡ put p (loaded_from start load))
came_case p start load true h rose fits other =
    let known = fits.withdraws_known p h in
    let fitting = fits_put_back p start load.withdrawn (out p load.withdrawn) load.announced fits (out-moves p load.withdrawn) (out-is_set load.withdrawn p fits.withdrawn_rises) in
    let old = loaded_from start load in (
      fitting,
      moved_alike p true old _ (put p old) (load_put_back p start load.withdrawn (out p load.withdrawn) load.announced (out-moves p load.withdrawn) known) (put-moves p old)
          (loaded_from-is_set start _ rose) (put-is_set old p (loaded_from-is_set start load rose)),
    )
came_case p start load false h rose fits other =
    let unknown = lacks_case (has load.announced p) (has load.withdrawn p) (has start p) (sym (has-loaded start load p) ∙ other) h in
    let fitting = fits_put p start load.withdrawn load.announced (put p load.announced) fits (put-moves p load.announced) (put-is_set load.announced p fits.announced_rises) unknown in
    let old = loaded_from start load in (
      fitting,
      moved_alike p true old _ (put p old) (load_put p start load.withdrawn load.announced (put p load.announced) (put-moves p load.announced)) (put-moves p old)
          (loaded_from-is_set start _ rose) (put-is_set old p (loaded_from-is_set start load rose)),
    )

-- a payload that comes is put in
pub came-put : (p : Vrp) (start : List Vrp) (load : Change) → IsPayloadSet start → IsChangeOf start load → has (loaded_from start load) p ≡ false
    → IsChangeOf start (came p load) × (loaded_from start (came p load) ≡ put p (loaded_from start load))
came-put p start load rose fits other = came_case p start load (has load.withdrawn p) refl rose fits other

gone_case : (w s a : Bool) → a ≡ true → (a ≡ true → s ≡ false) → (not w && s) ≡ false
gone_case true s a h unknown = refl
gone_case false s a h unknown = unknown h

pub has_case : (a w s : Bool) → (a || (not w && s)) ≡ true → a ≡ false → s ≡ true
has_case true w s h k = cc
has_case false true s h k = cc
has_case false false s h k = h

left_case : (p : Vrp) (start : List Vrp) (load : Change) (b : Bool) → has load.announced p ≡ b → IsPayloadSet start → IsChangeOf start load → has (loaded_from start load) p ≡ true
    → IsChangeOf start (cond b (record { withdrawn = load.withdrawn; announced = out p load.announced }) (record { withdrawn = put p load.withdrawn; announced = load.announced }))
    × (loaded_from start (cond b (record { withdrawn = load.withdrawn; announced = out p load.announced }) (record { withdrawn = put p load.withdrawn; announced = load.announced })) ≡ out p (loaded_from start load))
left_case p start load true h rose fits there =
    let gone = gone_case (has load.withdrawn p) (has start p) (has load.announced p) h (fits.announces_unknown p) in
    let fitting = fits_out p start load.withdrawn load.announced (out p load.announced) fits (out-moves p load.announced) (out-is_set load.announced p fits.announced_rises) in
    let old = loaded_from start load in (
      fitting,
      moved_alike p false old _ (out p old) (load_out p start load.withdrawn load.announced (out p load.announced) (out-moves p load.announced) gone) (out-moves p old)
          (loaded_from-is_set start _ rose) (out-is_set old p (loaded_from-is_set start load rose)),
    )
left_case p start load false h rose fits there =
    let known = has_case (has load.announced p) (has load.withdrawn p) (has start p) (sym (has-loaded start load p) ∙ there) h in
    let fitting = fits_leave p start load.withdrawn (put p load.withdrawn) load.announced fits (put-moves p load.withdrawn) (put-is_set load.withdrawn p fits.withdrawn_rises) known in
    let old = loaded_from start load in (
      fitting,
      moved_alike p false old _ (out p old) (load_leave p start load.withdrawn (put p load.withdrawn) load.announced (put-moves p load.withdrawn) h) (out-moves p old)
          (loaded_from-is_set start _ rose) (out-is_set old p (loaded_from-is_set start load rose)),
    )

-- a payload that leaves is taken out
pub left-out : (p : Vrp) (start : List Vrp) (load : Change) → IsPayloadSet start → IsChangeOf start load → has (loaded_from start load) p ≡ true
    → IsChangeOf start (left p load) × (loaded_from start (left p load) ≡ out p (loaded_from start load))
left-out p start load rose fits there = left_case p start load (has load.announced p) refl rose fits there

pub came-back : (p : Vrp) (load : Change) → has load.withdrawn p ≡ true → came p load ≡ record { withdrawn = out p load.withdrawn; announced = load.announced }
came-back p load h = rw h refl

pub left-again : (p : Vrp) (load : Change) → has load.announced p ≡ true → left p load ≡ record { withdrawn = load.withdrawn; announced = out p load.announced }
left-again p load h = rw h refl

-- ---- what a step changed

pub either_right : (a b : Bool) → b ≡ true → (a || b) ≡ true
either_right true b h = refl
either_right false b h = h

-- a set lacks no part of itself
lacked-part : (set part : List Vrp) → ((q : Vrp) → has part q ≡ true → has set q ≡ true) → lacked part set ≡ []
lacked-part set [] inside = refl
lacked-part set (x ∷ xs) inside =
    let here : has set x ≡ true = inside x (rw (at_itself x) refl) in
    rw here (lacked-part set xs (λ q h. inside q (either_right (is_at (payload_cmp q) x) (has xs q) h)))

pub change_between-same : (set : List Vrp) → change_between set set ≡ no_change
change_between-same set = ap (λ l. record { withdrawn = l; announced = l }) (lacked-part set set (λ q h. h))
