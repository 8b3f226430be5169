-- A change of a set, behind exceptions, is a change of what they make of the set.
use Rattle.std.proofs.Common.{◌≡◌, ◌&&◌, ◌||◌, Bool, true, false, not, List, filter, refl, sym, ap, ◌∙◌, arith}
use Rattle.net_prefix.specs.PayloadSets.{has}
use Rattle.net_prefix.specs.declared.payload.Vrp.{Vrp}
use Rattle.net_prefix.proofs.PayloadSets.{any-filter, payload_cmp_exact, payload_cmp_total, sorted-filter}
use Rattle.vrp_delta.specs.Delta.{Change, IsApplied}
use Rattle.vrp_delta.specs.Keeping.{IsChangeOf}
use Rattle.local_exceptions.specs.ExceptionSets.{ExceptionSets, IsUnder, behind, is_untouched}
use Rattle.local_exceptions.specs.Filters.{is_filtered}

-- what is left of a list by a test
pub has-filter : (test : Vrp → Bool) (set : List Vrp) (q : Vrp) → has (filter test set) q ≡ (test q && has set q)
has-filter test set q = any-filter payload_cmp_total test q (λ x e. ap test (sym (payload_cmp_exact q x e))) set

-- over what one payload is: in the set, matched, asserted, withdrawn, announced
applied_case : (s f a w n : Bool) → ((((s && not w) || n) && not f) || a)
    ≡ ((((s && not f) || a) && not ((not f && not a) && w)) || ((not f && not a) && n))
applied_case s f a w n = grind arith

pub passes : (e : ExceptionSets) (set changed before after : List Vrp) (change : Change)
    → IsApplied set change changed → IsUnder e set before → IsUnder e changed after → IsApplied before (behind e change) after
passes e set changed before after change applied was is q =
    is q
    ∙ rw (applied q, was q, has-filter (is_untouched e) change.withdrawn q, has-filter (is_untouched e) change.announced q)
    (applied_case (has set q) (is_filtered e.filters q) (has e.asserted q) (has change.withdrawn q) (has change.announced q))

known_case : (s f a w : Bool) → (w ≡ true → s ≡ true) → ((not f && not a) && w) ≡ true → ((s && not f) || a) ≡ true
known_case true false false w known h = refl
known_case false false false true known h = known refl
known_case false false false false known h = h
known_case s true a w known h = let wrong : false ≡ true = h in cc
known_case s false true w known h = let wrong : false ≡ true = h in cc

unknown_case : (s f a n : Bool) → (n ≡ true → s ≡ false) → ((not f && not a) && n) ≡ true → ((s && not f) || a) ≡ false
unknown_case false false false n unknown h = refl
unknown_case true false false true unknown h = unknown refl
unknown_case true false false false unknown h = let wrong : false ≡ true = h in cc
unknown_case s true a n unknown h = let wrong : false ≡ true = h in cc
unknown_case s false true n unknown h = let wrong : false ≡ true = h in cc

pub passes_fitting : (e : ExceptionSets) (set before : List Vrp) (change : Change) → IsChangeOf set change → IsUnder e set before → IsChangeOf before (behind e change)
passes_fitting e set before change fits was = record {
  withdrawn_rises = sorted-filter payload_cmp_total (is_untouched e) change.withdrawn fits.withdrawn_rises;
  announced_rises = sorted-filter payload_cmp_total (is_untouched e) change.announced fits.announced_rises;
  withdraws_known = λ q h.
      was q ∙ known_case (has set q) (is_filtered e.filters q) (has e.asserted q) (has change.withdrawn q) (fits.withdraws_known q) (sym (has-filter (is_untouched e) change.withdrawn q) ∙ h);
  announces_unknown = λ q h.
      was q ∙ unknown_case (has set q) (is_filtered e.filters q) (has e.asserted q) (has change.announced q) (fits.announces_unknown q) (sym (has-filter (is_untouched e) change.announced q) ∙ h);
}
