-- The payloads of a set that pass a test, one after another.
use Rattle.std.proofs.Common.{◌≡◌, ◌&&◌, ◌||◌, Bool, true, false, not, cond, List, [], ◌∷◌, filter, refl, sym, ap, ◌∙◌}
use Rattle.std.specs.BTreeMap.{is_at}
use Rattle.std.specs.Cmp.{Equal-is}
use Rattle.net_prefix.specs.PayloadOrder.{payload_cmp}
use Rattle.net_prefix.specs.PayloadSets.{IsPayloadSet, has}
use Rattle.net_prefix.specs.declared.payload.Vrp.{Vrp}
use Rattle.net_prefix.proofs.PayloadSets.{payload_cmp_exact, payload_cmp_total, same_set, sorted-filter}
use Rattle.vrp_delta.proofs.Changing.{is_at-turned}
use Rattle.local_exceptions.specs.ExceptionSets.{ExceptionSets, IsUnder, is_untouched}
use Rattle.local_exceptions.specs.Filters.{is_filtered}
use Rattle.local_exceptions.proofs.Passing.{has-filter}

alike : (test : Vrp → Bool) (p q : Vrp) → is_at (payload_cmp q) p ≡ true → test q ≡ test p
alike test p q h = ap test (payload_cmp_exact q p ((Equal-is (payload_cmp q p)).0 h))

passed_case : (e r t f : Bool) → (e ≡ true → t ≡ false) → (f || (r && t)) ≡ (f || ((e || r) && t))
passed_case true r true f same = absurd (cc (same refl))
passed_case true true false f same = refl
passed_case true false false f same = refl
passed_case false r t f same = refl

taken_case : (e r t f : Bool) → (e ≡ true → t ≡ true) → (cond e true f || (r && t)) ≡ (f || ((e || r) && t))
taken_case true r true true same = refl
taken_case true r true false same = refl
taken_case true r false f same = absurd (cc (same refl))
taken_case false r t f same = refl

-- a payload that fails the test is passed by
pub passed_by : (test : Vrp → Bool) (p q : Vrp) (found rest : List Vrp) (whole : Bool) → test p ≡ false
    → (has found q || (has (p ∷ rest) q && test q)) ≡ whole → (has found q || (has rest q && test q)) ≡ whole
passed_by test p q found rest whole fails h =
    passed_case (is_at (payload_cmp q) p) (has rest q) (test q) (has found q) (λ e. alike test p q e ∙ fails) ∙ h

-- and one that passes it is taken in
pub taken_in : (test : Vrp → Bool) (p q : Vrp) (new found rest : List Vrp) (whole : Bool) → test p ≡ true → has new q ≡ cond (is_at (payload_cmp p) q) true (has found q)
    → (has found q || (has (p ∷ rest) q && test q)) ≡ whole → (has new q || (has rest q && test q)) ≡ whole
taken_in test p q new found rest whole passes updates h =
    rw (updates, is_at-turned p q) (taken_case (is_at (payload_cmp q) p) (has rest q) (test q) (has found q) (λ e. alike test p q e ∙ passes)) ∙ h

nothing : (f : Bool) → f ≡ (f || false)
nothing true = refl
nothing false = refl

turned : (a b : Bool) → (a && b) ≡ (b && a)
turned true true = refl
turned true false = refl
turned false true = refl
turned false false = refl

-- those that were taken in are those that pass the test
pub all_taken : (test : Vrp → Bool) (set found : List Vrp) → IsPayloadSet set → IsPayloadSet found
    → ((q : Vrp) → (has found q || (has [] q && test q)) ≡ (has set q && test q)) → found ≡ filter test set
all_taken test set found rises rise kept =
    same_set found (filter test set) rise (sorted-filter payload_cmp_total test set rises)
    (λ q. nothing (has found q) ∙ kept q ∙ turned (has set q) (test q) ∙ sym (has-filter test set q))

under_case : (s f a : Bool) → (((not f && not a) && s) || a) ≡ ((s && not f) || a)
under_case true true a = refl
under_case true false true = refl
under_case true false false = refl
under_case false true a = refl
under_case false false true = refl
under_case false false false = refl

-- what is untouched, with what is asserted, is what the exceptions make of a set
pub is_under : (e : ExceptionSets) (set left after : List Vrp) → left ≡ filter (is_untouched e) set → ((q : Vrp) → has after q ≡ (has left q || has e.asserted q)) → IsUnder e set after
is_under e set left after is more q =
    more q ∙ rw (is, has-filter (is_untouched e) set q) (under_case (has set q) (is_filtered e.filters q) (has e.asserted q))
