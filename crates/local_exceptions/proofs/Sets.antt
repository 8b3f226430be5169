-- What exceptions make of a set, as a set.
use Rattle.std.proofs.Common.{◌≡◌, ◌&&◌, ◌||◌, Bool, true, false, not, List, [], ◌∷◌, filter, refl, sym, ap, ◌∙◌}
use Rattle.std.specs.BTreeMap.{is_at}
use Rattle.net_prefix.specs.PayloadOrder.{payload_cmp}
use Rattle.net_prefix.specs.PayloadSets.{IsPayloadSet, has}
use Rattle.net_prefix.specs.declared.payload.Vrp.{Vrp}
use Rattle.net_prefix.proofs.PayloadSets.{has-put, payload_cmp_total, put-is_set, sorted-filter}
use Rattle.local_exceptions.specs.ExceptionSets.{ExceptionSets, IsUnder, no_exceptions, put_each, under}
use Rattle.local_exceptions.specs.Filters.{is_filtered}
use Rattle.local_exceptions.proofs.Passing.{has-filter}

grouped : (a b c : Bool) → (a || (b || c)) ≡ ((a || b) || c)
grouped true b c = refl
grouped false b c = refl

-- a set with some payloads has them, and has what it had
pub has-put_each : (payloads set : List Vrp) (q : Vrp) → has (put_each payloads set) q ≡ (has payloads q || has set q)
has-put_each [] set q = refl
has-put_each (p ∷ more) set q =
    has-put (put_each more set) p q ∙ ap (λ b. is_at (payload_cmp q) p || b) (has-put_each more set q)
    ∙ grouped (is_at (payload_cmp q) p) (has more q) (has set q)

-- and it is a set
pub put_each-is_set : (payloads set : List Vrp) → IsPayloadSet set → IsPayloadSet (put_each payloads set)
put_each-is_set [] set h = h
put_each-is_set (p ∷ more) set h = put-is_set (put_each more set) p (put_each-is_set more set h)

turned : (a f s : Bool) → (a || (not f && s)) ≡ ((s && not f) || a)
turned true true true = refl
turned true true false = refl
turned true false true = refl
turned true false false = refl
turned false true true = refl
turned false true false = refl
turned false false true = refl
turned false false false = refl

-- it has what the exceptions make of the set
pub under_is : (e : ExceptionSets) (set : List Vrp) → IsUnder e set (under e set)
under_is e set q =
    has-put_each e.asserted (filter (λ payload. not (is_filtered e.filters payload)) set) q
    ∙ ap (λ b. has e.asserted q || b) (has-filter (λ payload. not (is_filtered e.filters payload)) set q)
    ∙ turned (has e.asserted q) (is_filtered e.filters q) (has set q)

-- and rises, as the set does
pub under-is_set : (e : ExceptionSets) (set : List Vrp) → IsPayloadSet set → IsPayloadSet (under e set)
under-is_set e set h =
    put_each-is_set e.asserted (filter (λ payload. not (is_filtered e.filters payload)) set)
    (sorted-filter payload_cmp_total (λ payload. not (is_filtered e.filters payload)) set h)

-- no exceptions leave the set as it is
pub under_none : (set : List Vrp) → under no_exceptions set ≡ set
under_none [] = refl
under_none (p ∷ set) = ap (λ l. p ∷ l) (under_none set)
