-- The payloads in force, row by row.
use Rattle.std.proofs.Common.{◌≡◌, ◌&&◌, ◌||◌, Bool, true, false, not, cond, List, [], ◌∷◌, Option, Some, None, filter, refl, sym, ap, ◌∙◌}
use Rattle.std.proofs.lemmas.Cmp.{alike_right}
use Rattle.std.specs.BTreeMap.{is_at}
use Rattle.std.specs.List.{AllByRecursion}
use Rattle.std.specs.List.Sorted.{IsStrictlySortedBy}
use Rattle.std.specs.Ordering.{is_lt, match_ordering, ordering_reverse}
use Rattle.std.specs.declared.cmp.Ordering.{Ordering}
use Rattle.std.specs.declared.cmp.Ordering.TheVariants.{Less, Equal, Greater}
use Rattle.local_exceptions.specs.ExceptionSets.{ExceptionSets, put_each, under}
use Rattle.local_exceptions.specs.Filters.{is_filtered}
use Rattle.local_exceptions.proofs.Passing.{has-filter}
use Rattle.local_exceptions.proofs.Sets.{has-put_each, put_each-is_set, under-is_set}
use Rattle.net_prefix.specs.PayloadOrder.{payload_cmp}
use Rattle.net_prefix.specs.PayloadSets.{IsPayloadSet, has, put}
use Rattle.net_prefix.specs.declared.payload.Vrp.{Vrp}
use Rattle.net_prefix.proofs.PayloadSets.{payload_cmp_total, same_set, sorted-filter}
use Rattle.speaker.specs.Shown.{first_of, least_of, payloads_behind}

-- ---- the first of a set with others

no_other : (f : Option Vrp) → least_of f None ≡ f
no_other None = refl
no_other (Some a) = refl

first_put_case : (p x : Vrp) (xs more : List Vrp) (r : Ordering) → first_of (match_ordering r (p ∷ x ∷ xs) (x ∷ xs) (x ∷ more)) ≡ cond (is_lt r) (Some p) (Some x)
first_put_case p x xs more Less = refl
first_put_case p x xs more Equal = refl
first_put_case p x xs more Greater = refl

-- a set with a payload begins with the less of that and its own first
first_put : (p : Vrp) (set : List Vrp) → first_of (put p set) ≡ least_of (first_of set) (Some p)
first_put p [] = refl
first_put p (x ∷ xs) = first_put_case p x xs (put p xs) (payload_cmp p x)

abbrev AreAbove : Vrp → List Vrp → Type 0
AreAbove p set = AllByRecursion (λ y. payload_cmp p y ≡ Less) set

least_case : (a p m : Vrp) → payload_cmp p m ≡ Less → (r : Ordering) → payload_cmp m a ≡ r → least_of (cond (is_lt r) (Some m) (Some a)) (Some p) ≡ least_of (Some a) (Some p)
least_case a p m less Less is = rw (less, payload_cmp_total.trans p m a less is) refl
least_case a p m less Equal is = refl
least_case a p m less Greater is = refl

least_twice : (f : Option Vrp) (p : Vrp) (more : List Vrp) → AreAbove p more → least_of (least_of f (first_of more)) (Some p) ≡ least_of f (Some p)
least_twice f p [] above = ap (λ o. least_of o (Some p)) (no_other f)
least_twice None p (m ∷ more) above = rw above.0 refl
least_twice (Some a) p (m ∷ more) above = least_case a p m above.0 (payload_cmp m a) refl

-- a set with others begins with the less of both firsts
pub first_put_each : (payloads set : List Vrp) → IsPayloadSet payloads → first_of (put_each payloads set) ≡ least_of (first_of set) (first_of payloads)
unfolding IsStrictlySortedBy
first_put_each [] set rising = sym (no_other (first_of set))
first_put_each (p ∷ more) set rising =
    first_put p (put_each more set)
    ∙ ap (λ f. least_of f (Some p)) (first_put_each more set rising.1)
    ∙ least_twice (first_of set) p more rising.0

-- ---- what is behind a payload

shared : (t a b : Bool) → (t && (a || b)) ≡ ((t && a) || (t && b))
shared true a b = refl
shared false a b = refl

filter_put_each : (test : Vrp → Bool) (payloads set : List Vrp) → IsPayloadSet set → filter test (put_each payloads set) ≡ put_each (filter test payloads) (filter test set)
filter_put_each test payloads set rising =
    same_set (filter test (put_each payloads set)) (put_each (filter test payloads) (filter test set))
    (sorted-filter payload_cmp_total test (put_each payloads set) (put_each-is_set payloads set rising))
    (put_each-is_set (filter test payloads) (filter test set) (sorted-filter payload_cmp_total test set rising))
    (λ q. has-filter test (put_each payloads set) q ∙ ap (λ b. test q && b) (has-put_each payloads set q) ∙ shared (test q) (has payloads q) (has set q)
    ∙ sym (has-put_each (filter test payloads) (filter test set) q ∙ ap (λ b. b || has (filter test set) q) (has-filter test payloads q)
    ∙ ap (λ b. (test q && has payloads q) || b) (has-filter test set q)))

-- behind a payload a set with others is what is behind it of both
pub behind_put_each : (after : Option Vrp) (payloads set : List Vrp) → IsPayloadSet set
    → payloads_behind after (put_each payloads set) ≡ put_each (payloads_behind after payloads) (payloads_behind after set)
behind_put_each None payloads set rising = refl
behind_put_each (Some last) payloads set rising = filter_put_each (λ payload. is_lt (payload_cmp last payload)) payloads set rising

swap_case : (f g : Vrp → Bool) (x : Vrp) (xs : List Vrp) (b c : Bool) → f x ≡ b → g x ≡ c → filter f (filter g xs) ≡ filter g (filter f xs)
    → filter f (cond c (x ∷ filter g xs) (filter g xs)) ≡ filter g (cond b (x ∷ filter f xs) (filter f xs))
swap_case f g x xs true true e h same = rw (e, h) (ap (λ l. x ∷ l) same)
swap_case f g x xs true false e h same = rw h same
swap_case f g x xs false true e h same = rw e same
swap_case f g x xs false false e h same = same

filter_swap : (f g : Vrp → Bool) (set : List Vrp) → filter f (filter g set) ≡ filter g (filter f set)
filter_swap f g [] = refl
filter_swap f g (x ∷ xs) = swap_case f g x xs (f x) (g x) refl refl (filter_swap f g xs)

-- some of what is behind a payload
pub filter_behind : (test : Vrp → Bool) (after : Option Vrp) (set : List Vrp) → filter test (payloads_behind after set) ≡ payloads_behind after (filter test set)
filter_behind test None set = refl
filter_behind test (Some last) set = filter_swap test (λ payload. is_lt (payload_cmp last payload)) set

-- and it rises
pub behind-is_set : (after : Option Vrp) (set : List Vrp) → IsPayloadSet set → IsPayloadSet (payloads_behind after set)
behind-is_set None set rising = rising
behind-is_set (Some last) set rising = sorted-filter payload_cmp_total (λ payload. is_lt (payload_cmp last payload)) set rising

-- the first payload in force behind one: of the kept ones and of the asserted ones the less of both firsts
pub first_under : (e : ExceptionSets) (after : Option Vrp) (set : List Vrp) → IsPayloadSet set → IsPayloadSet e.asserted
    → first_of (payloads_behind after (under e set))
    ≡ least_of (first_of (payloads_behind after (filter (λ payload. not (is_filtered e.filters payload)) set))) (first_of (payloads_behind after e.asserted))
first_under e after set rising asserted =
    ap first_of (behind_put_each after e.asserted (filter (λ payload. not (is_filtered e.filters payload)) set) (sorted-filter payload_cmp_total (λ payload. not (is_filtered e.filters payload)) set rising))
    ∙ first_put_each (payloads_behind after e.asserted) (payloads_behind after (filter (λ payload. not (is_filtered e.filters payload)) set)) (behind-is_set after e.asserted asserted)

-- ---- a row and those behind it

kept_above : (p : Vrp) (set : List Vrp) → AreAbove p set → filter (λ y. is_lt (payload_cmp p y)) set ≡ set
kept_above p [] above = refl
kept_above p (y ∷ ys) above = rw above.0 (ap (λ l. y ∷ l) (kept_above p ys above.1))

all_above : (p x : Vrp) (set : List Vrp) → payload_cmp p x ≡ Less → AreAbove x set → AreAbove p set
all_above p x [] less above = tt
all_above p x (y ∷ ys) less above = (payload_cmp_total.trans p x y less above.0, all_above p x ys less above.1)

itself_case : (r : Ordering) → r ≡ ordering_reverse r → is_lt r ≡ false
itself_case Less is = absurd (cc)
itself_case Equal is = refl
itself_case Greater is = refl

is_itself : (p : Vrp) → is_lt (payload_cmp p p) ≡ false
is_itself p = itself_case (payload_cmp p p) (payload_cmp_total.antisymm p p)

-- a set's first has behind it the others
behind_first : (p : Vrp) (set : List Vrp) → AreAbove p set → set ≡ payloads_behind (Some p) (p ∷ set)
behind_first p set above = rw (is_itself p) (sym (kept_above p set above))

same_some : (p x : Vrp) → Some p ≡ Some x → p ≡ x
same_some p x is = cc

first_above_case : (last p x : Vrp) (xs : List Vrp) (r : Ordering) → payload_cmp last x ≡ r
    → (Some p ≡ first_of (payloads_behind (Some last) xs) → payload_cmp last p ≡ Less)
    → Some p ≡ first_of (cond (is_lt r) (x ∷ payloads_behind (Some last) xs) (payloads_behind (Some last) xs)) → payload_cmp last p ≡ Less
first_above_case last p x xs Less less more is = rw (same_some p x is) less
first_above_case last p x xs Equal less more is = more is
first_above_case last p x xs Greater less more is = more is

-- the first behind a payload is above it
first_above : (last p : Vrp) (set : List Vrp) → Some p ≡ first_of (payloads_behind (Some last) set) → payload_cmp last p ≡ Less
first_above last p [] is = absurd (cc)
first_above last p (x ∷ xs) is = first_above_case last p x xs (payload_cmp last x) refl (first_above last p xs) is

not_above : (p x : Vrp) → payload_cmp x p ≡ Less → is_lt (payload_cmp p x) ≡ false
not_above p x less = rw (payload_cmp_total.antisymm p x, less) refl

row_case : (last p x : Vrp) (xs : List Vrp) (r : Ordering) → payload_cmp last x ≡ r → AreAbove x xs
    → (Some p ≡ first_of (payloads_behind (Some last) xs) → payloads_behind (Some last) xs ≡ p ∷ payloads_behind (Some p) xs)
    → Some p ≡ first_of (cond (is_lt r) (x ∷ payloads_behind (Some last) xs) (payloads_behind (Some last) xs))
    → cond (is_lt r) (x ∷ payloads_behind (Some last) xs) (payloads_behind (Some last) xs) ≡ p ∷ payloads_behind (Some p) (x ∷ xs)
row_case last p x xs Less less above more is =
    let same = same_some p x is in
    ap (λ l. x ∷ l) (kept_above last xs (all_above last x xs less above) ∙ behind_first x xs above) ∙ ap (λ y. y ∷ payloads_behind (Some y) (x ∷ xs)) (sym same)
row_case last p x xs Equal equal above more is =
    let higher = first_above last p xs is in
    more is ∙ ap (λ l. p ∷ l) (rw (not_above p x (sym (payload_cmp_total.congr last x p equal) ∙ higher)) refl)
row_case last p x xs Greater greater above more is =
    let higher = first_above last p xs is in
    let below : payload_cmp x last ≡ Less = payload_cmp_total.antisymm x last ∙ rw greater refl in
    more is ∙ ap (λ l. p ∷ l) (rw (not_above p x (payload_cmp_total.trans x last p below higher)) refl)

-- the first of the payloads behind one has behind it those that are behind itself
pub row_first : (after : Option Vrp) (set : List Vrp) (p : Vrp) → IsPayloadSet set → Some p ≡ first_of (payloads_behind after set) → payloads_behind after set ≡ p ∷ payloads_behind (Some p) set
unfolding IsStrictlySortedBy
row_first None [] p rising is = absurd (cc)
row_first None (x ∷ xs) p rising is = ap (λ l. x ∷ l) (behind_first x xs rising.0) ∙ ap (λ y. y ∷ payloads_behind (Some y) (x ∷ xs)) (sym (same_some p x is))
row_first (Some last) [] p rising is = absurd (cc)
row_first (Some last) (x ∷ xs) p rising is = row_case last p x xs (payload_cmp last x) refl rising.0 (row_first (Some last) xs p rising.1) is

-- where there is no first there is nothing
pub row_none : (set : List Vrp) → None ≡ first_of set → set ≡ []
row_none [] is = refl
row_none (x ∷ xs) is = absurd (cc)

-- a payload that is kept is the first of those that are
pub first_kept : (keep : Vrp → Bool) (p : Vrp) (rest : List Vrp) → keep p ≡ true → first_of (filter keep (p ∷ rest)) ≡ Some p
first_kept keep p rest kept = rw kept refl

-- and one that isn't is none of them
pub passed : (keep : Vrp → Bool) (p : Vrp) (rest : List Vrp) → keep p ≡ false → filter keep (p ∷ rest) ≡ filter keep rest
passed keep p rest other = rw other refl
