use Rattle.std.proofs.Common.{◌≡◌, ◌||◌, Bool, true, false, List, [], ◌∷◌, refl, sym, ap, ◌∙◌}
use Rattle.std.specs.Cmp.{alike_right}
use Rattle.std.specs.List.{list_any, AllByRecursion}
use Rattle.std.specs.List.Sorted.{IsStrictlySortedBy}
use Rattle.std.specs.Ordering.{is_eq, match_ordering, ordering_reverse}
use Rattle.std.specs.Set.{sorted_merge}
use Rattle.std.specs.declared.cmp.Ordering.{Ordering}
use Rattle.std.specs.declared.cmp.Ordering.TheVariants.{Less, Equal, Greater}
use Rattle.net_prefix.specs.PrefixOrder.{prefix_cmp}
use Rattle.net_prefix.specs.declared.prefix.Prefix.{Prefix}
use Rattle.net_prefix.proofs.PayloadSets.{prefix_cmp_total}
use Rattle.rib_out.specs.Held.{is_prefix}

-- Two rising lists of prefixes as one.

abbrev merged : List Prefix → List Prefix → List Prefix
merged xs ys = sorted_merge prefix_cmp true xs ys

abbrev AllAbove : Prefix → List Prefix → Type 0
AllAbove x ys = AllByRecursion (λ y. prefix_cmp x y ≡ Less) ys

-- what holds of the list that each order of two prefixes makes
by_order : (P : List Prefix → Type 0) (o : Ordering) (xs ys zs : List Prefix) → (o ≡ Less → P xs) → (o ≡ Equal → P ys) → (o ≡ Greater → P zs) → P (match_ordering o xs ys zs)
by_order P Less xs ys zs less equal greater = less refl
by_order P Equal xs ys zs less equal greater = equal refl
by_order P Greater xs ys zs less equal greater = greater refl

-- what holds of each of both lists holds of each of the merged one
all_step : (P : Prefix → Type 0) (x : Prefix) (xs : List Prefix) → P x → AllByRecursion P xs → ((ys : List Prefix) → AllByRecursion P ys → AllByRecursion P (merged xs ys))
    → (ys : List Prefix) → AllByRecursion P ys → AllByRecursion P (merged (x ∷ xs) ys)
all_step P x xs here first later [] second = (here, first)
all_step P x xs here first later (y ∷ ys) second =
    by_order (AllByRecursion P) (prefix_cmp x y) _ _ _
    (λ less. (here, later (y ∷ ys) second))
    (λ equal. (here, later ys second.1))
    (λ greater. (second.0, all_step P x xs here first later ys second.1))

all_merged : (P : Prefix → Type 0) (xs ys : List Prefix) → AllByRecursion P xs → AllByRecursion P ys → AllByRecursion P (merged xs ys)
all_merged P [] ys first second = second
all_merged P (x ∷ xs) ys first second = all_step P x xs first.0 first.1 (λ zs. all_merged P xs zs first.1) ys second

all_follow : (P Q : Prefix → Type 0) (xs : List Prefix) → ((x : Prefix) → P x → Q x) → AllByRecursion P xs → AllByRecursion Q xs
all_follow P Q [] follows all = tt
all_follow P Q (x ∷ xs) follows all = (follows x all.0, all_follow P Q xs follows all.1)

above_less : (x y : Prefix) (ys : List Prefix) → prefix_cmp x y ≡ Less → AllAbove y ys → AllAbove x ys
above_less x y ys less above = all_follow (λ z. prefix_cmp y z ≡ Less) (λ z. prefix_cmp x z ≡ Less) ys (λ z over. prefix_cmp_total.trans x y z less over) above

above_equal : (x y : Prefix) (ys : List Prefix) → prefix_cmp x y ≡ Equal → AllAbove y ys → AllAbove x ys
above_equal x y ys equal above = all_follow (λ z. prefix_cmp y z ≡ Less) (λ z. prefix_cmp x z ≡ Less) ys (λ z over. prefix_cmp_total.congr x y z equal ∙ over) above

less_from_greater : (x y : Prefix) → prefix_cmp x y ≡ Greater → prefix_cmp y x ≡ Less
less_from_greater x y greater = prefix_cmp_total.antisymm y x ∙ ap ordering_reverse greater

rises_step : (x : Prefix) (xs : List Prefix) → IsStrictlySortedBy prefix_cmp (x ∷ xs) → ((ys : List Prefix) → IsStrictlySortedBy prefix_cmp ys → IsStrictlySortedBy prefix_cmp (merged xs ys))
    → (ys : List Prefix) → IsStrictlySortedBy prefix_cmp ys → IsStrictlySortedBy prefix_cmp (merged (x ∷ xs) ys)
unfolding IsStrictlySortedBy
rises_step x xs first later [] second = first
rises_step x xs first later (y ∷ ys) second =
    by_order (IsStrictlySortedBy prefix_cmp) (prefix_cmp x y) _ _ _
    (λ less. (all_merged (λ z. prefix_cmp x z ≡ Less) xs (y ∷ ys) first.0 (less, above_less x y ys less second.0), later (y ∷ ys) second))
    (λ equal. (all_merged (λ z. prefix_cmp x z ≡ Less) xs ys first.0 (above_equal x y ys equal second.0), later ys second.1))
    (λ greater.
    let under = less_from_greater x y greater in
    (all_merged (λ z. prefix_cmp y z ≡ Less) (x ∷ xs) ys (under, above_less y x xs under first.0) second.0, rises_step x xs first later ys second.1))

-- two rising lists merged rise
pub merged_rises : (xs ys : List Prefix) → IsStrictlySortedBy prefix_cmp xs → IsStrictlySortedBy prefix_cmp ys → IsStrictlySortedBy prefix_cmp (sorted_merge prefix_cmp true xs ys)
unfolding IsStrictlySortedBy
merged_rises [] ys first second = second
merged_rises (x ∷ xs) ys first second = rises_step x xs first (λ zs. merged_rises xs zs first.1) ys second

or_none : (a : Bool) → a ≡ (a || false)
or_none true = refl
or_none false = refl

or_more : (here a b : Bool) → (here || (a || b)) ≡ ((here || a) || b)
or_more true a b = refl
or_more false a b = refl

or_once : (here a b : Bool) → (here || (a || b)) ≡ ((here || a) || (here || b))
or_once true a b = refl
or_once false a b = refl

or_swap : (a b c : Bool) → (a || (b || c)) ≡ (b || (a || c))
or_swap true true c = refl
or_swap true false c = refl
or_swap false b c = refl

any_step : (q x : Prefix) (xs : List Prefix) → ((ys : List Prefix) → list_any (is_prefix q) (merged xs ys) ≡ (list_any (is_prefix q) xs || list_any (is_prefix q) ys))
    → (ys : List Prefix) → list_any (is_prefix q) (merged (x ∷ xs) ys) ≡ (list_any (is_prefix q) (x ∷ xs) || list_any (is_prefix q) ys)
any_step q x xs later [] = or_none (list_any (is_prefix q) (x ∷ xs))
any_step q x xs later (y ∷ ys) =
    by_order (λ zs. list_any (is_prefix q) zs ≡ (list_any (is_prefix q) (x ∷ xs) || list_any (is_prefix q) (y ∷ ys))) (prefix_cmp x y) _ _ _
    (λ less. ap (λ b. is_prefix q x || b) (later (y ∷ ys)) ∙ or_more (is_prefix q x) (list_any (is_prefix q) xs) (list_any (is_prefix q) (y ∷ ys)))
    (λ equal.
    let same : is_prefix q y ≡ is_prefix q x = ap is_eq (sym (alike_right prefix_cmp_total x y q equal)) in
    ap (λ b. is_prefix q x || b) (later ys) ∙ or_once (is_prefix q x) (list_any (is_prefix q) xs) (list_any (is_prefix q) ys)
    ∙ ap (λ b. list_any (is_prefix q) (x ∷ xs) || (b || list_any (is_prefix q) ys)) (sym same))
    (λ greater. ap (λ b. is_prefix q y || b) (any_step q x xs later ys) ∙ or_swap (is_prefix q y) (list_any (is_prefix q) (x ∷ xs)) (list_any (is_prefix q) ys))

-- the merged list has the prefixes of both
pub any_merged : (q : Prefix) (xs ys : List Prefix) → list_any (is_prefix q) (sorted_merge prefix_cmp true xs ys) ≡ (list_any (is_prefix q) xs || list_any (is_prefix q) ys)
any_merged q [] ys = refl
any_merged q (x ∷ xs) ys = any_step q x xs (any_merged q xs) ys
