-- Rising prefixes behind one of them.
use Rattle.std.proofs.Common.{◌≡◌, ◌||◌, Bool, true, false, cond, List, [], ◌∷◌, Option, Some, None, filter, refl, sym, ap, subst, ◌∙◌}
use Rattle.std.specs.List.{AllByRecursion, list_any}
use Rattle.std.specs.List.Sorted.{IsStrictlySortedBy}
use Rattle.std.specs.Ordering.{is_gt, is_lt, ordering_reverse}
use Rattle.std.specs.declared.cmp.Ordering.{Ordering}
use Rattle.std.specs.declared.cmp.Ordering.TheVariants.{Less, Equal, Greater}
use Rattle.std.proofs.lemmas.List.Kept.{IsStrictlySortedBy-filter}
use Rattle.net_prefix.specs.PrefixOrder.{IsAbove, prefix_cmp}
use Rattle.net_prefix.specs.declared.prefix.Prefix.{Prefix}
use Rattle.net_prefix.proofs.PayloadSets.{prefix_cmp_total}
use Rattle.net_prefix.proofs.Ranks.{cmp_same}
use Rattle.prefix_trie.proofs.MapLaws.{one_prefix}
use Rattle.rib_out.specs.Held.{is_prefix}
use Rattle.rib_out.specs.PrefixRows.{prefixes_above, prefixes_after}

-- whether a prefix stands above the given one, where one is given
abbrev is_above : Option Prefix → Prefix → Bool
is_above None p = true
is_above (Some after) p = is_lt (prefix_cmp after p)

less_from : (r : Ordering) → is_lt r ≡ true → r ≡ Less
less_from Less h = refl
less_from Equal h = absurd cc
less_from Greater h = absurd cc

above_from : (after : Option Prefix) (p : Prefix) → is_above after p ≡ true → IsAbove after p
above_from None p h = tt
above_from (Some after) p h = less_from (prefix_cmp after p) h

above_to : (after : Option Prefix) (p : Prefix) → IsAbove after p → is_above after p ≡ true
above_to None p h = refl
above_to (Some after) p h = ap is_lt h

abbrev AllAbove : Prefix → List Prefix → Type 0
AllAbove x prefixes = AllByRecursion (λ y. prefix_cmp x y ≡ Less) prefixes

abbrev is_member : Prefix → List Prefix → Bool
is_member q prefixes = list_any (is_prefix q) prefixes

or_right : (a b : Bool) → b ≡ true → (a || b) ≡ true
or_right true b is = refl
or_right false b is = is

none_right : (a b : Bool) → (a || b) ≡ false → b ≡ false
none_right true b is = absurd (cc)
none_right false b is = is

itself : (x : Prefix) (xs : List Prefix) → is_member x (x ∷ xs) ≡ true
itself x xs = rw (cmp_same x) refl

greater_of : (p q : Prefix) → prefix_cmp q p ≡ Less → prefix_cmp p q ≡ Greater
greater_of p q is = prefix_cmp_total.antisymm p q ∙ ap ordering_reverse is

further : (after : Option Prefix) (x y : Prefix) → IsAbove after x → prefix_cmp x y ≡ Less → IsAbove after y
further None x y above more = tt
further (Some p) x y above more = prefix_cmp_total.trans p x y above more

whole : (prefixes : List Prefix) → prefixes ≡ filter (λ q. true) prefixes
whole [] = refl
whole (q ∷ prefixes) = ap (λ l. q ∷ l) (whole prefixes)

after_by : (after : Option Prefix) (prefixes : List Prefix) → prefixes_after after prefixes ≡ filter (is_above after) prefixes
after_by None prefixes = whole prefixes
after_by (Some p) prefixes = refl

above_all : (x : Prefix) (xs : List Prefix) → AllAbove x xs → prefixes_above x xs ≡ xs
above_all x [] all = refl
above_all x (y ∷ ys) all = rw all.0 (ap (λ l. y ∷ l) (above_all x ys all.1))

after_all : (after : Option Prefix) (x : Prefix) (xs : List Prefix) → IsAbove after x → AllAbove x xs → filter (is_above after) xs ≡ xs
after_all after x [] above all = refl
after_all after x (y ∷ ys) above all =
    let yes : is_above after y ≡ true = above_to after y (further after x y above all.0) in
    rw yes (ap (λ l. y ∷ l) (after_all after x ys above all.1))

member_step : (x q y : Prefix) (b rest : Bool) → is_prefix q y ≡ b → prefix_cmp x y ≡ Less → (rest ≡ true → prefix_cmp x q ≡ Less) → (b || rest) ≡ true → prefix_cmp x q ≡ Less
member_step x q y true rest at less more is = ap (prefix_cmp x) (one_prefix q y at) ∙ less
member_step x q y false rest at less more is = more is

-- what stands behind a prefix is above it
member_above : (x q : Prefix) (xs : List Prefix) → AllAbove x xs → is_member q xs ≡ true → prefix_cmp x q ≡ Less
member_above x q [] all is = absurd (cc)
member_above x q (y ∷ ys) all is = member_step x q y (is_prefix q y) (is_member q ys) refl all.0 (member_above x q ys all.1) is

first_here : (after : Option Prefix) (x : Prefix) (xs : List Prefix) → AllAbove x xs → IsAbove after x → filter (is_above after) (x ∷ xs) ≡ x ∷ prefixes_above x (x ∷ xs)
first_here after x xs all above =
    let yes : is_above after x ≡ true = above_to after x above in
    rw (yes, cmp_same x) (ap (λ l. x ∷ l) (after_all after x xs above all ∙ sym (above_all x xs all)))

passed_by : (after : Option Prefix) (x p : Prefix) (b : Bool) → is_above after x ≡ b → prefix_cmp p x ≡ Greater → (IsAbove after x → is_gt (prefix_cmp p x) ≡ false) → b ≡ false
passed_by after x p true is greater least = absurd (let clash : true ≡ false = sym (ap is_gt greater) ∙ least (above_from after x is) in cc)
passed_by after x p false is greater least = refl

first_later : (after : Option Prefix) (x p : Prefix) (xs : List Prefix) → is_above after x ≡ false → prefix_cmp p x ≡ Greater → filter (is_above after) xs ≡ p ∷ prefixes_above p xs
    → filter (is_above after) (x ∷ xs) ≡ p ∷ prefixes_above p (x ∷ xs)
first_later after x p xs below greater more = rw (below, greater) more

by_place : (after : Option Prefix) (x p : Prefix) (xs : List Prefix) (b : Bool) → is_prefix p x ≡ b → AllAbove x xs → IsAbove after p → (IsAbove after x → is_gt (prefix_cmp p x) ≡ false)
    → (is_member p xs ≡ true → filter (is_above after) xs ≡ p ∷ prefixes_above p xs) → (b || is_member p xs) ≡ true → filter (is_above after) (x ∷ xs) ≡ p ∷ prefixes_above p (x ∷ xs)
by_place after x p xs true at all above least more is =
    let same : x ≡ p = sym (one_prefix p x at) in
    subst (λ q. filter (is_above after) (x ∷ xs) ≡ q ∷ prefixes_above q (x ∷ xs)) same (first_here after x xs all (subst (IsAbove after) (sym same) above))
by_place after x p xs false at all above least more is =
    let greater = greater_of p x (member_above x p xs all is) in
    first_later after x p xs (passed_by after x p (is_above after x) refl greater least) greater (more is)

-- the least member above a prefix, or of all, comes first, and those above it behind it
list_some : (after : Option Prefix) (prefixes : List Prefix) (p : Prefix) → IsStrictlySortedBy prefix_cmp prefixes → is_member p prefixes ≡ true → IsAbove after p
    → ((q : Prefix) → IsAbove after q → is_member q prefixes ≡ true → is_gt (prefix_cmp p q) ≡ false) → filter (is_above after) prefixes ≡ p ∷ prefixes_above p prefixes
unfolding IsStrictlySortedBy
list_some after [] p rising there above least = absurd (cc)
list_some after (x ∷ xs) p rising there above least =
    by_place after x p xs (is_prefix p x) refl rising.0 above (λ higher. least x higher (itself x xs))
    (λ later. list_some after xs p rising.1 later above (λ q higher member. least q higher (or_right (is_prefix q x) (is_member q xs) member))) there

pub next_some : (after : Option Prefix) (prefixes : List Prefix) (p : Prefix) → IsStrictlySortedBy prefix_cmp prefixes → is_member p prefixes ≡ true → IsAbove after p
    → ((q : Prefix) → IsAbove after q → is_member q prefixes ≡ true → is_gt (prefix_cmp p q) ≡ false) → prefixes_after after prefixes ≡ p ∷ prefixes_above p prefixes
next_some after prefixes p rising there above least = after_by after prefixes ∙ list_some after prefixes p rising there above least

none_step : (after : Option Prefix) (x : Prefix) (xs rest : List Prefix) (b : Bool) → is_above after x ≡ b → (IsAbove after x → is_member x (x ∷ xs) ≡ false) → rest ≡ [] → cond b (x ∷ rest) rest ≡ []
none_step after x xs rest true is none more = absurd (let clash : true ≡ false = sym (itself x xs) ∙ none (above_from after x is) in cc)
none_step after x xs rest false is none more = more

list_none : (after : Option Prefix) (prefixes : List Prefix) → ((q : Prefix) → IsAbove after q → is_member q prefixes ≡ false) → filter (is_above after) prefixes ≡ []
list_none after [] none = refl
list_none after (x ∷ xs) none =
    none_step after x xs (filter (is_above after) xs) (is_above after x) refl (none x) (list_none after xs (λ q higher. none_right (is_prefix q x) (is_member q xs) (none q higher)))

pub next_none : (after : Option Prefix) (prefixes : List Prefix) → ((q : Prefix) → IsAbove after q → is_member q prefixes ≡ false) → prefixes_after after prefixes ≡ []
next_none after prefixes none = after_by after prefixes ∙ list_none after prefixes none

pub rising_behind : (after : Option Prefix) (prefixes : List Prefix) → IsStrictlySortedBy prefix_cmp prefixes → IsStrictlySortedBy prefix_cmp (prefixes_after after prefixes)
rising_behind None prefixes rising = rising
rising_behind (Some p) prefixes rising = IsStrictlySortedBy-filter prefix_cmp (λ q. is_lt (prefix_cmp p q)) prefixes rising
