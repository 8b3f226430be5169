-- The entries behind a prefix, and the routes of a slot among them.
use Rattle.std.proofs.Common.{◌≡◌, ℕ, Bool, true, false, cond, List, [], ◌∷◌, Option, None, Some, IfNone, IfSome, IsSome, filter, refl, sym, ap, subst, ◌∙◌}
use Rattle.std.proofs.lemmas.List.Kept.{IsStrictlySortedBy-filter}
use Rattle.std.proofs.lemmas.Map.Entries.{lookup-filter-keys}
use Rattle.std.specs.BTreeMap.{is_at}
use Rattle.std.specs.List.Sorted.{IsStrictlySortedBy}
use Rattle.std.specs.Map.{keys_of}
use Rattle.std.specs.Ordering.{is_gt, is_lt, ordering_reverse}
use Rattle.std.specs.declared.cmp.Ordering.{Ordering}
use Rattle.std.specs.declared.cmp.Ordering.TheVariants.{Less, Equal, Greater}
use Rattle.net_prefix.specs.PrefixOrder.{IsAbove, prefix_cmp}
use Rattle.net_prefix.specs.declared.prefix.Prefix.{Prefix}
use Rattle.net_prefix.proofs.PayloadSets.{prefix_cmp_exact, prefix_cmp_total}
use Rattle.net_prefix.proofs.Ranks.{cmp_same}
use Rattle.prefix_trie.specs.TrieMap.{IsRising, found}
use Rattle.prefix_trie.specs.TrieWalks.{all_above, all_after, first_key, first_of}
use Rattle.prefix_trie.proofs.MapLaws.{least_after, none_after, one_prefix}
use Rattle.prefix_trie.proofs.Nexts.{some_case}
use Rattle.bgp_attr.specs.PathAttributes.{PathAttributes}
use Rattle.rib_in.specs.LatestRoutes.{RouteTable, route_at, routes_of}
use Rattle.rib_in.proofs.Walks.{after_by, found_routes, is_above, rising_routes}

-- prefixes neither of which is above the other are one
same_case : (p q : Prefix) (r : Ordering) → prefix_cmp p q ≡ r → is_gt r ≡ false → is_gt (prefix_cmp q p) ≡ false → p ≡ q
same_case p q Less is below above =
    let flipped : prefix_cmp q p ≡ Greater = prefix_cmp_total.antisymm q p ∙ ap ordering_reverse is in
    absurd (let clash : true ≡ false = sym (ap is_gt flipped) ∙ above in cc)
same_case p q Equal is below above = prefix_cmp_exact p q is
same_case p q Greater is below above = absurd (cc)

pub same_place : (p q : Prefix) → is_gt (prefix_cmp p q) ≡ false → is_gt (prefix_cmp q p) ≡ false → p ≡ q
same_place p q below above = same_case p q (prefix_cmp p q) refl below above

module _ {V : Type 0} where
  keys_step : (p : Prefix) (e : Prefix × V) (es : List (Prefix × V)) (ks : List Prefix) (b : Bool) → keys_of (all_above p es) ≡ ks → keys_of (cond b (e ∷ all_above p es) (all_above p es)) ≡ cond b (e.0 ∷ ks) ks
  keys_step p e es ks true more = ap (λ l. e.0 ∷ l) more
  keys_step p e es ks false more = more

  keys_above : (p : Prefix) (es : List (Prefix × V)) → keys_of (all_above p es) ≡ filter (λ q. is_lt (prefix_cmp p q)) (keys_of es)
  keys_above p [] = refl
  keys_above p (e ∷ es) = keys_step p e es (filter (λ q. is_lt (prefix_cmp p q)) (keys_of es)) (is_lt (prefix_cmp p e.0)) (keys_above p es)

  -- the entries above a prefix, or all, rise too
  pub rising_after : (after : Option Prefix) (es : List (Prefix × V)) → IsRising es → IsRising (all_after after es)
  rising_after None es rising = rising
  rising_after (Some p) es rising =
      subst (IsStrictlySortedBy prefix_cmp) (sym (keys_above p es)) (IsStrictlySortedBy-filter prefix_cmp (λ q. is_lt (prefix_cmp p q)) (keys_of es) rising)

  kept_value : (b : Bool) (o : Option V) (v : V) → cond b o None ≡ Some v → o ≡ Some v
  kept_value true o v is = is
  kept_value false o v is = absurd (cc)

  pub found_some : (o : Option V) (v : V) → o ≡ Some v → IsSome o
  found_some None v is = absurd (cc)
  found_some (Some w) v is = refl

  value_of : (o : Option V) → IsSome o → (v : V) × (o ≡ Some v)
  value_of None some = absurd (cc)
  value_of (Some v) some = (v, refl)

  some_once : {v w : V} → Some v ≡ Some w → v ≡ w
  some_once is = cc

  head_found : (e : Prefix × V) (t : List (Prefix × V)) → found (e ∷ t) e.0 ≡ Some e.1
  head_found e t = rw (cmp_same e.0) refl

  module _ (after : Option Prefix) (es : List (Prefix × V)) (rising : IsRising es) where
    -- the first entry above a prefix is that of its own prefix
    first_found : (e : Prefix × V) (t : List (Prefix × V)) → all_after after es ≡ e ∷ t → found es e.0 ≡ Some e.1
    first_found e t is =
        let kept = lookup-filter-keys (is_at (prefix_cmp e.0)) (is_above after) (is_above after e.0) (λ k at. ap (is_above after) (sym (one_prefix e.0 k at))) es in
        kept_value (is_above after e.0) (found es e.0) e.1 (sym kept ∙ ap (λ l. found l e.0) (sym (after_by after es) ∙ is) ∙ head_found e t)

    -- the entry of the least prefix above one, or of all, comes first, and those above it behind it
    pub behind_some : (p : Prefix) (v : V) → found es p ≡ Some v → IsAbove after p → ((q : Prefix) → IsAbove after q → IsSome (found es q) → is_gt (prefix_cmp p q) ≡ false)
        → all_after after es ≡ (p, v) ∷ all_above p es
    behind_some p v there above least = by_list (all_after after es) refl
      where
        by_list : (l : List (Prefix × V)) → all_after after es ≡ l → all_after after es ≡ (p, v) ∷ all_above p es
        by_list [] is = absurd (let none : found es p ≡ None = none_after after es (ap first_key (sym is)) p above in cc)
        by_list (e ∷ t) is =
            let here = first_found e t is in
            let l = least_after after es rising e.0 (ap first_key (sym is)) in
            let same : p ≡ e.0 = same_place p e.0 (least e.0 l.above (found_some (found es e.0) e.1 here)) (l.least p v above there refl) in
            let value : v ≡ e.1 = some_once (sym there ∙ ap (found es) same ∙ here) in
            let entry : Some (p, v) ≡ Some e = λ i. Some (same i, value i) in
            some_case after (p, v) es (all_after after es) rising refl (entry ∙ ap first_of (sym is))

    -- where there is none above, nothing comes
    pub behind_none : ((q : Prefix) → IsAbove after q → found es q ≡ None) → all_after after es ≡ []
    behind_none none = by_list (all_after after es) refl
      where
        by_list : (l : List (Prefix × V)) → all_after after es ≡ l → all_after after es ≡ []
        by_list [] is = is
        by_list (e ∷ t) is =
            let l = least_after after es rising e.0 (ap first_key (sym is)) in
            absurd (let here = first_found e t is in let gone = none e.0 l.above in cc)

-- the routes of a slot
module _ (slot : ℕ) (after : Option Prefix) (table : RouteTable) (rising : IsRising table) where
  pub route_some : (p : Prefix) (attrs : PathAttributes) → route_at table slot p ≡ Some attrs → IsAbove after p → ((q : Prefix) → IsAbove after q → IsSome (route_at table slot q) → is_gt (prefix_cmp p q) ≡ false)
      → all_after after (routes_of slot table) ≡ (p, attrs) ∷ all_above p (routes_of slot table)
  route_some p attrs there above least =
      behind_some after (routes_of slot table) (rising_routes slot table rising) p attrs (found_routes slot p table rising ∙ there) above
      (λ q higher some. least q higher (subst (λ o. IsSome o) (found_routes slot q table rising) some))

  pub route_none : ((q : Prefix) → IsAbove after q → route_at table slot q ≡ None) → all_after after (routes_of slot table) ≡ []
  route_none none = behind_none after (routes_of slot table) (rising_routes slot table rising) (λ q higher. found_routes slot q table rising ∙ none q higher)

  pub rising_slot : IsStrictlySortedBy prefix_cmp (keys_of (all_after after (routes_of slot table)))
  rising_slot = rising_after after (routes_of slot table) (rising_routes slot table rising)

  -- the least prefix above one, or of all, to which the slot has a route, or none
  pub record IsNextPrefix (r : Option Prefix) : Type 0 where
    pub has : IfSome r (λ p. IsSome (route_at table slot p))
    pub above : IfSome r (λ p. IsAbove after p)
    pub least : IfSome r (λ p. (q : Prefix) → IsAbove after q → IsSome (route_at table slot q) → is_gt (prefix_cmp p q) ≡ false)
    pub none : IfNone r ((q : Prefix) → IsAbove after q → route_at table slot q ≡ None)

  pub next_prefix : (r : Option Prefix) → r ≡ first_key (all_after after (routes_of slot table)) → IsNextPrefix r
  next_prefix None is = record {
    has = tt;
    above = tt;
    least = tt;
    none = λ q higher. sym (found_routes slot q table rising) ∙ none_after after (routes_of slot table) is q higher;
  }
  next_prefix (Some p) is =
      let l = least_after after (routes_of slot table) (rising_routes slot table rising) p is in
      record {
        has = found_some (route_at table slot p) l.value (sym (found_routes slot p table rising) ∙ l.there);
        above = l.above;
        least = λ q higher some. let v = value_of (route_at table slot q) some in l.least q v.0 higher (found_routes slot q table rising ∙ v.1) refl;
        none = tt;
      }
