-- The routes of a slot, in the order of prefixes.
use Rattle.std.proofs.Common.{◌≡◌, ℕ, Bool, true, false, not, cond, ◌&&◌, List, [], ◌∷◌, Option, None, Some, refl, sym, ap, ◌∙◌}
use Rattle.std.proofs.lemmas.List.Elements.{filter_agree}
use Rattle.std.specs.BTreeMap.Range.{entries_between, range_contains}
use Rattle.std.specs.declared.ops.Bound.TheVariants.{Excluded, Unbounded}
use Rattle.std.specs.List.{AllByRecursion, filter}
use Rattle.std.specs.List.Sorted.{IsStrictlySortedBy}
use Rattle.std.specs.Map.{keys_of, lookup}
use Rattle.std.specs.Ordering.{is_eq, is_lt}
use Rattle.std.specs.declared.cmp.Ordering.{Ordering}
use Rattle.std.specs.declared.cmp.Ordering.TheVariants.{Less, Equal, Greater}
use Rattle.net_prefix.specs.PrefixOrder.{IsAbove, prefix_cmp}
use Rattle.net_prefix.specs.declared.prefix.Prefix.{Prefix}
use Rattle.net_prefix.proofs.PayloadSets.{prefix_cmp_exact}
use Rattle.prefix_trie.specs.TrieMap.{IsRising, found}
use Rattle.prefix_trie.specs.TrieWalks.{all_after}
use Rattle.bgp_attr.specs.PathAttributes.{PathAttributes}
use Rattle.rib_in.specs.LatestRoutes.{RouteList, RouteTable, is_prefix, listed, route_among, route_at, route_in, routes_of}

-- whether a prefix stands above the given one, where one is given
abbrev pub is_above : Option Prefix → Prefix → Bool
is_above None p = true
is_above (Some after) p = is_lt (prefix_cmp after p)

less_from : (r : Ordering) → is_lt r ≡ true → r ≡ Less
less_from Less h = refl
less_from Equal h = absurd cc
less_from Greater h = absurd cc

pub above_from : (after : Option Prefix) (p : Prefix) → is_above after p ≡ true → IsAbove after p
above_from None p h = tt
above_from (Some after) p h = less_from (prefix_cmp after p) h

pub above_to : (after : Option Prefix) (p : Prefix) → IsAbove after p → is_above after p ≡ true
above_to None p h = refl
above_to (Some after) p h = ap is_lt h

module _ {V : Type 0} where
  abbrev Behind : Prefix → List (Prefix × V) → Type 0
  Behind p es = AllByRecursion (λ q. prefix_cmp p q ≡ Less) (keys_of es)

  none_behind : (p : Prefix) (es : List (Prefix × V)) → Behind p es → found es p ≡ None
  none_behind p [] h = refl
  none_behind p (e ∷ es) h = rw h.0 (none_behind p es h.1)

  whole : (es : List (Prefix × V)) → es ≡ filter (λ e. true) es
  whole [] = refl
  whole (e ∷ es) = ap (λ l. e ∷ l) (whole es)

  -- the entries above a prefix, or all, as those that a test finds
  pub after_by : (after : Option Prefix) (es : List (Prefix × V)) → all_after after es ≡ filter (λ e. is_above after e.0) es
  after_by None es = whole es
  after_by (Some p) es = refl

-- ---- the routes of a slot
abbrev IsBehind : Prefix → List (Prefix × PathAttributes) → Type 0
IsBehind p es = AllByRecursion (λ q. prefix_cmp p q ≡ Less) (keys_of es)

behind_listed : (p q : Prefix) (o : Option PathAttributes) (rest : List (Prefix × PathAttributes)) → prefix_cmp p q ≡ Less → IsBehind p rest → IsBehind p (listed q o rest)
behind_listed p q None rest less h = h
behind_listed p q (Some a) rest less h = (less, h)

behind_routes : (slot : ℕ) (p : Prefix) (table : RouteTable) → Behind p table → IsBehind p (routes_of slot table)
behind_routes slot p [] h = tt
behind_routes slot p (e ∷ table) h = behind_listed p e.0 (route_in e.1 slot) (routes_of slot table) h.0 (behind_routes slot p table h.1)

rising_listed : (p : Prefix) (o : Option PathAttributes) (rest : List (Prefix × PathAttributes)) → IsBehind p rest → IsStrictlySortedBy prefix_cmp (keys_of rest) → IsStrictlySortedBy prefix_cmp (keys_of (listed p o rest))
unfolding IsStrictlySortedBy
rising_listed p None rest behind h = h
rising_listed p (Some a) rest behind h = (behind, h)

pub rising_routes : (slot : ℕ) (table : RouteTable) → IsRising table → IsStrictlySortedBy prefix_cmp (keys_of (routes_of slot table))
unfolding IsStrictlySortedBy
rising_routes slot [] h = tt
rising_routes slot (e ∷ table) h = rising_listed e.0 (route_in e.1 slot) (routes_of slot table) (behind_routes slot e.0 table h.0) (rising_routes slot table h.1)

found_listed : (slot : ℕ) (p : Prefix) (e : Prefix × RouteList) (table : RouteTable) (rest : List (Prefix × PathAttributes)) (o : Option PathAttributes) (r : Ordering) → route_in e.1 slot ≡ o → prefix_cmp p e.0 ≡ r
    → Behind e.0 table → lookup (is_prefix p) rest ≡ route_among (found table p) slot → lookup (is_prefix p) (listed e.0 o rest) ≡ route_among (cond (is_eq r) (Some e.1) (found table p)) slot
found_listed slot p e table rest None Less has is behind more = more
found_listed slot p e table rest None Equal has is behind more =
    more ∙ ap (λ q. route_among (found table q) slot) (prefix_cmp_exact p e.0 is) ∙ ap (λ x. route_among x slot) (none_behind e.0 table behind) ∙ sym has
found_listed slot p e table rest None Greater has is behind more = more
found_listed slot p e table rest (Some a) Less has is behind more = rw is more
found_listed slot p e table rest (Some a) Equal has is behind more = rw is (sym has)
found_listed slot p e table rest (Some a) Greater has is behind more = rw is more

pub found_routes : (slot : ℕ) (p : Prefix) (table : RouteTable) → IsRising table → lookup (is_prefix p) (routes_of slot table) ≡ route_at table slot p
unfolding IsStrictlySortedBy
found_routes slot p [] h = refl
found_routes slot p (e ∷ table) h =
    found_listed slot p e table (routes_of slot table) (route_in e.1 slot) (prefix_cmp p e.0) refl refl h.0 (found_routes slot p table h.1)

kept_listed : (slot : ℕ) (e : Prefix × RouteList) (es : RouteTable) (b : Bool) → routes_of slot (cond b (e ∷ es) es) ≡ cond b (listed e.0 (route_in e.1 slot) (routes_of slot es)) (routes_of slot es)
kept_listed slot e es true = refl
kept_listed slot e es false = refl

listed_kept : (test : Prefix → Bool) (p : Prefix) (o : Option PathAttributes) (rest : List (Prefix × PathAttributes)) (b : Bool) → test p ≡ b
    → cond b (listed p o (filter (λ e. test e.0) rest)) (filter (λ e. test e.0) rest) ≡ filter (λ e. test e.0) (listed p o rest)
listed_kept test p None rest true is = refl
listed_kept test p None rest false is = refl
listed_kept test p (Some a) rest b is = ap (λ c. cond c ((p, a) ∷ filter (λ e. test e.0) rest) (filter (λ e. test e.0) rest)) (sym is)

-- the slot's routes to some prefixes are those among its routes
pub routes_kept : (slot : ℕ) (test : Prefix → Bool) (table : RouteTable) → routes_of slot (filter (λ e. test e.0) table) ≡ filter (λ e. test e.0) (routes_of slot table)
routes_kept slot test [] = refl
routes_kept slot test (e ∷ table) =
    kept_listed slot e (filter (λ x. test x.0) table) (test e.0)
    ∙ ap (λ l. cond (test e.0) (listed e.0 (route_in e.1 slot) l) l) (routes_kept slot test table)
    ∙ listed_kept test e.0 (route_in e.1 slot) (routes_of slot table) (test e.0) refl

only : (b : Bool) → (b && not false) ≡ b
only true = refl
only false = refl

-- the slot's routes in the part of a table above a prefix, and in all of it
pub routes_above : (slot : ℕ) (after : Prefix) (table : RouteTable) → routes_of slot (entries_between prefix_cmp (Excluded after) Unbounded table) ≡ all_after (Some after) (routes_of slot table)
routes_above slot after table =
    routes_kept slot (range_contains prefix_cmp (Excluded after) Unbounded) table
    ∙ filter_agree (λ e. range_contains prefix_cmp (Excluded after) Unbounded e.0) (λ e. is_lt (prefix_cmp after e.0)) (λ e. only (is_lt (prefix_cmp after e.0))) (routes_of slot table)

pub routes_all : (slot : ℕ) (table : RouteTable) → routes_of slot (entries_between prefix_cmp Unbounded Unbounded table) ≡ all_after None (routes_of slot table)
routes_all slot table = ap (routes_of slot) (sym (whole table))
