-- What the rows are seen as, and what a change of one row makes of them.
use Rattle.std.proofs.Common.{◌≡◌, ◌≢◌, ℕ, Bool, true, false, cond, nat_eq, List, [], ◌∷◌, All, Option, Some, None, is_some, option_map, option_and_then, IfSome, IsSome, refl, sym, ap, ◌∙◌, subst}
use Rattle.std.proofs.lemmas.Map.Made.{keys_of-map_values, lookup-map_values}
use Rattle.std.proofs.lemmas.Map.Views.{All-map-remove_entry, All-values-insert_entry, All-values-set_value, IfSome-lookup_from_All}
use Rattle.std.specs.BTreeMap.{is_at}
use Rattle.std.specs.List.{AllByRecursion, cons_option}
use Rattle.std.specs.List.Sorted.{IsStrictlySortedBy}
use Rattle.std.specs.Map.{keys_of, lookup, remove_entry, set_value, values_of}
use Rattle.std.specs.Ordering.{is_eq, match_ordering, nat_cmp, ordering_then}
use Rattle.std.specs.declared.cmp.Ordering.{Ordering}
use Rattle.std.specs.declared.cmp.Ordering.TheVariants.{Less, Equal, Greater}
use Rattle.bgp_attr.specs.PathAttributes.{PathAttributes}
use Rattle.decision.proofs.BestPlaces.{best_kept}
use Rattle.decision.proofs.PlaceLists.{candidate_pushed, turned, unchanged}
use Rattle.decision.specs.BookContents.{AreApart, IsBestOf, Kept, best_at, candidate_of, changed, is_prefix, kept_at, offer_at, places_in, rows_of}
use Rattle.decision.specs.declared.book.Change.{Change}
use Rattle.decision.specs.declared.candidate.Candidate.{Candidate}
use Rattle.net_prefix.proofs.PayloadSets.{prefix_cmp_exact, prefix_cmp_total}
use Rattle.net_prefix.specs.PrefixOrder.{prefix_cmp}
use Rattle.net_prefix.specs.declared.prefix.Prefix.{Prefix}
use Rattle.prefix_trie.proofs.MapLaws.{is_at-refl, one_prefix}
use Rattle.prefix_trie.specs.TrieMap.{IsRising, found, with_entry}
use Rattle.rib_in.proofs.Ordered.{insert-same}
use Rattle.rib_in.proofs.SlotWalks.{some_route}
use Rattle.rib_in.specs.PrefixRoutes.{IsAnnounced, is_only}
use Rattle.rib_in.specs.LatestRoutes.{HasRoute, is_route, route_among, route_at, route_in}
use Rattle.rib_rows.specs.PrefixRows.{AreRows, IsRow, PrefixRow, RowTable, adj_in_of, best_of, book_of, offer_of, route_of}
use Rattle.rib_rows.proofs.RowSteps.{best_routed, is_some-from, none_there, offer_routed, only_offer, only_route, slot_test}

-- ---- the rows of a book

module _ {V : Type 0} where
  nothing_below : (p : Prefix) (es : List (Prefix × V)) → AllByRecursion (λ q. prefix_cmp p q ≡ Less) (keys_of es) → found es p ≡ None
  nothing_below p [] all = refl
  nothing_below p (e ∷ es) all = ap (λ o. cond (is_eq o) (Some e.1) (found es p)) all.0 ∙ nothing_below p es all.1

  nothing_further : (p q : Prefix) (es : List (Prefix × V)) → prefix_cmp p q ≡ Less → AllByRecursion (λ k. prefix_cmp q k ≡ Less) (keys_of es) → found es p ≡ None
  nothing_further p q [] less all = refl
  nothing_further p q (e ∷ es) less all =
      ap (λ o. cond (is_eq o) (Some e.1) (found es p)) (prefix_cmp_total.trans p q e.0 less all.0) ∙ nothing_further p q es less all.1

row_head : (p : Prefix) (e : Prefix × Kept) (es : List (Prefix × Kept)) → IsRising (e ∷ es) → (o : Option Candidate) → e.1.best ≡ o → (b : Bool) → is_prefix p e.0 ≡ b
    → best_at (rows_of es) p ≡ option_and_then (λ kept. kept.best) (kept_at es p)
    → best_at (cons_option (option_map (λ best. (e.0, best)) o) (rows_of es)) p ≡ option_and_then (λ kept. kept.best) (cond b (Some e.1) (kept_at es p))
unfolding IsStrictlySortedBy
row_head p e es sorted None is true at rest =
    let same : p ≡ e.0 = one_prefix p e.0 at in
    let none : kept_at es p ≡ None = ap (kept_at es) same ∙ nothing_below e.0 es sorted.0 in
    rest ∙ ap (option_and_then (λ kept. kept.best)) none ∙ sym is
row_head p e es sorted None is false at rest = rest
row_head p e es sorted (Some c) is true at rest = ap (λ b. cond b (Some c) (best_at (rows_of es) p)) at ∙ sym is
row_head p e es sorted (Some c) is false at rest = ap (λ b. cond b (Some c) (best_at (rows_of es) p)) at ∙ rest

-- a prefix's row has the best that is kept
best_rows : (book : List (Prefix × Kept)) → IsRising book → (p : Prefix) → best_at (rows_of book) p ≡ option_and_then (λ kept. kept.best) (kept_at book p)
unfolding IsStrictlySortedBy
best_rows [] sorted p = refl
best_rows (e ∷ es) sorted p = row_head p e es sorted e.1.best refl (is_prefix p e.0) refl (best_rows es sorted.1 p)

below_more : (P : Prefix → Type 0) (e : Prefix × Kept) (o : Option Candidate) (rows : List (Prefix × Candidate)) → P e.0 → AllByRecursion P (keys_of rows) → AllByRecursion P (keys_of (cons_option (option_map (λ best. (e.0, best)) o) rows))
below_more P e None rows here all = all
below_more P e (Some c) rows here all = (here, all)

below_rows : (P : Prefix → Type 0) (book : List (Prefix × Kept)) → AllByRecursion P (keys_of book) → AllByRecursion P (keys_of (rows_of book))
below_rows P [] all = tt
below_rows P (e ∷ es) all = below_more P e e.1.best (rows_of es) all.0 (below_rows P es all.1)

rising_more : (e : Prefix × Kept) (o : Option Candidate) (rows : List (Prefix × Candidate)) → AllByRecursion (λ q. prefix_cmp e.0 q ≡ Less) (keys_of rows) → IsRising rows
    → IsStrictlySortedBy prefix_cmp (keys_of (cons_option (option_map (λ best. (e.0, best)) o) rows))
unfolding IsStrictlySortedBy
rising_more e None rows all sorted = sorted
rising_more e (Some c) rows all sorted = (all, sorted)

-- they rise
rows_rise : (book : List (Prefix × Kept)) → IsRising book → IsRising (rows_of book)
unfolding IsStrictlySortedBy
rows_rise [] sorted = tt
rows_rise (e ∷ es) sorted = rising_more e e.1.best (rows_of es) (below_rows (λ q. prefix_cmp e.0 q ≡ Less) es sorted.0) (rows_rise es sorted.1)

-- ---- what the rows are seen as

module _ (rows : RowTable) where
  pub found_routes : (p : Prefix) → found (adj_in_of rows) p ≡ option_map (λ r. r.routes) (found rows p)
  found_routes p = lookup-map_values (λ r. r.routes) (is_at (prefix_cmp p)) rows

  pub found_kept : (p : Prefix) → kept_at (book_of rows) p ≡ option_map (λ r. r.kept) (found rows p)
  found_kept p = lookup-map_values (λ r. r.kept) (is_at (prefix_cmp p)) rows

  pub route_is : (s : ℕ) (p : Prefix) → route_at (adj_in_of rows) s p ≡ route_of (found rows p) s
  route_is s p = ap (λ o. route_among o s) (found_routes p)

  pub offer_is : (s : ℕ) (p : Prefix) → offer_at (book_of rows) s p ≡ offer_of (found rows p) s
  offer_is s p = ap (λ o. candidate_of (places_in o) s) (found_kept p)

  pub rising_adj_in : IsRising rows → IsRising (adj_in_of rows)
  rising_adj_in rising = subst (IsStrictlySortedBy prefix_cmp) (sym (keys_of-map_values (λ r. r.routes) rows)) rising

  pub rising_book : IsRising rows → IsRising (book_of rows)
  rising_book rising = subst (IsStrictlySortedBy prefix_cmp) (sym (keys_of-map_values (λ r. r.kept) rows)) rising

  pub rising_best : IsRising rows → IsRising (rows_of (book_of rows))
  rising_best rising = rows_rise (book_of rows) (rising_book rising)

  fused : (o : Option PrefixRow) → option_and_then (λ kept. kept.best) (option_map (λ r. r.kept) o) ≡ best_of o
  fused None = refl
  fused (Some r) = refl

  pub best_is : IsRising rows → (p : Prefix) → best_at (rows_of (book_of rows)) p ≡ best_of (found rows p)
  best_is rising p = best_rows (book_of rows) (rising_book rising) p ∙ ap (option_and_then (λ kept. kept.best)) (found_kept p) ∙ fused (found rows p)

  pub row_found : AreRows rows → (p : Prefix) (row : PrefixRow) → found rows p ≡ Some row → IsRow row
  row_found are p row is = subst (λ o. IfSome o IsRow) is (IfSome-lookup_from_All IsRow (is_at (prefix_cmp p)) rows are.1)

best_case : (o : Option PrefixRow) → IfSome o IsRow → IsBestOf (offer_of o) (best_of o)
best_case None is = λ s. refl
best_case (Some r) is = best_kept r.kept is.kept

routed_case : (o : Option PrefixRow) → IfSome o IsRow → (s : ℕ) → IsSome (offer_of o s) → IsSome (route_of o s)
routed_case None is s there = absurd (cc)
routed_case (Some r) is s there = offer_routed r is s there

has_case : (o : Option PrefixRow) → IfSome o IsRow → IsSome (option_map (λ r. r.kept) o) → (s : ℕ) × IsSome (route_of o s)
has_case None is there = absurd (cc)
has_case (Some r) is there = some_route r.routes is.any

none_case : (o : Option PrefixRow) → IfSome o IsRow → ((s : ℕ) → route_of o s ≡ None) → o ≡ None
none_case None is none = refl
none_case (Some r) is none = let some = some_route r.routes is.any in absurd (none_there (route_of (Some r) some.0) (none some.0) some.1)

other_case : (o : Option PrefixRow) (slot : ℕ) → IfSome o IsRow → route_of o slot ≡ None → IfSome (best_of o) (λ c. c.slot ≢ slot)
other_case None slot is none = tt
other_case (Some r) slot is none = by r.kept.best refl
  where
    by : (o : Option Candidate) → r.kept.best ≡ o → IfSome o (λ c. c.slot ≢ slot)
    by None at = tt
    by (Some c) at = λ same. none_there (route_in r.routes slot) none (subst (λ t. IsSome (route_in r.routes t)) same (best_routed r is c at))

module _ (rows : RowTable) (are : AreRows rows) where
  each : (p : Prefix) → IfSome (found rows p) IsRow
  each p = IfSome-lookup_from_All IsRow (is_at (prefix_cmp p)) rows are.1

  -- each row is the best of its prefix's candidates
  pub best_each : (p : Prefix) → IsBestOf (λ s. offer_at (book_of rows) s p) (best_at (rows_of (book_of rows)) p)
  best_each p =
      subst (λ (o : Option Kept). IsBestOf (candidate_of (places_in o)) (best_at (rows_of (book_of rows)) p)) (sym (found_kept rows p))
      (subst (IsBestOf (offer_of (found rows p))) (sym (best_is rows are.0 p)) (best_case (found rows p) (each p)))

  -- a candidate is one of a route
  pub routed_each : (s : ℕ) (p : Prefix) → IsSome (offer_at (book_of rows) s p) → IsSome (route_at (adj_in_of rows) s p)
  routed_each s p there = subst IsSome (sym (route_is rows s p)) (routed_case (found rows p) (each p) s (subst IsSome (offer_is rows s p) there))

  -- a prefix that is kept has a route
  pub needed_each : (p : Prefix) → IsSome (kept_at (book_of rows) p) → HasRoute (adj_in_of rows) p
  needed_each p there =
      let has = has_case (found rows p) (each p) (subst IsSome (found_kept rows p) there) in
      (has.0, subst IsSome (sym (route_is rows has.0 p)) has.1)

  -- and one without routes isn't kept
  pub forgotten_each : (p : Prefix) → ((s : ℕ) → route_at (adj_in_of rows) s p ≡ None) → kept_at (book_of rows) p ≡ None
  forgotten_each p none = found_kept rows p ∙ ap (option_map (λ r. r.kept)) (none_case (found rows p) (each p) (λ s. sym (route_is rows s p) ∙ none s))

  -- a slot without a route has no best one
  pub best_of_other : (slot : ℕ) (p : Prefix) → route_at (adj_in_of rows) slot p ≡ None → IfSome (best_at (rows_of (book_of rows)) p) (λ c. c.slot ≢ slot)
  best_of_other slot p none =
      subst (λ o. IfSome o (λ c. c.slot ≢ slot)) (sym (best_is rows are.0 p)) (other_case (found rows p) slot (each p) (sym (route_is rows slot p) ∙ none))

unless : (o : Option Candidate) → (IsSome o → ⊥) → o ≡ None
unless None never = refl
unless (Some c) never = absurd (never refl)

-- nor a candidate
pub no_offer : (rows : RowTable) → AreRows rows → (s : ℕ) (p : Prefix) → route_at (adj_in_of rows) s p ≡ None → offer_of (found rows p) s ≡ None
no_offer rows are s p none =
    unless (offer_of (found rows p) s)
    (λ there. none_there (route_at (adj_in_of rows) s p) none (routed_each rows are s p (subst IsSome (sym (offer_is rows s p)) there)))

-- ---- a row that changes

-- the rows of the other prefixes are as they were
abbrev pub KeepsRows : Prefix → RowTable → RowTable → Type 0
KeepsRows prefix old new = (p : Prefix) → is_prefix prefix p ≡ false → found new p ≡ found old p

-- the prefix has this row now, and each other one what it had
abbrev pub PutsRow : RowTable → RowTable → Prefix → Option PrefixRow → Type 0
PutsRow old new prefix row = (p : Prefix) → found new p ≡ cond (is_at (prefix_cmp prefix) p) row (found old p)

module _ (old new : RowTable) (prefix : Prefix) (row : Option PrefixRow) (puts : PutsRow old new prefix row) where
  pub here_put : found new prefix ≡ row
  here_put = puts prefix ∙ ap (λ b. cond b row (found old prefix)) (is_at-refl prefix)

  pub others_put : KeepsRows prefix old new
  others_put p other = puts p ∙ ap (λ b. cond b row (found old p)) other

twice : {X : Type 0} (b : Bool) (x y z : X) → cond b x (cond b y z) ≡ cond b x z
twice true x y z = refl
twice false x y z = refl

-- what is put in and then taken out is out
pub puts_none : (old written new : RowTable) (prefix : Prefix) (w : Option PrefixRow) → PutsRow old written prefix w → PutsRow written new prefix None → PutsRow old new prefix None
puts_none old written new prefix w put out = λ p. out p ∙ ap (cond (is_at (prefix_cmp prefix) p) None) (put p) ∙ twice (is_at (prefix_cmp prefix) p) None w (found old p)

-- a row that was put in its place
pub record IsPut (old new : RowTable) (prefix : Prefix) (row : PrefixRow) : Type 0 where
  pub entries : new ≡ with_entry old prefix row
  pub puts : PutsRow old new prefix (Some row)
  pub rising : IsRising new

pub rows_put : (old new : RowTable) (prefix : Prefix) (row : PrefixRow) → AreRows old → IsRow row → IsPut old new prefix row → AreRows new
rows_put old new prefix row are is put = (put.rising, subst (λ es. All IsRow (values_of es)) (sym put.entries) (All-values-insert_entry prefix_cmp prefix row IsRow old are.1 is))

-- where it is what it was, nothing changed
pub rows_same : (old new : RowTable) (prefix : Prefix) (row was : PrefixRow) → AreRows old → IsPut old new prefix row → found old prefix ≡ Some was → row ≡ was → new ≡ old
rows_same old new prefix row was are put there same = put.entries ∙ ap (with_entry old prefix) same ∙ insert-same prefix_cmp_total prefix was old are.0 there

pub rows_set : (old new : RowTable) (prefix : Prefix) (row : PrefixRow) → AreRows old → IsRow row → new ≡ set_value (is_at (prefix_cmp prefix)) old row → IsRising new → AreRows new
rows_set old new prefix row are is same rising = (rising, subst (λ es. All IsRow (values_of es)) (sym same) (All-values-set_value (is_at (prefix_cmp prefix)) IsRow old row are.1 is))

pub rows_removed : (old new : RowTable) (prefix : Prefix) → AreRows old → new ≡ remove_entry (is_at (prefix_cmp prefix)) old → IsRising new → AreRows new
rows_removed old new prefix are same rising = (rising, subst (λ es. All IsRow (values_of es)) (sym same) (All-map-remove_entry (is_at (prefix_cmp prefix)) (λ e. e.1) IsRow old are.1))

-- ---- what the prefix has behind it

module _ (old new : RowTable) (prefix : Prefix) (was row : PrefixRow) (puts : PutsRow old new prefix (Some row)) (there : found old prefix ≡ Some was) where
  now : found new prefix ≡ Some row
  now = here_put old new prefix (Some row) puts

  pub routes_put : (slot : ℕ) (a : PathAttributes) → IsAnnounced slot a was.routes row.routes → (s : ℕ) → route_of (found new prefix) s ≡ cond (nat_eq slot s) (Some a) (route_of (found old prefix) s)
  routes_put slot a put s =
      ap (λ o. route_of o s) now ∙ put s ∙ ap (λ b. cond b (Some a) (route_in was.routes s)) (slot_test slot s)
      ∙ ap (λ o. cond (nat_eq slot s) (Some a) (route_of o s)) (sym there)

  pub offers_put : (f : ℕ → Option Candidate → Option Candidate) → ((s : ℕ) → candidate_of row.kept.places s ≡ f s (candidate_of was.kept.places s))
      → (s : ℕ) → offer_of (found new prefix) s ≡ f s (offer_of (found old prefix) s)
  offers_put f put s = ap (λ o. offer_of o s) now ∙ put s ∙ ap (λ o. f s (offer_of o s)) (sym there)

  pub another_put : best_of (found new prefix) ≢ best_of (found old prefix) → row.kept.best ≢ was.kept.best
  another_put another same = another (ap best_of now ∙ same ∙ ap best_of (sym there))

first_case : (a : PathAttributes) (b c : Bool) → b ≡ c → cond b (Some a) None ≡ cond c (Some a) None
first_case a b c is = ap (λ x. cond x (Some a) None) is

-- of a new prefix
module _ (old new : RowTable) (prefix : Prefix) (row : PrefixRow) (puts : PutsRow old new prefix (Some row)) (none : found old prefix ≡ None) where
  pub routes_first : (slot : ℕ) (a : PathAttributes) → row.routes ≡ (slot, a) ∷ [] → (s : ℕ) → route_of (found new prefix) s ≡ cond (nat_eq slot s) (Some a) (route_of (found old prefix) s)
  routes_first slot a is s =
      ap (λ o. route_of o s) (here_put old new prefix (Some row) puts) ∙ ap (λ r. route_in r s) is
      ∙ first_case a (is_at (nat_cmp s) slot) (nat_eq slot s) (slot_test s slot ∙ turned s slot)
      ∙ ap (λ o. cond (nat_eq slot s) (Some a) (route_of o s)) (sym none)

  pub offers_first : (slot : ℕ) (f : ℕ → Option Candidate → Option Candidate) → ((s : ℕ) → candidate_of row.kept.places s ≡ f s (candidate_of ((slot, None) ∷ []) s))
      → (s : ℕ) → offer_of (found new prefix) s ≡ f s (offer_of (found old prefix) s)
  offers_first slot f put s =
      ap (λ o. offer_of o s) (here_put old new prefix (Some row) puts) ∙ put s ∙ ap (f s) (candidate_pushed slot s []) ∙ ap (λ o. f s (offer_of o s)) (sym none)

  pub another_first : best_of (found new prefix) ≢ best_of (found old prefix) → row.kept.best ≢ None
  another_first another same = another (ap best_of (here_put old new prefix (Some row) puts) ∙ same ∙ ap best_of (sym none))

-- of a prefix whose row goes
module _ (old new : RowTable) (prefix : Prefix) (slot : ℕ) (was : PrefixRow) (puts : PutsRow old new prefix None) (there : found old prefix ≡ Some was) where
  gone : found new prefix ≡ None
  gone = here_put old new prefix None puts

  pub routes_ended : is_only slot was.routes ≡ true → (s : ℕ) → route_of (found new prefix) s ≡ cond (nat_eq slot s) None (route_of (found old prefix) s)
  routes_ended only s = ap (λ o. route_of o s) gone ∙ sym (only_route slot was.routes only s) ∙ ap (λ o. cond (nat_eq slot s) None (route_of o s)) (sym there)

  pub offers_ended : IsRow was → is_only slot was.routes ≡ true → (s : ℕ) → offer_of (found new prefix) s ≡ cond (nat_eq slot s) None (offer_of (found old prefix) s)
  offers_ended is only s = ap (λ o. offer_of o s) gone ∙ sym (only_offer slot was is only s) ∙ ap (λ o. cond (nat_eq slot s) None (offer_of o s)) (sym there)

-- where there is no row, nothing can change
pub offers_unplaced : (changes : List Change) (row : Option PrefixRow) → row ≡ None → All (λ c. IsSome (route_of row c.slot)) changes → (s : ℕ) → offer_of row s ≡ changed changes s (offer_of row s)
offers_unplaced changes row none routed s =
    sym (unchanged (λ t. is_some (route_of row t)) s changes (offer_of row s) (λ k d at. is_some-from (route_of row _) (routed k d at)) (ap (λ o. is_some (route_of o s)) none))

-- ---- what a table is seen as behind it

route_case : {X : Type 0} (read : Option PrefixRow → ℕ → X) (x : X) (old new : RowTable) (slot s : ℕ) (prefix p : Prefix) (r : Ordering) → KeepsRows prefix old new
    → ((t : ℕ) → read (found new prefix) t ≡ cond (nat_eq slot t) x (read (found old prefix) t)) → prefix_cmp prefix p ≡ r
    → read (found new p) s ≡ cond (is_eq (ordering_then r (nat_cmp slot s))) x (read (found old p) s)
route_case read x old new slot s prefix p Less others here is = ap (λ o. read o s) (others p (ap is_eq is))
route_case read x old new slot s prefix p Equal others here is =
    subst (λ q. read (found new q) s ≡ cond (is_at (nat_cmp slot) s) x (read (found old q) s)) (prefix_cmp_exact prefix p is)
    (here s ∙ ap (λ b. cond b x (read (found old prefix) s)) (sym (slot_test slot s)))
route_case read x old new slot s prefix p Greater others here is = ap (λ o. read o s) (others p (ap is_eq is))

-- what one slot has is another at a prefix
pub lifted : {X : Type 0} (read : Option PrefixRow → ℕ → X) (x : X) (old new : RowTable) (slot : ℕ) (prefix : Prefix) → KeepsRows prefix old new
    → ((t : ℕ) → read (found new prefix) t ≡ cond (nat_eq slot t) x (read (found old prefix) t))
    → (s : ℕ) (p : Prefix) → read (found new p) s ≡ cond (is_route slot prefix s p) x (read (found old p) s)
lifted read x old new slot prefix others here s p = route_case read x old new slot s prefix p (prefix_cmp prefix p) others here refl

pub routes_lifted : (x : Option PathAttributes) (old new : RowTable) (slot : ℕ) (prefix : Prefix) → KeepsRows prefix old new
    → ((t : ℕ) → route_of (found new prefix) t ≡ cond (nat_eq slot t) x (route_of (found old prefix) t))
    → (s : ℕ) (p : Prefix) → route_at (adj_in_of new) s p ≡ cond (is_route slot prefix s p) x (route_at (adj_in_of old) s p)
routes_lifted x old new slot prefix others here s p =
    route_is new s p ∙ lifted route_of x old new slot prefix others here s p ∙ ap (cond (is_route slot prefix s p) x) (sym (route_is old s p))

pub offers_lifted : (x : Option Candidate) (old new : RowTable) (slot : ℕ) (prefix : Prefix) → KeepsRows prefix old new
    → ((t : ℕ) → offer_of (found new prefix) t ≡ cond (nat_eq slot t) x (offer_of (found old prefix) t))
    → (s : ℕ) (p : Prefix) → offer_at (book_of new) s p ≡ cond (is_route slot prefix s p) x (offer_at (book_of old) s p)
offers_lifted x old new slot prefix others here s p =
    offer_is new s p ∙ lifted offer_of x old new slot prefix others here s p ∙ ap (cond (is_route slot prefix s p) x) (sym (offer_is old s p))

change_case : (f : ℕ → Option Candidate → Option Candidate) (old new : RowTable) (s : ℕ) (prefix p : Prefix) (b : Bool) → KeepsRows prefix old new
    → ((t : ℕ) → offer_of (found new prefix) t ≡ f t (offer_of (found old prefix) t)) → is_prefix prefix p ≡ b
    → offer_of (found new p) s ≡ cond b (f s (offer_of (found old p) s)) (offer_of (found old p) s)
change_case f old new s prefix p true others here is =
    subst (λ q. offer_of (found new q) s ≡ f s (offer_of (found old q) s)) (one_prefix prefix p is) (here s)
change_case f old new s prefix p false others here is = ap (λ o. offer_of o s) (others p is)

-- each slot's candidate at a prefix is another
pub changes_lifted : (f : ℕ → Option Candidate → Option Candidate) (old new : RowTable) (prefix : Prefix) → KeepsRows prefix old new
    → ((t : ℕ) → offer_of (found new prefix) t ≡ f t (offer_of (found old prefix) t))
    → (s : ℕ) (p : Prefix) → offer_at (book_of new) s p ≡ cond (is_prefix prefix p) (f s (offer_at (book_of old) s p)) (offer_at (book_of old) s p)
changes_lifted f old new prefix others here s p =
    offer_is new s p ∙ change_case f old new s prefix p (is_prefix prefix p) others here refl
    ∙ ap (λ o. cond (is_prefix prefix p) (f s o) o) (sym (offer_is old s p))

same_case : (old new : RowTable) (prefix : Prefix) → KeepsRows prefix old new → ((t : ℕ) → offer_of (found new prefix) t ≡ offer_of (found old prefix) t)
    → (s : ℕ) (p : Prefix) (b : Bool) → is_prefix prefix p ≡ b → offer_of (found new p) s ≡ offer_of (found old p) s
same_case old new prefix others here s p true is = subst (λ q. offer_of (found new q) s ≡ offer_of (found old q) s) (one_prefix prefix p is) (here s)
same_case old new prefix others here s p false is = ap (λ o. offer_of o s) (others p is)

-- each slot's candidate at a prefix is the same
pub offers_stay : (old new : RowTable) (prefix : Prefix) → KeepsRows prefix old new → ((t : ℕ) → offer_of (found new prefix) t ≡ offer_of (found old prefix) t)
    → (s : ℕ) (p : Prefix) → offer_at (book_of new) s p ≡ offer_at (book_of old) s p
offers_stay old new prefix others here s p = offer_is new s p ∙ same_case old new prefix others here s p (is_prefix prefix p) refl ∙ sym (offer_is old s p)

-- the best of the other prefixes stays
pub best_stays : (old new : RowTable) (prefix : Prefix) → IsRising old → IsRising new → KeepsRows prefix old new
    → (p : Prefix) → is_prefix prefix p ≡ false → best_at (rows_of (book_of new)) p ≡ best_at (rows_of (book_of old)) p
best_stays old new prefix rising also others p other = best_is new also p ∙ ap best_of (others p other) ∙ sym (best_is old rising p)

-- and that of the prefix is another where its row's is
pub best_another : (old new : RowTable) (prefix : Prefix) → IsRising old → IsRising new → best_at (rows_of (book_of new)) prefix ≢ best_at (rows_of (book_of old)) prefix → best_of (found new prefix) ≢ best_of (found old prefix)
best_another old new prefix rising also another same = another (best_is new also prefix ∙ same ∙ sym (best_is old rising prefix))

-- ---- rows that have the same routes, or the same best ones

set_routes_case : (test : Prefix → Bool) (w k : PrefixRow) (e : Prefix × PrefixRow) (es : RowTable) (b : Bool) → w.routes ≡ k.routes → cond b (Some e.1) (lookup test es) ≡ Some k
    → (lookup test es ≡ Some k → adj_in_of (set_value test es w) ≡ adj_in_of es) → adj_in_of (cond b ((e.0, w) ∷ es) (e ∷ set_value test es w)) ≡ adj_in_of (e ∷ es)
set_routes_case test w k e es true same at rest =
    let is : e.1 ≡ k = cc in
    ap (λ r. (e.0, r) ∷ adj_in_of es) (same ∙ ap (λ (row : PrefixRow). row.routes) (sym is))
set_routes_case test w k e es false same at rest = ap (λ l. (e.0, e.1.routes) ∷ l) (rest at)

pub set_routes : (test : Prefix → Bool) (w k : PrefixRow) (es : RowTable) → w.routes ≡ k.routes → lookup test es ≡ Some k → adj_in_of (set_value test es w) ≡ adj_in_of es
set_routes test w k [] same at = refl
set_routes test w k (e ∷ es) same at = set_routes_case test w k e es (test e.0) same at (set_routes test w k es same)

no_row : (p : Prefix) (o : Option Candidate) (rows : List (Prefix × Candidate)) → o ≡ None → cons_option (option_map (λ best. (p, best)) o) rows ≡ rows
no_row p None rows is = refl
no_row p (Some c) rows is = absurd (cc)

with_best_case : (p : Prefix) (w : PrefixRow) (e : Prefix × PrefixRow) (es : RowTable) → IsRising (e ∷ es) → (o : Ordering) → prefix_cmp p e.0 ≡ o → best_of (cond (is_eq o) (Some e.1) (found es p)) ≡ w.kept.best
    → (best_of (found es p) ≡ w.kept.best → rows_of (book_of (with_entry es p w)) ≡ rows_of (book_of es))
    → rows_of (book_of (match_ordering o ((p, w) ∷ e ∷ es) ((e.0, w) ∷ es) (e ∷ with_entry es p w))) ≡ rows_of (book_of (e ∷ es))
unfolding IsStrictlySortedBy
with_best_case p w e es rising Less is same rest =
    no_row p w.kept.best (rows_of (book_of (e ∷ es))) (sym same ∙ ap best_of (nothing_further p e.0 es is rising.0))
with_best_case p w e es rising Equal is same rest = ap (λ o. cons_option (option_map (λ best. (e.0, best)) o) (rows_of (book_of es))) (sym same)
with_best_case p w e es rising Greater is same rest = ap (cons_option (option_map (λ best. (e.0, best)) e.1.kept.best)) (rest same)

-- a row with the best one that the prefix had, or a new one with none
pub with_best : (p : Prefix) (w : PrefixRow) (rows : RowTable) → IsRising rows → best_of (found rows p) ≡ w.kept.best → rows_of (book_of (with_entry rows p w)) ≡ rows_of (book_of rows)
unfolding IsStrictlySortedBy
with_best p w [] rising same = no_row p w.kept.best [] (sym same)
with_best p w (e ∷ es) rising same = with_best_case p w e es rising (prefix_cmp p e.0) refl same (with_best p w es rising.1)

-- ---- candidates that stay apart
pub apart_rows : (rows : RowTable) (p : Prefix) (changes : List Change) → AreApart (λ s. changed changes s (offer_at (book_of rows) s p)) → AreApart (λ s. changed changes s (offer_of (found rows p) s))
apart_rows rows p changes apart = subst {A = ℕ → Option Candidate} (λ f. AreApart (λ s. changed changes s (f s))) (λ i s. offer_is rows s p i) apart
