-- What a look-up in the records and a walk along them find.
use Rattle.std.proofs.Common.{◌≡◌, ℕ, Bool, true, false, cond, List, [], ◌∷◌, Option, Some, None, IfNone, IfSome, IsSome, MatchBool, filter, map, slice_get, option_map, is_some, refl, sym, ap, ◌∙◌, subst}
use Rattle.std.proofs.lemmas.Map.Made.{lookup-map_values}
use Rattle.std.specs.BTreeMap.{is_at}
use Rattle.std.specs.List.{cons_option, find}
use Rattle.std.specs.Ordering.{is_gt, is_lt}
use Rattle.decision.specs.BookContents.{BookState, Kept, first_after, rows_of}
use Rattle.decision.specs.declared.candidate.Candidate.{Candidate}
use Rattle.net_prefix.specs.PrefixOrder.{IsAbove, prefix_cmp}
use Rattle.net_prefix.specs.declared.prefix.Prefix.{Prefix}
use Rattle.prefix_trie.proofs.MapLaws.{IsLeast, least_after, none_after}
use Rattle.prefix_trie.specs.TrieMap.{IsRising, found}
use Rattle.prefix_trie.specs.TrieWalks.{all_after, first_key}
use Rattle.rib_in.proofs.SlotWalks.{some_route}
use Rattle.rib_in.proofs.Walks.{routes_kept}
use Rattle.rib_in.specs.LatestRoutes.{HasRoute, RouteList, RouteTable, route_among, route_at, routes_of}
use Rattle.prefix_table.proofs.Picked.{picked_filter}
use Rattle.loc_rib.proofs.RowTables.{route_is, row_found}
use Rattle.prefix_table.specs.Picked.{picked}
use Rattle.rib_rows.specs.PrefixRows.{AreRows, PrefixRow, RowTable, adj_in_of, book_of, route_of}
use Rattle.rib_rows.specs.Records.{PrefixRecord, RecordTable, routed}

-- ---- whether there are routes to a prefix

module _ (rows : RowTable) where
  -- where there is a row, there is a route
  row_routed : AreRows rows → (p : Prefix) (row : PrefixRow) → found rows p ≡ Some row → HasRoute (adj_in_of rows) p
  row_routed are p row there =
      let some = some_route row.routes (row_found rows are p row there).any in
      (some.0, subst IsSome (sym (route_is rows some.0 p)) (subst (λ o. IsSome (route_of o some.0)) (sym there) some.1))

  unrouted : (p : Prefix) → found rows p ≡ None → (s : ℕ) → route_at (adj_in_of rows) s p ≡ None
  unrouted p none s = route_is rows s p ∙ ap (λ o. route_of o s) none

  routed_by : AreRows rows → (p : Prefix) (o : Option PrefixRow) → found rows p ≡ o → MatchBool (is_some o) (HasRoute (adj_in_of rows) p) ((s : ℕ) → route_at (adj_in_of rows) s p ≡ None)
  routed_by are p None is = unrouted p is
  routed_by are p (Some row) is = row_routed are p row is

  pub routed_is : AreRows rows → (p : Prefix) (b : Bool) → b ≡ is_some (found rows p) → MatchBool b (HasRoute (adj_in_of rows) p) ((s : ℕ) → route_at (adj_in_of rows) s p ≡ None)
  routed_is are p b is = subst (λ t. MatchBool t (HasRoute (adj_in_of rows) p) ((s : ℕ) → route_at (adj_in_of rows) s p ≡ None)) (sym is) (routed_by are p (found rows p) refl)

  has_by : AreRows rows → (p : Prefix) (o : Option PrefixRow) → found rows p ≡ o → IsSome (option_map (λ r. r.routes) o) → HasRoute (adj_in_of rows) p
  has_by are p None is has = absurd (cc)
  has_by are p (Some row) is has = row_routed are p row is

  pub routed_there : AreRows rows → (p : Prefix) → IsSome (found (adj_in_of rows) p) → HasRoute (adj_in_of rows) p
  routed_there are p has = has_by are p (found rows p) refl (subst IsSome (lookup-map_values (λ r. r.routes) (is_at (prefix_cmp p)) rows) has)

pub routes_there : (o : Option RouteList) (s : ℕ) → IsSome (route_among o s) → IsSome o
routes_there None s has = absurd (cc)
routes_there (Some routes) s has = refl

-- ---- a walk from a prefix on

pub read_from : {X : Type 0} (read : PrefixRecord → Option X) (after : Option Prefix) (es : RecordTable) → picked read (all_after after es) ≡ all_after after (picked read es)
read_from read None es = refl
read_from read (Some p) es = picked_filter read (λ q. is_lt (prefix_cmp p q)) es

module _ {V W : Type 0} (read : V → W) where
  mapped_case : (b : Bool) (e : Prefix × V) (rest : List (Prefix × V)) (more : List (Prefix × W)) → map {B = Prefix × W} (λ x. (x.0, read x.1)) rest ≡ more → map {B = Prefix × W} (λ x. (x.0, read x.1)) (cond b (e ∷ rest) rest) ≡ cond b ((e.0, read e.1) ∷ more) more
  mapped_case true e rest more is = ap (λ l. (e.0, read e.1) ∷ l) is
  mapped_case false e rest more is = is

  mapped_above : (q : Prefix → Bool) (es : List (Prefix × V)) → map {B = Prefix × W} (λ x. (x.0, read x.1)) (filter (λ e. q e.0) es) ≡ filter (λ e. q e.0) (map {B = Prefix × W} (λ x. (x.0, read x.1)) es)
  mapped_above q [] = refl
  mapped_above q (e ∷ es) = mapped_case (q e.0) e (filter (λ x. q x.0) es) (filter (λ x. q x.0) (map {B = Prefix × W} (λ x. (x.0, read x.1)) es)) (mapped_above q es)

  pub mapped_after : (after : Option Prefix) (es : List (Prefix × V)) → map {B = Prefix × W} (λ x. (x.0, read x.1)) (all_after after es) ≡ all_after after (map {B = Prefix × W} (λ x. (x.0, read x.1)) es)
  mapped_after None es = refl
  mapped_after (Some p) es = mapped_above (λ q. is_lt (prefix_cmp p q)) es

  pub first_mapped : (es : List (Prefix × V)) → first_key (map {B = Prefix × W} (λ x. (x.0, read x.1)) es) ≡ first_key es
  first_mapped [] = refl
  first_mapped (e ∷ es) = refl

pub adj_in_from : (after : Option Prefix) (es : RecordTable) → adj_in_of (routed (all_after after es)) ≡ all_after after (adj_in_of (routed es))
adj_in_from after es = ap adj_in_of (read_from (λ r. r.row) after es) ∙ mapped_after (λ r. r.routes) after (routed es)

pub book_from : (after : Option Prefix) (es : RecordTable) → book_of (routed (all_after after es)) ≡ all_after after (book_of (routed es))
book_from after es = ap book_of (read_from (λ r. r.row) after es) ∙ mapped_after (λ r. r.kept) after (routed es)

-- the routes of a slot
pub routes_from : (slot : ℕ) (after : Option Prefix) (table : RouteTable) → routes_of slot (all_after after table) ≡ all_after after (routes_of slot table)
routes_from slot None table = refl
routes_from slot (Some p) table = routes_kept slot (λ q. is_lt (prefix_cmp p q)) table

-- what is known of the first entry above a prefix, or of all
pub record IsFirst {X : Type 0} (after : Option Prefix) (es : List (Prefix × X)) (first : Option Prefix) : Type 0 where
  pub has : IfSome first (λ p. IsSome (found es p))
  pub above : IfSome first (λ p. IsAbove after p)
  pub least : IfSome first (λ p. (q : Prefix) → IsAbove after q → IsSome (found es q) → is_gt (prefix_cmp p q) ≡ false)
  pub none : IfNone first ((q : Prefix) → IsAbove after q → found es q ≡ None)

module _ {X : Type 0} where
  some_of : (o : Option X) (x : X) → o ≡ Some x → IsSome o
  some_of None x is = absurd (cc)
  some_of (Some y) x is = refl

  value_of : (o : Option X) → IsSome o → (x : X) × (o ≡ Some x)
  value_of None has = absurd (cc)
  value_of (Some x) has = (x, refl)

  pub is_first : (after : Option Prefix) (es : List (Prefix × X)) → IsRising es → (first : Option Prefix) → first ≡ first_key (all_after after es) → IsFirst after es first
  is_first after es rising None is = record { has = tt; above = tt; least = tt; none = none_after after es is }
  is_first after es rising (Some p) is =
      let least : IsLeast (λ x. true) after es p = least_after after es rising p is in
      record {
        has = some_of (found es p) least.value least.there;
        above = least.above;
        least = λ q above has. let there = value_of (found es q) has in least.least q there.0 above there.1 refl;
        none = tt;
      }

-- ---- the first best route of a range

first_case : (q : Prefix → Bool) (e : Prefix × Kept) (o : Option Candidate) (rows rest : List (Prefix × Candidate)) (b : Bool) → q e.0 ≡ b → find (λ row. q row.0) rows ≡ slice_get rest 0
    → find (λ row. q row.0) (cons_option (option_map (λ best. (e.0, best)) o) rows) ≡ slice_get (cond b (cons_option (option_map (λ best. (e.0, best)) o) rest) rest) 0
first_case q e None rows rest true at more = more
first_case q e None rows rest false at more = more
first_case q e (Some c) rows rest true at more = ap (λ b. cond b (Some (e.0, c)) (find (λ row. q row.0) rows)) at
first_case q e (Some c) rows rest false at more = ap (λ b. cond b (Some (e.0, c)) (find (λ row. q row.0) rows)) at ∙ more

kept_rows : (b : Bool) (e : Prefix × Kept) (es : BookState) → rows_of (cond b (e ∷ es) es) ≡ cond b (cons_option (option_map (λ best. (e.0, best)) e.1.best) (rows_of es)) (rows_of es)
kept_rows true e es = refl
kept_rows false e es = refl

-- the first best route that passes is the first one of those that pass
first_passing : (q : Prefix → Bool) (es : BookState) → find (λ row. q row.0) (rows_of es) ≡ slice_get (rows_of (filter (λ e. q e.0) es)) 0
first_passing q [] = refl
first_passing q (e ∷ es) =
    first_case q e e.1.best (rows_of es) (rows_of (filter (λ x. q x.0) es)) (q e.0) refl (first_passing q es)
    ∙ ap (λ rows. slice_get rows 0) (sym (kept_rows (q e.0) e (filter (λ x. q x.0) es)))

all_kept : {X : Type 0} (es : List (Prefix × X)) → es ≡ filter (λ e. true) es
all_kept [] = refl
all_kept (e ∷ es) = ap (λ l. e ∷ l) (all_kept es)

-- of a book above a prefix, or all of it
pub best_from : (after : Option Prefix) (book : BookState) → slice_get (rows_of (all_after after book)) 0 ≡ first_after after (rows_of book)
best_from None book = ap (λ es. slice_get (rows_of es) 0) (all_kept book) ∙ sym (first_passing (λ q. true) book)
best_from (Some p) book = sym (first_passing (λ q. is_lt (prefix_cmp p q)) book)
