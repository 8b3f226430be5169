use Rattle.std.proofs.Common.{◌≡◌, ℕ, Bool, true, false, List, [], ◌∷◌, Option, Some, None, filter, cond, refl, sym, ap, ◌∙◌}
use Rattle.std.specs.List.{find}
use Rattle.std.specs.List.Sorted.{IsStrictlySortedBy}
use Rattle.std.specs.Map.{keys_of}
use Rattle.std.specs.Option.{IsSome}
use Rattle.std.specs.Ordering.{is_gt}
use Rattle.decision.proofs.Laws.{selected_member}
use Rattle.decision.specs.BookContents.{BookState, IsBestOf, best_at, first_after, is_above, offer_at}
use Rattle.decision.specs.declared.candidate.Candidate.{Candidate}
use Rattle.net_prefix.specs.PrefixOrder.{IsAbove, prefix_cmp}
use Rattle.net_prefix.specs.declared.prefix.Prefix.{Prefix}
use Rattle.prefix_trie.proofs.MapLaws.{IsLeast, least_after, none_after}
use Rattle.prefix_trie.proofs.Nexts.{none_case, some_case}
use Rattle.rib_in.specs.LatestRoutes.{RouteTable, route_at}
use Rattle.prefix_trie.specs.TrieWalks.{all_above, all_after, first_key, first_of}

-- The rows behind a row.

filtered_on : (f : Prefix × Candidate → Bool) (e : Prefix × Candidate) (rows : List (Prefix × Candidate)) (b : Bool) → find f rows ≡ first_of (filter f rows)
    → cond b (Some e) (find f rows) ≡ first_of (cond b (e ∷ filter f rows) (filter f rows))
filtered_on f e rows true same = refl
filtered_on f e rows false same = same

-- the first row above a prefix is the first of those above it
first_filtered : (f : Prefix × Candidate → Bool) (rows : List (Prefix × Candidate)) → find f rows ≡ first_of (filter f rows)
first_filtered f [] = refl
first_filtered f (e ∷ rows) = filtered_on f e rows (f e) (first_filtered f rows)

all_kept : (rows : List (Prefix × Candidate)) → filter (λ row. true) rows ≡ rows
all_kept [] = refl
all_kept (e ∷ rows) = ap (λ r. e ∷ r) (all_kept rows)

pub first_row : (after : Option Prefix) (rows : List (Prefix × Candidate)) → first_after after rows ≡ first_of (all_after after rows)
first_row None rows = first_filtered (λ row. true) rows ∙ ap first_of (all_kept rows)
first_row (Some p) rows = first_filtered (λ row. is_above (Some p) row.0) rows

-- the first row above a prefix, or of all, has behind it the rows above its own prefix
pub row_some : (after : Option Prefix) (rows : List (Prefix × Candidate)) (row : Prefix × Candidate) → IsStrictlySortedBy prefix_cmp (keys_of rows) → Some row ≡ first_after after rows
    → all_after after rows ≡ row ∷ all_above row.0 rows
row_some after rows row rising is = some_case after row rows (all_after after rows) rising refl (is ∙ first_row after rows)

pub row_none : (after : Option Prefix) (rows : List (Prefix × Candidate)) → None ≡ first_after after rows → all_after after rows ≡ []
row_none after rows is = none_case (all_after after rows) (is ∙ first_row after rows)

-- its prefix is the least one above that has a row
pub least_row : (after : Option Prefix) (rows : List (Prefix × Candidate)) (row : Prefix × Candidate) → IsStrictlySortedBy prefix_cmp (keys_of rows) → Some row ≡ first_after after rows
    → IsLeast (λ c. true) after rows row.0
least_row after rows row rising is = least_after after rows rising row.0 (ap first_key (sym (row_some after rows row rising is)))

pub no_row : (after : Option Prefix) (rows : List (Prefix × Candidate)) → None ≡ first_after after rows → (q : Prefix) → IsAbove after q → best_at rows q ≡ None
no_row after rows is q above = none_after after rows (ap first_key (sym (row_none after rows is))) q above

there_value : (o : Option Candidate) → IsSome o → (c : Candidate) × (o ≡ Some c)
there_value None there = absurd (cc)
there_value (Some c) there = (c, refl)

pub least_there : (after : Option Prefix) (rows : List (Prefix × Candidate)) (p q : Prefix) → IsLeast (λ c. true) after rows p → IsAbove after q → IsSome (best_at rows q) → is_gt (prefix_cmp p q) ≡ false
least_there after rows p q least above there = let found = there_value (best_at rows q) there in least.least q found.0 above found.1 refl

-- a best candidate is one of a slot
pub best_routed : (adj_in : RouteTable) (book : BookState) (p : Prefix) (c : Candidate) → ((s : ℕ) (q : Prefix) → IsSome (offer_at book s q) → IsSome (route_at adj_in s q)) → IsBestOf (λ s. offer_at book s p) (Some c)
    → (s : ℕ) × IsSome (route_at adj_in s p)
best_routed adj_in book p c routed best =
    let offered : offer_at book c.slot p ≡ Some c = (best.1 c).0 (selected_member best.0 (Some c) best.2) in
    (c.slot, routed c.slot p (rw offered refl))
