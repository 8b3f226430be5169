-- The candidates of each prefix by slot, and the best of each: Loc-RIB (RFC 4271 sections 3.2 and 9.1).
use Rattle.std.specs.Prelude.{ℕ, ◌≡◌, ◌≢◌, ◌==◌, ◌↔◌, Bool, true, Option, Some, None, List, fold, find, Contains, IsSome, MatchOption, if◌then◌else◌, [], nat_eq, is_some, option_map, option_and_then, unwrap_or, filter_map}
use Rattle.std.specs.BTreeMap.{is_at}
use Rattle.std.specs.Map.{lookup}
use Rattle.std.specs.Ordering.{is_eq, is_lt}
use Rattle.decision.specs.declared.book.Change.{Change}
use Rattle.decision.specs.declared.candidate.Candidate.{Candidate}
use Rattle.decision.specs.Selection.{DifferInRank, IsSelected}
use Rattle.net_prefix.specs.PrefixOrder.{prefix_cmp}
use Rattle.net_prefix.specs.declared.prefix.Prefix.{Prefix}

-- whether both are one prefix
abbrev pub is_prefix : Prefix → Prefix → Bool
is_prefix p q = is_eq (prefix_cmp p q)

-- whether a prefix stands above the given one, where one is given
abbrev pub is_above : Option Prefix → Prefix → Bool
is_above None p = true
is_above (Some after) p = is_lt (prefix_cmp after p)

-- what these changes make of a slot's candidate: the last one of the slot holds
abbrev pub changed : List Change → ℕ → Option Candidate → Option Candidate
changed changes slot candidate = fold (λ candidate change. if change.slot == slot then change.candidate else candidate) candidate changes

-- no two slots' candidates agree in both degree of preference and address
abbrev pub AreApart : (ℕ → Option Candidate) → Type 0
AreApart offers = (s t : ℕ) (c d : Candidate) → s ≢ t → offers s ≡ Some c → offers t ≡ Some d → DifferInRank c d

-- the list has the candidates of the slots, and nothing else
abbrev pub AreOffered : (ℕ → Option Candidate) → List Candidate → Type 0
AreOffered offers cs = (c : Candidate) → Contains cs c ↔ (offers c.slot ≡ Some c)

-- what the selection leaves of the slots' candidates, and none where there are none
abbrev pub IsBestOf : (ℕ → Option Candidate) → Option Candidate → Type 0
IsBestOf offers best =
    MatchOption best ((s : ℕ) → offers s ≡ None) (λ c. (cs : List Candidate) × AreOffered offers cs × IsSelected cs c)

-- the best route that is kept of a prefix
abbrev pub best_at : List (Prefix × Candidate) → Prefix → Option Candidate
best_at rows prefix = lookup (is_at (prefix_cmp prefix)) rows

-- the first row above the prefix, or of all
abbrev pub first_after : Option Prefix → List (Prefix × Candidate) → Option (Prefix × Candidate)
first_after after rows = find (λ row. is_above after row.0) rows

-- the slots that have a place at a prefix, each with its candidate, and the best of these
pub record Kept : Type 0 where
  pub places : List (ℕ × Option Candidate)
  pub best : Option Candidate

-- the candidate of a slot
abbrev pub candidate_of : List (ℕ × Option Candidate) → ℕ → Option Candidate
candidate_of places slot = option_and_then (λ candidate. candidate) (lookup (nat_eq slot) places)

-- whether the slot has a place
abbrev pub is_placed : List (ℕ × Option Candidate) → ℕ → Bool
is_placed places slot = is_some (lookup (nat_eq slot) places)

-- what is kept of a prefix
abbrev pub kept_at : List (Prefix × Kept) → Prefix → Option Kept
kept_at book prefix = lookup (is_at (prefix_cmp prefix)) book

-- the places of what is kept
abbrev pub places_in : Option Kept → List (ℕ × Option Candidate)
places_in kept = unwrap_or (option_map (λ k. k.places) kept) []

-- the places of a prefix
abbrev pub places_at : List (Prefix × Kept) → Prefix → List (ℕ × Option Candidate)
places_at book prefix = places_in (kept_at book prefix)

-- each prefix that has a best candidate, with it
abbrev pub rows_of : List (Prefix × Kept) → List (Prefix × Candidate)
rows_of book = filter_map (λ entry. option_map (λ best. (entry.0, best)) entry.1.best) book

-- what is kept of all prefixes, which rise
abbrev pub BookState : Type 0
BookState = List (Prefix × Kept)

-- the candidate of a slot, of a prefix
abbrev pub offer_at : BookState → ℕ → Prefix → Option Candidate
offer_at book slot prefix = candidate_of (places_at book prefix) slot

-- whether the slot has a place at the prefix
abbrev pub has_place_at : BookState → ℕ → Prefix → Bool
has_place_at book slot prefix = is_placed (places_at book prefix) slot

-- no prefix is kept without a place
abbrev pub HasNoEmptyPrefix : BookState → Type 0
HasNoEmptyPrefix book = (prefix : Prefix) → IsSome (kept_at book prefix) → (slot : ℕ) × (has_place_at book slot prefix ≡ true)
