-- Loc-RIB (RFC 4271 section 9.1.2): the best route of each prefix that has a candidate.
use Rattle.std.specs.Prelude.{MatchOption, List, Option}
use Rattle.std.specs.List.Sorted.{IsStrictlySortedBy}
use Rattle.std.specs.Map.{keys_of}
use Rattle.decision.specs.declared.candidate.Candidate.{Candidate}
use Rattle.decision.specs.Selection.{IsSelected}
use Rattle.net_prefix.specs.PrefixOrder.{prefix_cmp}
use Rattle.net_prefix.specs.declared.prefix.Prefix.{Prefix}
use Rattle.routing.specs.Tables.{Tables, best_at}
use Rattle.routing.specs.Candidates.{IsCandidate, AreCandidates}

-- of all candidates of the prefix, the selection leaves this one
abbrev pub IsBest : Tables → Prefix → Candidate → Type 0
IsBest t prefix c = (cs : List Candidate) × AreCandidates t prefix cs × IsSelected cs c

-- no route of any slot makes a candidate of the prefix, and it is no local network
abbrev pub HasNoCandidate : Tables → Prefix → Type 0
HasNoCandidate t prefix = (c : Candidate) → IsCandidate t prefix c → ⊥

-- to each prefix its best route, and nothing to a prefix without candidates
abbrev pub AreBest : Tables → (Prefix → Option Candidate) → Type 0
AreBest t routes = (prefix : Prefix) → MatchOption (routes prefix) (HasNoCandidate t prefix) (λ c. IsBest t prefix c)

-- Loc-RIB as rows: each prefix stands in it once, and its row is the best route
pub record IsLocRib (t : Tables) (rows : List (Prefix × Candidate)) : Type 0 where
  pub rising : IsStrictlySortedBy prefix_cmp (keys_of rows)
  pub best : AreBest t (best_at rows)
