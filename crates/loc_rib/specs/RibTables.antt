-- Adj-RIB-In with the candidates that its routes make, and what the peers hold (RFC 4271 section 3.2).
use Rattle.std.specs.Prelude.{◌≡◌, ◌≢◌, ◌≤◌, ◌+◌, ◌-◌, ◌^◌, ℕ, min, []}
use Rattle.decision.specs.BookContents.{BookState, best_at, rows_of}
use Rattle.net_prefix.specs.declared.prefix.Prefix.{Prefix}
use Rattle.rib_in.specs.LatestRoutes.{RouteTable}
use Rattle.loc_rib.specs.SentTables.{SentTable}

-- the latest route of each slot and prefix, the candidates that they make with the best of each prefix, how often
-- a best one was chosen so far, a count that stays at 2^64 - 1 where it has reached it, and what the peers hold
pub record RibTables : Type 0 where
  pub adj_in : RouteTable
  pub book : BookState
  pub chosen : ℕ
  pub sent : SentTable

-- no routes, nothing was chosen, and no peer holds anything
abbrev pub started : RibTables
started = record { adj_in = []; book = []; chosen = 0; sent = [] }

-- the count rose by this many at most
abbrev pub RisesBy : ℕ → RibTables → RibTables → Type 0
RisesBy most old new = (old.chosen ≤ new.chosen) × (new.chosen ≤ old.chosen + most)

-- one more choice is counted, unless the count stands at its greatest
abbrev pub CountsOne : RibTables → RibTables → Type 0
CountsOne old new = new.chosen ≡ min (old.chosen + 1) (2 ^ 64 - 1)

-- a best route of the prefix that is another now was chosen, and the count has it
abbrev pub CountsAnother : Prefix → RibTables → RibTables → Type 0
CountsAnother prefix old new = best_at (rows_of new.book) prefix ≢ best_at (rows_of old.book) prefix → CountsOne old new
