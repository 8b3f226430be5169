-- What a socket carries over all turns, beside what its client heard and what the cache handed out for it.
use Rattle.std.specs.Prelude.{◌≡◌, ◌==◌, ◌++◌, ℕ, if◌then◌else◌, List, [], ◌∷◌, Some}
use Rattle.rtr_cache.specs.CacheState.{CacheState, client_at}
use Rattle.rtr_cache.specs.CacheTable.{fresh_conn}
use Rattle.rtr_cache.specs.ClientHistory.{Call, Heard, IsRun, IsToldWhole, StaysUp, Turn, handed_out}
use Rattle.cache_turns.specs.Serving.{Connection}
use Rattle.cache_turns.specs.Turns.{Turns}
use Rattle.wires.specs.Carried.{given, taken}

-- the octets that the client of the key hears by a call of the cache, and by all calls
abbrev pub heard_by : ℕ → Call → List ℕ
heard_by key (Heard heard octets result) = if heard == key then octets else []
heard_by key call = []

abbrev pub heard : ℕ → List Turn → List ℕ
heard key [] = []
heard key (turn ∷ earlier) = heard key earlier ++ heard_by key turn.call

-- The connection of a client of a cache that was the first one at its beginning, over all calls since the client came up: the client has heard just what its socket gave; what its socket took, and what waits for it, is just
-- what the cache handed out for the client; and that, with what the cache has queued for it, are whole PDUs of what the client was told, each response of one published version.
pub record CarriesWhole (first : CacheState) (turns : Turns) (key : ℕ) (link : Connection) : Type 0 where
  pub before : List Turn
  pub start : CacheState
  pub history : List Turn
  pub made : IsRun first before start
  pub fresh : client_at start key ≡ Some fresh_conn
  pub run : IsRun start history turns.cache
  pub up : StaysUp key history
  pub hears : heard key history ≡ given link.number turns.counts.wire.calls
  pub takes : handed_out key history ≡ taken link.number turns.counts.wire.calls ++ link.waiting
  pub whole : IsToldWhole key history (client_at turns.cache key)
