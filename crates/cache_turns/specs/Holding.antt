-- What routers hold: for the client of each connection the serial of the last End of Data that was handed out whole for it (RFC 8210 section 5.8).
use Rattle.std.specs.Prelude.{◌==◌, ◌+◌, ℕ, suc, Bool, true, false, not, List, [], ◌∷◌, Option, Some, None, count_by, is_none}
use Rattle.rtr_cache.specs.CacheState.{CacheState, client_at, held_serial}
use Rattle.cache_turns.specs.Turns.{Turns}
use Rattle.cache_turns.specs.declared.holding.Holding.{Holding}

-- what the client of each connection holds, from a key on
abbrev pub held_from : {X : Type 0} → CacheState → ℕ → List (Option X) → List (Option ℕ)
held_from cache key [] = []
held_from cache key (None ∷ links) = held_from cache (suc key) links
held_from cache key (Some link ∷ links) = held_serial (client_at cache key) ∷ held_from cache (suc key) links

-- what that of each connection of a loop holds
abbrev pub held : Turns → List (Option ℕ)
held turns = held_from turns.cache 0 turns.links

-- it holds this serial
abbrev pub is_current : ℕ → Option ℕ → Bool
is_current serial None = false
is_current serial (Some other) = other == serial

-- it holds another one
abbrev pub is_behind : ℕ → Option ℕ → Bool
is_behind serial None = false
is_behind serial (Some other) = not (other == serial)

-- how many hold this serial, another one, and none
abbrev pub holding_of : ℕ → List (Option ℕ) → Holding
holding_of serial held =
    record { current = count_by (is_current serial) held; behind = count_by (is_behind serial) held; without = count_by is_none held }

-- one more, where it is counted
abbrev pub one_if : Bool → ℕ → ℕ
one_if true count = count + 1
one_if false count = count

-- one more that holds this
abbrev pub counting : ℕ → Option ℕ → Holding → Holding
counting serial holds counted =
    record { current = one_if (is_current serial holds) counted.current; behind = one_if (is_behind serial holds) counted.behind; without = one_if (is_none holds) counted.without }
