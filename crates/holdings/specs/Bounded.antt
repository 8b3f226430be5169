-- How many holdings there are of one prefix: no more than its peers need, and one that was made ready (own).
use Rattle.std.specs.Prelude.{ℕ, ◌≡◌, ◌≤◌, ◌<◌, ◌^◌, ◌==◌, ◌+◌, true, List, [], ◌∷◌, None, ⊤, if◌then◌else◌}
use Rattle.holdings.specs.Holdings.{Holding, IsListedAmong, octets_among}
use Rattle.rib_out.specs.Slots.{has_slot}

-- each has slots of the 64, and no slot is of two of them
abbrev pub AreApart : List Holding → Type 0
AreApart [] = ⊤
AreApart (h ∷ hs) = (h.slots < 2 ^ 64) × ((s : ℕ) → has_slot h.slots s ≡ true → octets_among hs s ≡ None) × AreApart hs

-- how many of them no peer holds
abbrev pub unheld_count : List Holding → ℕ
unheld_count [] = 0
unheld_count (h ∷ hs) = (if h.slots == 0 then 1 else 0) + unheld_count hs

-- each list of octets is there once
abbrev pub AreUnlike : List Holding → Type 0
AreUnlike [] = ⊤
AreUnlike (h ∷ hs) = (IsListedAmong h.octets hs → ⊥) × AreUnlike hs

-- what holds always: each list of octets is there once, and a holding that no peer holds is the one that was made ready
abbrev pub AreBounded : List Holding → Type 0
AreBounded hs = AreApart hs × AreUnlike hs × (unheld_count hs ≤ 1)

-- each of them is held by some peer, so that there are no more than peers
abbrev pub IsCompact : List Holding → Type 0
IsCompact hs = AreApart hs × (unheld_count hs ≡ 0)
