-- Moments that a clock tells.
use Rattle.std.specs.Prelude.{◌≡◌, ◌≤◌, ◌+◌, ◌-◌, ◌/◌, ℕ, ⊤, max, min, nat_lt, List, [], ◌∷◌, Option, Some, None, option_map, if◌then◌else◌}
use Rattle.std.specs.Time.{instant_nanos}
use Rattle.std.specs.declared.time.Instant.{Instant}

-- the moment isn't before the last of these, the last one first
abbrev pub IsNotBefore : ℕ → List ℕ → Type 0
IsNotBefore now [] = ⊤
IsNotBefore now (last ∷ moments) = last ≤ now

-- none of the moments is before the one that was told before it
abbrev pub NeverGoBack : List ℕ → Type 0
NeverGoBack [] = ⊤
NeverGoBack (now ∷ moments) = IsNotBefore now moments × NeverGoBack moments

-- the last of these moments, the last one first; 0 where there is none
abbrev pub latest : List ℕ → ℕ
latest [] = 0
latest (now ∷ moments) = now

-- each of the moments is two seconds at most behind the one before it, and the first is 2 at most
abbrev pub GoOnBySteps : List ℕ → Type 0
GoOnBySteps [] = ⊤
GoOnBySteps (now ∷ moments) = (now ≤ latest moments + 2) × GoOnBySteps moments

-- the first of these instants and one behind them, the last one first
abbrev pub first_of : List ℕ → ℕ → ℕ
first_of [] now = now
first_of (before ∷ instants) now = first_of instants before

-- the whole seconds from the first of these instants to one behind them
abbrev pub seconds_of : List ℕ → ℕ → ℕ
seconds_of instants now = (now - first_of instants now) / 1000000000

-- those to the last of them; 0 where there is none
abbrev pub seconds_at : List ℕ → ℕ
seconds_at [] = 0
seconds_at (now ∷ instants) = seconds_of instants now

-- the moment behind a moment, where the seconds have gone on from `before` to `now`: it goes on to them, but by two seconds at
-- most, and never back
abbrev pub paced : ℕ → ℕ → ℕ → ℕ
paced before now last = if nat_lt before now then max (min now (last + 2)) last else last

-- what a clock tells that the system's clock answered these instants, in nanoseconds, the last one first: at each the whole
-- seconds since the first, as far as its pace allows
abbrev pub moments_of : List ℕ → List ℕ
moments_of [] = []
moments_of (now ∷ instants) = paced (seconds_at instants) (seconds_of instants now) (latest (moments_of instants)) ∷ moments_of instants

-- the first of these instants, if there is one
abbrev pub first_if_any : List ℕ → Option ℕ
first_if_any [] = None
first_if_any (now ∷ instants) = Some (first_of instants now)

-- what is kept of the instants: the first, the seconds from there to the last one, and the last moment that was told
pub record IsKept (start : Option Instant) (seconds last : ℕ) (instants : List ℕ) : Type 0 where
  pub started : option_map instant_nanos start ≡ first_if_any instants
  pub went : seconds ≡ seconds_at instants
  pub told : last ≡ latest (moments_of instants)

-- what a clock has told behind these moments, the last one first
abbrev pub told_behind : List ℕ → List ℕ → List ℕ
told_behind [] before = before
told_behind (now ∷ moments) before = told_behind moments (now ∷ before)
