-- How moments go on.
use Rattle.std.proofs.Common.{◌≡◌, ◌≤◌, ◌+◌, ◌-◌, ◌/◌, ℕ, Bool, true, false, List, [], ◌∷◌, max, min, nat_lt, if◌then◌else◌, arith}
use Rattle.std.proofs.Math.Nat.{le-max_right, max-le, min-le_left, min-le_right}
use Rattle.clocks.specs.Moments.{GoOnBySteps, IsNotBefore, NeverGoBack, first_of, latest, moments_of, paced, seconds_at, seconds_of}

goes_on : (test : Bool) (now last : ℕ) → last ≤ (if test then max (min now (last + 2)) last else last)
goes_on true now last = le-max_right (min now (last + 2)) last
goes_on false now last = omega arith

by_a_step : (test : Bool) (now last : ℕ) → (if test then max (min now (last + 2)) last else last) ≤ last + 2
by_a_step true now last = max-le (min-le_right now (last + 2)) (omega arith)
by_a_step false now last = omega arith

not_ahead : (test : Bool) (now last : ℕ) → last ≤ now → (if test then max (min now (last + 2)) last else last) ≤ now
not_ahead true now last before = max-le (min-le_left now (last + 2)) before
not_ahead false now last before = before

not_before : (now : ℕ) (moments : List ℕ) → latest moments ≤ now → IsNotBefore now moments
not_before now [] later = tt
not_before now (last ∷ moments) later = later

pub never_back : (instants : List ℕ) → NeverGoBack (moments_of instants)
never_back [] = tt
never_back (now ∷ instants) =
    (not_before _ (moments_of instants) (goes_on (nat_lt (seconds_at instants) (seconds_of instants now)) (seconds_of instants now) (latest (moments_of instants))), never_back instants)

pub by_steps : (instants : List ℕ) → GoOnBySteps (moments_of instants)
by_steps [] = tt
by_steps (now ∷ instants) =
    (by_a_step (nat_lt (seconds_at instants) (seconds_of instants now)) (seconds_of instants now) (latest (moments_of instants)), by_steps instants)

-- the seconds of a later instant are no fewer
seconds_go_on : (now : ℕ) (instants : List ℕ) → IsNotBefore now instants → seconds_at instants ≤ seconds_of instants now
seconds_go_on now [] later = omega arith
seconds_go_on now (before ∷ instants) later = apart before now (first_of instants before) later
  where
    apart : (before now first : ℕ) → before ≤ now → (before - first) / 1000000000 ≤ (now - first) / 1000000000
    apart before now first later = omega (arith, later)

pub never_ahead : (instants : List ℕ) → NeverGoBack instants → latest (moments_of instants) ≤ seconds_at instants
never_ahead [] all = omega arith
never_ahead (now ∷ instants) all =
    let so_far = never_ahead instants all.1 in
    let further = seconds_go_on now instants all.0 in
    not_ahead (nat_lt (seconds_at instants) (seconds_of instants now)) (seconds_of instants now) (latest (moments_of instants)) (omega (arith, so_far, further))
