-- Seconds that pass.
use Rattle.std.specs.Prelude.{◌+◌, ℕ, Bool, false, nat_le, Option, None, Some}

-- whether so many seconds have passed since a moment; without a number they never have
abbrev pub have_passed : Option ℕ → ℕ → ℕ → Bool
have_passed None since now = false
have_passed (Some seconds) since now = nat_le (since + seconds) now
