-- Moments in whole seconds, as they are handed in.
use Rattle.std.specs.Prelude.{◌+◌, ℕ, nat_le, Bool, false, Option, Some, None, if◌then◌else◌}

-- the last moment that can be handed in
abbrev pub last_moment : ℕ
last_moment = 18446744073709551615

-- so many seconds from now; no moment, where it would lie behind the last
abbrev pub from_now : ℕ → ℕ → Option ℕ
from_now now seconds = if nat_le (now + seconds) last_moment then Some (now + seconds) else None

-- the moment has come
abbrev pub has_come : Option ℕ → ℕ → Bool
has_come None now = false
has_come (Some moment) now = nat_le moment now
