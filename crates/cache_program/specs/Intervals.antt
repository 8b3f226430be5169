-- When the list is due (own): so many seconds behind the first moment that is behind the last reading, so that routers are served for
-- as long between two readings, however long a reading takes.
use Rattle.std.specs.Prelude.{ℕ, Bool, Option, None, Some, unwrap_or}
use Rattle.log_lines.specs.Passing.{have_passed}
use Rattle.cache_watch.specs.declared.reread.Reread.{Reread}

-- from when the seconds count at a moment: from one before, or, where that is the first behind a reading, from this
abbrev pub counts_from : Option ℕ → ℕ → ℕ
counts_from since now = unwrap_or since now

abbrev pub is_due_at : Option ℕ → Option ℕ → ℕ → Bool
is_due_at seconds since now = have_passed seconds (counts_from since now) now

-- behind a reading they count from the next moment
abbrev pub noted : Option ℕ → Option Reread → Option ℕ
noted since None = since
noted since (Some led) = None

-- what is left behind a moment at which reading has led to this, if it was read
abbrev pub since_after : Option ℕ → ℕ → Option Reread → Option ℕ
since_after since now led = noted (Some (counts_from since now)) led
