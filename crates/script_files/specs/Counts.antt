-- Counts of scripts.
use Rattle.std.specs.Prelude.{◌==◌, ◌+◌, ◌-◌, ◌^◌, ℕ, if◌then◌else◌}

-- one more, up to the greatest number of 64 bits
abbrev pub one_more : ℕ → ℕ
one_more count = if count == 2 ^ 64 - 1 then count else count + 1
