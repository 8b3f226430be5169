-- The requests that are made of an allocator, of which the nth is refused.
use Rattle.std.specs.Prelude.{ℕ, ◌-◌, ◌==◌, nat_le, suc, Bool}

-- how many requests are left up to the nth, after some were made
abbrev pub left_of : ℕ → ℕ → ℕ
left_of nth made = nth - made

-- the request after those that were made is the nth
abbrev pub is_nth : ℕ → ℕ → Bool
is_nth nth made = suc made == nth

-- the nth is among those that were made
abbrev pub was_made : ℕ → ℕ → Bool
was_made nth made = nat_le nth made
