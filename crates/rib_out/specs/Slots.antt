-- Sets of slots, as numbers with a bit a slot.
use Rattle.std.specs.Prelude.{ℕ, ◌==◌, Bool}
use Rattle.std.specs.Int.{bit_at}

-- whether the slot is one of the set
abbrev pub has_slot : ℕ → ℕ → Bool
has_slot slots slot = bit_at slots slot == 1
