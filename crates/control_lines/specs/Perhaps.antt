-- Operators, if there are any (own).
use Rattle.std.specs.Prelude.{◌≡◌, ℕ, List, [], Option, None, Some}
use Rattle.control_lines.specs.declared.talk.Wish.{Wish}
use Rattle.control_lines.specs.declared.talk.Wish.TheVariants.{Nothing}

-- nobody waits for anything
abbrev pub wish_of : {P : Type 0} → (P → ℕ → Wish) → Option P → ℕ → Wish
wish_of wish None key = Nothing
wish_of wish (Some operators) key = wish operators key

abbrev pub line_of : {P : Type 0} → (P → ℕ → List ℕ) → Option P → ℕ → List ℕ
line_of line None key = []
line_of line (Some operators) key = line operators key

-- nobody comes, and of those that are there becomes this
abbrev pub Becomes : {P : Type 0} → (P → P → Type 0) → Option P → Option P → Type 0
Becomes Goes None new = new ≡ None
Becomes {P} Goes (Some old) new = (operators : P) × (new ≡ Some operators) × Goes old operators
