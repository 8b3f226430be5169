-- What an operator of tests waits for (own).
use Rattle.std.specs.Prelude.{ℕ, zero, suc, List, [], Option, None, Some}
use Rattle.control_lines.specs.Talks.{shown_wish}
use Rattle.control_lines.specs.declared.operator.Operator.{Operator}
use Rattle.control_lines.specs.declared.talk.Wish.{Wish}
use Rattle.control_lines.specs.declared.talk.Wish.TheVariants.{Nothing}

-- only the key 0 has an operator
abbrev pub wish_at : {S : Type 0} → Option (Operator S) → ℕ → Wish
wish_at None key = Nothing
wish_at (Some operator) zero = shown_wish operator.talk
wish_at (Some operator) (suc key) = Nothing

-- the line; no octets where there is no operator
abbrev pub line_of : {S : Type 0} → Option (Operator S) → List ℕ
line_of None = []
line_of (Some operator) = operator.talk.line
