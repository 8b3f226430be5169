-- Places of operators, and what becomes of them (own).
use Rattle.std.specs.Prelude.{◌≡◌, ◌≢◌, ◌<◌, ◌⊎◌, ℕ, Bool, List, [], Option, None, Some, get_or, replicate, set, ⊤}
use Rattle.control_lines.specs.Talks.{SaysIf, Visits, shown_wish, silent}
use Rattle.control_lines.specs.declared.operator.Operator.{Operator}
use Rattle.control_lines.specs.declared.talk.Wish.{Wish}
use Rattle.control_lines.specs.declared.talk.Wish.TheVariants.{Nothing}

-- how many operators there may be at once
unfoldable pub most_operators : ℕ
most_operators = 16

-- nobody has come yet
abbrev pub AreFree : {S : Type 0} → List (Option (Operator S)) → Type 0
AreFree places = places ≡ replicate most_operators None

-- who is at the place of this key, if anybody is
abbrev pub place_at : {S : Type 0} → List (Option (Operator S)) → ℕ → Option (Operator S)
place_at places key = get_or places key None

-- what an operator waits for; nothing where there is none
abbrev pub wish_of : {S : Type 0} → Option (Operator S) → Wish
wish_of None = Nothing
wish_of (Some operator) = shown_wish operator.talk

abbrev pub wish_at : {S : Type 0} → List (Option (Operator S)) → ℕ → Wish
wish_at places key = wish_of (place_at places key)

-- the line of an operator; no octets where there is none
abbrev pub line_of : {S : Type 0} → Option (Operator S) → List ℕ
line_of None = []
line_of (Some operator) = operator.talk.line

abbrev pub line_at : {S : Type 0} → List (Option (Operator S)) → ℕ → List ℕ
line_at places key = line_of (place_at places key)

-- these octets are said to an operator, of whom nothing else changes
pub record IsSaid {S : Type 0} (goes_on : Bool) (octets : List ℕ) (old new : Operator S) : Type 0 where
  pub said : SaysIf (shown_wish old.talk) goes_on octets old.talk new.talk
  pub moved : new.moved ≡ old.moved
  pub stream : new.stream ≡ old.stream

-- they are to who is at a place, if anybody is
abbrev pub IsSaidTo : {S : Type 0} → Bool → List ℕ → Option (Operator S) → Option (Operator S) → Type 0
IsSaidTo goes_on octets None new = new ≡ None
IsSaidTo goes_on octets (Some old) None = ⊥
IsSaidTo goes_on octets (Some old) (Some new) = IsSaid goes_on octets old new

-- they are to the operator of this key, and all other places are as they were
pub record HearsAt {S : Type 0} (key : ℕ) (octets : List ℕ) (goes_on : Bool) (old new : List (Option (Operator S))) : Type 0 where
  pub said : IsSaidTo goes_on octets (place_at old key) (place_at new key)
  pub others : (other : ℕ) → other ≢ key → place_at new other ≡ place_at old other

-- a visit at a moment to who is at a place, if anybody is: who is gone loses it
abbrev pub IsVisited : {S : Type 0} → ℕ → Option (Operator S) → Option (Operator S) → Type 0
IsVisited now None new = new ≡ None
IsVisited now (Some old) None = ⊤
IsVisited now (Some old) (Some new) =
    (has_moved : Bool) × (before after taken behind : Option (List ℕ)) × Visits (Some has_moved) now old.moved new.moved old.talk new.talk before after taken behind

-- nobody has come; or one has at this moment, of whom nothing has come yet, to a place where nobody was, one of so many
abbrev pub LetsIn : {S : Type 0} → ℕ → List (Option (Operator S)) → List (Option (Operator S)) → Type 0
LetsIn {S} now old new =
    (new ≡ old)
    ⊎ ((key : ℕ) × (operator : Operator S) × (key < most_operators) × (place_at old key ≡ None) × (operator.talk ≡ silent) × (operator.moved ≡ now) × (new ≡ set old key (Some operator)))

-- a turn at a moment: one who has come is let in, and then each is visited
pub record Turns {S : Type 0} (now : ℕ) (old new : List (Option (Operator S))) : Type 0 where
  pub between : List (Option (Operator S))
  pub lets_in : LetsIn now old between
  pub visits : (key : ℕ) → IsVisited now (place_at between key) (place_at new key)
