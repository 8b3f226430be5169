-- How a writer goes on behind what stands there already.
use Rattle.std.specs.Prelude.{◌≡◌, ◌<◌, ◌+◌, ℕ, Bool, true, false, List, ◌++◌, length}

-- true: the octets stand behind the old ones; false: together they would take more than 4,096 octets
abbrev pub Appends : Bool → List ℕ → List ℕ → List ℕ → Type 0
Appends true old new octets = new ≡ old ++ octets
Appends false old new octets = 4096 < length old + length octets
