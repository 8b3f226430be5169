-- What sockets carried over calls of a wire, the newest first.
use Rattle.std.specs.Prelude.{◌==◌, ◌++◌, ℕ, if◌then◌else◌, List, [], ◌∷◌, take}
use Rattle.wires.specs.Calls.{WireCall, Read, Write}
use Rattle.wires.specs.declared.wire.Received.TheVariants.{Octets as Came}
use Rattle.wires.specs.declared.wire.Sent.TheVariants.{Octets as Went}

-- the octets that a call of the wire gave of the socket of this number, and those of all calls
abbrev pub given_by : ℕ → WireCall → List ℕ
given_by number (Read other buf (Came count)) = if other == number then take count buf else []
given_by number call = []

abbrev pub given : ℕ → List WireCall → List ℕ
given number [] = []
given number (call ∷ earlier) = given number earlier ++ given_by number call

-- the octets that it took
abbrev pub taken_by : ℕ → WireCall → List ℕ
taken_by number (Write other octets (Went count)) = if other == number then take count octets else []
taken_by number call = []

abbrev pub taken : ℕ → List WireCall → List ℕ
taken number [] = []
taken number (call ∷ earlier) = taken number earlier ++ taken_by number call
