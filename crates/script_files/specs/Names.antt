-- Names in a list.
use Rattle.std.specs.Prelude.{◌==◌, not, ℕ, Bool, false, List, [], ◌∷◌, if◌then◌else◌}
use Rattle.script_files.specs.Lines.{lines_of, unended}

-- the line without its line feed is a name: it isn't empty, and doesn't begin with `#`
abbrev pub is_name : List ℕ → Bool
is_name [] = false
is_name (octet ∷ text) = not (octet == 35)

-- the names among the lines
abbrev pub names_among : List (List ℕ) → List (List ℕ)
names_among [] = []
names_among (line ∷ more) = if is_name (unended line) then unended line ∷ names_among more else names_among more

-- the names that a list has, in its order
abbrev pub names_in : List ℕ → List (List ℕ)
names_in list = names_among (lines_of list)
