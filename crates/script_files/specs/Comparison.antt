-- The line in which two texts first differ.
use Rattle.std.specs.Prelude.{◌==◌, ◌-◌, ◌+◌, nat_le, ℕ, List, [], ◌∷◌, Option, Some, None, if◌then◌else◌}
use Rattle.script_files.specs.Lines.{lines_of, unended}

-- the line of what comes behind this octet of a line
abbrev pub line_behind : ℕ → ℕ → ℕ
line_behind octet line = if octet == 10 then line + 1 else line

-- where the texts go on in this line, the one in which they first differ, if they do: where the octets differ, or one ends
abbrev pub difference_from : ℕ → List ℕ → List ℕ → Option ℕ
difference_from line [] [] = None
difference_from line [] (b ∷ told) = Some line
difference_from line (a ∷ found) [] = Some line
difference_from line (a ∷ found) (b ∷ told) = if a == b then difference_from (line_behind a line) found told else Some line

-- the first line in which the texts differ, counted from 1
abbrev pub difference_of : List ℕ → List ℕ → Option ℕ
difference_of found told = difference_from 1 found told

-- of these lines the one of this number, counted from 1, without its line feed
abbrev pub line_among : ℕ → List (List ℕ) → List ℕ
line_among number [] = []
line_among number (line ∷ more) = if nat_le number 1 then unended line else line_among (number - 1) more

-- the line of this number
abbrev pub line_in : ℕ → List ℕ → List ℕ
line_in number text = line_among number (lines_of text)
