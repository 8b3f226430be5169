-- The lines of a text, each with its line feed; the last one may lack it.
use Rattle.std.specs.Prelude.{◌==◌, ℕ, suc, List, [], ◌∷◌, if◌then◌else◌}

-- the octet stands in front of the first line
abbrev pub in_front : ℕ → List (List ℕ) → List (List ℕ)
in_front octet [] = (octet ∷ []) ∷ []
in_front octet (line ∷ more) = (octet ∷ line) ∷ more

-- the lines of a text
abbrev pub lines_of : List ℕ → List (List ℕ)
lines_of [] = []
lines_of (octet ∷ text) = if octet == 10 then (octet ∷ []) ∷ lines_of text else in_front octet (lines_of text)

-- how many octets the first line has, its feed among them
abbrev pub line_length : List ℕ → ℕ
line_length [] = 0
line_length (octet ∷ text) = if octet == 10 then 1 else suc (line_length text)

-- what stands before the first line feed
abbrev pub unended : List ℕ → List ℕ
unended [] = []
unended (octet ∷ text) = if octet == 10 then [] else octet ∷ unended text
