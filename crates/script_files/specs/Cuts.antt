-- Scripts whose messages are cut.
use Rattle.std.specs.Prelude.{◌==◌, ◌*◌, ◌/◌, ◌-◌, ◌++◌, ℕ, Bool, false, List, [], ◌∷◌, codes, drop, length, max, take, if◌then◌else◌}
use Rattle.std.specs.List.{list_any}
use lib.Pointwise.{pointwise}
use Rattle.script_files.specs.Lines.{lines_of, unended}

unfoldable pub cut_line : List ℕ
cut_line = codes "# cut the next line at each octet\n"

unfoldable pub rest_line : List ℕ
rest_line = codes "# the rest comes\n"

-- the line says that the next one is cut
abbrev pub is_cut : List ℕ → Bool
is_cut line = pointwise (λ a b. a == b) line cut_line

-- the line says that the rest of the one that was cut comes
abbrev pub is_rest : List ℕ → Bool
is_rest line = pointwise (λ a b. a == b) line rest_line

-- there is a space in the text
abbrev pub has_space : List ℕ → Bool
has_space text = list_any (λ octet. octet == 32) text

-- what stands up to the last space, with it: the words of a line
abbrev pub words_of : List ℕ → List ℕ
words_of [] = []
words_of (octet ∷ text) = if has_space (octet ∷ text) then octet ∷ words_of text else []

-- what stands behind the last space: the digits of a line's octets
abbrev pub digits_of : List ℕ → List ℕ
digits_of [] = []
digits_of (octet ∷ text) = if has_space (octet ∷ text) then digits_of text else octet ∷ text

-- how many places of a cut the first of these lines has: one before each octet but the first, and at least one
abbrev pub places_in : List (List ℕ) → ℕ
places_in [] = 1
places_in (line ∷ more) = max (length (digits_of (unended line)) / 2 - 1) 1

-- how often these lines are played: once for each place of the first line that is cut, and once where there is none
abbrev pub plays_among : List (List ℕ) → ℕ
plays_among [] = 1
plays_among (line ∷ more) = if is_cut line then places_in more else plays_among more

-- how often a script is played
abbrev pub plays_of : List ℕ → ℕ
plays_of script = plays_among (lines_of script)

-- the lines with so many octets before each cut; this line is cut where the one before it says so, and what of the last
-- one that was cut stands behind its cut comes where a line says so
abbrev pub cut_lines : ℕ → Bool → List ℕ → List ℕ → List (List ℕ) → List ℕ
cut_lines place cuts words held [] = []
cut_lines place cuts words held (line ∷ more) =
    if cuts then
    (words_of (unended line) ++ (take (place * 2) (digits_of (unended line)) ++ (10 ∷ [])))
    ++ cut_lines place (is_cut line) (words_of (unended line)) (drop (place * 2) (digits_of (unended line))) more
    else if is_rest line then (words ++ (held ++ (10 ∷ []))) ++ cut_lines place (is_cut line) words held more
    else line ++ cut_lines place (is_cut line) words held more

-- the script with so many octets before each cut
abbrev pub script_cut : ℕ → List ℕ → List ℕ
script_cut place script = cut_lines place false [] [] (lines_of script)
