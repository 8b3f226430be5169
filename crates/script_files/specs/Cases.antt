-- The cases of a file.
use Rattle.std.specs.Prelude.{◌==◌, ◌||◌, ◌+◌, ◌++◌, ℕ, Bool, List, [], ◌∷◌, codes, count_by, max, if◌then◌else◌}
use Rattle.std.specs.List.{starts_with}
use Rattle.script_files.specs.Lines.{lines_of}

-- the line begins a case
abbrev pub is_head : List ℕ → Bool
is_head line = starts_with (λ a b. a == b) line (codes "# case")

-- how many cases a file has: as many as such lines, and one where there is none
abbrev pub cases_in : List ℕ → ℕ
cases_in text = max 1 (count_by is_head (lines_of text))

-- of lines that stand in the case of this number, or in front of the first one, where it is 0, those that the wanted one has
abbrev pub lines_for : ℕ → ℕ → List (List ℕ) → List ℕ
lines_for wanted at [] = []
lines_for wanted at (line ∷ more) =
    if is_head line then lines_for wanted (at + 1) more
    else if at == 0 || at == wanted then line ++ lines_for wanted at more
    else lines_for wanted at more

-- the case of this number, counted from 1: what stands in front of the first one, and what stands behind its line
abbrev pub case_in : ℕ → List ℕ → List ℕ
case_in wanted text = lines_for wanted 0 (lines_of text)
