-- How the lines of a text follow one another.
use Rattle.std.proofs.Common.{◌≡◌, ◌==◌, ◌<◌, ℕ, true, false, List, [], ◌∷◌, Option, None, Some, IfSome, length, nat_eq, not, refl, sym, ap, subst, ◌∙◌, if◌then◌else◌, arith}
use Rattle.std.proofs.lemmas.Bool.Decides.{nat_tests}
use Rattle.std.specs.Io.BufRead.{drop_through, take_through, DropsThrough}
use Rattle.scenario.specs.FileLines.{in_front, lines, ReadsLine}

-- the first line goes up to the first line feed, and the others are those of the rest
pub lines_cut : (octet : ℕ) (text : List ℕ) → lines (octet ∷ text) ≡ take_through 10 (octet ∷ text) ∷ lines (drop_through 10 (octet ∷ text))
lines_cut octet [] = elim (octet == 10) as (λ b. (if b then (octet ∷ []) ∷ [] else (octet ∷ []) ∷ []) ≡ (if b then octet ∷ [] else octet ∷ []) ∷ lines (if b then [] else [])) [ true ↦ refl | false ↦ refl ]
lines_cut octet (next ∷ text) =
    let rest = lines_cut next text in
    elim (octet == 10) as (λ b. (if b then (octet ∷ []) ∷ lines (next ∷ text) else in_front octet (lines (next ∷ text))) ≡ (if b then octet ∷ [] else octet ∷ take_through 10 (next ∷ text)) ∷ lines (if b then next ∷ text else drop_through 10 (next ∷ text))) [
      | true ↦ refl
      | false ↦ ap (in_front octet) rest
    ]

-- where a line is left, some octets of it are
some_read : (octet : ℕ) (text : List ℕ) → 0 < length (take_through 10 (octet ∷ text))
some_read octet text = elim (octet == 10) as (λ b. 0 < length (if b then octet ∷ [] else octet ∷ take_through 10 text)) [ true ↦ omega arith | false ↦ omega arith ]

-- what was read through the first line feed is the first line, if there is one
pub line_read : (old new : Option (List ℕ)) (line : List ℕ) (count : ℕ) → length line ≡ count → IfSome old (λ text. line ≡ take_through 10 text) → DropsThrough old new 10 → ReadsLine old (not (nat_eq count 0)) line new
line_read None new line count counted bytes rest = elim (not (nat_eq count 0)) as (λ b. ReadsLine None b line new) [ true ↦ tt | false ↦ tt ]
line_read (Some []) new line count counted bytes rest =
    let none : count ≡ 0 = sym counted ∙ ap (λ (l : List ℕ). length l) bytes in
    rw none refl
line_read (Some (octet ∷ text)) new line count counted bytes rest =
    let read : length line ≡ length (take_through 10 (octet ∷ text)) = ap (λ (l : List ℕ). length l) bytes in
    let some : 0 < length (take_through 10 (octet ∷ text)) = some_read octet text in
    let there : not (nat_eq count 0) ≡ true = let more : 0 < count = omega arith in grind (arith, nat_tests) in
    let cut : lines (octet ∷ text) ≡ line ∷ lines (drop_through 10 (octet ∷ text)) = lines_cut octet text ∙ ap (λ (l : List ℕ). l ∷ lines (drop_through 10 (octet ∷ text))) (sym bytes) in
    subst (λ b. ReadsLine (Some (octet ∷ text)) b line new) (sym there) (cut, rest)
