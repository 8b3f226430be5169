-- The first line of a text, and what stands behind it.
use Rattle.std.proofs.Common.{◌≡◌, ◌==◌, ◌+◌, ◌<◌, ◌≤◌, ℕ, suc, Bool, true, false, List, [], ◌∷◌, take, drop, length, refl, ap, if◌then◌else◌, arith}
use Rattle.std.proofs.lemmas.Bool.Decides.{nat_tests}
use Rattle.script_files.specs.Lines.{in_front, line_length, lines_of, unended}

lines_behind : (is_feed : Bool) (octet : ℕ) (text : List ℕ) → lines_of text ≡ take (line_length text) text ∷ lines_of (drop (line_length text) text)
    → (if is_feed then (octet ∷ []) ∷ lines_of text else in_front octet (lines_of text))
    ≡ take (if is_feed then 1 else suc (line_length text)) (octet ∷ text) ∷ lines_of (drop (if is_feed then 1 else suc (line_length text)) (octet ∷ text))
lines_behind true octet text rest = refl
lines_behind false octet text rest = ap (in_front octet) rest

lines_of_one : (is_feed : Bool) (octet : ℕ)
    → (if is_feed then (octet ∷ []) ∷ [] else (octet ∷ []) ∷ [])
    ≡ take (if is_feed then 1 else suc 0) (octet ∷ []) ∷ lines_of (drop (if is_feed then 1 else suc 0) (octet ∷ []))
lines_of_one true octet = refl
lines_of_one false octet = refl

pub lines_from : (text : List ℕ) → 0 < length text → lines_of text ≡ take (line_length text) text ∷ lines_of (drop (line_length text) text)
lines_from [] some = grind (arith, some)
lines_from (octet ∷ []) some = lines_of_one (octet == 10) octet
lines_from (octet ∷ next ∷ text) some = lines_behind (octet == 10) octet (next ∷ text) (lines_from (next ∷ text) (omega arith))

pub some_line : (text : List ℕ) → 0 < length text → 0 < line_length text
some_line [] some = some
some_line (octet ∷ text) some = grind (arith, nat_tests)

pub ended : (text : List ℕ) → length (unended text) < length text → length (unended text) + 1 ≡ line_length text
ended [] less = grind (arith, less)
ended (octet ∷ text) less =
    let rest = ended text in
    grind (arith, nat_tests, rest, less)

pub not_ended : (text : List ℕ) → length text ≤ length (unended text) → length (unended text) ≡ line_length text
not_ended [] whole = refl
not_ended (octet ∷ text) whole =
    let rest = not_ended text in
    grind (arith, nat_tests, rest, whole)

pub unended_is_shorter : (text : List ℕ) → length (unended text) ≤ length text
unended_is_shorter [] = omega arith
unended_is_shorter (octet ∷ text) =
    let rest = unended_is_shorter text in
    grind (arith, nat_tests, rest)

pub take_unended : (text : List ℕ) → take (length (unended text)) text ≡ unended text
take_unended [] = refl
take_unended (octet ∷ text) =
    let rest = take_unended text in
    grind (arith, nat_tests, rest)

pub line_fits : (text : List ℕ) → line_length text ≤ length text
line_fits [] = omega arith
line_fits (octet ∷ text) =
    let rest = line_fits text in
    grind (arith, nat_tests, rest)
