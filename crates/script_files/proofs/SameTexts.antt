-- Texts are the same just where no line differs.
use Rattle.std.proofs.Common.{◌≡◌, ◌==◌, ℕ, true, List, [], ◌∷◌, None, Some, refl, sym, subst, if◌then◌else◌, arith}
use Rattle.std.proofs.lemmas.Bool.Decides.{nat_tests}
use Rattle.script_files.specs.Comparison.{difference_of, difference_from, line_behind}

pub none_from_the_same : (line : ℕ) (text : List ℕ) → difference_from line text text ≡ None
none_from_the_same line [] = refl
none_from_the_same line (octet ∷ text) =
    let rest = none_from_the_same (line_behind octet line) text in
    let same : (octet == octet) ≡ true = grind (arith, nat_tests) in
    subst (λ b. (if b then difference_from (line_behind octet line) text text else Some line) ≡ None) (sym same) rest

pub the_same_from : (line : ℕ) (found told : List ℕ) → difference_from line found told ≡ None → found ≡ told
the_same_from line [] [] none = refl
the_same_from line [] (b ∷ told) none = grind (arith, none)
the_same_from line (a ∷ found) [] none = grind (arith, none)
the_same_from line (a ∷ found) (b ∷ told) none =
    let rest = the_same_from (line_behind a line) found told in
    grind (arith, nat_tests, none, rest)

pub none_between_the_same : (found told : List ℕ) → found ≡ told → difference_of found told ≡ None
none_between_the_same found told same = subst (λ text. difference_of found text ≡ None) same (none_from_the_same 1 found)

pub the_same_where_none : (found told : List ℕ) → difference_of found told ≡ None → found ≡ told
the_same_where_none found told none = the_same_from 1 found told none
