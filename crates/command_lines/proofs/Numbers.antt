-- Numbers of digits alone.
use Rattle.std.proofs.Common.{◌≡◌, ◌≢◌, ◌<◌, ◌^◌, ℕ, true, List, [], ◌∷◌, Option, None, Some, IsSome, IsNone, Ok, Err, get_or, refl, sym, subst, arith}
use Rattle.std.proofs.lemmas.Grind.{common_steps}
use Rattle.std.proofs.lemmas.Str.Parse.{digit_at, without_leading_plus_none}
use Rattle.std.specs.Char.{is_ascii_digit}
use Rattle.std.specs.List.{AllPass}
use Rattle.std.specs.Str.Parse.{AllDigits, IsNumeral, ParsesUnsigned, digits_value, without_leading_plus}
use Rattle.command_lines.specs.Words.{Finds, WritesBits}

digits_pass : (text : List ℕ) → AllDigits 10 text → AllPass is_ascii_digit text
digits_pass text digits k d within = let at = digit_at text k digits within in grind (arith, common_steps, at)

pass_plain : (text : List ℕ) → AllPass is_ascii_digit text → get_or text 0 0 ≢ 43
pass_plain [] pass is = omega arith
pass_plain (octet ∷ text) pass is =
    let first : is_ascii_digit octet ≡ true = pass 0 0 (omega arith) in
    let wrong : is_ascii_digit 43 ≡ true = subst (λ o. is_ascii_digit o ≡ true) is first in
    cc

-- digits have no sign
pub plain : (text : List ℕ) → AllPass is_ascii_digit text → without_leading_plus text ≡ text
plain text pass = without_leading_plus_none text (pass_plain text pass)

-- a number is found just where digits write it
pub number_found : {E : Type 0} (bits : ℕ) (text : List ℕ) (found : Option ℕ) → (IsSome found → AllPass is_ascii_digit text) → ((n : ℕ) → found ≡ Some n → ParsesUnsigned {E = E} bits 10 text (Ok n))
    → (IsNone found → AllPass is_ascii_digit text → (why : E) × ParsesUnsigned {E = E} bits 10 text (Err why)) → Finds (WritesBits bits text) found
number_found bits text None digits value none = λ n writes.
    let pass = digits_pass text writes.0.0.1 in
    let bad = none refl pass in
    let same = plain text pass in
    bad.1 (rw same (writes.0.0, subst (λ m. m < 2 ^ bits) writes.0.1 writes.1))
number_found bits text (Some n) digits value none =
    let same = plain text (digits refl) in
    let gives = value n refl in
    let read : IsNumeral 10 text × (digits_value 10 text < 2 ^ bits) × (n ≡ digits_value 10 text) = rw (sym same) (gives.0.0, gives.0.1, gives.1) in
    ((read.0, read.2), subst (λ m. m < 2 ^ bits) (sym read.2) read.1)
