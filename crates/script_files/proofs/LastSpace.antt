-- Texts up to their last space, and behind it.
use Rattle.std.proofs.Common.{◌≡◌, ◌≤◌, ℕ, Bool, true, false, List, [], ◌∷◌, take, drop, length, refl, ap, if◌then◌else◌, arith}
use Rattle.script_files.specs.Cuts.{digits_of, has_space, words_of}

words_taken : (spaced : Bool) (octet : ℕ) (text : List ℕ) → take (length (words_of text)) text ≡ words_of text
    → take (length (if spaced then octet ∷ words_of text else [])) (octet ∷ text) ≡ (if spaced then octet ∷ words_of text else [])
words_taken true octet text rest = ap (λ words. octet ∷ words) rest
words_taken false octet text rest = refl

pub take_words : (text : List ℕ) → take (length (words_of text)) text ≡ words_of text
take_words [] = refl
take_words (octet ∷ text) = words_taken (has_space (octet ∷ text)) octet text (take_words text)

words_dropped : (spaced : Bool) (octet : ℕ) (text : List ℕ) → drop (length (words_of text)) text ≡ digits_of text
    → drop (length (if spaced then octet ∷ words_of text else [])) (octet ∷ text) ≡ (if spaced then digits_of text else octet ∷ text)
words_dropped true octet text rest = rest
words_dropped false octet text rest = refl

pub drop_words : (text : List ℕ) → drop (length (words_of text)) text ≡ digits_of text
drop_words [] = refl
drop_words (octet ∷ text) = words_dropped (has_space (octet ∷ text)) octet text (drop_words text)

words_counted : (spaced : Bool) (octet : ℕ) (text : List ℕ) → length (words_of text) ≤ length text
    → length (if spaced then octet ∷ words_of text else []) ≤ length (octet ∷ text)
words_counted true octet text rest = omega (arith, rest)
words_counted false octet text rest = omega arith

pub words_fit : (text : List ℕ) → length (words_of text) ≤ length text
words_fit [] = omega arith
words_fit (octet ∷ text) = words_counted (has_space (octet ∷ text)) octet text (words_fit text)

without_space : (spaced : Bool) (octet : ℕ) (text : List ℕ) → spaced ≡ false → length (if spaced then octet ∷ words_of text else []) ≡ 0
without_space true octet text none = grind (arith, none)
without_space false octet text none = refl

pub no_words : (text : List ℕ) → has_space text ≡ false → length (words_of text) ≡ 0
no_words [] none = refl
no_words (octet ∷ text) none = without_space (has_space (octet ∷ text)) octet text none
