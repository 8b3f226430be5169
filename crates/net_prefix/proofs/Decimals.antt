use Rattle.std.proofs.Common.{◌≡◌, ◌≢◌, ◌<◌, ◌≤◌, ◌+◌, ◌*◌, ◌/◌, ◌%◌, ◌⊎◌, ℕ, List, [], ◌∷◌, length, get_or, decimal, arith, refl, sym, ap, ◌∙◌, inl, inr, Option, None, Some, MatchOption}
use Rattle.std.proofs.lemmas.Fmt.{decimal_digit, decimal_step}
use Rattle.std.proofs.lemmas.Bool.{cases_lt}
use Rattle.net_prefix.specs.PrefixText.{WritesLength}

-- Decimal numbers of one and of two digits.

two_digits : (n : ℕ) → 10 ≤ n → n < 100 → decimal n ≡ (48 + n / 10) ∷ ((48 + n % 10) ∷ [])
two_digits n low high =
    decimal_step n low (omega arith) ∙ rw (decimal_digit (n / 10) (omega arith)) refl

-- the digits of a number below 100
abbrev pub IsShort : List ℕ → ℕ → Type 0
IsShort text n =
    ((length text ≡ 1) × (get_or text 0 0 ≡ 48 + n) × (n < 10))
    ⊎ ((length text ≡ 2) × (get_or text 0 0 ≡ 48 + n / 10) × (get_or text 1 0 ≡ 48 + n % 10) × (10 ≤ n))

pub short_decimal : (text : List ℕ) (n : ℕ) → n < 100 → text ≡ decimal n → IsShort text n
short_decimal text n small e =
    elim (cases_lt n 10) [
      | inl below ↦
          let is = e ∙ decimal_digit n below in
          inl (ap length is, ap (λ (xs : List ℕ). get_or xs 0 0) is, below)
      | inr above ↦
          let is = e ∙ two_digits n above small in
          inr (ap length is, ap (λ (xs : List ℕ). get_or xs 0 0) is, ap (λ (xs : List ℕ). get_or xs 1 0) is, above)
    ]

one_item : (text : List ℕ) → length text ≡ 1 → text ≡ get_or text 0 0 ∷ []
one_item [] e = absurd (omega (arith, e))
one_item (x ∷ []) e = refl
one_item (x ∷ (y ∷ xs)) e = absurd (omega (arith, e))

two_items : (text : List ℕ) → length text ≡ 2 → text ≡ get_or text 0 0 ∷ (get_or text 1 0 ∷ [])
two_items [] e = absurd (omega (arith, e))
two_items (x ∷ []) e = absurd (omega (arith, e))
two_items (x ∷ (y ∷ [])) e = refl
two_items (x ∷ (y ∷ (z ∷ xs))) e = absurd (omega (arith, e))

pub decimal_from_one : (text : List ℕ) (n : ℕ) → length text ≡ 1 → get_or text 0 0 ≡ 48 + n → n < 10 → text ≡ decimal n
decimal_from_one text n len is below =
    one_item text len ∙ ap (λ x. x ∷ []) is ∙ sym (decimal_digit n below)

pub decimal_from_two : (text : List ℕ) (ten one : ℕ) → length text ≡ 2 → get_or text 0 0 ≡ 48 + ten → get_or text 1 0 ≡ 48 + one → ten < 10 → one < 10 → 0 < ten → text ≡ decimal (ten * 10 + one)
decimal_from_two text ten one len is_ten is_one ten_fits one_fits some =
    let n = ten * 10 + one in
    let high : get_or text 0 0 ≡ 48 + n / 10 = omega (arith, is_ten) in
    let low : get_or text 1 0 ≡ 48 + n % 10 = omega (arith, is_one) in
    two_items text len ∙ ap (λ x. x ∷ (get_or text 1 0 ∷ [])) high ∙ ap (λ x. (48 + n / 10) ∷ (x ∷ [])) low
    ∙ sym (two_digits n (omega arith) (omega arith))

-- a text of one octet writes a length just where the octet is a digit
pub length_from_one : (text : List ℕ) (r : Option ℕ) → length text ≡ 1 → MatchOption r ((n : ℕ) → n < 10 → get_or text 0 0 ≢ 48 + n) (λ n. (n < 10) × (get_or text 0 0 ≡ 48 + n)) → WritesLength text r
length_from_one text None len other =
    λ n small e. elim (short_decimal text n small e) [ inl w ↦ other n w.2 w.1 | inr w ↦ omega (arith, w.0) ]
length_from_one text (Some n) len h = (omega (arith, h.0), decimal_from_one text n len h.1 h.0)
