use Rattle.std.proofs.Common.{◌/◌, ◌%◌, arith, inl, inr}
use Rattle.net_prefix.proofs.Decimals.{short_decimal, decimal_from_two, length_from_one}
use Rattle.net_prefix.proofs.text.parse_length.Goals as goal

pub returns-in-len1 : goal.returns-in-len1
returns-in-len1 c = length_from_one _ _ (omega arith) c.digit.ensures

pub returns-in_err-ten-in-len2 : goal.returns-in_err-ten-in-len2
returns-in_err-ten-in-len2 c =
    rw c.from_residual.ensures
    (λ n small e. elim (short_decimal _ n small e) [
      | inl w ↦ omega (arith, w.0)
      | inr w ↦ c.in_err-ten-in-len2.ensures (n / 10) (omega arith) w.1
    ])

pub returns-in_err-one-in-len2 : goal.returns-in_err-one-in-len2
returns-in_err-one-in-len2 c =
    rw c.from_residual-in_err-one-in-len2.ensures
    (λ n small e. elim (short_decimal _ n small e) [
      | inl w ↦ omega (arith, w.0)
      | inr w ↦ c.in_err-one-in-len2.ensures (n % 10) (omega arith) w.2
    ])

pub returns-then-ten-eq0 : goal.returns-then-ten-eq0
returns-then-ten-eq0 c n small e =
    let ten = c.in_ok-ten-in-len2.ensures in
    elim (short_decimal _ n small e) [
      | inl w ↦ omega arith
      | inr w ↦ omega (arith, ten.1)
    ]

pub returns-else-ten-eq0 : goal.returns-else-ten-eq0
returns-else-ten-eq0 c =
    let ten = c.in_ok-ten-in-len2.ensures in
    let one = c.in_ok-one-in-len2.ensures in
    (omega (arith, ten, one), decimal_from_two _ _ _ (omega arith) ten.1 one.1 ten.0 one.0 (omega arith))

pub returns-in_default : goal.returns-in_default
returns-in_default c n small e = elim (short_decimal _ n small e) [ inl w ↦ omega arith | inr w ↦ omega arith ]

pub returns-in_default-2 : goal.returns-in_default-2
returns-in_default-2 c n small e = elim (short_decimal _ n small e) [ inl w ↦ omega arith | inr w ↦ omega arith ]
