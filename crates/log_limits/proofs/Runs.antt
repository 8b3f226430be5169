-- Over any steps.
use Rattle.std.proofs.Common.{◌≡◌, ◌≤◌, ◌<◌, ◌+◌, ◌-◌, ◌^◌, ◌==◌, ℕ, Bool, true, false, List, [], ◌∷◌, Option, Some, None, if◌then◌else◌, nat_le, nat_lt, refl, sym, ap, subst, ◌∙◌, arith, inl, inr, ◌⊎◌}
use Rattle.std.proofs.lemmas.Bool.{ltb-true}
use Rattle.log_limits.specs.Limiting.{BeginsNone, CountsAll, Line, Moment, Step, WritesFew, behind, behind_moment, count_told, counting, is_over, lines_of, may_write, number_told, one_if, one_more, told_at, told_of, written_of}
use Rattle.log_limits.specs.declared.limit.LineLimit.{LineLimit}

same_minute : (over : Bool) (now : ℕ) (limit : LineLimit) → over ≡ false → (if over then record limit { since = now; written = 0; left_out = 0 } else limit) ≡ limit
same_minute false now limit none = refl
same_minute true now limit none = absurd cc

few_on : (may : Bool) (limit : LineLimit) → nat_lt limit.written limit.most ≡ may → limit.written ≤ limit.most
    → ((if may then record limit { written = limit.written + 1 } else record limit { left_out = one_more limit.left_out }).written ≤ limit.most)
    × ((if may then record limit { written = limit.written + 1 } else record limit { left_out = one_more limit.left_out }).written ≡ limit.written + one_if may)
    × ((if may then record limit { written = limit.written + 1 } else record limit { left_out = one_more limit.left_out }).most ≡ limit.most)
few_on true limit is few = (omega (arith, ltb-true limit.written limit.most is), refl, refl)
few_on false limit is few = (few, omega arith, refl)

pub writes_few : WritesFew
writes_few [] limit few none = omega (arith, few)
writes_few (Moment now ∷ steps) limit few none =
    let same = same_minute (is_over now limit) now limit none.0 in
    subst (λ (l : LineLimit). limit.written + written_of steps l ≤ limit.most) (sym same) (writes_few steps limit few none.1)
writes_few (Line ∷ steps) limit few none =
    let on = few_on (may_write limit) limit refl few in
    let rest = writes_few steps (counting limit) (omega (arith, on.0, on.2)) none in
    omega (arith, rest, on.1, on.2)

count_is : (count : ℕ) → number_told (count_told count) ≡ count
count_is count = grind arith

told_on : (over : Bool) (now : ℕ) (limit : LineLimit)
    → limit.left_out ≡ number_told (if over then count_told limit.left_out else None) + (if over then record limit { since = now; written = 0; left_out = 0 } else limit).left_out
told_on true now limit = omega (arith, count_is limit.left_out)
told_on false now limit = omega arith

one_goes_on : (count : ℕ) → count < 2 ^ 64 - 1 → one_more count ≡ count + 1
one_goes_on count below = grind arith

left_on : (may : Bool) (limit : LineLimit) → limit.left_out < 2 ^ 64 - 1
    → limit.left_out + 1 ≡ one_if may + (if may then record limit { written = limit.written + 1 } else record limit { left_out = one_more limit.left_out }).left_out
left_on true limit below = omega arith
left_on false limit below = omega (arith, one_goes_on limit.left_out below)

pub counts_all : CountsAll
counts_all [] limit below = omega arith
counts_all (Moment now ∷ steps) limit below =
    let on = told_on (is_over now limit) now limit in
    let rest = counts_all steps (behind_moment now limit) (omega (arith, on, below)) in
    omega (arith, on, rest)
counts_all (Line ∷ steps) limit below =
    let on = left_on (may_write limit) limit (omega (arith, below)) in
    let rest = counts_all steps (counting limit) (omega (arith, on, below)) in
    omega (arith, on, rest)
