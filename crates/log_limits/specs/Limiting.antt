-- So many lines a minute; those that are left out are counted, and the count is told when the minute is over (own).
use Rattle.std.specs.Prelude.{◌≡◌, ◌≤◌, ◌<◌, ◌+◌, ◌-◌, ◌^◌, ◌==◌, ℕ, suc, Bool, true, false, List, [], ◌∷◌, Option, Some, None, if◌then◌else◌, nat_le, nat_lt}
use Rattle.log_limits.specs.declared.limit.LineLimit.{LineLimit}

-- at the moment 0
abbrev pub beginning : ℕ → LineLimit
beginning most = record { most = most; since = 0; written = 0; left_out = 0 }

-- the minute is over
abbrev pub is_over : ℕ → LineLimit → Bool
is_over now limit = nat_le (limit.since + 60) now

-- the next one begins
abbrev pub behind_moment : ℕ → LineLimit → LineLimit
behind_moment now limit = if is_over now limit then record limit { since = now; written = 0; left_out = 0 } else limit

-- what is told then: how many lines were left out, if any were
abbrev pub count_told : ℕ → Option ℕ
count_told count = if count == 0 then None else Some count

abbrev pub told_at : ℕ → LineLimit → Option ℕ
told_at now limit = if is_over now limit then count_told limit.left_out else None

-- one more line may be written
abbrev pub may_write : LineLimit → Bool
may_write limit = nat_lt limit.written limit.most

-- a count goes on by one, and stays at the greatest u64
abbrev pub one_more : ℕ → ℕ
one_more count = if nat_lt count (2 ^ 64 - 1) then count + 1 else count

-- a line is written, or left out
abbrev pub counting : LineLimit → LineLimit
counting limit = if may_write limit then record limit { written = limit.written + 1 } else record limit { left_out = one_more limit.left_out }

-- what is done to a limit: a moment is told, or a line asks
pub data Step : Type 0 where
  Moment : (now : ℕ) → Step
  Line : Step

abbrev pub behind : List Step → LineLimit → LineLimit
behind [] limit = limit
behind (Moment now ∷ steps) limit = behind steps (behind_moment now limit)
behind (Line ∷ steps) limit = behind steps (counting limit)

-- how many lines asked, how many of them were written, and how many of those that weren't were told
abbrev pub lines_of : List Step → ℕ
lines_of [] = 0
lines_of (Moment now ∷ steps) = lines_of steps
lines_of (Line ∷ steps) = 1 + lines_of steps

abbrev pub one_if : Bool → ℕ
one_if true = 1
one_if false = 0

abbrev pub written_of : List Step → LineLimit → ℕ
written_of [] limit = 0
written_of (Moment now ∷ steps) limit = written_of steps (behind_moment now limit)
written_of (Line ∷ steps) limit = one_if (may_write limit) + written_of steps (counting limit)

abbrev pub number_told : Option ℕ → ℕ
number_told None = 0
number_told (Some count) = count

abbrev pub told_of : List Step → LineLimit → ℕ
told_of [] limit = 0
told_of (Moment now ∷ steps) limit = number_told (told_at now limit) + told_of steps (behind_moment now limit)
told_of (Line ∷ steps) limit = told_of steps (counting limit)

-- no minute begins
abbrev pub BeginsNone : List Step → LineLimit → Type 0
BeginsNone [] limit = Unit {0}
BeginsNone (Moment now ∷ steps) limit = (is_over now limit ≡ false) × BeginsNone steps limit
BeginsNone (Line ∷ steps) limit = BeginsNone steps (counting limit)

-- in a minute no more are written than may be
abbrev pub WritesFew : Type 0
WritesFew = (steps : List Step) (limit : LineLimit) → limit.written ≤ limit.most → BeginsNone steps limit → limit.written + written_of steps limit ≤ limit.most

-- each line is written, or told in a count, or still to be told
abbrev pub CountsAll : Type 0
CountsAll = (steps : List Step) (limit : LineLimit) → limit.left_out + lines_of steps < 2 ^ 64 - 1
    → limit.left_out + lines_of steps ≡ written_of steps limit + (told_of steps limit + (behind steps limit).left_out)
