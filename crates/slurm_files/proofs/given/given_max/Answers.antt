use Rattle.std.proofs.Common.{refl, arith}
use Rattle.json.specs.Value.{value_view}
use Rattle.vrp_csv.proofs.Digits.{two_digits}
use Rattle.slurm_files.specs.MemberNames.{name_of}
use Rattle.slurm_files.specs.declared.member.Member.TheVariants.{MaxPrefixLength}
use Rattle.slurm_files.proofs.GivenValues.{has_value, no_number, none_short}
use Rattle.slurm_files.proofs.given.given_max.Goals as goal

pub returns-in_default-as_number : goal.returns-in_default-as_number
returns-in_default-as_number g c = (
  refl,
  value_view c.in-Some.value.now,
  has_value c.name.result.now (name_of MaxPrefixLength) (value_view c.args.entry.now) (value_view c.in-Some.value.now) c.name.ensures c.in-Some.ensures,
  λ max_len given. no_number (value_view c.in-Some.value.now) 2 c.in_default-as_number.ensures max_len given,
)

pub overflow_cast-result : goal.overflow_cast-result
overflow_cast-result g c = omega (arith, two_digits _ _ c.in-Some-read_number.ensures)

pub returns-in-None : goal.returns-in-None
returns-in-None g c = (
  refl,
  value_view c.in-Some.value.now,
  has_value c.name.result.now (name_of MaxPrefixLength) (value_view c.args.entry.now) (value_view c.in-Some.value.now) c.name.ensures c.in-Some.ensures,
  none_short (value_view c.in-Some.value.now) c.in-Some-as_number.word.now c.in-Some-as_number.ensures (rw c.as_bytes.ensures.value at c.in-None.ensures),
)
