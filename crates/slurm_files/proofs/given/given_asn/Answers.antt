use Rattle.std.proofs.Common.{refl}
use Rattle.json.specs.Value.{value_view}
use Rattle.slurm_files.specs.MemberNames.{name_of}
use Rattle.slurm_files.specs.declared.member.Member.TheVariants.{Asn}
use Rattle.slurm_files.proofs.GivenValues.{has_value, no_number, none_written}
use Rattle.slurm_files.proofs.given.given_asn.Goals as goal

pub returns-in_default-as_number : goal.returns-in_default-as_number
returns-in_default-as_number g c = (
  refl,
  value_view c.in-Some.value.now,
  has_value c.name.result.now (name_of Asn) (value_view c.args.entry.now) (value_view c.in-Some.value.now) c.name.ensures c.in-Some.ensures,
  λ asn less given. no_number (value_view c.in-Some.value.now) 10 c.in_default-as_number.ensures asn given,
)

pub returns-in-None : goal.returns-in-None
returns-in-None g c = (
  refl,
  value_view c.in-Some.value.now,
  has_value c.name.result.now (name_of Asn) (value_view c.args.entry.now) (value_view c.in-Some.value.now) c.name.ensures c.in-Some.ensures,
  none_written (value_view c.in-Some.value.now) c.in-Some-as_number.word.now 10 c.in-Some-as_number.ensures (rw c.as_bytes.ensures.value at c.in-None.ensures),
)
