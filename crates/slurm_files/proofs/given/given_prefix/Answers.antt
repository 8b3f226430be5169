use Rattle.std.proofs.Common.{sym}
use Rattle.json.specs.Value.{value_view}
use Rattle.slurm_files.specs.MemberNames.{name_of}
use Rattle.slurm_files.specs.declared.member.Member.TheVariants.{Prefix}
use Rattle.slurm_files.proofs.GivenValues.{has_value}
use Rattle.slurm_files.proofs.given.given_prefix.Goals as goal

pub returns-then-contains : goal.returns-then-contains
returns-then-contains g c =
    let colon = rw c.as_bytes.ensures.value at (sym c.if-contains.ensures.value) in
    (c.in-Some-as_str.text.now, (value_view c.in-Some.value.now, has_value c.name.result.now (name_of Prefix) (value_view c.args.entry.now) (value_view c.in-Some.value.now) c.name.ensures c.in-Some.ensures, sym c.in-Some-as_str.ensures, colon))

pub returns-in-Err : goal.returns-in-Err
returns-in-Err g c =
    let colon = rw c.as_bytes.ensures.value at (sym c.if-contains.ensures.value) in
    (c.in-Some-as_str.text.now, (value_view c.in-Some.value.now, has_value c.name.result.now (name_of Prefix) (value_view c.args.entry.now) (value_view c.in-Some.value.now) c.name.ensures c.in-Some.ensures, sym c.in-Some-as_str.ensures, colon), c.in-Err.ensures)
