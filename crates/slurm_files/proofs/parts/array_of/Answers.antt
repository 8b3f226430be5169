use Rattle.json.specs.Value.{value_view}
use Rattle.slurm_files.specs.SlurmParts.{member_of}
use Rattle.slurm_files.proofs.Reading.{entries_of_array}
use Rattle.slurm_files.proofs.parts.array_of.Goals as goal

pub returns-in-Array : goal.returns-in-Array
returns-in-Array g c =
    entries_of_array c.args.member (member_of c.args.member (value_view c.args.value.now)) _ c.in-Array.entries c.as_slice.result.now c.in_ok-entries.ensures c.in-Array.is c.as_slice.ensures.value
