use Rattle.slurm_files.proofs.NameLists.{fault_of_object}
use Rattle.slurm_files.proofs.names.object_fault.Goals as goal

pub returns-in-Object : goal.returns-in-Object
returns-in-Object g c =
    fault_of_object c.args.known.now c.names_fault.result c.args.value.now c.in-Object.members c.as_slice.result.now c.in-Object.is c.as_slice.ensures.value c.names_fault.ensures
