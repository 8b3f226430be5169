use Rattle.speaker_program.proofs.Saying.{said_badly, said_well}
use Rattle.speaker_program.proofs.exceptions.said_in.Goals as goal

pub returns-in-Ok-clause-said : goal.returns-in-Ok-clause-said
returns-in-Ok-clause-said c = said_well c.args.octets.now c.in-Ok.said c.read_slurm.result c.in-Ok.is c.read_slurm.ensures

pub returns-in-Err-clause-faulty : goal.returns-in-Err-clause-faulty
returns-in-Err-clause-faulty c = (c.in-Err.fault, said_badly c.args.octets.now c.in-Err.fault c.read_slurm.result c.in-Err.is c.read_slurm.ensures, c.bad_file.ensures.exceptions)
