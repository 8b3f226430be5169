use Rattle.slurm_files.proofs.Meanings.{no_memory, slurm_one}
use Rattle.slurm_files.proofs.meaning.files_mean_one_thing.Goals as goal

pub returns-clause-one : goal.returns-clause-one
returns-clause-one c = slurm_one

pub returns-clause-memory : goal.returns-clause-memory
returns-clause-memory c = no_memory
