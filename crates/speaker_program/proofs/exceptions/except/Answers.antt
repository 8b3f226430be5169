use Rattle.std.proofs.Common.{subst}
use Rattle.slurm_files.specs.SlurmDocument.{Said}
use Rattle.speaker_exceptions.specs.ObeyedExceptions.{Obeys, ObeysBefore, commands_of}
use Rattle.speaker_program.proofs.exceptions.except.Goals as goal

pub returns-in-Ok : goal.returns-in-Ok
returns-in-Ok g c = record { obeys = subst (λ (said : Said). Obeys (commands_of said.exceptions) c.args.speaker.now c.obey_exceptions.new.speaker) c.said.view_is c.in-Ok.ensures }

pub returns-in-Err : goal.returns-in-Err
returns-in-Err g c = record {
  obeys = (c.in-Err.refusal, subst (λ (said : Said). ObeysBefore (commands_of said.exceptions) c.in-Err.refusal c.args.speaker.now c.obey_exceptions.new.speaker) c.said.view_is c.in-Err.ensures, rw c.slurm_path-path.ensures at c.bad_exceptions.ensures.exceptions);
}
