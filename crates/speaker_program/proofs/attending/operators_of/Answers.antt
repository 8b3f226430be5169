use Rattle.speaker_program.proofs.OtherFaults.{control_lost}
use Rattle.speaker_program.proofs.attending.operators_of.Goals as goal

pub returns-in-Err-clause-fault : goal.returns-in-Err-clause-fault
returns-in-Err-clause-fault g c = control_lost c.args.settings.now _ _ _ _ c.in-Some.is c.as_str-in-Err.ensures.value c.unread.ensures.file
