use Rattle.speaker_turns.proofs.Patient.{obeys_patient, stays_patient}
use Rattle.speaker_turns.proofs.laws.loops_stay_as_patient.Goals as goal

pub returns-clause-turns : goal.returns-clause-turns
returns-clause-turns c = stays_patient

pub returns-clause-commands : goal.returns-clause-commands
returns-clause-commands c = obeys_patient
