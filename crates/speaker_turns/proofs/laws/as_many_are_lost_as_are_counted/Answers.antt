use Rattle.speaker_turns.proofs.Counting.{stopped_loses, turn_loses_just, turn_loses_no_more}
use Rattle.speaker_turns.proofs.laws.as_many_are_lost_as_are_counted.Goals as goal

pub returns-clause-well : goal.returns-clause-well
returns-clause-well c = turn_loses_just

pub returns-clause-any : goal.returns-clause-any
returns-clause-any c = turn_loses_no_more

pub returns-clause-stops : goal.returns-clause-stops
returns-clause-stops c = stopped_loses
