use Rattle.rtr_channels.proofs.Joins as joins
use Rattle.rtr_channels.proofs.laws.calls_are_events.Goals as goal

pub returns-clause-calls : goal.returns-clause-calls
returns-clause-calls c = joins.calls_are_events

pub returns-clause-hearings : goal.returns-clause-hearings
returns-clause-hearings c = joins.hearings_are_events

pub returns-clause-others : goal.returns-clause-others
returns-clause-others c = joins.others_are_events

pub returns-clause-takes : goal.returns-clause-takes
returns-clause-takes c = joins.takes_are_events

pub returns-clause-losses : goal.returns-clause-losses
returns-clause-losses c = joins.losses_are_events

pub returns-clause-loads : goal.returns-clause-loads
returns-clause-loads c = joins.loads_are_events

pub returns-clause-acceptances : goal.returns-clause-acceptances
returns-clause-acceptances c = joins.acceptances_are_events
