use Rattle.rtr_channels.proofs.Joins as joins
use Rattle.rtr_channels.proofs.laws.steps_are_events.Goals as goal

pub returns-clause-readings : goal.returns-clause-readings
returns-clause-readings c = joins.readings_are_events

pub returns-clause-readings_without_room : goal.returns-clause-readings_without_room
returns-clause-readings_without_room c = joins.readings_without_room_are_events

pub returns-clause-steps : goal.returns-clause-steps
returns-clause-steps c = joins.steps_are_events

pub returns-clause-steps_without_room : goal.returns-clause-steps_without_room
returns-clause-steps_without_room c = joins.steps_without_room_are_events

pub returns-clause-failures : goal.returns-clause-failures
returns-clause-failures c = joins.failures_are_events
