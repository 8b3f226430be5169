use Rattle.rtr_channels.proofs.Joins as joins
use Rattle.rtr_channels.proofs.Witness.{events_lead_to_payloads}
use Rattle.rtr_channels.proofs.laws.new_ends_are_a_beginning.Goals as goal

pub returns-clause-beginnings : goal.returns-clause-beginnings
returns-clause-beginnings c = joins.beginnings_are_new

pub returns-clause-restarts : goal.returns-clause-restarts
returns-clause-restarts c = joins.restarts_are_events

pub returns-clause-payloads : goal.returns-clause-payloads
returns-clause-payloads c = events_lead_to_payloads

pub returns-clause-go_on : goal.returns-clause-go_on
returns-clause-go_on c = joins.events_go_on
