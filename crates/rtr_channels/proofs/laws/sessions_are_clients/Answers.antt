use Rattle.rtr_channels.proofs.Joins as joins
use Rattle.rtr_channels.proofs.laws.sessions_are_clients.Goals as goal

pub returns : goal.returns
returns c = joins.sessions_are_clients
