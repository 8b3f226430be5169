use Rattle.cache_turns.proofs.Listening.{listens_on}
use Rattle.cache_turns.proofs.laws.wires_listen_where_they_did.Goals as goal

pub returns : goal.returns
returns c = listens_on
