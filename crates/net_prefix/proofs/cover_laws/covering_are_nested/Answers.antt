use Rattle.net_prefix.proofs.Covering.{covers_of_one}
use Rattle.net_prefix.proofs.cover_laws.covering_are_nested.Goals as goal

pub returns : goal.returns
returns c = covers_of_one
