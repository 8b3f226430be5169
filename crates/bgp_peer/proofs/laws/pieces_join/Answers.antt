use Rattle.bgp_peer.proofs.Agreeing.{onto-append}
use Rattle.bgp_peer.proofs.laws.pieces_join.Goals as goal

pub returns : goal.returns
returns c = onto-append
