use Rattle.bgp_peer.proofs.Sending.{nothing_is_left_untaken}
use Rattle.bgp_peer.proofs.Receiving.{wants-agreed}
use Rattle.bgp_peer.proofs.laws.nothing_is_left_untaken.Goals as goal

pub returns-clause-stream : goal.returns-clause-stream
returns-clause-stream c = nothing_is_left_untaken

pub returns-clause-rest : goal.returns-clause-rest
returns-clause-rest c = wants-agreed
