use Rattle.std.proofs.Common.{◌∙◌, sym}
use Rattle.routes.proofs.FoundPeers.{peer_linked}
use Rattle.routes.proofs.routes.Routes.peer.Goals as goal

pub returns : goal.returns
returns g c = rw (← c.self.view_is) (record { value = c.get.ensures.value ∙ sym (peer_linked c.self.inside.links.entries c.self.inside.routing.sent c.args.slot) })
