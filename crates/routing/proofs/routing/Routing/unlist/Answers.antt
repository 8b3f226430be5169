use Rattle.routing.proofs.LinkedPeers.{few_in}
use Rattle.routing.proofs.routing.Routing.unlist.Goals as goal

pub slots_end-slot-end-requires : goal.slots_end-slot-end-requires
slots_end-slot-end-requires g c = few_in c.args.links.now.entries c.args.self.now.sent c.requires
