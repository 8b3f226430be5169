use Rattle.routing.specs.Sent.{linked}
use Rattle.routing.proofs.MarkedNexts.{next_marked}
use Rattle.routing.proofs.routing.Routing.next_owed.Goals as goal

pub returns : goal.returns
returns g c = rw c.lesser.ensures (next_marked c.args.conf.now (linked c.args.links.now.entries c.args.self.now.sent) c.args.self.now c.args.slot c.args.after c.next.result c.next-2.result c.next.ensures c.next-2.ensures)
