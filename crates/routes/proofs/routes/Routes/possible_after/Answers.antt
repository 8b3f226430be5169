use Rattle.routing.proofs.Due.{behind_so, ranked_above}
use Rattle.routing.proofs.Owing.{state_of}
use Rattle.routing.specs.Sent.{linked}
use Rattle.routes.proofs.routes.Routes.possible_after.Goals as goal

pub returns-clause-above : goal.returns-clause-above
returns-clause-above g c = ranked_above c.args.last c.possible_after.result c.possible_after.ensures.above

pub returns-clause-behind : goal.returns-clause-behind
returns-clause-behind g c = λ l there established.
    let linked_here = rw (← c.self.view_is) at there in
    let state = state_of c.self.inside.conf c.self.inside.payloads (linked c.self.inside.links.entries c.self.inside.routing.sent) c.self.inside.routing in
    rw (← c.self.view_is)
    (behind_so state c.self.inside.routing.waiting c.self.inside.routing.alike c.args.slot l c.args.octets.now.items c.args.last linked_here established c.possible_after.result
    (rw (c.as_slice.ensures.value) at c.possible_after.ensures.least) (rw (c.as_slice.ensures.value) at c.possible_after.ensures.none))
