use Rattle.routing.proofs.Owing.{state_of}
use Rattle.routes.proofs.WaitingRows.{next_above, none_beyond, owed_has, owed_least, owed_none}
use Rattle.routing.specs.Sent.{linked}
use Rattle.routes.proofs.routes.Routes.next_waiting.Goals as goal

pub returns-then-slot-ge-PEER_SLOTS-clause-none : goal.returns-then-slot-ge-PEER_SLOTS-clause-none
returns-then-slot-ge-PEER_SLOTS-clause-none g c =
    let state = state_of c.self.inside.conf c.self.inside.payloads (linked c.self.inside.links.entries c.self.inside.routing.sent) c.self.inside.routing in
    rw (← c.self.view_is) (λ q above. none_beyond state c.self.inside.routing.waiting c.self.inside.routing.alike c.args.slot c.self.invariant.1.there c.if-slot-ge-PEER_SLOTS.true q)

pub returns-clause-has : goal.returns-clause-has
returns-clause-has g c =
    let state = state_of c.self.inside.conf c.self.inside.payloads (linked c.self.inside.links.entries c.self.inside.routing.sent) c.self.inside.routing in
    rw (← c.self.view_is) (owed_has state c.self.inside.routing.waiting c.self.inside.routing.alike c.args.slot c.args.after c.next_owed.result c.next_owed.ensures)

pub returns-clause-least : goal.returns-clause-least
returns-clause-least g c =
    let state = state_of c.self.inside.conf c.self.inside.payloads (linked c.self.inside.links.entries c.self.inside.routing.sent) c.self.inside.routing in
    rw (← c.self.view_is) (owed_least state c.self.inside.routing.waiting c.self.inside.routing.alike c.args.slot c.args.after c.next_owed.result c.next_owed.ensures)

pub returns-clause-none : goal.returns-clause-none
returns-clause-none g c =
    let state = state_of c.self.inside.conf c.self.inside.payloads (linked c.self.inside.links.entries c.self.inside.routing.sent) c.self.inside.routing in
    rw (← c.self.view_is) (owed_none state c.self.inside.routing.waiting c.self.inside.routing.alike c.args.slot c.args.after c.next_owed.result c.next_owed.ensures)

pub returns-clause-above : goal.returns-clause-above
returns-clause-above g c = next_above _ c.args.after c.next_owed.result c.next_owed.ensures
