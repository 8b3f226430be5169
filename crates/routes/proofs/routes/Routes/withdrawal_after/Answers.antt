use Rattle.rib_out.specs.declared.marks.Owed.TheVariants.{Withdrawal}
use Rattle.routing.proofs.Owing.{next_withdrawn, none_next, state_of}
use Rattle.routes.proofs.WaitingRows.{next_above}
use Rattle.routing.specs.Sent.{linked}
use Rattle.routes.proofs.routes.Routes.withdrawal_after.Goals as goal

pub returns-clause-next : goal.returns-clause-next
returns-clause-next g c = λ peer l configured there established.
    let configured_here = rw (← c.self.view_is) at configured in
    let linked_here = rw (← c.self.view_is) at there in
    let state = state_of c.self.inside.conf c.self.inside.payloads (linked c.self.inside.links.entries c.self.inside.routing.sent) c.self.inside.routing in
    rw (← c.self.view_is)
    (next_withdrawn state c.self.inside.routing.waiting c.self.inside.routing.alike c.args.slot peer l c.args.after c.next.result configured_here linked_here established c.next.ensures)

pub returns-clause-none : goal.returns-clause-none
returns-clause-none g c =
    let state = state_of c.self.inside.conf c.self.inside.payloads (linked c.self.inside.links.entries c.self.inside.routing.sent) c.self.inside.routing in
    rw (← c.self.view_is) (λ unserved. none_next state c.self.inside.routing.waiting c.self.inside.routing.alike c.args.slot Withdrawal c.args.after c.next.result unserved c.next.ensures)

pub returns-clause-above : goal.returns-clause-above
returns-clause-above g c = next_above _ c.args.after c.next.result c.next.ensures
