use Rattle.rtr_session.proofs.Saying.{in_order_closed}
use Rattle.rtr_session.proofs.sender.Sender.say.Goals as goal

pub invariant_of-self : goal.invariant_of-self
invariant_of-self g c = in_order_closed c.args.now _ _ _ _ c.no_room.ensures.client c.self.invariant
