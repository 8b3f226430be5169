use Rattle.std.proofs.Common.{[], false, ◌∙◌}
use Rattle.rtr_cache.proofs.Queueing.{notified_same_open, pumped_same_open, still_receiving}
use Rattle.rtr_cache.proofs.served.ServedClient.notify.Goals as goal

pub invariant_of-self : goal.invariant_of-self
invariant_of-self g c =
    still_receiving _ _ _ c.self.invariant
    (pumped_same_open c.notify.new.self c.pump.new.self (c.pump.ensures false []) ∙ notified_same_open c.args.publisher.now c.self.inside.sender c.notify.new.self (c.notify.ensures false []))
