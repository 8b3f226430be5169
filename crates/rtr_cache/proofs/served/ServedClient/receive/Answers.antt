use Rattle.std.proofs.Common.{[], false, ap, ◌∙◌}
use Rattle.rtr_cache.specs.CacheTable.{pumped}
use Rattle.rtr_cache.proofs.Queueing.{pumped_same_open, still_receiving}
use Rattle.rtr_cache.proofs.served.ServedClient.receive.Goals as goal

pub invariant_of-self : goal.invariant_of-self
invariant_of-self g c = still_receiving _ _ _ c.self.invariant (pumped_same_open c.self.inside.sender c.pump.new.self (c.pump.ensures false []))

pub returns-clause-heard : goal.returns-clause-heard
returns-clause-heard g c = (c.hear.ensures.heard.0, c.pump.ensures _ _ ∙ ap pumped (c.self.view_is ∙ c.hear.ensures.heard.1))
