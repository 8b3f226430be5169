use Rattle.rtr_cache.specs.CacheTable.{notified}
use Rattle.rtr_cache.proofs.Resting.{rests-pumped}
use Rattle.rtr_cache.proofs.cache.Cache.notify_client.Goals as goal
use Rattle.rtr_cache.proofs.cache.Cache.notify_client.Goals.{in-Some, in_default}

pub invariant_of-self : goal.invariant_of-self
invariant_of-self g c =
    elim c.match-get_mut.branch [
      | in-Some w ↦
          rw w.self-inside-is
          (rests-pumped c.self.inside.clients.slots c.args.key w.notify.new.self (notified c.self.inside.publisher w.in-Some.client.now) w.notify.ensures c.self.invariant)
      | in_default w ↦ rw w.self-inside-is c.self.invariant
    ]
