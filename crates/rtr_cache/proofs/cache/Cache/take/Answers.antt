use Rattle.rtr_cache.specs.CacheTable.{hands_out}
use Rattle.rtr_cache.proofs.Resting.{rests-pumped}
use Rattle.rtr_cache.proofs.cache.Cache.take.Goals as goal
use Rattle.rtr_cache.proofs.cache.Cache.take.Goals.{in-Some, in-None}

pub invariant_of-self : goal.invariant_of-self
invariant_of-self g c =
    elim c.match-get_mut.branch [
      | in-Some w ↦
          rw w.self-inside-is
          (rests-pumped c.self.inside.clients.slots c.args.key w.take.new.self (hands_out w.take.result w.in-Some.client.now) w.take.ensures.rest c.self.invariant)
      | in-None w ↦ rw w.self-inside-is c.self.invariant
    ]

pub returns-clause-rest : goal.returns-clause-rest
returns-clause-rest g c = invariant_of-self g c
