use Rattle.std.proofs.Common.{ap, length, arith}
use Rattle.rtr_cache.proofs.Notifying.{all_notified, none_notified, one_more_notified}
use Rattle.rtr_cache.proofs.cache.Cache.notify_clients.Goals as goal

pub loop-key-init : goal.loop-key-init
loop-key-init g c =
    (none_notified _, rw (ap (λ cache. length cache.clients) c.self.view_is) at c.capacity-key-end.ensures.slots)

pub loop-key-preserved : goal.loop-key-preserved
loop-key-preserved g c =
    let told = c.notify_client.ensures in
    (one_more_notified _ _ _ _ c.loop-key.invariant.0 told.shared told.client told.others told.slots, c.loop-key.invariant.1)

pub returns-clause-shared : goal.returns-clause-shared
returns-clause-shared g c = c.loop-key.invariant.0.shared

pub returns-clause-all : goal.returns-clause-all
returns-clause-all g c =
    all_notified _ _ _ c.loop-key.invariant.0 (omega (arith, c.loop-key.invariant.1, c.loop-key-test.false))
