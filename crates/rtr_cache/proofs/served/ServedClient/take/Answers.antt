use Rattle.std.proofs.Common.{[], false, ap, ◌∙◌}
use Rattle.rtr_cache.specs.CacheTable.{Conn, hands_out, pumped}
use Rattle.rtr_cache.specs.Sending.{Sending, conn_of}
use Rattle.rtr_cache.proofs.Queueing.{pumped_same_open, still_receiving}
use Rattle.rtr_cache.proofs.served.ServedClient.take.Goals as goal

pub invariant_of-self : goal.invariant_of-self
invariant_of-self g c =
    still_receiving _ _ _ c.self.invariant
    (pumped_same_open c.take-count.new.self c.pump.new.self (c.pump.ensures false []) ∙ ap (λ (s : Sending). s.is_open) c.take-count.ensures.exact)

pub returns-clause-rest : goal.returns-clause-rest
returns-clause-rest g c =
    c.pump.ensures _ _
    ∙ ap (λ (s : Sending). pumped (conn_of c.self.inside.receiver.place.is_first c.self.inside.receiver.part s)) c.take-count.ensures.exact
    ∙ ap (λ (conn : Conn). pumped (hands_out c.take-count.result conn)) c.self.view_is
