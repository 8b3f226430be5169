use Rattle.std.proofs.Common.{ap, subst, inl, inr}
use Rattle.cache_turns.specs.Turns.{LacksMemory, Turns}
use Rattle.cache_turns.proofs.Admitting.{lacked}
use Rattle.wires.specs.Wires.{WireState}
use Rattle.cache_turns.proofs.cache_loop.CacheLoop.admit.Goals as goal

pub returns-in-Err-room_for : goal.returns-in-Err-room_for
returns-in-Err-room_for g c =
    inr (inr (inl (subst (λ (t : Turns). LacksMemory t c.send_away.new.self) c.self.view_is
    (lacked _ (before (g.W.Wire.state c.self.inside.wire)) (before (g.W.Wire.state c.accept.new.self)) c.new_client.new.self c.room_for.new.self c.send_away.new.self c.in-Ok.client (g.W.Wire.number c.in-Connection.socket)
    (ap before c.in-Connection.ensures.tells)
    c.in-Connection.ensures.socket.number_is
    c.new_client.ensures.same
    c.in-Ok.ensures.comes
    c.in-Ok.ensures.unused
    c.room_for.ensures.same
    c.room_for.ensures.links
    c.send_away.ensures.patience
    c.send_away.ensures.counts
    c.send_away.ensures.gone
    c.send_away.ensures.links))))
  where
    before : WireState → Turns
    before wire = record { patience = c.self.inside.patience; counts = record { lost = c.self.inside.lost; closed = c.self.inside.closed; wire = wire }; cache = c.self.inside.cache; links = c.self.inside.links.items }
