use Rattle.std.proofs.Common.{◌∙◌, sym, ap, subst, Option}
use Rattle.speaker_turns.specs.Serving.{Connection, PlaceState, Visits}
use Rattle.speaker_turns.proofs.Places.{visited}
use Rattle.speaker_turns.proofs.place.Place.visit.Goals as goal

pub returns-clause-visits : goal.returns-clause-visits
returns-clause-visits g c =
    subst (λ (p : PlaceState). Visits c.args.now c.args.end p (record { wire = g.W.Wire.state c.args.wire.now; speaker = c.args.speaker.now }) c.attend-visit.result (record { remote = c.self.inside.remote; line = c.settle.result; waiting = c.attend-visit.new.outgoing }) (record { wire = g.W.Wire.state c.settle.new.wire; speaker = c.settle.new.speaker })) c.self.view_is
    (visited c.args.now c.args.end _ (record { wire = g.W.Wire.state c.args.wire.now; speaker = c.args.speaker.now }) c.attend-visit.result c.in-Some.line c.attend-visit.new.line c.attend-visit.new.outgoing (record { wire = g.W.Wire.state c.attend-visit.new.wire; speaker = c.attend-visit.new.speaker }) (record { remote = c.self.inside.remote; line = c.settle.result; waiting = c.attend-visit.new.outgoing }) (record { wire = g.W.Wire.state c.settle.new.wire; speaker = c.settle.new.speaker })
    (sym c.take.ensures.value ∙ c.in-Some.is) c.attend-visit.ensures.attends c.settle.ensures.settles (ap (λ (l : Option Connection). record { remote = c.self.inside.remote; line = l; waiting = c.attend-visit.new.outgoing }) c.settle.ensures.left))
