use Rattle.std.proofs.Common.{◌<◌, length, refl, subst, sym}
use Rattle.speaker_turns.specs.Turns.{AtPlace, GivesWay, Turns}
use Rattle.speaker_turns.proofs.Places.{at_place_by}
use Rattle.speaker_turns.proofs.speaker_loop.SpeakerLoop.give_way.Goals as goal

pub returns : goal.returns
returns g c =
    subst (λ (t : Turns). AtPlace (GivesWay c.args.report.now) t c.args.place c.count.new.self) c.self.view_is
    (at_place_by (GivesWay c.args.report.now) _ _ c.count.new.self c.args.place c.at-end.result c.index_mut.result.now c.give_way-visit.result c.give_way-visit.new.self (record { wire = g.W.Wire.state c.give_way-visit.new.wire; speaker = c.self.inside.speaker }) c.at-end.ensures (subst (λ (t : Turns). c.args.place < length t.places) (sym c.self.view_is) c.requires) c.index_mut.ensures.value c.give_way-visit.ensures refl c.count.ensures)
