use Rattle.std.proofs.Common.{◌<◌, length, refl, subst, sym}
use Rattle.speaker_turns.specs.Serving.{Begins}
use Rattle.speaker_turns.specs.Turns.{AtPlace, Turns}
use Rattle.speaker_turns.proofs.Places.{at_place_by}
use Rattle.speaker_turns.proofs.speaker_loop.SpeakerLoop.begin.Goals as goal

pub returns : goal.returns
returns g c =
    subst (λ (t : Turns). AtPlace Begins t c.args.place c.count.new.self) c.self.view_is
    (at_place_by Begins _ _ c.count.new.self c.args.place c.at.result c.index_mut.result.now c.begin-visit.result c.begin-visit.new.self (record { wire = g.W.Wire.state c.begin-visit.new.wire; speaker = c.begin-visit.new.speaker }) c.at.ensures (subst (λ (t : Turns). c.args.place < length t.places) (sym c.self.view_is) c.requires) c.index_mut.ensures.value c.begin-visit.ensures refl c.count.ensures)
