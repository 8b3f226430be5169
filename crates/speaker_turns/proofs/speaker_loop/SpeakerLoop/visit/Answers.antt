use Rattle.std.proofs.Common.{◌<◌, length, refl, subst, sym}
use Rattle.speaker_turns.specs.Serving.{PlaceState, Sides, VisitsUnless}
use Rattle.speaker_turns.specs.Turns.{AtPlace, Turns}
use Rattle.speaker_turns.specs.declared.end.End.{End}
use Rattle.speaker_turns.specs.declared.place.Visit.{Visit}
use Rattle.speaker_turns.proofs.Places.{at_place_by}
use Rattle.speaker_turns.proofs.speaker_loop.SpeakerLoop.visit.Goals as goal

pub returns-clause-visits : goal.returns-clause-visits
returns-clause-visits g c =
    subst (λ (t : Turns). AtPlace (λ (end : End) (old : PlaceState) (before : Sides) (visit : Visit) (new : PlaceState) (behind : Sides). VisitsUnless c.args.is_off c.args.now end old before visit c.visit_unless-visit.result.1 new behind) t c.args.place c.count.new.self) c.self.view_is
    (at_place_by (λ (end : End) (old : PlaceState) (before : Sides) (visit : Visit) (new : PlaceState) (behind : Sides). VisitsUnless c.args.is_off c.args.now end old before visit c.visit_unless-visit.result.1 new behind) _ _ c.count.new.self c.args.place c.at.result c.index_mut.result.now c.visit_unless-visit.result.0 c.visit_unless-visit.new.self (record { wire = g.W.Wire.state c.visit_unless-visit.new.wire; speaker = c.visit_unless-visit.new.speaker }) c.at.ensures (subst (λ (t : Turns). c.args.place < length t.places) (sym c.self.view_is) c.requires.place) c.index_mut.ensures.value c.visit_unless-visit.ensures.visits refl c.count.ensures)
