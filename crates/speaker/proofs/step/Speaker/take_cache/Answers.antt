use Rattle.std.proofs.Common.{◌∙◌, Some, sym, ap}
use Rattle.runs.specs.Runs.{cache_history}
use Rattle.runs.specs.SpeakerState.{SpeakerState}
use Rattle.speaker.proofs.CacheSteps.{agrees_none, agrees_taken}
use Rattle.speaker.proofs.step.Speaker.take_cache.Goals as goal
use Rattle.speaker.proofs.step.Speaker.take_cache.Goals.{in-Some, in-None}

pub returns-clause-agrees : goal.returns-clause-agrees
returns-clause-agrees g c = λ config r a.
    elim c.match-self.branch [
      | in-Some w ↦
          rw (w.self-inside-is, w.result-is, w.buf-is)
          (agrees_taken config r _ w.in-Some.session w.take.new.self c.args.self.now _ a (ap (λ (x : SpeakerState). x.cache) (sym c.self.view_is) ∙ w.in-Some.is) (w.take.ensures.agrees config.cache_retry (cache_history r)) (ap (λ (x : SpeakerState). record x { cache = Some w.take.new.self }) c.self.view_is))
      | in-None w ↦ rw (w.self-inside-is, w.result-is) (agrees_none config r _ c.args.self.now _ a (ap (λ (x : SpeakerState). x.cache) (sym c.self.view_is) ∙ w.in-None.is) c.self.view_is)
    ]
