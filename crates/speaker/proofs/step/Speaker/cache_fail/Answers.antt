use Rattle.std.proofs.Common.{◌≡◌, ◌∙◌, refl, sym, ap, arith}
use Rattle.rtr_session.specs.SessionHistory as cached
use Rattle.runs.specs.Runs.{Cache_fail_call, cache_history}
use Rattle.runs.specs.SpeakerState.{SpeakerState}
use Rattle.speaker.proofs.CacheSteps.{cache_moment, holds_cached}
use Rattle.speaker.proofs.Revalidating.{cache_moved}
use Rattle.speaker.proofs.step.Speaker.cache_fail.Goals as goal

pub returns-clause-holds : goal.returns-clause-holds
returns-clause-holds g c = λ config r holds few.
    let m = cache_moved _ c.args.self.now _ c.choose_touched.new.self c.in-Some.session c.fail.new.self c.self.view_is c.in-Some.is c.self.invariant refl c.fail.ensures.changes c.fail.ensures.kept c.choose_touched.ensures.touched c.choose_touched.ensures.keeps in
    let at : c.self.inside.moment ≡ cached.moment_of (cache_history r) = ap (λ (x : SpeakerState). x.moment) c.self.view_is ∙ holds.moment ∙ sym (cache_moment r) in
    holds_cached config r Cache_fail_call c.in-Some.session c.fail.new.self c.args.self.now c.choose_touched.new.self holds few m.was m.is refl refl (λ slot. refl) (λ a. c.fail.ensures.agrees config.cache_retry (cache_history r) a at) m.payloads m.moves (omega arith)
