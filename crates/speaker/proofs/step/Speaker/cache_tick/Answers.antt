use Rattle.std.proofs.Common.{false, refl}
use Rattle.runs.specs.Runs.{cache_history}
use Rattle.speaker.proofs.CacheSteps.{agreed_session, holds_cache_ticked, holds_none_ticked, none_from_not}
use Rattle.speaker.proofs.Revalidating.{cache_moved}
use Rattle.speaker.proofs.step.Speaker.cache_tick.Goals as goal

pub returns-clause-ticks : goal.returns-clause-ticks
returns-clause-ticks g c = λ config r here.
    let m = cache_moved _ c.args.self.now _ c.choose_touched.new.self c.in-Some.session c.tick-opened.new.self c.self.view_is c.in-Some.is c.self.invariant refl c.tick-opened.ensures.changes c.tick-opened.ensures.kept c.choose_touched.ensures.touched c.choose_touched.ensures.keeps in (
      holds_cache_ticked config r c.args.now c.in-Some.session c.tick-opened.new.self c.args.self.now c.choose_touched.new.self here m.was m.is (λ a. c.tick-opened.ensures.agrees config.cache_retry (cache_history r) a) m.payloads m.moves,
      c.tick-opened.ensures.opened config.cache_retry (cache_history r) (agreed_session config (cache_history r) _ c.in-Some.session m.was here.cache),
    )

pub returns-in_default-clause-ticks : goal.returns-in_default-clause-ticks
returns-in_default-clause-ticks g c = λ config r here.
    let mine = rw (← c.self.view_is) at here in
    holds_none_ticked config r c.args.now false _ mine (none_from_not c.self.inside.cache c.in_default.not-Some) refl
