use Rattle.std.proofs.Common.{◌∙◌, arith}
use Rattle.std.proofs.lemmas.List.{take-append-drop}
use Rattle.runs.specs.Agreement.{CacheHears}
use Rattle.speaker.proofs.CacheSteps.{cache_more, cache_none, cache_start, cache_until}
use Rattle.runs.proofs.Coming.{HasCome-start, HasCome-more, HasCome-end, none_left}
use Rattle.speaker.proofs.step.Speaker.hear_cache.Goals as goal

pub loop-rest-init : goal.loop-rest-init
loop-rest-init g c = (HasCome-start _ _ _ (cache_start c.args.self.now), c.requires)

pub loop-rest-preserved : goal.loop-rest-preserved
loop-rest-preserved g c = (
  rw c.split_at.ensures.back
      (HasCome-more _ _ _ _ _ _ _ _ cache_more c.loop-rest.invariant.0 (take-append-drop c.hear_cache_next-taken.result.0 c.loop-rest.rest.now) (c.hear_cache_next-taken.ensures.heard c.if-starved.false) c.hear_cache_next-taken.ensures.counted c.hear_cache_next-taken.ensures.rises),
  c.hear_cache_next-taken.ensures.there,
)

pub returns-then-starved-clause-starved : goal.returns-then-starved-clause-starved
returns-then-starved-clause-starved g c = λ is.
    cache_until c.args.octets.now c.loop-rest.rest.now c.args.self.now c.loop-rest.self c.hear_cache_next-taken.new.self c.loop-rest.invariant.0 (c.hear_cache_next-taken.ensures.starved c.if-starved.true)

pub returns-clause-heard : goal.returns-clause-heard
returns-clause-heard g c = λ is.
    HasCome-end CacheHears c.args.octets.now c.loop-rest.rest.now c.args.self.now c.loop-rest.self _ cache_more c.loop-rest.invariant.0 (cache_none _ c.loop-rest.self (none_left c.loop-rest.rest.now c.loop-rest-test.ensures))

pub returns-clause-counted : goal.returns-clause-counted
returns-clause-counted g c = c.loop-rest.invariant.0.counted

pub returns-then-starved-clause-counted : goal.returns-then-starved-clause-counted
returns-then-starved-clause-counted g c = c.hear_cache_next-taken.ensures.counted ∙ c.loop-rest.invariant.0.counted

pub returns-clause-rises : goal.returns-clause-rises
returns-clause-rises g c = c.loop-rest.invariant.0.rises

pub returns-then-starved-clause-rises : goal.returns-then-starved-clause-rises
returns-then-starved-clause-rises g c =
    let before = c.loop-rest.invariant.0.rises in
    let later = c.hear_cache_next-taken.ensures.rises in
    omega (arith, before, later)
