use Rattle.std.proofs.Common.{◌∙◌, arith}
use Rattle.std.proofs.lemmas.List.{take-append-drop}
use Rattle.runs.proofs.Coming.{HasCome-start, HasCome-more, HasCome-end, none_left, some_left}
use Rattle.speaker.proofs.Events.{HasCome-until, Hears-more, Hears-none, Hears-start}
use Rattle.routing.proofs.Results.{OnErr-is}
use Rattle.speaker.proofs.step.Speaker.hear.Goals as goal

pub loop-rest-init : goal.loop-rest-init
loop-rest-init g c = HasCome-start _ _ _ (Hears-start c.args.slot c.args.self.now)

pub loop-rest-preserved : goal.loop-rest-preserved
loop-rest-preserved g c =
    rw c.split_at.ensures.back (HasCome-more _ _ _ _ _ _ _ _ (Hears-more c.args.slot) c.loop-rest.invariant (take-append-drop c.in_ok-taken.taken c.loop-rest.rest.now) (c.in_ok-taken.ensures.heard c.if-taken-eq0.false) c.in_ok-taken.ensures.counted c.in_ok-taken.ensures.rises)

pub returns-then-taken-eq0-clause-heard : goal.returns-then-taken-eq0-clause-heard
returns-then-taken-eq0-clause-heard g c =
    HasCome-end _ _ _ _ c.loop-rest.self c.hear_front.new.self (Hears-more c.args.slot) c.loop-rest.invariant (c.in_ok-taken.ensures.shut c.if-taken-eq0.true (some_left _ c.loop-rest-test.ensures))

pub returns-clause-heard : goal.returns-clause-heard
returns-clause-heard g c = HasCome-end _ _ _ c.args.self.now c.loop-rest.self _ (Hears-more c.args.slot) c.loop-rest.invariant (Hears-none _ _ c.loop-rest.self (none_left c.loop-rest.rest.now c.loop-rest-test.ensures))

pub returns-in_err-taken-clause-starved : goal.returns-in_err-taken-clause-starved
returns-in_err-taken-clause-starved g c = OnErr-is _ _ (HasCome-until _ _ _ c.args.self.now c.loop-rest.self c.hear_front.new.self c.loop-rest.invariant c.in_err-taken.ensures.starved)

pub returns-then-taken-eq0-clause-counted : goal.returns-then-taken-eq0-clause-counted
returns-then-taken-eq0-clause-counted g c = c.in_ok-taken.ensures.counted ∙ c.loop-rest.invariant.counted

pub returns-clause-counted : goal.returns-clause-counted
returns-clause-counted g c = c.loop-rest.invariant.counted

pub returns-in_err-taken-clause-counted : goal.returns-in_err-taken-clause-counted
returns-in_err-taken-clause-counted g c = c.in_err-taken.ensures.counted ∙ c.loop-rest.invariant.counted

pub returns-then-taken-eq0-clause-rises : goal.returns-then-taken-eq0-clause-rises
returns-then-taken-eq0-clause-rises g c =
    let before = c.loop-rest.invariant.rises in
    let later = c.in_ok-taken.ensures.rises in
    omega (arith, before, later)

pub returns-clause-rises : goal.returns-clause-rises
returns-clause-rises g c = c.loop-rest.invariant.rises

pub returns-in_err-taken-clause-rises : goal.returns-in_err-taken-clause-rises
returns-in_err-taken-clause-rises g c =
    let before = c.loop-rest.invariant.rises in
    let later = c.in_err-taken.ensures.rises in
    omega (arith, before, later)
