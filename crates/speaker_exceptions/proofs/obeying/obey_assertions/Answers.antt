use Rattle.std.proofs.Common.{Ok, Err, subst}
use Rattle.bgp_conf.specs.declared.command.Command.{Command}
use Rattle.speaker_exceptions.specs.ObeyedExceptions.{ObeysOne, command_of_assertion}
use Rattle.speaker_exceptions.proofs.ObeyedInOrder.{left_first, left_next, left_none, left_refused}
use Rattle.speaker_exceptions.proofs.obeying.obey_assertions.Goals as goal

pub loop-payload-init : goal.loop-payload-init
loop-payload-init g c = (tt, tt, left_first command_of_assertion c.args.assertions.now.keys c.into_iter-payload-iterator.result c.args.speaker.now c.into_iter-payload-iterator.ensures.into_iter_gives.0)

pub loop-payload-preserved : goal.loop-payload-preserved
loop-payload-preserved g c = (
  tt,
  tt,
  left_next command_of_assertion c.args.assertions.now.keys c.loop-payload.payload-iterator c.in-Some.payload.now c.next.new.self _ _ _ (c.in-Some.ensures.steps) c.loop-payload.invariant.2
      (subst (λ (command : Command). ObeysOne command (Ok tt) c.loop-payload.speaker c.obey.new.speaker) c.command_of_assertion.ensures c.in_ok-obey.ensures),
)

pub returns-in_err-obey : goal.returns-in_err-obey
returns-in_err-obey g c =
    left_refused command_of_assertion c.args.assertions.now.keys c.loop-payload.payload-iterator c.in-Some.payload.now c.next.new.self c.in_err-obey.field-0.0 c.from_residual.result _ _ _ (c.in-Some.ensures.steps) c.loop-payload.invariant.2
    (subst (λ (command : Command). ObeysOne command (Err c.in_err-obey.field-0.0) c.loop-payload.speaker c.obey.new.speaker) c.command_of_assertion.ensures c.in_err-obey.ensures) c.from_residual.ensures.1

pub returns : goal.returns
returns g c = left_none command_of_assertion c.args.assertions.now.keys c.loop-payload.payload-iterator _ _ c.in-None.ensures.steps.0 c.loop-payload.invariant.2
