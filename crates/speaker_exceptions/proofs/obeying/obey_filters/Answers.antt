use Rattle.std.proofs.Common.{Ok, Err, subst}
use Rattle.bgp_conf.specs.declared.command.Command.{Command}
use Rattle.speaker_exceptions.specs.ObeyedExceptions.{ObeysOne, command_of_filter}
use Rattle.speaker_exceptions.proofs.ObeyedInOrder.{left_first, left_next, left_none, left_refused}
use Rattle.speaker_exceptions.proofs.obeying.obey_filters.Goals as goal

pub loop-filter-init : goal.loop-filter-init
loop-filter-init g c = (tt, tt, left_first command_of_filter c.args.filters.now.keys c.into_iter-filter-iterator.result c.args.speaker.now c.into_iter-filter-iterator.ensures.into_iter_gives.0)

pub loop-filter-preserved : goal.loop-filter-preserved
loop-filter-preserved g c = (
  tt,
  tt,
  left_next command_of_filter c.args.filters.now.keys c.loop-filter.filter-iterator c.in-Some.filter.now c.next.new.self _ _ _ (c.in-Some.ensures.steps) c.loop-filter.invariant.2
      (subst (λ (command : Command). ObeysOne command (Ok tt) c.loop-filter.speaker c.obey.new.speaker) c.command_of_filter.ensures c.in_ok-obey.ensures),
)

pub returns-in_err-obey : goal.returns-in_err-obey
returns-in_err-obey g c =
    left_refused command_of_filter c.args.filters.now.keys c.loop-filter.filter-iterator c.in-Some.filter.now c.next.new.self c.in_err-obey.field-0.0 c.from_residual.result _ _ _ (c.in-Some.ensures.steps) c.loop-filter.invariant.2
    (subst (λ (command : Command). ObeysOne command (Err c.in_err-obey.field-0.0) c.loop-filter.speaker c.obey.new.speaker) c.command_of_filter.ensures c.in_err-obey.ensures) c.from_residual.ensures.1

pub returns : goal.returns
returns g c = left_none command_of_filter c.args.filters.now.keys c.loop-filter.filter-iterator _ _ c.in-None.ensures.steps.0 c.loop-filter.invariant.2
