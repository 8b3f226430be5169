use Rattle.std.proofs.Common.{[]}
use Rattle.scenario.proofs.ObeyedCommands.{obeyed_none, obeyed_line, obeyed_all, obeyed_before, obeyed_with, obeys_some}
use Rattle.scenario.proofs.commands.obey_each.Goals as goal

pub loop-number-init : goal.loop-number-init
loop-number-init g c = obeyed_none _ _

pub returns-then-not-branch-clause-each : goal.returns-then-not-branch-clause-each
returns-then-not-branch-clause-each g c = obeyed_all _ _ _ _ _ c.loop-number.invariant (rw c.if-not-branch.true at c.in_ok-read_line.ensures)

pub returns-in_err-obey_line-clause-each : goal.returns-in_err-obey_line-clause-each
returns-in_err-obey_line-clause-each g c = λ text is.
    obeyed_with _ _ _ c.from_residual-in_err-obey_line.result c.in_err-obey_line.field-0.0 c.from_residual-in_err-obey_line.ensures.1
    (obeyed_before _ _ (g.R.Read.remaining c.read_line.new.reader) _ c.as_slice.result.now _ _ _ _ c.loop-number.invariant (rw c.as_slice.ensures.value (rw c.if-not-branch.false at c.in_ok-read_line.ensures)) c.in_err-obey_line.ensures.obeys c.in_err-obey_line.ensures.line c.in_err-obey_line.ensures.fault text is)

pub returns-in_err-obey_line-clause-some : goal.returns-in_err-obey_line-clause-some
returns-in_err-obey_line-clause-some g c = obeys_some _ [] _ _ _ c.loop-number.invariant.obeyed c.in_err-obey_line.ensures.obeys

pub loop-number-preserved : goal.loop-number-preserved
loop-number-preserved g c =
    obeyed_line _ _ (g.R.Read.remaining c.read_line.new.reader) _ c.as_slice.result.now _ _ _ c.loop-number.invariant (rw c.as_slice.ensures.value (rw c.if-not-branch.false at c.in_ok-read_line.ensures)) c.in_ok-obey_line.ensures.obeys
