use Rattle.std.proofs.Common.{◌∙◌, inr, refl}
use Rattle.speaker_program.proofs.ServedWords.{if_err_as}
use Rattle.speaker_program.proofs.TakenTurns.{clock_fails, one_more, turn_fails}
use Rattle.speaker_program.proofs.taking.take_turns.Goals as goal

pub loop-preserved : goal.loop-preserved
loop-preserved g c = (
  rw c.wait.ensures (one_more _ c.in_ok-now.now _ _ _ _ _ _ c.loop.invariant.0 c.in_ok-now.ensures.told c.in_ok-now.ensures.forward c.in_ok-turn.ensures),
  c.look.ensures.same ∙ c.loop.invariant.1,
  λ off. c.look.ensures.silent (c.loop.invariant.1 ∙ off) ∙ c.loop.invariant.2 off,
)

pub returns-in_err-turn-clause-turns : goal.returns-in_err-turn-clause-turns
returns-in_err-turn-clause-turns g c =
    turn_fails _ c.loop.counter c.args.turns c.in_ok-now.now c.in_err-turn.field-0.0 c.from_residual-in_err-turn.result _ _ _ _ _ _ c.from_residual-in_err-turn.ensures.1 c.loop-test.true
    c.in_ok-now.ensures.told c.in_ok-now.ensures.forward c.loop.invariant.0 c.in_err-turn.ensures

pub returns-in_err-now-clause-turns : goal.returns-in_err-now-clause-turns
returns-in_err-now-clause-turns g c =
    clock_fails _ c.loop.counter c.args.turns c.from_residual.result _ _ _ _ _ c.from_residual.ensures.1 c.loop-test.true c.in_err-now.ensures.failed c.loop.invariant.0

pub returns-in_err-now-clause-fault : goal.returns-in_err-now-clause-fault
returns-in_err-now-clause-fault g c = if_err_as _ c.from_residual.result c.in_err-now.field-0.0 c.from_residual.ensures.1 c.in_err-now.ensures.fault

pub returns-in_err-turn-clause-fault : goal.returns-in_err-turn-clause-fault
returns-in_err-turn-clause-fault g c = if_err_as _ c.from_residual-in_err-turn.result _ c.from_residual-in_err-turn.ensures.1 (inr (c.in_err-turn.field-0.0, refl))
