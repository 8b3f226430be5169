use Rattle.std.proofs.Common.{◌∙◌, refl, rules}
use Rattle.speaker_desk.proofs.Attended.{all_taken, clock_fails, one_more, stopped_before, takes_round, turn_fails}
use Rattle.speaker_desk.proofs.attending.attended_turns.Goals as goal

pub returns-in_err-now-clause-turns : goal.returns-in_err-now-clause-turns
returns-in_err-now-clause-turns g c =
    clock_fails g.P.Operators.wish g.P.Operators.line g.P.Operators.turns g.P.Operators.hears _ c.loop.counter c.args.turns _ _ _ _ _ _ c.from_residual.ensures.1 c.loop-test.true c.in_err-now.ensures.failed c.loop.invariant.0

pub returns-in_err-take_turn-clause-turns : goal.returns-in_err-take_turn-clause-turns
returns-in_err-take_turn-clause-turns g c =
    turn_fails g.P.Operators.wish g.P.Operators.line g.P.Operators.turns g.P.Operators.hears _ c.loop.counter c.args.turns c.in_ok-now.now _ _ _ _ _ _ _ c.from_residual-in_err-take_turn.ensures.1 c.loop-test.true
    c.in_ok-now.ensures.told c.in_ok-now.ensures.forward c.loop.invariant.0 (record { turn = c.in_err-take_turn.ensures; same = refl })

pub returns-then-has_stopped-clause-turns : goal.returns-then-has_stopped-clause-turns
returns-then-has_stopped-clause-turns g c =
    stopped_before g.P.Operators.wish g.P.Operators.line g.P.Operators.turns g.P.Operators.hears c.loop.counter c.args.turns c.in_ok-now.now _ _ _ _ _ _ c.loop-test.true c.loop.invariant.0 c.in_ok-now.ensures.told c.in_ok-now.ensures.forward
    (record { turn = c.in_ok-take_turn.ensures; visits = c.turn.ensures; same = c.note_states.ensures; stopped = search rules })

pub returns-then-has_stopped-clause-silent : goal.returns-then-has_stopped-clause-silent
returns-then-has_stopped-clause-silent g c = λ off. c.look.ensures.silent (c.loop.invariant.1 ∙ off) ∙ c.loop.invariant.2 off

pub loop-preserved : goal.loop-preserved
loop-preserved g c = (
  one_more g.P.Operators.wish g.P.Operators.line g.P.Operators.turns g.P.Operators.hears c.loop.counter c.in_ok-now.now _ _ _ _ _ _ c.loop.invariant.0 c.in_ok-now.ensures.told c.in_ok-now.ensures.forward
      (takes_round g.P.Operators.wish g.P.Operators.line g.P.Operators.turns g.P.Operators.hears c.in_ok-now.now _ c.take_turn.new.served c.note_states.new.self c.turn.new.self (record { served = c.let_through.new.served; desk = c.let_through.new.self })
      (record { served = c.begin_again.new.served; desk = c.begin_again.new.self })
      (record { stand = record { served = c.attend.new.served; desk = c.attend.new.self }; operators = c.attend.new.operators }) c.wait.new.self c.has_stopped.result c.in_ok-take_turn.ensures c.note_states.ensures c.turn.ensures c.has_stopped.ensures.ends c.if-has_stopped.false c.let_through.ensures c.begin_again.ensures c.attend.ensures c.wait.ensures),
  c.look.ensures.same ∙ c.loop.invariant.1,
  λ off. c.look.ensures.silent (c.loop.invariant.1 ∙ off) ∙ c.loop.invariant.2 off,
)

pub returns-clause-turns : goal.returns-clause-turns
returns-clause-turns g c = all_taken g.P.Operators.wish g.P.Operators.line g.P.Operators.turns g.P.Operators.hears c.loop.counter c.args.turns _ _ _ _ (search rules) c.loop.invariant.0
