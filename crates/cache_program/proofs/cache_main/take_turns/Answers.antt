use Rattle.std.proofs.Common.{◌+◌, ◌++◌, ◌∷◌, [], Bool, ap, arith, refl, subst, ◌∙◌}
use Rattle.cache_desk.specs.Desks.{StopsAt, stopped_at}
use Rattle.cache_program.specs.declared.interval.Interval.{Interval}
use Rattle.cache_program.specs.ServedTurns.{Moment}
use Rattle.cache_program.proofs.Attending.{all_attended, attends_once, goes_one_more, stopped_attended}
use Rattle.cache_program.proofs.ServedTurns.{none_served, once_of, so_many_served, turn_served}
use Rattle.cache_program.proofs.cache_main.take_turns.Goals as goal

pub loop-init : goal.loop-init
loop-init g c = rw c.new-reread.ensures (λ off. refl, refl, [], none_served _ _ _ _ _, refl)

pub loop-preserved : goal.loop-preserved
loop-preserved g c =
    let so_far = c.loop.invariant in
    let serves = c.in_ok-serve_once.ensures.serves in
    let at : Moment = record { now = c.in_ok-now.now; age = serves.0; asked = c.hear-asked.result; led = serves.1 } in (
      λ off. c.tell_if_due.ensures off ∙ (c.tell_routers.ensures off ∙ (c.serve_once.ensures.quiet off ∙ so_far.0 off)),
      ap (λ (e : Interval). e.seconds) serves.5 ∙ so_far.1,
      so_far.2 ++ at ∷ [],
      turn_served _ _ _ _ _ _ at _ _ _ so_far.2 _ _ _ _ so_far.1 serves.5 so_far.3 c.in_ok-now.ensures.told c.in_ok-now.ensures.forward serves.2 (once_of _ _ (λ sources given. (c.in_ok-second.second, given)) _ at _ _ serves.4) c.wait.ensures,
      goes_one_more _ _ _ _ so_far.2 at _ _ _ so_far.4 (attends_once g.Q.Operators.wish g.Q.Operators.line g.Q.Operators.turns g.Q.Operators.hears at _ _ _ c.hear-asked.ensures serves.3)
          (subst (λ (ends : Bool). StopsAt (stopped_at c.serve_once.new.desk) c.in_ok-now.now ends) c.if-has_stopped.false c.has_stopped.ensures),
    )

pub returns-clause-turns : goal.returns-clause-turns
returns-clause-turns g c =
    let so_far = c.loop.invariant in
    let left = c.loop-test.false in
    let counted = so_far.3.counted in
    so_many_served _ _ _ _ _ c.loop.counter c.args.turns _ _ so_far.2 _ _ so_far.3 (omega (arith, left)) (all_attended g.Q.Operators.wish g.Q.Operators.line g.Q.Operators.turns g.Q.Operators.hears c.args.turns so_far.2 _ _ so_far.4 (omega (arith, left, counted)))

pub returns-then-has_stopped-clause-turns : goal.returns-then-has_stopped-clause-turns
returns-then-has_stopped-clause-turns g c =
    let so_far = c.loop.invariant in
    let serves = c.in_ok-serve_once.ensures.serves in
    let at : Moment = record { now = c.in_ok-now.now; age = serves.0; asked = c.hear-asked.result; led = serves.1 } in
    so_many_served _ _ _ _ _ (c.loop.counter + 1) c.args.turns _ _ (so_far.2 ++ at ∷ []) _ _
    (turn_served _ _ _ _ _ _ at _ _ _ so_far.2 _ _ _ _ so_far.1 serves.5 so_far.3 c.in_ok-now.ensures.told c.in_ok-now.ensures.forward serves.2 (once_of _ _ (λ sources given. (c.in_ok-second.second, given)) _ at _ _ serves.4) refl)
    (omega (arith, c.loop-test.true))
    (stopped_attended g.Q.Operators.wish g.Q.Operators.line g.Q.Operators.turns g.Q.Operators.hears c.args.turns so_far.2 at _ _ _ so_far.4 (attends_once g.Q.Operators.wish g.Q.Operators.line g.Q.Operators.turns g.Q.Operators.hears at _ _ _ c.hear-asked.ensures serves.3)
    (subst (λ (ends : Bool). StopsAt (stopped_at c.serve_once.new.desk) c.in_ok-now.now ends) c.if-has_stopped.true c.has_stopped.ensures))

pub returns-then-has_stopped-clause-quiet : goal.returns-then-has_stopped-clause-quiet
returns-then-has_stopped-clause-quiet g c = λ off. c.tell_routers.ensures off ∙ (c.serve_once.ensures.quiet off ∙ c.loop.invariant.0 off)
