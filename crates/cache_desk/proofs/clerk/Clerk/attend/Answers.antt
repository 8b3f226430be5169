use Rattle.std.proofs.Common.{arith}
use Rattle.cache_desk.proofs.Attending.{attends_all, attends_one}
use Rattle.cache_desk.proofs.clerk.Clerk.attend.Goals as goal

pub loop-key-preserved : goal.loop-key-preserved
loop-key-preserved g c = attends_one g.P.Operators.wish g.P.Operators.line g.P.Operators.hears _ c.loop-key.key _ _ _ c.loop-key.invariant c.attend_one.ensures

pub returns : goal.returns
returns g c =
    let left = c.loop-key-test.false in
    let most = c.loop-key.auto.key-end in
    attends_all g.P.Operators.wish g.P.Operators.line g.P.Operators.hears _ c.loop-key.key _ _ _ _ (omega (arith, left, most)) c.loop-key.invariant c.note_asked.ensures.reading c.note_asked.ensures.noted
