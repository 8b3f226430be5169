use Rattle.std.proofs.Common.{rules}
use Rattle.speaker_desk.proofs.Attended.{attends_all, attends_more}
use Rattle.speaker_desk.proofs.desk.Desk.attend.Goals as goal

pub loop-key-preserved : goal.loop-key-preserved
loop-key-preserved g c = attends_more g.O.Operators.wish g.O.Operators.line g.O.Operators.turns g.O.Operators.hears c.loop-key.key c.args.now _ _ _ c.loop-key.invariant c.attend_one.ensures

pub returns : goal.returns
returns g c = attends_all g.O.Operators.wish g.O.Operators.line g.O.Operators.turns g.O.Operators.hears c.loop-key.key c.args.now _ _ (search rules) c.loop-key.invariant
