use Rattle.speaker_desk.specs.Attended.{AttendsBelow}
use Rattle.speaker_desk.proofs.desk.Desk.attend.Given as goal

abbrev pub invariant-loop-key : goal.invariant-loop-key
invariant-loop-key g l =
    AttendsBelow g.O.Operators.wish g.O.Operators.line g.O.Operators.turns g.O.Operators.hears l.key l.fn.now (record { stand = record { served = l.fn.served; desk = l.fn.self }; operators = l.fn.operators })
    (record { stand = record { served = l.served; desk = l.self }; operators = l.operators })
