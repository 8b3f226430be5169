use Rattle.std.proofs.Common.{◌≡◌, false}
use Rattle.speaker_desk.proofs.Attended.{RoundsSoFar}
use Rattle.speaker_desk.proofs.attending.attended_turns.Given as goal

-- the rounds so far, over which a journal that writes nothing stays so
abbrev pub invariant-loop : goal.invariant-loop
invariant-loop g l =
    RoundsSoFar g.P.Operators.wish g.P.Operators.line g.P.Operators.turns g.P.Operators.hears l.counter (g.C.SecondsClock.readings l.fn.clock) (g.C.SecondsClock.readings l.clock)
    (record { stand = record { served = l.fn.served; desk = l.fn.desk }; operators = l.fn.operators }) (record { stand = record { served = l.served; desk = l.desk }; operators = l.operators })
    × (g.N.Onlooker.writes l.journal ≡ g.N.Onlooker.writes l.fn.journal)
    × (g.N.Onlooker.writes l.fn.journal ≡ false → l.output ≡ l.fn.output)
