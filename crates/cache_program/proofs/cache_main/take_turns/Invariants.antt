use Rattle.std.proofs.Common.{◌≡◌, false, List}
use Rattle.std.specs.Fn.{FnReturnsAt}
use Rattle.cache_program.proofs.ServedTurns.{AreServed}
use Rattle.cache_program.specs.AttendedTurns.{GoesOn}
use Rattle.cache_program.specs.Opened.{Ages, Gives}
use Rattle.cache_program.specs.ServedTurns.{Moment}
use Rattle.cache_program.proofs.cache_main.take_turns.Given as goal

-- without a log nothing is written, and so many turns were taken, behind each of which the program goes on
abbrev pub invariant-loop : goal.invariant-loop
invariant-loop g l =
    (l.fn.settings.log ≡ false → l.output ≡ l.fn.output)
    × (l.reread.seconds ≡ l.fn.settings.reread)
    × (moments : List Moment)
    × AreServed (Gives (FnReturnsAt g.F.Fn l.fn.opens) g.L.Read.remaining g.L.Steady.stamp l.fn.settings) (Ages (FnReturnsAt g.A.Fn l.fn.ages) l.fn.settings) l.fn.settings.reread l.reread.since l.counter (g.C.SecondsClock.readings l.fn.clock) (g.C.SecondsClock.readings l.clock) moments l.fn.served l.served
    × GoesOn g.Q.Operators.wish g.Q.Operators.line g.Q.Operators.turns g.Q.Operators.hears moments l.fn.desk l.desk
