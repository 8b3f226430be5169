use Rattle.std.proofs.Common.{◌≡◌, false}
use Rattle.speaker_program.specs.Commanded.{TakesAll}
use Rattle.speaker_program.proofs.taking.take_turns.Given as goal

-- the turns so far, over which a journal that writes nothing stays so
abbrev pub invariant-loop : goal.invariant-loop
invariant-loop g l =
    TakesAll l.counter (g.C.SecondsClock.readings l.fn.clock) (g.C.SecondsClock.readings l.clock) l.fn.served l.served
    × (g.N.Onlooker.writes l.journal ≡ g.N.Onlooker.writes l.fn.journal)
    × (g.N.Onlooker.writes l.fn.journal ≡ false → l.output ≡ l.fn.output)
