use Rattle.scenario.proofs.ObeyedCommands.{IsObeyedUpTo}
use Rattle.scenario.proofs.commands.obey_each.Given as goal

abbrev pub invariant-loop-number : goal.invariant-loop-number
invariant-loop-number g l = IsObeyedUpTo (g.R.Read.remaining l.fn.reader) (g.R.Read.remaining l.reader) l.number l.fn.speaker l.speaker
