use Rattle.std.proofs.Common.{arith}
use Rattle.speaker.proofs.Commands.{free_left}
use Rattle.speaker.proofs.Events.{holds_begun}
use Rattle.speaker.proofs.step.Speaker.obey_other.Goals as goal

pub obey_freely-requires-clause-free : goal.obey_freely-requires-clause-free
obey_freely-requires-clause-free g c =
    free_left c.args.command.now c.requires.other c.in_default.not-Filter c.in_default.not-NoFilter c.in_default.not-Assert c.in_default.not-NoAssert

pub obey_freely-requires-clause-accepted : goal.obey_freely-requires-clause-accepted
obey_freely-requires-clause-accepted g c = rw c.begin_count.ensures c.requires.accepted

pub returns-in_default-clause-ok : goal.returns-in_default-clause-ok
returns-in_default-clause-ok g c = λ config r holds. (rw c.begin_count.ensures at c.obey_freely.ensures.ok) config r (holds_begun config r c.args.self.now holds) (omega arith)
