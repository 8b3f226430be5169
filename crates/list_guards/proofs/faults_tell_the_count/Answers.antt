use Rattle.list_guards.proofs.Passing.{guard_tells}
use Rattle.list_guards.proofs.faults_tell_the_count.Goals as goal

pub returns : goal.returns
returns c = guard_tells
