use Rattle.cache_turns.proofs.Keeping.{turns_keep}
use Rattle.cache_turns.proofs.laws.turns_publish_nothing.Goals as goal

pub returns-clause-kept : goal.returns-clause-kept
returns-clause-kept c = λ moments old new taken. (turns_keep moments old new taken).0

pub returns-clause-withdrawn : goal.returns-clause-withdrawn
returns-clause-withdrawn c = λ moments old new taken. (turns_keep moments old new taken).1
