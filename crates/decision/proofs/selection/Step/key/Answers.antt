use Rattle.std.proofs.Common.{rules}
use Rattle.decision.proofs.selection.Step.key.Goals as goal

pub returns-in-ExternalFirst : goal.returns-in-ExternalFirst
returns-in-ExternalFirst c = search rules
