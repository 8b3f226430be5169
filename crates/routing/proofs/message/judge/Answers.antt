use Rattle.routing.proofs.message.judge.Goals as goal

pub returns-in-Update-Established-clause-kept : goal.returns-in-Update-Established-clause-kept
returns-in-Update-Established-clause-kept g c = rw c.in-Update-Established.is-1 c.judge_update.ensures.kept
