use Rattle.clocks.proofs.Stepping.{by_steps, never_ahead, never_back}
use Rattle.clocks.proofs.pace.moments_go_on_by_steps.Goals as goal

pub returns-clause-forward : goal.returns-clause-forward
returns-clause-forward c = never_back

pub returns-clause-steps : goal.returns-clause-steps
returns-clause-steps c = by_steps

pub returns-clause-behind : goal.returns-clause-behind
returns-clause-behind c = never_ahead
