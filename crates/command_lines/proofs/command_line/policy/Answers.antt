use Rattle.std.proofs.Common.{refl}
use Rattle.command_lines.proofs.FirstWords.{policy_none}
use Rattle.command_lines.proofs.ReadLines.{policy_fault}
use Rattle.command_lines.proofs.command_line.policy.Goals as goal

pub returns-in_default : goal.returns-in_default
returns-in_default c = policy_none _ (λ name rules is. c.in_default.ensures name is.0 is.1 is.2)

pub returns-in_err-rules : goal.returns-in_err-rules
returns-in_err-rules c = policy_fault _ _ _ c.from_residual.result c.in_err-rules.field-0.0 c.in-Some.ensures.0 c.from_residual.ensures.1 c.in_err-rules.ensures

pub returns : goal.returns
returns c = (_, refl, (_, c.in-Some.ensures.0, c.in-Some.ensures.1, c.in_ok-rules.ensures))
