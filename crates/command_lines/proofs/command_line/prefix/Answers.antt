use Rattle.command_lines.proofs.SingleWords.{found_alone}
use Rattle.command_lines.specs.CommandWords.{WritesPrefix}
use Rattle.command_lines.proofs.command_line.prefix.Goals as goal

pub returns-in_err-only_word : goal.returns-in_err-only_word
returns-in_err-only_word c = rw c.from_residual.ensures (λ x is. c.in_err-only_word.ensures is.0 is.1)

pub returns : goal.returns
returns c = found_alone (WritesPrefix) _ _ c.prefix_of.result c.in_ok-only_word.ensures c.prefix_of.ensures
