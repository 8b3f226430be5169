use Rattle.command_lines.proofs.SingleWords.{name_alone}
use Rattle.command_lines.proofs.command_line.name.Goals as goal

pub returns-in_err-only_word : goal.returns-in_err-only_word
returns-in_err-only_word c = rw c.from_residual.ensures (λ name is. c.in_err-only_word.ensures name is.0)

pub returns : goal.returns
returns c = name_alone _ _ c.name_of.result c.in_ok-only_word.ensures c.name_of.ensures
