use Rattle.command_lines.proofs.SingleWords.{found_alone}
use Rattle.command_lines.specs.Words.{WritesBits}
use Rattle.command_lines.proofs.command_line.slot.Goals as goal

pub returns-in_err-only_word : goal.returns-in_err-only_word
returns-in_err-only_word c = rw c.from_residual.ensures (λ x is. c.in_err-only_word.ensures is.0 is.1)

pub returns : goal.returns
returns c = found_alone (WritesBits 8) _ _ c.octet.result c.in_ok-only_word.ensures c.octet.ensures
