use Rattle.std.proofs.Common.{ℕ, List}
use Rattle.net_prefix.specs.declared.asn.Asn.{Asn}
use Rattle.command_lines.proofs.SingleWords.{found_alone}
use Rattle.command_lines.specs.Words.{WritesBits}
use Rattle.command_lines.proofs.command_line.asn.Goals as goal

pub returns-in_err-only_word : goal.returns-in_err-only_word
returns-in_err-only_word c = rw c.from_residual.ensures (λ x is. c.in_err-only_word.ensures is.0 is.1)

pub returns : goal.returns
returns c = found_alone (λ (word : List ℕ) (asn : Asn). WritesBits 32 word asn.0) _ _ c.asn_of.result c.in_ok-only_word.ensures c.asn_of.ensures
