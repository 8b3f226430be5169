use Rattle.command_lines.proofs.FilterWords.{as_none, both_none, prefix_none}
use Rattle.command_lines.proofs.command_line.filter.Goals as goal

pub returns-in_err-prefix : goal.returns-in_err-prefix
returns-in_err-prefix c = rw c.from_residual-in_err-prefix.ensures (prefix_none _ c.in_ok-kind.kind.now _ c.in_ok-kind.ensures (rw c.if-is_word.true at c.is_word.ensures) c.in_err-prefix.ensures)

pub returns-in_err-asn : goal.returns-in_err-asn
returns-in_err-asn c = rw c.from_residual-in_err-asn.ensures (as_none _ c.in_ok-kind.kind.now _ c.in_ok-kind.ensures (rw c.if-is_word-2.true at c.is_word-2.ensures) c.in_err-asn.ensures)

pub returns-in_err-prefix-2 : goal.returns-in_err-prefix-2
returns-in_err-prefix-2 c = rw c.from_residual-in_err-prefix-2.ensures (both_none _ c.in_ok-kind.kind.now _ c.in_ok-kind.ensures (rw c.if-is_word-3.true at c.is_word-3.ensures) c.in_err-prefix-2.ensures)
