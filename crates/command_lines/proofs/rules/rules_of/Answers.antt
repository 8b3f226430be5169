use Rattle.command_lines.proofs.RuleLines.{rules_of_groups}
use Rattle.command_lines.proofs.rules.rules_of.Goals as goal

pub returns : goal.returns
returns c = rules_of_groups c.args.words.now _ c.each_rule.result c.in_ok-groups.ensures (rw c.as_slice.ensures.value at c.each_rule.ensures)
