use Rattle.std.proofs.Common.{map, take}
use Rattle.command_lines.specs.RuleWords.{AreRules}
use Rattle.command_lines.proofs.rules.each_rule.Given as goal

-- the rules of the groups so far
abbrev pub invariant-loop-words : goal.invariant-loop-words
invariant-loop-words l = AreRules (map (λ group. map (λ word. word.now) group.now) (take l.words-index l.groups)) l.rules.items
