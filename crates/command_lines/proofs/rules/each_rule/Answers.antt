use Rattle.std.proofs.Common.{◌≡◌, ℕ, List, Bor, map, take, take_all, arith, subst}
use Rattle.command_lines.specs.RuleWords.{AreRules}
use Rattle.command_lines.proofs.RuleLines.{one_more, rule_at}
use Rattle.command_lines.proofs.rules.each_rule.Goals as goal

pub loop-words-preserved : goal.loop-words-preserved
loop-words-preserved c =
    rw (rw c.if-is_err.ensures.negation at c.push.ensures.items) (one_more (λ group. map (λ word. word.now) group.now) c.args.groups.now c.loop-words.words-index _ _ _ c.loop-words-test.true c.loop-words.invariant c.in-Some.ensures)

pub returns : goal.returns
returns c =
    let gs = c.args.groups.now in
    let all : take c.loop-words.words-index gs ≡ gs = take_all c.loop-words.words-index gs (omega (arith, c.loop-words.auto.words-index-end, c.loop-words-test.false)) in
    subst (λ (xs : List (Bor (List (Bor (List ℕ))))). AreRules (map (λ group. map (λ word. word.now) group.now) xs) c.loop-words.rules.items) all c.loop-words.invariant

pub returns-in_default : goal.returns-in_default
returns-in_default c = λ rules are.
    let at = rule_at (λ group. map (λ word. word.now) group.now) c.args.groups.now c.loop-words.words-index _ rules c.loop-words-test.true are in
    c.in_default.ensures at.0 at.1
