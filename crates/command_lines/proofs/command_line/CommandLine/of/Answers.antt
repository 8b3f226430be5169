use Rattle.std.proofs.Common.{subst, sym}
use Rattle.command_lines.proofs.ReadLines.{reads_as}
use Rattle.command_lines.specs.CommandWords.{SayNone, Says}
use Rattle.command_lines.proofs.command_line.CommandLine.of.Goals as goal

pub returns-in_default : goal.returns-in_default
returns-in_default c = λ command says. let one = says.1 in let none = c.in_default.ensures in cc

pub returns-then-is_word : goal.returns-then-is_word
returns-then-is_word c =
    let word = rw c.if-is_word.true at c.is_word.ensures in
    reads_as _ _ c.policy.result (let all = c.in-Some.ensures in cc) c.policy.ensures

pub returns-in-Some-command : goal.returns-in-Some-command
returns-in-Some-command c = subst (λ words. Says words c.in-Some-command.command) (sym c.in-Some.ensures) c.in-Some-command.ensures

pub returns-in-None : goal.returns-in-None
returns-in-None c = subst (λ words. SayNone words) (sym c.in-Some.ensures) (c.in-None.ensures (rw c.if-is_word.false at c.is_word.ensures))
