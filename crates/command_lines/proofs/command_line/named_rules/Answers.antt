use Rattle.std.proofs.Common.{◌≡◌, subst}
use Rattle.command_lines.specs.Words.{IsName}
use Rattle.command_lines.proofs.command_line.named_rules.Goals as goal

pub returns-in_err-word : goal.returns-in_err-word
returns-in_err-word c = rw c.from_residual.ensures (λ name body are is. let none = c.in_err-word.ensures in cc)

pub returns-in_err-name_of : goal.returns-in_err-name_of
returns-in_err-name_of c = rw c.from_residual-in_err-name_of.ensures (λ name body are is.
    let same : name ≡ c.in_ok-word.word.now = let other = c.in_ok-word.ensures in cc in
    c.in_err-name_of.ensures (subst (λ word. IsName word) same is))

pub returns : goal.returns
returns c = (let one = c.in_ok-word.ensures in let other = c.in_ok-name_of.ensures.0 in cc, c.in_ok-name_of.ensures.1)
