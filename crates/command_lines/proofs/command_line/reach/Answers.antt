use Rattle.std.proofs.Common.{◌≡◌, refl, subst}
use Rattle.command_lines.proofs.FirstWords.{reach_none}
use Rattle.command_lines.specs.CommandWords.{WritesPrefix}
use Rattle.command_lines.specs.Words.{WritesBits}
use Rattle.command_lines.proofs.command_line.reach.Goals as goal

pub returns-in_err-prefix : goal.returns-in_err-prefix
returns-in_err-prefix c = rw c.from_residual.ensures (reach_none _ (λ prefix cost is. c.in_err-prefix.ensures is.0 is.1 is.2))

pub returns-in_err-prefix_of : goal.returns-in_err-prefix_of
returns-in_err-prefix_of c = rw c.from_residual-in_err-prefix_of.ensures (reach_none _ (λ prefix cost is.
    let same : is.0 ≡ c.in_ok-prefix.prefix.now = let one = is.2 in let other = c.in_ok-prefix.ensures in cc in
    c.in_err-prefix_of.ensures prefix (subst (λ word. WritesPrefix word prefix) same is.3)))

pub returns-in_err-long : goal.returns-in_err-long
returns-in_err-long c = rw c.from_residual-in_err-long.ensures (reach_none _ (λ prefix cost is.
    let same : is.1 ≡ c.in_ok-prefix.cost.now = let one = is.2 in let other = c.in_ok-prefix.ensures in cc in
    c.in_err-long.ensures cost (subst (λ word. WritesBits 32 word cost) same is.4)))

pub returns : goal.returns
returns c = (_, refl, (_, _, c.in_ok-prefix.ensures, c.in_ok-prefix_of.ensures, c.in_ok-long.ensures))
