use Rattle.std.proofs.Common.{◌≡◌, subst}
use Rattle.command_lines.specs.CommandWords.{WritesPrefix}
use Rattle.command_lines.specs.Words.{WritesBits}
use Rattle.command_lines.proofs.command_line.assertion.Goals as goal

pub returns-in_err-prefix : goal.returns-in_err-prefix
returns-in_err-prefix c = rw c.from_residual.ensures (λ parts is. c.in_err-prefix.ensures is.0 is.1 is.2 is.3)

pub returns-in_err-prefix_of : goal.returns-in_err-prefix_of
returns-in_err-prefix_of c = rw c.from_residual-in_err-prefix_of.ensures (λ parts is.
    let same : is.0 ≡ c.in_ok-prefix.prefix.now = let one = is.3 in let other = c.in_ok-prefix.ensures in cc in
    c.in_err-prefix_of.ensures parts.0 (subst (λ word. WritesPrefix word parts.0) same is.4))

pub returns-in_err-octet : goal.returns-in_err-octet
returns-in_err-octet c = rw c.from_residual-in_err-octet.ensures (λ parts is.
    let same : is.1 ≡ c.in_ok-prefix.max_len.now = let one = is.3 in let other = c.in_ok-prefix.ensures in cc in
    c.in_err-octet.ensures parts.1 (subst (λ word. WritesBits 8 word parts.1) same is.5))

pub returns-in_err-asn_of : goal.returns-in_err-asn_of
returns-in_err-asn_of c = rw c.from_residual-in_err-asn_of.ensures (λ parts is.
    let same : is.2 ≡ c.in_ok-prefix.asn.now = let one = is.3 in let other = c.in_ok-prefix.ensures in cc in
    c.in_err-asn_of.ensures parts.2 (subst (λ word. WritesBits 32 word parts.2.0) same is.6))

pub returns : goal.returns
returns c = (_, _, _, c.in_ok-prefix.ensures, c.in_ok-prefix_of.ensures, c.in_ok-octet.ensures, c.in_ok-asn_of.ensures)
