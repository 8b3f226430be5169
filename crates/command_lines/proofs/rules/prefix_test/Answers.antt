use Rattle.std.proofs.Common.{subst}
use Rattle.command_lines.proofs.RuleParts.{no_prefix_words, test_of}
use Rattle.command_lines.specs.CommandWords.{WritesPrefix}
use Rattle.command_lines.specs.Words.{WritesBits}
use Rattle.command_lines.proofs.rules.prefix_test.Goals as goal

pub returns-in_default-clause-only : goal.returns-in_default-clause-only
returns-in_default-clause-only c = λ range rest is none. no_prefix_words _ c.in_default.ensures range rest is

pub returns-in_err-prefix_of-clause-only : goal.returns-in_err-prefix_of-clause-only
returns-in_err-prefix_of-clause-only c = λ range rest is none.
    let of = test_of _ _ _ _ _ c.in-Some.ensures range rest is none in
    absurd (c.in_err-prefix_of.ensures of.range.prefix (subst (λ word. WritesPrefix word of.range.prefix) of.same_prefix of.test.4))

pub returns-in_err-octet-clause-only : goal.returns-in_err-octet-clause-only
returns-in_err-octet-clause-only c = λ range rest is none.
    let of = test_of _ _ _ _ _ c.in-Some.ensures range rest is none in
    absurd (c.in_err-octet.ensures of.range.from (subst (λ word. WritesBits 8 word of.range.from) of.same_from of.test.5))

pub returns-in_err-octet-2-clause-only : goal.returns-in_err-octet-2-clause-only
returns-in_err-octet-2-clause-only c = λ range rest is none.
    let of = test_of _ _ _ _ _ c.in-Some.ensures range rest is none in
    absurd (c.in_err-octet-2.ensures of.range.to (subst (λ word. WritesBits 8 word of.range.to) of.same_to of.test.6))

pub returns-clause-only : goal.returns-clause-only
returns-clause-only c = λ range rest is none. (test_of _ _ _ _ _ c.in-Some.ensures range rest is none).same_rest

pub returns-clause-some : goal.returns-clause-some
returns-clause-some c = (_, _, _, c.in-Some.ensures, c.in_ok-prefix_of.ensures, c.in_ok-octet.ensures, c.in_ok-octet-2.ensures)
