use Rattle.std.proofs.Common.{ℕ, IsAscii, List, inl, sym, subst, ◌∙◌}
use Rattle.command_lines.specs.CommandWords.{Says}
use Rattle.command_lines.specs.Words.{words_in}
use Rattle.scenario.proofs.ObeyedCommands.{fault_of_command, fault_of_words, obeys_line, obeys_none, obeys_nothing, words_name_line}
use Rattle.scenario.proofs.commands.obey_line.Goals as goal

pub returns-then-is_passed_over-clause-obeys : goal.returns-then-is_passed_over-clause-obeys
returns-then-is_passed_over-clause-obeys g c = obeys_nothing c.args.line.now _ (sym c.is_passed_over.ensures ∙ c.if-is_passed_over.true)

pub returns-in-Ok-clause-obeys : goal.returns-in-Ok-clause-obeys
returns-in-Ok-clause-obeys g c =
    let text = c.in-Some.ensures in
    obeys_line c.args.line.now c.command.result c.obey.result _ _ (sym c.is_passed_over.ensures ∙ c.if-is_passed_over.false) (subst (λ (t : List ℕ). Says (words_in t) c.command.result) (text ∙ c.without_line_end.ensures) (c.command.ensures _ c.in-Ok.ensures)) c.obey.ensures.obeys

pub returns-in_default-clause-fault : goal.returns-in_default-clause-fault
returns-in_default-clause-fault g c = (sym c.is_passed_over.ensures ∙ c.if-is_passed_over.false, inl (subst (λ octets. ¬ (IsAscii octets)) c.without_line_end.ensures c.in_default.ensures))

pub returns-in-Ok-clause-fault : goal.returns-in-Ok-clause-fault
returns-in-Ok-clause-fault g c =
    let text = c.in-Some.ensures in
    fault_of_command c.args.line.now c.command.result c.obey.new.speaker c.obey.result (sym c.is_passed_over.ensures ∙ c.if-is_passed_over.false) (subst (λ (t : List ℕ). Says (words_in t) c.command.result) (text ∙ c.without_line_end.ensures) (c.command.ensures _ c.in-Ok.ensures)) c.obey.ensures.fault

pub returns-in-Err-clause-obeys : goal.returns-in-Err-clause-obeys
returns-in-Err-clause-obeys g c = obeys_none _

pub returns-in-Err-clause-line : goal.returns-in-Err-clause-line
returns-in-Err-clause-line g c = rw c.unread.ensures (words_name_line _ c.in-Err.fault)

pub returns-in-Err-clause-fault : goal.returns-in-Err-clause-fault
returns-in-Err-clause-fault g c =
    rw c.unread.ensures (fault_of_words c.args.line.now c.in-Some.text.now _ c.args.speaker.now c.in-Err.fault (sym c.is_passed_over.ensures ∙ c.if-is_passed_over.false) (c.in-Some.ensures ∙ c.without_line_end.ensures) c.in-Err.ensures)
