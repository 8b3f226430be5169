use Rattle.std.proofs.Common.{[], inl, inr, subst}
use Rattle.runs.specs.Agreement.{Agrees}
use Rattle.runs.specs.declared.config.Config.{Config}
use Rattle.speaker_program.proofs.Commanding.{commanded_by}
use Rattle.speaker_program.proofs.ServedWords.{if_err_as}
use Rattle.speaker_program.specs.Unbegun.{IsUnmade}
use Rattle.speaker_program.proofs.commanded_speaker.commanded.Goals as goal

pub returns-clause-commands : goal.returns-clause-commands
returns-clause-commands g c =
    let obeys = c.in_ok-command.ensures.commands in
    (obeys.0, obeys.1, commanded_by c.args.said.now.exceptions _ _ _ c.except.new.speaker _ (subst (λ (config : Config). Agrees config [] c.in_ok-speaker.speaker) c.config_of.ensures c.in_ok-speaker.ensures.agrees) c.in_ok-except.ensures.obeys obeys.2)

pub returns-in_err-speaker-clause-uncommanded : goal.returns-in_err-speaker-clause-uncommanded
returns-in_err-speaker-clause-uncommanded g c =
    if_err_as _ c.from_residual.result c.in_err-speaker.field-0.0 c.from_residual.ensures.1
    (inl (subst (λ (config : Config). IsUnmade config c.in_err-speaker.field-0.0) c.config_of.ensures c.in_err-speaker.ensures.unmade))

pub returns-in_err-except-clause-uncommanded : goal.returns-in_err-except-clause-uncommanded
returns-in_err-except-clause-uncommanded g c =
    if_err_as _ c.from_residual-in_err-except.result c.in_err-except.field-0.0 c.from_residual-in_err-except.ensures.1
    (inr (inl (c.in_ok-speaker.speaker, c.except.new.speaker, subst (λ (config : Config). Agrees config [] c.in_ok-speaker.speaker) c.config_of.ensures c.in_ok-speaker.ensures.agrees, c.in_err-except.ensures.obeys)))

pub returns-in_err-command-clause-uncommanded : goal.returns-in_err-command-clause-uncommanded
returns-in_err-command-clause-uncommanded g c =
    if_err_as _ c.from_residual-in_err-command.result c.in_err-command.field-0.0 c.from_residual-in_err-command.ensures.1
    (inr (inr (c.in_ok-speaker.speaker, c.except.new.speaker, c.command.new.speaker, subst (λ (config : Config). Agrees config [] c.in_ok-speaker.speaker) c.config_of.ensures c.in_ok-speaker.ensures.agrees, c.in_ok-except.ensures.obeys, c.in_err-command.ensures.stopped)))
