use Rattle.std.proofs.Common.{inl, inr, refl}
use Rattle.speaker_program.proofs.EndedWell.{on_ok_of}
use Rattle.speaker_program.proofs.ServedWords.{if_err_as, if_err_so}
use Rattle.speaker_program.proofs.checking.check.Goals as goal

pub returns-in_err-settings-clause-unchecked : goal.returns-in_err-settings-clause-unchecked
returns-in_err-settings-clause-unchecked g c = if_err_as _ c.from_residual.result c.in_err-settings.field-0.0 c.from_residual.ensures.1 (record { why = inl c.in_err-settings.ensures.untold })

pub returns-in_err-said-clause-unchecked : goal.returns-in_err-said-clause-unchecked
returns-in_err-said-clause-unchecked g c =
    let settings = c.in_ok-settings.ensures.told in
    if_err_as _ c.from_residual-in_err-said.result c.in_err-said.field-0.0 c.from_residual-in_err-said.ensures.1
    (record {
      why = inr (
        c.in_ok-settings.settings,
        record { octets = (settings.0).items; read = (settings.0, settings.2, refl); table = settings.1; spelled = settings.3; told = settings.4 },
        inl (inl c.in_err-said.ensures.unsaid),
      );
    })

pub returns-in_err-speaker-clause-unchecked : goal.returns-in_err-speaker-clause-unchecked
returns-in_err-speaker-clause-unchecked g c =
    let settings = c.in_ok-settings.ensures.told in
    if_err_as _ c.from_residual-in_err-speaker.result c.in_err-speaker.field-0.0 c.from_residual-in_err-speaker.ensures.1
    (record {
      why = inr (
        c.in_ok-settings.settings,
        record { octets = (settings.0).items; read = (settings.0, settings.2, refl); table = settings.1; spelled = settings.3; told = settings.4 },
        inl (inr (c.in_ok-said.said, c.in_ok-said.ensures.said, c.in_err-speaker.ensures.uncommanded)),
      );
    })

pub returns-clause-checked : goal.returns-clause-checked
returns-clause-checked g c =
    let settings = c.in_ok-settings.ensures.told in
    let commands = c.in_ok-speaker.ensures.commands in
    on_ok_of c.tell_checked.result
    (record {
      settings = c.in_ok-settings.settings;
      read = record { octets = (settings.0).items; read = (settings.0, settings.2, refl); table = settings.1; spelled = settings.3; told = settings.4 };
      speaker = c.in_ok-speaker.speaker;
      is = record { said = c.in_ok-said.said; text = g.L.Read.remaining commands.0; excepted = c.in_ok-said.ensures.said; told = (commands.0, commands.1, refl); commanded = commands.2; slots = c.in_ok-speaker.ensures.slots };
    })

pub returns-clause-unchecked : goal.returns-clause-unchecked
returns-clause-unchecked g c =
    let settings = c.in_ok-settings.ensures.told in
    let commands = c.in_ok-speaker.ensures.commands in
    if_err_so c.tell_checked.result c.tell_checked.ensures
    (λ ends failed.
    record {
      why = inr (
        c.in_ok-settings.settings,
        record { octets = (settings.0).items; read = (settings.0, settings.2, refl); table = settings.1; spelled = settings.3; told = settings.4 },
        inr (
          c.in_ok-speaker.speaker,
          failed.0,
          record { said = c.in_ok-said.said; text = g.L.Read.remaining commands.0; excepted = c.in_ok-said.ensures.said; told = (commands.0, commands.1, refl); commanded = commands.2; slots = c.in_ok-speaker.ensures.slots },
          failed.1,
        ),
      );
    })
