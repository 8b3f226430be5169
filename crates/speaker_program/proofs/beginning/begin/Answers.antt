use Rattle.std.proofs.Common.{◌∙◌, ap, inl, inr, refl}
use Rattle.speaker_turns.specs.Turns.{Turns, with_patience}
use Rattle.speaker_turns.specs.declared.patience.Patience.{Patience}
use Rattle.speaker_program.specs.Begun.{patience_of, with_remotes}
use Rattle.speaker_program.proofs.ServedWords.{if_err_as}
use Rattle.speaker_program.proofs.beginning.begin.Goals as goal

pub returns-clause-begins : goal.returns-clause-begins
returns-clause-begins g c =
    let told = c.in_ok-speaker.ensures.commands in
    record {
      speaker = c.in_ok-speaker.speaker;
      wire = g.W.Wire.state c.in_ok-wire.wire;
      is = record { said = c.in_ok-said.said; text = g.L.Read.remaining told.0; excepted = c.in_ok-said.ensures.said; told = (told.0, told.1, refl); commanded = told.2; slots = c.in_ok-speaker.ensures.slots };
      opened = (c.in_ok-wire.wire, rw c.is_watched.ensures at c.in_ok-wire.ensures.wire, refl);
      remotes =
          c.tell_remotes.ensures
          ∙ ap (λ (turns : Turns). with_remotes c.args.settings.now.peers.items c.args.settings.now.cache turns)
          (c.set_patience.ensures
          ∙ (ap (λ (patience : Patience). with_patience patience c.in_ok-served.served) c.patience_of.ensures ∙ ap (with_patience (patience_of c.args.settings.now)) c.in_ok-served.ensures));
    }

pub returns-in_err-said-clause-unbegun : goal.returns-in_err-said-clause-unbegun
returns-in_err-said-clause-unbegun g c = if_err_as _ c.from_residual.result c.in_err-said.field-0.0 c.from_residual.ensures.1 (inl (inl c.in_err-said.ensures.unsaid))

pub returns-in_err-speaker-clause-unbegun : goal.returns-in_err-speaker-clause-unbegun
returns-in_err-speaker-clause-unbegun g c =
    if_err_as _ c.from_residual-in_err-speaker.result c.in_err-speaker.field-0.0 c.from_residual-in_err-speaker.ensures.1
    (inl (inr (c.in_ok-said.said, c.in_ok-said.ensures.said, c.in_err-speaker.ensures.uncommanded)))

pub returns-in_err-wire-clause-unbegun : goal.returns-in_err-wire-clause-unbegun
returns-in_err-wire-clause-unbegun g c =
    let told = c.in_ok-speaker.ensures.commands in
    let unopened = rw c.is_watched.ensures at c.in_err-wire.ensures.unopened in
    if_err_as _ c.from_residual-in_err-wire.result c.in_err-wire.field-0.0 c.from_residual-in_err-wire.ensures.1
    (inr (inl (
      c.in_ok-speaker.speaker,
      unopened.0,
      record { said = c.in_ok-said.said; text = g.L.Read.remaining told.0; excepted = c.in_ok-said.ensures.said; told = (told.0, told.1, refl); commanded = told.2; slots = c.in_ok-speaker.ensures.slots },
      unopened.1,
      unopened.2,
    )))

pub returns-in_err-served-clause-unbegun : goal.returns-in_err-served-clause-unbegun
returns-in_err-served-clause-unbegun g c = if_err_as _ c.from_residual-in_err-served.result _ c.from_residual-in_err-served.ensures.1 (inr (inr refl))

pub opened-requires : goal.opened-requires
opened-requires g c =
    let told = c.in_ok-speaker.ensures.commands in
    rw c.is_watched.ensures
    (c.requires.opens c.in_ok-speaker.speaker (record { said = c.in_ok-said.said; text = g.L.Read.remaining told.0; excepted = c.in_ok-said.ensures.said; told = (told.0, told.1, refl); commanded = told.2; slots = c.in_ok-speaker.ensures.slots }))
