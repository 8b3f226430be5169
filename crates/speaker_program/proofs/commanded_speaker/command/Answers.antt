use Rattle.std.proofs.Common.{inl, inr, refl}
use Rattle.speaker_program.proofs.ServedWords.{if_err_as}
use Rattle.speaker_program.proofs.commanded_speaker.command.Goals as goal

pub returns-in_err-lines-clause-stopped : goal.returns-in_err-lines-clause-stopped
returns-in_err-lines-clause-stopped g c = if_err_as _ c.from_residual.result c.in_err-lines.field-0.0 c.from_residual.ensures.1 (inl (rw c.as_str-path.ensures.value at c.in_err-lines.ensures.unopened))

pub returns-in_err-command_from-clause-stopped : goal.returns-in_err-command_from-clause-stopped
returns-in_err-command_from-clause-stopped g c =
    if_err_as _ c.from_residual-in_err-command_from.result c.in_err-command_from.field-0.0 c.from_residual-in_err-command_from.ensures.1
    (inr (inl (g.L.Read.remaining c.in_ok-lines.lines, (c.in_ok-lines.lines, rw c.as_str-path.ensures.value at c.in_ok-lines.ensures.given, refl), rw c.as_str-path.ensures.value at c.in_err-command_from.ensures.stops)))

pub returns-in-None-clause-commands : goal.returns-in-None-clause-commands
returns-in-None-clause-commands g c = (c.in_ok-lines.lines, rw c.as_str-path.ensures.value at c.in_ok-lines.ensures.given, c.in_ok-command_from.ensures.obeys)

pub returns-in-Some-clause-stopped : goal.returns-in-Some-clause-stopped
returns-in-Some-clause-stopped g c =
    inr (inr (
      g.L.Read.remaining c.in_ok-lines.lines,
      c.in-Some.slot,
      (c.in_ok-lines.lines, rw c.as_str-path.ensures.value at c.in_ok-lines.ensures.given, refl),
      c.in_ok-command_from.ensures.obeys,
      rw c.as_slice.ensures.value at c.in-Some.ensures,
      rw c.as_str-path.ensures.value at c.bad_slot.ensures.slot,
    ))
