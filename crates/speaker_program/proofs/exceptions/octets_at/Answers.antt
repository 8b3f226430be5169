use Rattle.std.proofs.Common.{inl, inr, refl}
use Rattle.speaker_program.proofs.ServedWords.{if_err_as}
use Rattle.speaker_program.proofs.exceptions.octets_at.Goals as goal

pub returns-in_err-lines-clause-unread : goal.returns-in_err-lines-clause-unread
returns-in_err-lines-clause-unread g c = if_err_as _ c.from_residual.result c.in_err-lines.field-0.0 c.from_residual.ensures.1 (inl c.in_err-lines.ensures.unopened)

pub returns-in-Ok-clause-octets : goal.returns-in-Ok-clause-octets
returns-in-Ok-clause-octets g c = (c.in_ok-lines.lines, c.in_ok-lines.ensures.given, c.in-Ok.ensures)

pub returns-in-Err-clause-unread : goal.returns-in-Err-clause-unread
returns-in-Err-clause-unread g c = inr (g.L.Read.remaining c.in_ok-lines.lines, c.in-Err.error, (c.in_ok-lines.lines, c.in_ok-lines.ensures.given, refl), c.unread.ensures.file)
