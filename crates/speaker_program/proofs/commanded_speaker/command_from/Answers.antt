use Rattle.speaker_program.proofs.Commanding.{obeys_if_ok, stops_if_err, unread_stops}
use Rattle.speaker_program.proofs.ServedWords.{if_err_as}
use Rattle.speaker_program.proofs.commanded_speaker.command_from.Goals as goal

pub returns-in_err-text-clause-stops : goal.returns-in_err-text-clause-stops
returns-in_err-text-clause-stops g c =
    if_err_as _ c.from_residual.result c.in_err-text.field-0.0 c.from_residual.ensures.1 (unread_stops _ _ c.in_err-text.field-0.0 _ _ c.in_err-text.ensures.unread)

pub returns-clause-stops : goal.returns-clause-stops
returns-clause-stops g c = stops_if_err (g.R.Read.remaining c.args.reader) c.in_ok-text.text.items _ c.obey_text.result _ _ c.in_ok-text.ensures.text (rw c.as_slice.ensures.value at c.obey_text.ensures.obeys)

pub returns-clause-obeys : goal.returns-clause-obeys
returns-clause-obeys g c = obeys_if_ok (g.R.Read.remaining c.args.reader) c.in_ok-text.text.items _ c.obey_text.result _ _ c.in_ok-text.ensures.text (rw c.as_slice.ensures.value at c.obey_text.ensures.obeys)
