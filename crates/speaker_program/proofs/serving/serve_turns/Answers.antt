use Rattle.speaker_program.proofs.OtherFaults.{memory_stops, turns_stop}
use Rattle.speaker_program.proofs.ServedWords.{if_err_as, if_err_so}
use Rattle.speaker_program.proofs.serving.serve_turns.Goals as goal

pub returns-in_err-watch-clause-fault : goal.returns-in_err-watch-clause-fault
returns-in_err-watch-clause-fault g c = if_err_as _ c.from_residual.result c.in_err-watch.field-0.0 c.from_residual.ensures.1 c.in_err-watch.ensures.fault

pub returns-in_err-journal-clause-fault : goal.returns-in_err-journal-clause-fault
returns-in_err-journal-clause-fault g c =
    memory_stops c.args.settings.now c.from_residual-in_err-journal.result c.in_err-journal.field-0.0 c.from_residual-in_err-journal.ensures.1 c.in_err-journal.ensures.memory

pub returns-in-false-clause-fault : goal.returns-in-false-clause-fault
returns-in-false-clause-fault g c = if_err_so c.take_turns.result c.take_turns.ensures.fault (turns_stop c.args.settings.now)
