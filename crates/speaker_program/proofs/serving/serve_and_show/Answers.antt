use Rattle.speaker_program.proofs.OtherFaults.{output_stops}
use Rattle.speaker_program.proofs.ServedWords.{if_err_as, if_err_so}
use Rattle.speaker_program.proofs.serving.serve_and_show.Goals as goal

pub returns-in_err-serve_turns-clause-fault : goal.returns-in_err-serve_turns-clause-fault
returns-in_err-serve_turns-clause-fault g c =
    if_err_as _ c.from_residual.result c.in_err-serve_turns.field-0.0 c.from_residual.ensures.1 c.in_err-serve_turns.ensures.fault

pub returns-clause-fault : goal.returns-clause-fault
returns-clause-fault g c = if_err_so c.show_routes.result c.show_routes.ensures (λ ends failed. output_stops c.args.settings.now ends failed.0 failed.1)
