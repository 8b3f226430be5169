use Rattle.std.proofs.Common.{refl}
use Rattle.speaker_program.proofs.AttendedSo.{attends_so}
use Rattle.speaker_program.proofs.OtherFaults.{memory_stops, turns_stop}
use Rattle.speaker_program.proofs.ServedWords.{if_err_as, if_err_so, on_ok_so}
use Rattle.speaker_program.proofs.attending.attend_all.Goals as goal

pub returns-clause-turns : goal.returns-clause-turns
returns-clause-turns g c =
    on_ok_so c.of_attending.result
    (λ well.
    attends_so g.P.Operators.wish g.P.Operators.line g.P.Operators.turns g.P.Operators.hears _ c.args.settings.now c.args.turns c.attended_turns-ended.result _ _ c.args.served.now c.hold_back.new.served c.attended_turns-ended.new.served
    c.in_ok-slots.slots.items c.wait_of.result c.new-gate.result c.as_slice-remotes.result.now c.in_ok-desk.desk c.in_ok-operators.operators
    (record { stand = record { served = c.attended_turns-ended.new.served; desk = c.attended_turns-ended.new.desk }; operators = c.attended_turns-ended.new.operators })
    c.in_ok-slots.ensures.held c.in_ok-operators.ensures.given c.as_slice-remotes.ensures.value c.wait_of.ensures c.new-gate.ensures c.in_ok-desk.ensures.desk c.attended_turns-ended.ensures.turns well refl) c.of_attending.ensures.well

pub returns-in_err-operators-clause-fault : goal.returns-in_err-operators-clause-fault
returns-in_err-operators-clause-fault g c = if_err_as _ c.from_residual.result c.in_err-operators.field-0.0 c.from_residual.ensures.1 c.in_err-operators.ensures.fault

pub returns-in_err-slots-clause-fault : goal.returns-in_err-slots-clause-fault
returns-in_err-slots-clause-fault g c =
    memory_stops c.args.settings.now c.from_residual-in_err-slots.result c.in_err-slots.field-0.0 c.from_residual-in_err-slots.ensures.1 c.in_err-slots.ensures.memory

pub returns-in_err-desk-clause-fault : goal.returns-in_err-desk-clause-fault
returns-in_err-desk-clause-fault g c =
    memory_stops c.args.settings.now c.from_residual-in_err-desk.result c.in_err-desk.field-0.0 c.from_residual-in_err-desk.ensures.1 c.in_err-desk.ensures.memory

pub returns-clause-fault : goal.returns-clause-fault
returns-clause-fault g c = if_err_so c.of_attending.result c.of_attending.ensures.fault (turns_stop c.args.settings.now)
