use Rattle.std.proofs.Common.{[], ◌∷◌, refl, sym, arith}
use Rattle.runs.specs.Runs.{call_of, Command_call}
use Rattle.speaker.specs.Ready.{IsReady}
use Rattle.speaker.proofs.Events.{holds_begun, no_command, steps}
use Rattle.speaker.proofs.step.Speaker.take_event.Goals as goal
use Rattle.speaker.proofs.step.Speaker.take_event.Goals.{in-Command+in-Ok, in_default}

pub take_signal-report-requires-clause-signals : goal.take_signal-report-requires-clause-signals
take_signal-report-requires-clause-signals g c = no_command c.args.event c.in_default.not-Command

pub take_signal-report-requires-clause-accepted : goal.take_signal-report-requires-clause-accepted
take_signal-report-requires-clause-accepted g c = rw c.begin_count.ensures c.requires

pub returns-clause-agrees : goal.returns-clause-agrees
returns-clause-agrees g c = λ config r a.
    let begins = holds_begun config r c.args.self.now a.holds in
    let ready : IsReady config r (call_of c.args.event) c.match-event.report c.match-event.self =
    elim c.match-event.branch [
      | in-Command+in-Ok w ↦
          let obeyed = w.in-Ok.ensures.ok config r a.holds in
          rw (w.self-is, w.report-is, w.in-Command.is, c.nothing-report.ensures) (record { call = Command_call _; asked_is = refl; opened_is = sym obeyed.1; starved_is = refl; cache_opened_is = refl; cache_starved_is = refl; fair = tt; holds = obeyed.0 })
      | in_default w ↦ rw (w.self-is, w.report-is) ((rw w.begin_count.ensures at w.take_signal-report.ensures.ready) config r begins (omega arith))
    ] in
    steps config r _ _ c.match-event.self c.settle.new.self c.settle.result _ ready a.thrifty c.settle.ensures.agrees refl
