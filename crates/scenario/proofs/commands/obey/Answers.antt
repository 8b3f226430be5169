use Rattle.runs.proofs.RefusedEvents.{takes_nothing, unrefused}
use Rattle.speaker.proofs.Refusals.{refusal_same}
use Rattle.scenario.proofs.ObeyedCommands.{refusal_told}
use Rattle.std.proofs.Common.{◌∙◌, refl, sym}
use Rattle.runs.specs.declared.event.Event.TheVariants.{Command as Commanded}
use Rattle.scenario.proofs.commands.obey.Goals as goal

pub returns-in-Ok-clause-obeys : goal.returns-in-Ok-clause-obeys
returns-in-Ok-clause-obeys g c config r agrees =
    let now = c.in-Ok.ensures.agrees config r agrees in
    (now.0, now.1, sym (refusal_same config r _ (Commanded c.args.command) agrees) ∙ unrefused _ c.in-Ok.field-0 c.args.speaker.now c.step.new.self c.in-Ok.ensures.refused, now.3)

pub returns-in-Err-clause-obeys : goal.returns-in-Err-clause-obeys
returns-in-Err-clause-obeys g c = takes_nothing _ (Commanded c.args.command) _ _ _ c.in-Err.ensures.refused

pub returns-in-Err-clause-fault : goal.returns-in-Err-clause-fault
returns-in-Err-clause-fault g c = refusal_told _ c.args.command c.in-Err.refusal c.args.speaker.now c.step.new.self c.refused.result refl c.in-Err.ensures.refused c.refused.ensures.told
