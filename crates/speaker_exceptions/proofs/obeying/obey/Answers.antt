use Rattle.std.proofs.Common.{◌∙◌, refl, sym}
use Rattle.runs.proofs.RefusedEvents.{unrefused}
use Rattle.runs.specs.declared.event.Event.TheVariants.{Command as Commanded}
use Rattle.speaker.proofs.Refusals.{refusal_same}
use Rattle.speaker_exceptions.proofs.ObeyedInOrder.{refused_one}
use Rattle.speaker_exceptions.proofs.obeying.obey.Goals as goal

pub returns-in-Ok : goal.returns-in-Ok
returns-in-Ok g c config r agrees =
    let now = c.in-Ok.ensures.agrees config r agrees in
    (now.0, now.1, sym (refusal_same config r _ (Commanded c.args.command) agrees) ∙ unrefused _ c.in-Ok.field-0 c.args.speaker.now c.step.new.self c.in-Ok.ensures.refused, now.3)

pub returns-in-Err : goal.returns-in-Err
returns-in-Err g c = refused_one _ c.args.command c.in-Err.refusal c.args.speaker.now c.step.new.self refl c.in-Err.ensures.refused
