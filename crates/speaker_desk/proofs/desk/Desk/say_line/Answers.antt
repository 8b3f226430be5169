use Rattle.std.proofs.Common.{subst}
use Rattle.command_lines.specs.Words.{words_in}
use Rattle.scenario.specs.ScriptLines.{SaysIfCommand, SaysItsCommand}
use Rattle.scenario.specs.declared.line.Line.{Line}
use Rattle.scenario.specs.declared.line.SpeakerLine.{SpeakerLine}
use Rattle.speaker_desk.proofs.Attended.{commands_says}
use Rattle.speaker_desk.proofs.desk.Desk.say_line.Goals as goal

pub returns-in-Ok-Drive-Obey : goal.returns-in-Ok-Drive-Obey
returns-in-Ok-Drive-Obey g c =
    let words = words_in c.args.text.now in
    let drives = subst (λ (line : Line). SaysItsCommand words line) c.in-Ok-Drive-Obey.field-0-is c.in-Ok-Drive-Obey.ensures in
    let obeys = subst (λ (line : SpeakerLine). SaysIfCommand words line) c.in-Ok-Drive-Obey.field-0-0-is drives in
    commands_says c.args.text.now c.command.result _ _ (c.command.ensures words obeys) c.obey.ensures
