use Rattle.scenario.proofs.OutsideFaults.{counts-named, counts-outside}
use Rattle.scenario.proofs.script.play_lines.Goals as goal

pub returns-in_err-read_line : goal.returns-in_err-read_line
returns-in_err-read_line g c = counts-outside c.from_residual.result c.from_residual.ensures.1

pub returns-in_err-play_line : goal.returns-in_err-play_line
returns-in_err-play_line g c =
    counts-named c.from_residual-in_err-play_line.result c.loop-number.number c.in_err-play_line.field-0.0 c.from_residual-in_err-play_line.ensures.1 c.loop-number.auto.number c.in_err-play_line.ensures
