use Rattle.std.proofs.Common.{◌∙◌, ap, map, sym}
use Rattle.command_lines.proofs.ReadLines.{reads_as}
use Rattle.command_lines.proofs.command_line.CommandLine.parse.Goals as goal

pub returns : goal.returns
returns c = reads_as _ _ c.of.result (sym c.in_ok-words.ensures ∙ ap (map (λ word. word.now)) (sym c.as_slice.ensures.value)) c.of.ensures
