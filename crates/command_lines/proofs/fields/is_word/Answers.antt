use Rattle.std.specs.Cmp.Lexicographic.{told_text}
use Rattle.command_lines.proofs.fields.is_word.Goals as goal

pub returns : goal.returns
returns c = told_text _ _ _ c.eq.ensures
