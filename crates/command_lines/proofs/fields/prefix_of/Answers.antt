use Rattle.command_lines.proofs.PrefixWords.{prefix_found}
use Rattle.command_lines.proofs.fields.prefix_of.Goals as goal

pub returns : goal.returns
returns c = rw c.ok.ensures.value (prefix_found c.args.text.now c.parse.result c.parse.ensures)
