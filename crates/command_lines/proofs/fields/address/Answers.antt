use Rattle.std.proofs.Common.{◌∙◌, sym}
use Rattle.command_lines.proofs.SingleWords.{no_address}
use Rattle.command_lines.proofs.fields.address.Goals as goal

pub returns-in_err-address : goal.returns-in_err-address
returns-in_err-address c = rw c.from_residual.ensures (no_address c.args.text.now c.parse.result c.parse.ensures.value (sym c.ok.ensures.value ∙ c.in_err-address.was))
