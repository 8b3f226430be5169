use Rattle.command_lines.proofs.Numbers.{number_found}
use Rattle.command_lines.proofs.fields.long.Goals as goal

pub returns : goal.returns
returns c = number_found 32 c.args.text.now c.number.result c.number.ensures.digits (λ n is. (rw is at c.number.ensures.value).0) (λ none pass. let bad = c.number.ensures.none none pass in (bad.0, bad.1.0))
