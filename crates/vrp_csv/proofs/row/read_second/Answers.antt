use Rattle.vrp_csv.proofs.Digits.{number_is_text}
use Rattle.vrp_csv.proofs.row.read_second.Goals as goal

pub returns-in_default : goal.returns-in_default
returns-in_default c = λ number small h. c.in_default.ensures.cases.0 (number_is_text 20 c.args.text.now number h)
