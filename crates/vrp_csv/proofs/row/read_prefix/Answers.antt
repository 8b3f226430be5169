use Rattle.vrp_csv.proofs.Digits.{prefix_is_text}
use Rattle.vrp_csv.proofs.Rows.{writes_none}
use Rattle.vrp_csv.proofs.row.read_prefix.Goals as goal

pub returns-in_default : goal.returns-in_default
returns-in_default c = λ prefix h. c.in_default.ensures.cases.0 (prefix_is_text c.args.text.now prefix.bits prefix.len h)

pub returns-in-Err : goal.returns-in-Err
returns-in-Err c = λ prefix h. writes_none _ c.in-Err.field-0 c.in-Err.ensures prefix (rw c.in-Ok.ensures.cases.0 h)
