use Rattle.std.proofs.Common.{inr, refl}
use Rattle.vrp_csv.proofs.row.read_row_at.Goals as goal

pub returns : goal.returns
returns c = rw c.in-Some.is (c.in_ok-said.said, c.in_ok-said.ensures, inr (λ over. cc (c.if-is_expired.ensures.1 over), refl))
