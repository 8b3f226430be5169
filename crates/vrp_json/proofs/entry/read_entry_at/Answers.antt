use Rattle.std.proofs.Common.{inr, refl}
use Rattle.vrp_json.proofs.entry.read_entry_at.Goals as goal

pub returns : goal.returns
returns c = rw c.in-Some.is (c.in_ok-said.said, c.in_ok-said.ensures, inr (λ over. cc (c.if-is_expired.ensures.1 over), refl))
