use Rattle.rib_out.proofs.PrefixRows.{rising_behind}
use Rattle.routes.specs.WaitingRows.{waiting_for}
use Rattle.routes.proofs.routes.Routes.waiting_after.Goals as goal

pub invariant_of-result : goal.invariant_of-result
invariant_of-result g c = rw c.waiting.ensures.all at c.waiting.ensures.rising

pub returns-clause-rising : goal.returns-clause-rising
returns-clause-rising g c = rising_behind c.args.after (waiting_for c.args.self.now c.args.slot) (rw c.waiting.ensures.all at c.waiting.ensures.rising)
