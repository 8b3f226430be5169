use Rattle.holdings.proofs.HoldingLists.{any_by_mark, listed_by_mark}
use Rattle.holdings.proofs.holdings.Holdings.hold.Goals as goal

pub returns-clause-ready : goal.returns-clause-ready
returns-clause-ready g c = listed_by_mark c.args.slot c.args.sent.now _ _ c.give.ensures.marked

pub returns-clause-any : goal.returns-clause-any
returns-clause-any g c = any_by_mark c.args.slot c.args.sent.now _ _ c.give.ensures.marked
