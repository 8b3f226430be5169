use Rattle.std.proofs.Common.{Result, Ok, Err, OnErr}
use Rattle.routing.proofs.told.announce.Goals as goal

err_so : {T F : Type 0} {X : Type 0} (r : Result T F) → X → OnErr r X
err_so (Ok t) x = tt
err_so (Err f) x = x

pub returns-in_err-hold-clause-others : goal.returns-in_err-hold-clause-others
returns-in_err-hold-clause-others g c = err_so c.from_residual.result (rw (← c.routing.view_is) c.in_err-hold.ensures.others)

pub hold-requires-clause-news : goal.hold-requires-clause-news
hold-requires-clause-news g c = rw (← c.routing.view_is) at c.requires.news
