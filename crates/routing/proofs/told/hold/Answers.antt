use Rattle.routing.proofs.Results.{OnErr-is}
use Rattle.routing.proofs.told.hold.Goals as goal

pub is_renewal-requires : goal.is_renewal-requires
is_renewal-requires g c = rw c.adj_out.ensures c.requires.news

pub returns-in_err-attrs-clause-others : goal.returns-in_err-attrs-clause-others
returns-in_err-attrs-clause-others g c = OnErr-is _ _ (rw c.adj_out.ensures at c.if-is_renewal.ensures.one)

pub returns-clause-others : goal.returns-clause-others
returns-clause-others g c = OnErr-is _ _ (rw c.adj_out.ensures at c.if-is_renewal.ensures.one)
