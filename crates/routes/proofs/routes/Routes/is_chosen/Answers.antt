use Rattle.std.proofs.Common.{subst}
use Rattle.std.specs.List.Sorted.{IsStrictlySortedBy}
use Rattle.std.specs.Map.{keys_of}
use Rattle.decision.specs.BookContents.{IsBestOf, best_at, offer_at, rows_of}
use Rattle.loc_rib.specs.RibTables.{RibTables}
use Rattle.net_prefix.specs.PrefixOrder.{prefix_cmp}
use Rattle.net_prefix.specs.declared.prefix.Prefix.{Prefix}
use Rattle.routes.proofs.routes.Routes.is_chosen.Goals as goal

pub returns-clause-best : goal.returns-clause-best
returns-clause-best g c = rw (← c.self.view_is) (subst (λ (t : RibTables). (p : Prefix) → IsBestOf (λ s. offer_at t.book s p) (best_at (rows_of t.book) p)) c.ribs.ensures c.is_chosen.ensures.best)

pub returns-clause-rising : goal.returns-clause-rising
returns-clause-rising g c = rw (← c.self.view_is) (subst (λ (t : RibTables). IsStrictlySortedBy prefix_cmp (keys_of (rows_of t.book))) c.ribs.ensures c.is_chosen.ensures.rising)
