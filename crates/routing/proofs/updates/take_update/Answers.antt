use Rattle.routing.specs.Tables.{payloads_under}
use Rattle.routing.proofs.HeardOffers.{kept_withdrawn}
use Rattle.routing.proofs.NamedPrefixes.{most_withdrawn}
use Rattle.routing.proofs.Taken.{taken_chosen, taken_kept, taken_routes, taken_unnamed}
use Rattle.routing.proofs.updates.take_update.Goals as goal

pub returns-then-is_none-clause-kept : goal.returns-then-is_none-clause-kept
returns-then-is_none-clause-kept g c = kept_withdrawn c.args.conf.now (payloads_under c.args.conf.now c.args.payloads.now) c.args.sender _ c.args.routing.now c.withdraw_each.new.routing c.withdraw_each.ensures.routes c.withdraw_each.ensures.offers

pub returns-then-is_none-clause-chosen : goal.returns-then-is_none-clause-chosen
returns-then-is_none-clause-chosen g c = most_withdrawn c.args.update _ _ (rw (c.withdrawn-withdrawn.ensures, c.announced-announced.ensures) at c.withdraw_each.ensures.chosen)

pub returns-clause-routes : goal.returns-clause-routes
returns-clause-routes g c = taken_routes _ _ _ _ c.args.update _ _ (rw (c.withdrawn-withdrawn.ensures, c.announced-announced.ensures, c.into_attrs-attrs.ensures) at c.replace_routes.ensures.taken)

pub returns-clause-unnamed : goal.returns-clause-unnamed
returns-clause-unnamed g c = taken_unnamed _ _ _ _ c.args.update _ _ (rw (c.withdrawn-withdrawn.ensures, c.announced-announced.ensures, c.into_attrs-attrs.ensures) at c.replace_routes.ensures.taken)

pub returns-clause-kept : goal.returns-clause-kept
returns-clause-kept g c = taken_kept _ _ _ _ c.args.update _ _ (rw (c.withdrawn-withdrawn.ensures, c.announced-announced.ensures, c.into_attrs-attrs.ensures) at c.replace_routes.ensures.taken)

pub returns-clause-chosen : goal.returns-clause-chosen
returns-clause-chosen g c = taken_chosen _ _ _ _ c.args.update _ _ (rw (c.withdrawn-withdrawn.ensures, c.announced-announced.ensures, c.into_attrs-attrs.ensures) at c.replace_routes.ensures.taken) c.replace_routes.ensures.refused
