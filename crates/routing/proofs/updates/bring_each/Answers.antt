use Rattle.std.proofs.Common.{◌∙◌}
use Rattle.routing.proofs.Results.{OnErr-is}
use Rattle.routing.proofs.RouteChanges.{seen_next}
use Rattle.routing.proofs.updates.bring_each.Goals as goal

pub loop-prefix-preserved : goal.loop-prefix-preserved
loop-prefix-preserved g c =
    let h = c.loop-prefix.invariant in
    (seen_next _ _ _ _ _ h.0 c.in-Some.ensures.steps, c.in_ok-bring.ensures.brought c.args.routing.now c.loop-prefix.yielded h.1, c.in_ok-bring.ensures.marked, c.bring.ensures.sent ∙ h.3)

pub returns-in_err-bring-clause-refused : goal.returns-in_err-bring-clause-refused
returns-in_err-bring-clause-refused g c = OnErr-is _ _ (c.in_err-bring.ensures.refused c.args.routing.now c.loop-prefix.yielded c.loop-prefix.invariant.1)
