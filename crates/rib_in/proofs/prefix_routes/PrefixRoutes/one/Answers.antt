use Rattle.rib_in.proofs.RouteLists.{one_route}
use Rattle.rib_in.proofs.prefix_routes.PrefixRoutes.one.Goals as goal

pub invariant_of-result : goal.invariant_of-result
invariant_of-result g c = one_route c.args.slot c.args.attrs.value
