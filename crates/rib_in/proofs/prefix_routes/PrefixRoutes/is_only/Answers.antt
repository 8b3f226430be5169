use Rattle.rib_in.proofs.RouteLists.{not_alone}
use Rattle.rib_in.proofs.prefix_routes.PrefixRoutes.is_only.Goals as goal

pub returns-in-Before : goal.returns-in-Before
returns-in-Before g c =
    let before = rw c.in-Before.is at c.self.invariant in
    rw (← c.self.view_is, c.in-Before.is) (not_alone c.in-Before.field-0 c.args.slot c.self.inside.attrs.value c.in-Before.field-1 before)
