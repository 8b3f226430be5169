use Rattle.std.proofs.Common.{ap, ◌∙◌}
use Rattle.std.specs.BTreeMap.{is_at}
use Rattle.std.specs.Map.{set_value}
use Rattle.std.specs.Ordering.{nat_cmp}
use Rattle.rib_in.proofs.RouteLists.{replaced}
use Rattle.rib_in.proofs.prefix_routes.PrefixRoutes.+replace.Goals as goal

pub invariant_of-self-2 : goal.invariant_of-self-2
invariant_of-self-2 g t c =
    let before = rw c.in-Before.is at c.self.invariant in
    replaced c.in-Before.field-0 c.self.inside.attrs.value c.args.attrs.value (is_at (nat_cmp c.args.slot)) c.in-Before.higher _ before
    (c.replace.ensures.new ∙ ap (λ es. set_value (is_at (nat_cmp c.args.slot)) es c.args.attrs.value) c.deref_mut.ensures.value)
