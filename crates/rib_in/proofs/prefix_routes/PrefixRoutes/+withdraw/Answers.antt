use Rattle.std.proofs.Common.{◌≡◌, false, refl, sym, ap, ◌∙◌}
use Rattle.rib_in.specs.PrefixRoutes.{is_only}
use Rattle.rib_in.specs.declared.prefix_routes.Chain.TheVariants.{Before}
use Rattle.rib_in.proofs.RouteLists.{first_slot, left_first, only_higher, next_only, one_route, routes_left}
use Rattle.rib_in.proofs.prefix_routes.PrefixRoutes.+withdraw.Goals as goal

pub returns-then-slot-clause-left : goal.returns-then-slot-clause-left
returns-then-slot-clause-left g t c =
    let is : c.self.inside.chain ≡ Before c.in-Before.field-0 c.in-Before.higher = sym c.in-Before.ensures.value in
    let before = rw is at c.self.invariant in
    let same : c.in-Before.field-0 ≡ c.args.slot = (rw is at (ap first_slot (c.self.view_is ∙ c.slot.ensures.2))) ∙ c.if-slot.true in
    rw (← c.self.view_is, is) (λ more. left_first c.in-Before.field-0 c.args.slot c.self.inside.attrs.value c.in-Before.higher.value _ before.rising same (c.drop.view_is ∙ c.into_inner.ensures))

pub returns-then-slot-clause-only : goal.returns-then-slot-clause-only
returns-then-slot-clause-only g t c = λ only.
    let is : c.self.inside.chain ≡ Before c.in-Before.field-0 c.in-Before.higher = sym c.in-Before.ensures.value in
    let before = rw is at c.self.invariant in
    let same : c.in-Before.field-0 ≡ c.args.slot = (rw is at (ap first_slot (c.self.view_is ∙ c.slot.ensures.2))) ∙ c.if-slot.true in
    let alone = rw (← c.self.view_is, is) at only in
    absurd (only_higher c.in-Before.field-0 c.args.slot c.self.inside.attrs.value c.in-Before.higher before same alone)

pub invariant_of-self-then-is_next_only : goal.invariant_of-self-then-is_next_only
invariant_of-self-then-is_next_only g t c = one_route _ c.self.inside.attrs.value

pub invariant_of-self-2 : goal.invariant_of-self-2
invariant_of-self-2 g t c =
    let before = rw c.in-Before-chain.is at c.self.invariant in
    let own : c.in-Before-chain.field-0 ≡ c.slot.result = rw c.in-Before-chain.is at (ap first_slot (c.self.view_is ∙ c.slot.ensures.2)) in
    let not_next = rw (← c.self.view_is, c.in-Before-chain.is) at (sym c.is_next_only.ensures ∙ c.if-is_next_only.false) in
    let more : is_only c.args.slot c.in-Before-chain.higher.value ≡ false =
    next_only c.in-Before-chain.field-0 c.args.slot c.self.inside.attrs.value c.in-Before-chain.higher (is_only c.args.slot c.in-Before-chain.higher.value) before refl ∙ not_next in
    let left = rw c.deref_mut.ensures.value at c.withdraw.ensures.left in
    routes_left c.in-Before-chain.field-0 c.args.slot c.self.inside.attrs.value c.in-Before-chain.higher _ before (λ same. c.if-slot.false (sym own ∙ same)) more (left more)
