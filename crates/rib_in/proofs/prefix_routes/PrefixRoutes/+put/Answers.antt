use Rattle.std.proofs.Common.{◌≡◌, [], ◌∷◌, refl, sym, ap, ◌∙◌}
use Rattle.std.specs.Ordering.{nat_cmp}
use Rattle.std.specs.declared.cmp.Ordering.TheVariants.{Less, Greater}
use Rattle.rib_in.specs.Chains.{behind, slot_of}
use Rattle.rib_in.specs.PrefixRoutes.{higher_of}
use Rattle.rib_in.proofs.RouteLists.{first_slot, one_route, put_before, put_behind}
use Rattle.rib_in.proofs.prefix_routes.PrefixRoutes.+put.Goals as goal

pub invariant_of-self : goal.invariant_of-self
invariant_of-self g t c =
    let own : slot_of c.self.inside.chain ≡ c.slot-own.result = ap first_slot (c.self.view_is ∙ c.slot-own.ensures.2) in
    let less : nat_cmp c.slot-slot.result (slot_of c.self.inside.chain) ≡ Less = ap (λ n. nat_cmp c.slot-slot.result n) own ∙ sym c.in-Less.ensures in
    put_before c.slot-slot.result (slot_of c.self.inside.chain) c.self-in-Less.inside.attrs.value c.self.inside.attrs.value (higher_of (behind c.self.inside.chain)) _ less c.self.invariant.rising
    (c.swap.ensures.y_after ∙ sym c.self.view_is)

pub invariant_of-self-in-Less-2 : goal.invariant_of-self-in-Less-2
invariant_of-self-in-Less-2 g t c =
    let own : slot_of c.self.inside.chain ≡ c.slot-own.result = ap first_slot (c.self.view_is ∙ c.slot-own.ensures.2) in
    let less : nat_cmp c.slot-slot.result (slot_of c.self.inside.chain) ≡ Less = ap (λ n. nat_cmp c.slot-slot.result n) own ∙ sym c.in-Less.ensures in
    put_before c.slot-slot.result (slot_of c.self.inside.chain) c.self-in-Less.inside.attrs.value c.self.inside.attrs.value (higher_of (behind c.self.inside.chain)) _ less c.self.invariant.rising
    (c.swap.ensures.y_after ∙ sym c.self.view_is)

pub invariant_of-self-in-Before : goal.invariant_of-self-in-Before
invariant_of-self-in-Before g t c =
    let before = rw c.in-Before.is at c.self.invariant in
    let own : c.in-Before.field-0 ≡ c.slot-own.result = rw c.in-Before.is at (ap first_slot (c.self.view_is ∙ c.slot-own.ensures.2)) in
    let greater : nat_cmp c.slot-slot.result c.in-Before.field-0 ≡ Greater = ap (λ n. nat_cmp c.slot-slot.result n) own ∙ sym c.in-Greater.ensures in
    let route : c.args.route.value ≡ (c.slot-slot.result, c.slot-slot.ensures.0) ∷ c.slot-slot.ensures.1 = sym c.deref.ensures ∙ c.slot-slot.ensures.2 in
    put_behind c.slot-slot.result c.in-Before.field-0 c.slot-slot.ensures.0 c.self.inside.attrs.value c.in-Before.higher.value _ greater before.rising
    (c.put.ensures ∙ rw (c.deref_mut-in-Before.ensures.value, route) refl)

pub invariant_of-behind-route : goal.invariant_of-behind-route
invariant_of-behind-route g t c = one_route c.slot-slot.result c.behind-route.inside.attrs.value

pub invariant_of-self-in-Last-2 : goal.invariant_of-self-in-Last-2
invariant_of-self-in-Last-2 g t c =
    let first = one_route {A = g.row.A.Denot} c.slot-own.result c.self.inside.attrs.value in
    put_behind c.slot-slot.result c.slot-own.result c.behind-route.inside.attrs.value c.self.inside.attrs.value [] _ (sym c.in-Greater.ensures) first.rising refl
