use Rattle.std.proofs.Common.{◌≡◌, Bool, true, sym, ◌∙◌, subst, inl, inr, Some}
use Rattle.std.proofs.lemmas.Bool.{cases_eq}
use Rattle.rib_out.specs.Waiting.{IsAwaited}
use Rattle.rib_out.specs.declared.marks.Owed.TheVariants.{Announcement}
use Rattle.routing.proofs.MarkedNexts.{none_announced}
use Rattle.routing.proofs.routing.Routing.renew_list.Goals as goal

whole : (b is : Bool) → b ≡ is → b ≡ true → is ≡ true
whole b is same holds = sym same ∙ holds

pub returns-then-is_none-clause-listed : goal.returns-then-is_none-clause-listed
returns-then-is_none-clause-listed g c = λ s o p awaited listed.
    let waits = rw (← c.self.view_is) at awaited in
    let was = rw (← c.self.view_is) at listed in
    elim (cases_eq s c.args.slot) [
      | inl same ↦ absurd (none_announced c.self.inside.waiting c.args.slot c.next.result p (whole c.is_whole-2.result _ c.is_whole-2.ensures c.if-not-is_whole.false) c.if-is_none.ensures c.next.ensures.none (subst (λ x. IsAwaited c.self.inside.waiting x p (Some Announcement)) same waits))
      | inr other ↦ c.clear.ensures.kept s o p other was
    ]
