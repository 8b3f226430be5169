use Rattle.std.proofs.Common.{◌≡◌, true, false, sym, ◌∙◌}
use Rattle.rib_out.specs.Alike.{alike}
use Rattle.rib_out.proofs.AlikeLists.{behind, not_above, number_between}
use Rattle.rib_out.proofs.slot_list.SlotList.next.Goals as goal

pub returns-in_err-first-clause-none : goal.returns-in_err-first-clause-none
returns-in_err-first-clause-none g c =
    rw c.from_residual.ensures
    (λ q above listed.
    let none = (c.range-above.ensures.in_range tt).5 c.in_err-first.ensures.steps.0 (alike c.args.number q) (behind c.args.number c.args.after q above, tt) in
    let clash : true ≡ false = sym (rw (← c.self.view_is) at listed) ∙ none in
    cc)

pub returns-then-first-number-clause-least : goal.returns-then-first-number-clause-least
returns-then-first-number-clause-least g c =
    let h = rw c.in_ok-first.ensures.steps at (c.range-above.ensures.in_range tt) in
    λ q above listed.
    not_above c.in_ok-first.first.now c.args.number q c.if-first-number.true (h.2 (alike c.args.number q) (behind c.args.number c.args.after q above, tt) (rw (← c.self.view_is) at listed))

pub returns-else-first-number-clause-none : goal.returns-else-first-number-clause-none
returns-else-first-number-clause-none g c =
    let h = rw c.in_ok-first.ensures.steps at (c.range-above.ensures.in_range tt) in
    λ q above listed.
    let high = h.2 (alike c.args.number q) (behind c.args.number c.args.after q above, tt) (rw (← c.self.view_is) at listed) in
    c.if-first-number.false (number_between c.in_ok-first.first.now c.args.number c.args.after q h.1.0.0 high)
