use Rattle.std.proofs.Common.{◌≡◌, ap, refl, sym, subst, inl}
use Rattle.decision.specs.BookContents.{offer_at}
use Rattle.routing.specs.Offers.{IsSound}
use Rattle.routing.specs.RoutingState.{RoutingState}
use Rattle.routes.proofs.AddedMarks.{marked_exporting}
use Rattle.routing.proofs.Marking.{all_marked, is_other, this_or_other}
use Rattle.routes.proofs.PutSlots.{slot_used}
use Rattle.routing.proofs.Results.{OnOk-sure}
use Rattle.routing.proofs.SoundOffers.{sound_exporting}
use Rattle.routing.specs.Sent.{linked}
use Rattle.routes.proofs.routes.Routes.use_out.Goals as goal

pub mark_slot-requires : goal.mark_slot-requires
mark_slot-requires g c =
    let name = c.requires.uses.0 in
    let is = c.requires.uses.1 in
    let may = rw (← c.self.view_is, is) at c.requires.accepted in
    slot_used c.self.inside.conf c.args.slot name may.0 may.1

pub invariant_of-self : goal.invariant_of-self
invariant_of-self g c =
    let name = c.requires.uses.0 in
    let is = c.requires.uses.1 in
    let conf = OnOk-sure c.apply-takes_no_memory.result _ _ (rw is at c.apply-takes_no_memory.ensures.ok) (rw is at c.apply-takes_no_memory.ensures.memory) (λ x. x) in
    let marked = marked_exporting c.self.inside.conf c.apply-takes_no_memory.new.self (linked c.self.inside.links.entries c.self.inside.routing.sent) c.self.inside.routing c.args.slot name conf c.self.invariant.1 in
    let sound = sound_exporting c.self.inside.conf c.apply-takes_no_memory.new.self c.args.slot name (offer_at c.self.inside.routing.book) conf c.self.invariant.0 in
    let offers : offer_at c.mark_slot.new.self.book ≡ offer_at c.self.inside.routing.book = ap (λ (t : RoutingState). offer_at t.book) c.mark_slot.ensures.rest in (
      subst (λ f. IsSound c.apply-takes_no_memory.new.self f) (sym offers) sound,
      all_marked _ _ _ _ (λ s few. inl (this_or_other c.args.slot s)) (c.mark_slot.ensures.marked (is_other c.args.slot) marked),
    )

pub returns-clause-conf : goal.returns-clause-conf
returns-clause-conf g c =
    let name = c.requires.uses.0 in
    let is = c.requires.uses.1 in
    let conf = OnOk-sure c.apply-takes_no_memory.result _ _ (rw is at c.apply-takes_no_memory.ensures.ok) (rw is at c.apply-takes_no_memory.ensures.memory) (λ x. x) in
    rw (← c.self.view_is, c.mark_slot.ensures.rest, is, conf) refl
