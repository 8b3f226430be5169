use Rattle.std.proofs.Common.{refl, sym, subst}
use Rattle.bgp_conf.specs.ConfAfter.{conf_after}
use Rattle.bgp_conf.specs.declared.command.Command.TheVariants.{DropPolicy}
use Rattle.decision.specs.BookContents.{offer_at}
use Rattle.routing.specs.Offers.{IsSound}
use Rattle.routes.proofs.AddedMarks.{marked_dropped}
use Rattle.routing.proofs.SoundOffers.{own_conf}
use Rattle.routing.proofs.Results.{OnOk-sure}
use Rattle.routing.specs.Sent.{linked}
use Rattle.routes.proofs.routes.Routes.drop_policy.Goals as goal

pub invariant_of-self : goal.invariant_of-self
invariant_of-self g c =
    let name = c.requires.drops.0 in
    let is = c.requires.drops.1 in
    let conf = OnOk-sure c.apply-takes_no_memory.result _ _ (rw is at c.apply-takes_no_memory.ensures.ok) (rw is at c.apply-takes_no_memory.ensures.memory) (λ x. x) in
    let may = rw (← c.self.view_is, is) at c.requires.accepted in
    let sound : IsSound (conf_after c.self.inside.conf (DropPolicy name)) (offer_at c.self.inside.routing.book) =
    record { addresses = c.self.invariant.0.addresses; addressed = c.self.invariant.0.addressed; own = λ slot prefix. own_conf c.self.inside.conf (conf_after c.self.inside.conf (DropPolicy name)) slot (offer_at c.self.inside.routing.book slot prefix) (λ peer at. at) (c.self.invariant.0.own slot prefix) } in (
      subst (λ x. IsSound x (offer_at c.self.inside.routing.book)) (sym conf) sound,
      marked_dropped may.0 c.self.inside.conf c.apply-takes_no_memory.new.self (linked c.self.inside.links.entries c.self.inside.routing.sent) c.self.inside.routing name may.1 conf c.self.invariant.1,
    )

pub returns-clause-conf : goal.returns-clause-conf
returns-clause-conf g c =
    let name = c.requires.drops.0 in
    let is = c.requires.drops.1 in
    let conf = OnOk-sure c.apply-takes_no_memory.result _ _ (rw is at c.apply-takes_no_memory.ensures.ok) (rw is at c.apply-takes_no_memory.ensures.memory) (λ x. x) in
    rw (← c.self.view_is, is, conf) refl
