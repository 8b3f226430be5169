use Rattle.std.proofs.Common.{rules, ◌≡◌, ◌∙◌, Some, false, ap, subst, sym}
use Rattle.bgp_conf.specs.ConfAfter.{TakesMemory, conf_after, peer_after}
use Rattle.bgp_conf.specs.Configuration.{Configuration}
use Rattle.decision.specs.BookContents.{offer_at}
use Rattle.bgp_fsm.specs.StateTests.{is_established}
use Rattle.routing.specs.Linked.{Linked}
use Rattle.routing.specs.Offers.{IsSound}
use Rattle.routes.proofs.AddedMarks.{marked_removed}
use Rattle.routing.proofs.Results.{OnOk-sure}
use Rattle.routing.specs.Sent.{linked}
use Rattle.routing.specs.Tables.{link_at}
use Rattle.routes.proofs.routes.Routes.remove_peer.Goals as goal

pub invariant_of-self : goal.invariant_of-self
invariant_of-self g c =
    let conf = OnOk-sure c.apply-takes_no_memory.result _ _ c.apply-takes_no_memory.ensures.ok c.apply-takes_no_memory.ensures.memory (λ x. subst (λ command. TakesMemory c.self.inside.conf command) c.requires.removes x) ∙ ap (conf_after c.self.inside.conf) c.requires.removes in
    let peers = OnOk-sure c.apply-takes_no_memory.result _ _ c.apply-takes_no_memory.ensures.peers c.apply-takes_no_memory.ensures.memory (λ x. subst (λ command. TakesMemory c.self.inside.conf command) c.requires.removes x) in
    let was = rw (← c.self.view_is) at c.requires.down in
    let down = subst (λ sent. (l : Linked) → link_at (linked c.self.inside.links.entries sent) c.args.slot ≡ Some l → is_established l.peer.session.state ≡ false) (sym c.drop_slot.ensures.sent) was in
    let sound : IsSound c.apply-takes_no_memory.new.self (offer_at c.drop_slot.new.self.book) = search rules in (
      sound,
      marked_removed c.self.inside.conf c.apply-takes_no_memory.new.self (linked c.self.inside.links.entries c.drop_slot.new.self.sent) c.drop_slot.new.self c.args.slot c.drop_slot.ensures.marked (ap (λ (x : Configuration). x.own) conf) (ap (λ (x : Configuration). x.policies) conf)
          (λ s. peers s ∙ ap (λ command. peer_after c.self.inside.conf command s) c.requires.removes) down,
    )

pub returns-clause-conf : goal.returns-clause-conf
returns-clause-conf g c =
    let conf = OnOk-sure c.apply-takes_no_memory.result _ _ c.apply-takes_no_memory.ensures.ok c.apply-takes_no_memory.ensures.memory (λ x. subst (λ command. TakesMemory c.self.inside.conf command) c.requires.removes x) in
    rw (← c.self.view_is) (conf ∙ ap (conf_after c.self.inside.conf) c.requires.removes)

pub returns-clause-peers : goal.returns-clause-peers
returns-clause-peers g c =
    let peers = OnOk-sure c.apply-takes_no_memory.result _ _ c.apply-takes_no_memory.ensures.peers c.apply-takes_no_memory.ensures.memory (λ x. subst (λ command. TakesMemory c.self.inside.conf command) c.requires.removes x) in
    rw (← c.self.view_is) (λ s. peers s ∙ ap (λ command. peer_after c.self.inside.conf command s) c.requires.removes)
