use Rattle.std.proofs.Common.{ap}
use Rattle.bgp_conf.specs.Configuration.{Configuration, peer_at}
use Rattle.decision.specs.BookContents.{offer_at}
use Rattle.rib_in.specs.LatestRoutes.{is_route}
use Rattle.routes.proofs.AddedMarks.{marked_reached}
use Rattle.routing.proofs.Results.{OnOk-sure}
use Rattle.routing.proofs.SoundOffers.{sound_conf, sound_gone}
use Rattle.routing.specs.Sent.{linked}
use Rattle.routes.proofs.routes.Routes.retract.Goals as goal

pub withdraw-requires : goal.withdraw-requires
withdraw-requires g c =
    let conf = OnOk-sure c.apply-takes_no_memory.result _ _ (rw c.requires.retracts at c.apply-takes_no_memory.ensures.ok) (rw c.requires.retracts at c.apply-takes_no_memory.ensures.memory) (λ x. x) in
    marked_reached c.self.inside.conf c.apply-takes_no_memory.new.self (linked c.self.inside.links.entries c.self.inside.routing.sent) c.self.inside.routing c.self.invariant.1 (ap (λ (x : Configuration). x.own) conf) (ap (λ (x : Configuration). x.policies) conf)
    (λ s. ap (λ x. peer_at x s) conf)

pub invariant_of-self : goal.invariant_of-self
invariant_of-self g c =
    let conf = OnOk-sure c.apply-takes_no_memory.result _ _ (rw c.requires.retracts at c.apply-takes_no_memory.ensures.ok) (rw c.requires.retracts at c.apply-takes_no_memory.ensures.memory) (λ x. x) in
    let gone = sound_gone c.self.inside.conf (offer_at c.self.inside.routing.book) (offer_at c.withdraw.new.self.book) (λ s p. is_route 64 c.args.prefix s p) c.self.invariant.0 c.withdraw.ensures.offers in
    (sound_conf c.self.inside.conf c.apply-takes_no_memory.new.self (offer_at c.withdraw.new.self.book) gone (rw conf c.self.invariant.0.addresses) (rw conf c.self.invariant.0.addressed) (λ s peer at. rw conf at), c.withdraw.ensures.marked)

pub returns-clause-conf : goal.returns-clause-conf
returns-clause-conf g c =
    let conf = OnOk-sure c.apply-takes_no_memory.result _ _ (rw c.requires.retracts at c.apply-takes_no_memory.ensures.ok) (rw c.requires.retracts at c.apply-takes_no_memory.ensures.memory) (λ x. x) in
    rw (← c.self.view_is) conf

pub returns-clause-networks : goal.returns-clause-networks
returns-clause-networks g c =
    let after = OnOk-sure c.apply-takes_no_memory.result _ _ (rw c.requires.retracts at c.apply-takes_no_memory.ensures.networks) (rw c.requires.retracts at c.apply-takes_no_memory.ensures.memory) (λ x. x) in
    rw (← c.self.view_is) after
