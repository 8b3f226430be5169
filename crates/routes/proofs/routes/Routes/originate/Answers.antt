use Rattle.std.proofs.Common.{◌≡◌, ◌∙◌, ℕ, List, false, refl, ap}
use Rattle.bgp_conf.specs.Configuration.{Configuration, is_network, peer_at}
use Rattle.decision.specs.BookContents.{offer_at}
use Rattle.net_prefix.specs.declared.prefix.Prefix.{Prefix}
use Rattle.routing.specs.Linked.{Linked}
use Rattle.routing.specs.Marks.{AreMarked}
use Rattle.routing.specs.Offers.{IsSound}
use Rattle.routing.specs.RoutingState.{RoutingState}
use Rattle.routes.proofs.AddedMarks.{marked_reached}
use Rattle.routing.proofs.SoundOffers.{sound_conf}
use Rattle.routes.proofs.LocalNetworks.{network_refused}
use Rattle.routing.proofs.Results.{OnErr-got, OnOk-sure, told_false}
use Rattle.routing.specs.Sent.{linked}
use Rattle.routes.proofs.routes.Routes.originate.Goals as goal

-- a configuration with another set of local networks alone
beside : (conf conf2 : Configuration) (networks : List Prefix) (links : List (ℕ × Linked)) (t : RoutingState) → conf2 ≡ record conf { networks = networks } → IsSound conf (offer_at t.book) × AreMarked conf links t
    → IsSound conf2 (offer_at t.book) × AreMarked conf2 links t
beside conf conf2 networks links t is was = (
  sound_conf conf conf2 (offer_at t.book) was.0 (rw is was.0.addresses) (rw is was.0.addressed) (λ s peer at. ap (λ (c : Configuration). peer_at c s) is ∙ at),
  marked_reached conf conf2 links t was.1 (ap (λ (c : Configuration). c.own) is) (ap (λ (c : Configuration). c.policies) is) (λ s. ap (λ c. peer_at c s) is),
)

pub invariant_of-self-then-is_there : goal.invariant_of-self-then-is_there
invariant_of-self-then-is_there g c = beside c.self.inside.conf c.apply.new.self _ (linked c.self.inside.links.entries c.self.inside.routing.sent) c.self.inside.routing (rw c.requires.originates at c.in_ok-apply.ensures.ok) c.self.invariant

pub invariant_of-self-2 : goal.invariant_of-self-2
invariant_of-self-2 g c = beside c.self.inside.conf c.apply.new.self _ (linked c.self.inside.links.entries c.self.inside.routing.sent) c.self.inside.routing (rw c.requires.originates at c.in_ok-apply.ensures.ok) c.self.invariant

pub invariant_of-self-then-is_err : goal.invariant_of-self-then-is_err
invariant_of-self-then-is_err g c =
    let back = OnOk-sure c.apply-takes_no_memory.result _ _ c.apply-takes_no_memory.ensures.ok c.apply-takes_no_memory.ensures.memory (λ x. x) in
    beside c.self-2.inside.conf c.apply-takes_no_memory.new.self _ (linked c.self-2.inside.links.entries c.self-2.inside.routing.sent) c.self-2.inside.routing back c.self-2.invariant

pub returns-then-is_err-clause-err : goal.returns-then-is_err-clause-err
returns-then-is_err-clause-err g c =
    let conf = rw c.requires.originates at c.in_ok-apply.ensures.ok in
    let none : is_network c.self.inside.conf c.args.prefix ≡ false = told_false c.is_network-is_there.result _ c.if-is_there.false c.is_network-is_there.ensures in
    let before = rw (← c.self-2.view_is) at (OnErr-got c.announce_network.result _ c.announce_network.ensures.err c.if-is_err.ensures.value) in
    let back = OnOk-sure c.apply-takes_no_memory.result _ _ c.apply-takes_no_memory.ensures.ok c.apply-takes_no_memory.ensures.memory (λ x. x) in
    rw (← c.self.view_is) (network_refused c.args.prefix _ _ _ _ none (rw conf refl) before (rw back refl))
