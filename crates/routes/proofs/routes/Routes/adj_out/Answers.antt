use Rattle.std.proofs.Common.{Some, sym, ap, ◌∙◌}
use Rattle.std.specs.Option.{option_map}
use Rattle.routing.specs.Linked.{Linked}
use Rattle.routing.proofs.LinkedPeers.{few_in, linked_none, linked_some}
use Rattle.routes.proofs.routes.Routes.adj_out.Goals as goal

pub held-requires : goal.held-requires
held-requires g c = few_in c.self.inside.links.entries c.self.inside.routing.sent c.self.invariant.1.there c.args.slot c.in_ok-_peer._peer.now (sym c.in_ok-_peer.ensures.value)

pub returns-in_err-_peer : goal.returns-in_err-_peer
returns-in_err-_peer g c =
    rw (← c.self.view_is, c.from_residual.ensures) (record { value = ap (option_map (λ (l : Linked). l.adj_out)) (sym (linked_none c.self.inside.links.entries c.self.inside.routing.sent c.args.slot (sym c.in_err-_peer.ensures.value))) })

pub returns : goal.returns
returns g c =
    rw (← c.self.view_is)
    (record { value = ap Some c.held.ensures ∙ ap (option_map (λ (l : Linked). l.adj_out)) (sym (linked_some c.self.inside.links.entries c.self.inside.routing.sent c.args.slot c.in_ok-_peer._peer.now (sym c.in_ok-_peer.ensures.value))) })
