use Rattle.std.proofs.Common.{◌∙◌, ap, sym}
use Rattle.std.specs.Option.{option_map}
use Rattle.bgp_conf.specs.Configuration.{peer_at}
use Rattle.decision.specs.BookContents.{rows_of}
use Rattle.routing.specs.Export.{export_peer_of}
use Rattle.routing.specs.Sent.{linked_as}
use Rattle.routing.specs.Waiting.{waiting_at}
use Rattle.routing.proofs.LinkedPeers.{linked_at}
use Rattle.routes.proofs.FoundPeers.{few_lent, mapped_copied}
use Rattle.routes.proofs.routes.Routes.waiting.Goals as goal

pub new-requires : goal.new-requires
new-requires g c = λ some. few_lent c.self.inside.links.entries c.self.inside.routing.sent c.self.invariant.1.there c.args.slot c.get.result some c.get.ensures.value

pub returns-clause-all : goal.returns-clause-all
returns-clause-all g c =
    let s = c.self.inside in
    rw (← c.self.view_is) (c.new.ensures.all
    ∙ ap (λ peer. waiting_at s.conf (rows_of s.routing.book) s.routing.adj_in peer (option_map (λ p. linked_as s.routing.sent c.args.slot p.now) c.get.result)) c.export_peer.ensures
    ∙ ap (λ link. waiting_at s.conf (rows_of s.routing.book) s.routing.adj_in (option_map (export_peer_of s.conf c.args.slot) (peer_at s.conf c.args.slot)) link)
    (mapped_copied (linked_as s.routing.sent c.args.slot) c.get.result ∙ ap (option_map (linked_as s.routing.sent c.args.slot)) c.get.ensures.value ∙ sym (linked_at s.links.entries s.routing.sent c.args.slot)))
