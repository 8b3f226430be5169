use Rattle.std.proofs.Common.{refl}
use Rattle.speaker.proofs.step.Speaker.forget.Goals as goal

pub returns-clause-forgets : goal.returns-clause-forgets
returns-clause-forgets g c =
    rw (← c.self.view_is) (record {
      conf = c.remove_peer.ensures.conf;
      peers = c.remove_peer.ensures.peers;
      links = c.remove_peer.ensures.links;
      routes = c.remove_peer.ensures.routes;
      offers = c.remove_peer.ensures.offers;
      chosen = c.remove_peer.ensures.chosen;
      config = refl;
      moment = refl;
      cache = refl;
      payloads = c.remove_peer.ensures.payloads;
      chosen_before = refl;
    })
