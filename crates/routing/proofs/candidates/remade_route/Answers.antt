use Rattle.std.proofs.Common.{◌≡◌, Some, inr, refl, sym, ap, subst}
use Rattle.std.specs.Option.{option_map}
use Rattle.routing.specs.Candidates.{judged_at}
use Rattle.routing.specs.Linked.{Linked}
use Rattle.routing.specs.Offers.{IsOffer}
use Rattle.routing.specs.Sent.{linked}
use Rattle.routing.specs.Tables.{payloads_under, session_at, tables}
use Rattle.routing.proofs.CandidateLists.{candidate_made}
use Rattle.routing.proofs.LinkedPeers.{linked_none, linked_some}
use Rattle.routing.proofs.candidates.remade_route.Goals as goal

pub returns : goal.returns
returns g c = λ sent.
    let links = linked c.args.links.now.entries sent in
    let t = tables c.args.conf.now (payloads_under c.args.conf.now c.args.payloads.now) links c.args.ribs.now.adj_in in
    let judged : c.judge_route.result ≡ judged_at t.conf t.payloads c.in_ok-attrs.attrs.now c.candidate-candidate.result c.args.prefix = c.judge_route.ensures in
    let told : c.identifier.result ≡ c.in_ok-peer.peer.now.session.identifier = c.identifier.ensures in
    let found : session_at links c.args.slot ≡ Some c.in_ok-peer.peer.now.session = ap (option_map (λ (l : Linked). l.peer.session)) (linked_some c.args.links.now.entries sent c.args.slot c.in_ok-peer.peer.now (sym c.in_ok-peer.ensures.value)) in
    record {
      slot_is = refl;
      routed = rw (← c.in_ok-attrs.ensures.route) refl;
      offer = subst (λ o. IsOffer t c.args.slot c.args.prefix o) (sym judged)
          (candidate_made t c.args.prefix c.args.slot c.identifier.result
          c.in_ok-peer.peer.now.session c.in_ok-attrs.attrs.now c.candidate-candidate.result c.requires found (sym c.in_ok-attrs.ensures.route) told c.candidate-candidate.ensures.made);
    }

pub returns-in_err-peer : goal.returns-in_err-peer
returns-in_err-peer g c = rw c.from_residual.ensures (λ sent. inr (c.requires, ap (option_map (λ (l : Linked). l.peer.session)) (linked_none c.args.links.now.entries sent c.args.slot (sym c.in_err-peer.ensures.value))))
