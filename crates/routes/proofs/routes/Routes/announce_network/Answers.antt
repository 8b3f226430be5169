use Rattle.std.proofs.Common.{◌≡◌, Result, Ok, Err, OnOk, OnErr, Some, false, ap, refl, sym, subst}
use Rattle.bgp_attr.specs.PathAttributes.{originated}
use Rattle.decision.specs.BookContents.{offer_at}
use Rattle.decision.specs.declared.candidate.Candidate.{Candidate}
use Rattle.routing.specs.Candidates.{network_at}
use Rattle.routing.specs.Offers.{IsOwn}
use Rattle.routing.specs.Sent.{linked}
use Rattle.routing.specs.Tables.{link_at, payloads_under}
use Rattle.routing.proofs.SoundOffers.{apart_with, network_own, sound_come, sound_gone}
use Rattle.routes.proofs.routes.Routes.announce_network.Goals as goal

-- what holds of an answer, whether it is a failure or not
by_answer : {T F : Type 0} (r : Result T F) (P Q X : Type 0) → (P → X) → (Q → X) → OnOk r P → OnErr r Q → X
by_answer (Ok v) P Q X ok err p q = ok p
by_answer (Err e) P Q X ok err p q = err q

both_ok : {T F : Type 0} (r : Result T F) (P Q X : Type 0) → (P → Q → X) → OnOk r P → OnOk r Q → OnOk r X
both_ok (Ok v) P Q X so p q = so p q
both_ok (Err e) P Q X so p q = tt

both_err : {T F : Type 0} (r : Result T F) (P Q X : Type 0) → (P → Q → X) → OnErr r P → OnErr r Q → OnErr r X
both_err (Ok v) P Q X so p q = tt
both_err (Err e) P Q X so p q = so p q

pub announce-requires-clause-apart : goal.announce-requires-clause-apart
announce-requires-clause-apart g c =
    let judged : c.judge_network-network.result ≡ network_at c.self.inside.conf.own (payloads_under c.self.inside.conf c.self.inside.payloads) c.in_ok-attrs.attrs.value c.args.prefix = rw c.deref.ensures at c.judge_network-network.ensures in
    let own = subst (λ (x : Candidate). IsOwn c.self.inside.conf 64 (Some x)) (sym judged) (network_own c.self.inside.conf c.self.inside.conf.own (payloads_under c.self.inside.conf c.self.inside.payloads) c.in_ok-attrs.attrs.value c.args.prefix) in
    apart_with c.self.inside.conf 64 (Some c.judge_network-network.result) (offer_at c.self.inside.routing.book) c.self.invariant.0 own c.args.prefix

pub invariant_of-self : goal.invariant_of-self
invariant_of-self g c =
    let judged : c.judge_network-network.result ≡ network_at c.self.inside.conf.own (payloads_under c.self.inside.conf c.self.inside.payloads) c.in_ok-attrs.attrs.value c.args.prefix = rw c.deref.ensures at c.judge_network-network.ensures in
    let own = subst (λ (x : Candidate). IsOwn c.self.inside.conf 64 (Some x)) (sym judged) (network_own c.self.inside.conf c.self.inside.conf.own (payloads_under c.self.inside.conf c.self.inside.payloads) c.in_ok-attrs.attrs.value c.args.prefix) in
    let sound = by_answer c.announce.result _ _ _ (λ come. sound_come c.self.inside.conf 64 c.args.prefix (Some c.judge_network-network.result) (offer_at c.self.inside.routing.book) (offer_at c.announce.new.self.book) c.self.invariant.0 own come)
    (λ stay. sound_gone c.self.inside.conf (offer_at c.self.inside.routing.book) (offer_at c.announce.new.self.book) (λ s p. false) c.self.invariant.0 stay.1)
    c.announce.ensures.offers c.announce.ensures.err in
    (sound, c.announce.ensures.marked)

pub returns-clause-err : goal.returns-clause-err
returns-clause-err g c = rw (← c.self.view_is) (both_err c.announce.result _ _ _ (λ stay chosen. record {
  conf = refl;
  payloads = refl;
  links = λ s. ap (λ sent. link_at (linked c.self.inside.links.entries sent) s) c.announce.ensures.sent;
  routes = stay.0;
  offers = stay.1;
  rows = stay.2;
  chosen = chosen;
}) c.announce.ensures.err c.announce.ensures.refused)

pub returns-clause-ok : goal.returns-clause-ok
returns-clause-ok g c =
    let attrs : c.in_ok-attrs.attrs.value ≡ originated = c.in_ok-attrs.ensures in
    let judged = rw (c.deref.ensures, attrs) at c.judge_network-network.ensures in
    let routes = rw attrs at c.announce.ensures.routes in
    let offers = rw judged at c.announce.ensures.offers in
    rw (← c.self.view_is) (both_ok c.announce.result _ _ _ (λ routes offers. record {
      routes = routes;
      offers = offers;
      links = ap (linked c.self.inside.links.entries) c.announce.ensures.sent;
      payloads = refl;
      chosen = (c.announce.ensures.rises, c.announce.ensures.chosen);
    }) routes offers)
