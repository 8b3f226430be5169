use Rattle.std.proofs.Common.{◌≡◌, [], refl, ap, subst, sym}
use Rattle.bgp_conf.specs.Configuration.{Configuration}
use Rattle.bgp_peer.specs.Slot.{configured}
use Rattle.decision.specs.BookContents.{offer_at}
use Rattle.routing.specs.Offers.{IsSound}
use Rattle.routing.specs.RoutingState.{RoutingState}
use Rattle.routing.specs.Sent.{linked}
use Rattle.routing.proofs.LinkedPeers.{linked_off, table_on, tables_off}
use Rattle.routes.proofs.AddedMarks.{marked_added, marked_links}
use Rattle.routes.proofs.FoundPeers.{marked_sent, put_as}
use Rattle.routes.proofs.SlotMarks.{IsNow}
use Rattle.routes.proofs.PutSlots.{put_back, put_inserted, sound_added}
use Rattle.routing.proofs.Results.{OnErr-got, OnOk-got}
use Rattle.routes.proofs.routes.Routes.add_peer.Goals as goal

pub invariant_of-self-2 : goal.invariant_of-self-2
invariant_of-self-2 g c =
    let accepted = rw (← c.self.view_is) at c.requires.accepted in
    let may = rw c.requires.adds at accepted in
    let old = c.self.inside.links.entries in
    let new = c.put_peer.new.links.entries in
    let t = c.self.inside.routing in
    let u = c.forget.new.self in
    let put : IsNow c.args.slot _ (linked old t.sent) (linked new u.sent) =
    put_as c.args.slot (configured c.args.own c.args.conf.now.mode c.args.times) (record { peer = configured c.args.own c.args.conf.now.mode c.args.times; adj_out = [] }) old new t.sent u.sent (put_inserted c.args.slot _ _ _ _ c.in_ok-before.ensures.puts refl) (tables_off c.args.slot [] t.sent u.sent c.forget.ensures.sent) (ap (λ a. record { peer = configured c.args.own c.args.conf.now.mode c.args.times; adj_out = a }) (table_on c.args.slot [] t.sent u.sent c.forget.ensures.sent)) in
    let conf = OnOk-got c.apply.result _ c.apply.ensures.ok c.if-is_err.ensures.value in
    let peers = OnOk-got c.apply.result _ c.apply.ensures.peers c.if-is_err.ensures.value in
    let own : c.apply.new.self.own ≡ c.self.inside.conf.own = ap (λ (x : Configuration). x.own) (rw c.requires.adds at conf) in
    let policies : c.apply.new.self.policies ≡ c.self.inside.conf.policies = ap (λ (x : Configuration). x.policies) (rw c.requires.adds at conf) in
    let added = marked_added _ c.self.inside.conf c.apply.new.self (linked old t.sent) (linked new u.sent) t c.args.slot c.args.conf.now _ c.self.invariant.1 may.1 own policies (rw c.requires.adds at peers) put refl in
    let sound = sound_added _ _ _ _ c.args.slot c.args.conf.now c.self.invariant.0 (c.apply.ensures.addresses _ accepted.1 c.self.invariant.0.addresses) may.1 (rw c.requires.adds at peers) in (
      subst (λ b. IsSound c.apply.new.self (offer_at b)) (sym (ap (λ (x : RoutingState). x.book) c.forget.ensures.rest)) sound,
      marked_sent c.apply.new.self (linked new u.sent) t u c.forget.ensures.rest added,
    )

pub invariant_of-self-then-is_err : goal.invariant_of-self-then-is_err
invariant_of-self-then-is_err g c =
    let same = OnErr-got c.apply.result _ c.apply.ensures.err c.if-is_err.ensures.value in
    let old = c.self.inside.links.entries in
    let sent = c.self.inside.routing.sent in
    let back = put_back c.args.slot _ c.in_ok-before.before _ _ _ c.in_ok-before.ensures.puts c.put_back.ensures c.in_ok-before.ensures.before in
    rw same (
      c.self.invariant.0,
      marked_links c.self.inside.conf (linked old sent) (linked c.put_back.new.links.entries sent) c.self.inside.routing c.self.invariant.1
          (λ s. linked_off old c.put_back.new.links.entries sent sent s (back s) refl),
    )

pub returns-clause-puts : goal.returns-clause-puts
returns-clause-puts g c =
    let old = c.self.inside.links.entries in
    let new = c.put_peer.new.links.entries in
    let t = c.self.inside.routing in
    let u = c.forget.new.self in
    rw (← c.self.view_is)
    (put_as c.args.slot (configured c.args.own c.args.conf.now.mode c.args.times) (record { peer = configured c.args.own c.args.conf.now.mode c.args.times; adj_out = [] }) old new t.sent u.sent (put_inserted c.args.slot _ _ _ _ c.in_ok-before.ensures.puts refl) (tables_off c.args.slot [] t.sent u.sent c.forget.ensures.sent) (ap (λ a. record { peer = configured c.args.own c.args.conf.now.mode c.args.times; adj_out = a }) (table_on c.args.slot [] t.sent u.sent c.forget.ensures.sent)))

pub returns-then-is_err-clause-err : goal.returns-then-is_err-clause-err
returns-then-is_err-clause-err g c =
    let same = OnErr-got c.apply.result _ c.apply.ensures.err c.if-is_err.ensures.value in
    let old = c.self.inside.links.entries in
    let sent = c.self.inside.routing.sent in
    let back = put_back c.args.slot _ c.in_ok-before.before _ _ _ c.in_ok-before.ensures.puts c.put_back.ensures c.in_ok-before.ensures.before in
    rw (← c.self.view_is) (record {
      conf = same;
      payloads = refl;
      links = λ s. linked_off old c.put_back.new.links.entries sent sent s (back s) refl;
      routes = λ s p. refl;
      offers = λ s p. refl;
      rows = refl;
      chosen = refl;
    })

pub returns-clause-conf : goal.returns-clause-conf
returns-clause-conf g c =
    let conf = OnOk-got c.apply.result _ c.apply.ensures.ok c.if-is_err.ensures.value in
    rw (← c.self.view_is) (rw c.requires.adds at conf)

pub returns-clause-peers : goal.returns-clause-peers
returns-clause-peers g c =
    let peers = OnOk-got c.apply.result _ c.apply.ensures.peers c.if-is_err.ensures.value in
    rw (← c.self.view_is) (rw c.requires.adds at peers)
