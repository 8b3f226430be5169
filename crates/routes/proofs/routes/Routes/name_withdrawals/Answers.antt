use Rattle.std.proofs.Common.{rules, ◌≡◌, ◌≤◌, ◌<◌, ◌-◌, ◌^◌, None, Some, arith, sym, subst, ◌∙◌}
use Rattle.bgp_conf.specs.Configuration.{peer_at}
use Rattle.bgp_fsm.specs.declared.state.State.TheVariants.{Established}
use Rattle.rib_out.specs.Held.{held_at}
use Rattle.routing.specs.Linked.{Linked}
use Rattle.routing.specs.Owing.{withdrawn_of}
use Rattle.routing.specs.Packing.{IsDue, IsFrom, most_named}
use Rattle.routing.specs.Places.{rank_of}
use Rattle.routing.specs.RoutesState.{export_of}
use Rattle.routing.proofs.Due.{behind_from, behind_next, coming_from, coming_next, due_gone, due_withdrawn, withdrawn_due}
use Rattle.routes.proofs.Naming.{Names, Names-more, Names-start, named_few, taken_by}
use Rattle.routing.proofs.Owing.{some_of}
use Rattle.routes.proofs.routes.Routes.name_withdrawals.Goals as goal

pub loop-next-init : goal.loop-next-init
loop-next-init g c = λ m is.
    let There = IsFrom c.args.least (IsDue (export_of c.args.self.now c.args.slot) None m) in
    subst (λ items. Names There most_named c.args.least items 4073 (Some c.args.least)) (sym c.clear.ensures)
    (Names-start There most_named c.args.least
    (omega arith, due_gone (export_of c.args.self.now c.args.slot) m c.args.least c.requires.gone (c.requires.held m is)) (λ q there. there.0))

pub push-requires : goal.push-requires
push-requires g c =
    let up = c.requires.up in
    let h = c.loop-next.invariant up.0 up.1 in
    let fits : c.len-octets.result ≤ c.loop-next.room = search rules in
    let some : 1 ≤ c.len-octets.result = search rules in
    (omega arith, omega (arith, h.taken, fits, some, named_few c.loop-next.named.items))

same_link : (a b : Linked) → Some a ≡ Some b → a ≡ b
same_link a b is = cc

pub loop-next-preserved : goal.loop-next-preserved
loop-next-preserved g c = λ m is.
    let exports = export_of c.args.self.now c.args.slot in
    let There = IsFrom c.args.least (IsDue exports None m) in
    let up = c.requires.up in
    let peer = some_of (peer_at c.args.self.now.conf c.args.slot) c.requires.peer in
    let established : m.peer.session.state ≡ Established = subst (λ (x : Linked). x.peer.session.state ≡ Established) (same_link up.0 m (sym up.1 ∙ is)) up.2 in
    let h = subst (λ next. Names There most_named c.args.least c.loop-next.named.items c.loop-next.room next) c.in-Some.is (c.loop-next.invariant m is) in
    let fits : c.len-octets.result ≤ c.loop-next.room = search rules in
    let taken : taken_by c.in-Some.prefix ≡ c.len-octets.result = search rules in
    let place : rank_of c.in-Some.prefix < 2 ^ 38 = search rules in
    let next = c.withdrawal_after-next.ensures.next peer.0 m peer.1 is established in
    subst (λ items. Names There most_named c.args.least items (c.loop-next.room - c.len-octets.result) c.withdrawal_after-next.result) (sym c.push.ensures.items)
    (Names-more There most_named c.args.least c.loop-next.named.items c.loop-next.room c.in-Some.prefix c.withdrawal_after-next.result h (omega (arith, fits, taken))
    (coming_from (IsDue exports None m) c.args.least c.in-Some.prefix c.withdrawal_after-next.result h.coming.0.0
    (coming_next (λ q. withdrawn_of (exports q) (held_at m.adj_out q)) (IsDue exports None m) c.in-Some.prefix c.withdrawal_after-next.result (due_withdrawn exports m) next))
    (behind_from (IsDue exports None m) c.args.least c.in-Some.prefix c.withdrawal_after-next.result
    (behind_next (λ q. withdrawn_of (exports q) (held_at m.adj_out q)) (IsDue exports None m) c.in-Some.prefix c.withdrawal_after-next.result (withdrawn_due exports m) next))
    (c.loop-next.room - c.len-octets.result) (omega (arith, fits, taken)) place)
