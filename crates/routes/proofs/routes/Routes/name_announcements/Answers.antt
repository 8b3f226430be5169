use Rattle.std.proofs.Common.{rules, ◌≡◌, ◌≤◌, ◌<◌, ◌-◌, ◌^◌, None, Some, [], length, arith, sym, subst, ◌∙◌}
use Rattle.bgp_fsm.specs.declared.state.State.TheVariants.{Established}
use Rattle.routing.specs.Linked.{Linked}
use Rattle.routing.specs.Packing.{IsDue, IsFrom, most_named}
use Rattle.routing.specs.Places.{rank_of}
use Rattle.routing.specs.RoutesState.{export_of}
use Rattle.routing.proofs.Due.{behind_from, coming_from, coming_alike}
use Rattle.routes.proofs.Naming.{Names, Names-end, Names-full, Names-more, Names-start, named_few, taken_by}
use Rattle.routes.proofs.routes.Routes.name_announcements.Goals as goal

pub loop-next-init : goal.loop-next-init
loop-next-init g c = λ m is.
    let There = IsFrom c.args.least (IsDue (export_of c.args.self.now c.args.slot) (Some c.args.octets.now.items) m) in
    let most = most_named - length c.args.octets.now.items in
    let room : most ≡ 4073 - c.len-room.result = search rules in
    subst (λ items. Names There most c.args.least items (4073 - c.len-room.result) (Some c.args.least)) (sym c.clear.ensures)
    (subst (λ n. Names There most c.args.least [] n (Some c.args.least)) room
    (Names-start There most c.args.least (omega arith, (c.requires.exported, c.requires.news m is)) (λ q there. there.0)))

pub returns-then-taken-room-clause-packed : goal.returns-then-taken-room-clause-packed
returns-then-taken-room-clause-packed g c = λ m is.
    let There = IsFrom c.args.least (IsDue (export_of c.args.self.now c.args.slot) (Some c.args.octets.now.items) m) in
    let most = most_named - length c.args.octets.now.items in
    let h = subst (λ next. Names There most c.args.least c.loop-next.named.items c.loop-next.room next) c.in-Some.is (c.loop-next.invariant m is) in
    let full : c.loop-next.room < c.len-taken.result = search rules in
    let taken : taken_by c.in-Some.prefix ≡ c.len-taken.result = search rules in
    let few : c.len-taken.result ≤ 5 = search rules in
    let small = c.requires.small in
    Names-full There most c.args.least c.loop-next.named.items c.loop-next.room c.in-Some.prefix h (omega (arith, small)) (omega (arith, taken, few)) (omega (arith, taken, full))

pub push-requires : goal.push-requires
push-requires g c =
    let up = c.requires.up in
    let h = c.loop-next.invariant up.0 up.1 in
    let fits : c.len-taken.result ≤ c.loop-next.room = search rules in
    let some : 1 ≤ c.len-taken.result = search rules in
    (omega arith, omega (arith, h.taken, fits, some, named_few c.loop-next.named.items))

same_link : (a b : Linked) → Some a ≡ Some b → a ≡ b
same_link a b is = cc

pub loop-next-preserved : goal.loop-next-preserved
loop-next-preserved g c = λ m is.
    let Due = IsDue (export_of c.args.self.now c.args.slot) (Some c.args.octets.now.items) m in
    let most = most_named - length c.args.octets.now.items in
    let up = c.requires.up in
    let established : m.peer.session.state ≡ Established = subst (λ (x : Linked). x.peer.session.state ≡ Established) (same_link up.0 m (sym up.1 ∙ is)) up.2 in
    let h = subst (λ next. Names (IsFrom c.args.least Due) most c.args.least c.loop-next.named.items c.loop-next.room next) c.in-Some.is (c.loop-next.invariant m is) in
    let fits : c.len-taken.result ≤ c.loop-next.room = search rules in
    let taken : taken_by c.in-Some.prefix ≡ c.len-taken.result = search rules in
    let place : rank_of c.in-Some.prefix < 2 ^ 38 = search rules in
    subst (λ items. Names (IsFrom c.args.least Due) most c.args.least items (c.loop-next.room - c.len-taken.result) c.alike_after-next.result) (sym c.push.ensures.items)
    (Names-more (IsFrom c.args.least Due) most c.args.least c.loop-next.named.items c.loop-next.room c.in-Some.prefix c.alike_after-next.result h (omega (arith, fits, taken))
    (coming_from Due c.args.least c.in-Some.prefix c.alike_after-next.result h.coming.0.0
    (coming_alike Due c.in-Some.prefix c.alike_after-next.result (c.alike_after-next.ensures.due m is established) c.alike_after-next.ensures.above))
    (behind_from Due c.args.least c.in-Some.prefix c.alike_after-next.result (c.alike_after-next.ensures.behind m is established))
    (c.loop-next.room - c.len-taken.result) (omega (arith, fits, taken)) place)

pub returns-clause-packed : goal.returns-clause-packed
returns-clause-packed g c = λ m is.
    let There = IsFrom c.args.least (IsDue (export_of c.args.self.now c.args.slot) (Some c.args.octets.now.items) m) in
    let most = most_named - length c.args.octets.now.items in
    let none : c.loop-next.next ≡ None = search rules in
    let h = subst (λ next. Names There most c.args.least c.loop-next.named.items c.loop-next.room next) none (c.loop-next.invariant m is) in
    Names-end There most c.args.least c.loop-next.named.items c.loop-next.room h
