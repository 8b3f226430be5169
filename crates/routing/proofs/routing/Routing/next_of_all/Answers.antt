use Rattle.std.proofs.Common.{◌≡◌, Some, sym, ap, ◌∙◌}
use Rattle.bgp_conf.specs.Configuration.{peer_at}
use Rattle.net_prefix.specs.declared.prefix.Prefix.{Prefix}
use Rattle.routing.specs.Marks.{Mark, mark_at, mark_of}
use Rattle.routing.specs.RoutingState.{with_waiting}
use Rattle.routing.specs.Sent.{linked, linked_as}
use Rattle.routing.proofs.LinkedPeers.{linked_none, linked_some}
use Rattle.routing.proofs.Marking.{mark_unlinked}
use Rattle.routing.proofs.MarkedNexts.{IsPossible, NoneUpTo-all, NoneUpTo-found, NoneUpTo-more, owed_possible}
use Rattle.routing.proofs.routing.Routing.next_of_all.Goals as goal

pub returns-then-is_wanted : goal.returns-then-is_wanted
returns-then-is_wanted g c =
    let conf = c.args.conf.now in
    let slot = c.args.slot in
    let inside = c.self.inside in
    let links = linked c.args.links.now.entries inside.ribs.sent in
    let l = linked_as inside.ribs.sent c.args.slot c.in_ok-peer.peer.now in
    let t = with_waiting inside.ribs inside.waiting inside.alike in
    let is = c.as_ref.ensures.value ∙ c.chosen_route-chosen.ensures in
    let there = linked_some c.args.links.now.entries inside.ribs.sent c.args.slot c.in_ok-peer.peer.now (sym c.in_ok-peer.ensures.value) in
    let due = rw c.adj_out-adj_out.ensures at (c.owed-due.ensures.owed t.adj_in t.book is) in
    let owed = ap (λ f. (mark_of conf t.adj_in t.book slot c.in-Some.prefix (peer_at conf slot) f).owed) there ∙ sym due in
    let inv = rw (← c.self.view_is) at c.loop-prefix.invariant in
    let next = rw (← c.self.view_is, c.adj_out-adj_out.ensures) at c.in-Some.ensures in
    rw (← c.self.view_is)
    (NoneUpTo-found (λ q. (mark_at conf links t slot q).owed ≡ Some c.args.wanted) (IsPossible t l) c.args.after c.loop-prefix.last c.in-Some.prefix (λ q owes. owed_possible conf links t slot q l c.args.wanted there owes) next inv
    (owed ∙ c.is_wanted.ensures.0 c.if-is_wanted.true))

pub loop-prefix-preserved : goal.loop-prefix-preserved
loop-prefix-preserved g c =
    let conf = c.args.conf.now in
    let slot = c.args.slot in
    let inside = c.self.inside in
    let links = linked c.args.links.now.entries inside.ribs.sent in
    let l = linked_as inside.ribs.sent c.args.slot c.in_ok-peer.peer.now in
    let t = with_waiting inside.ribs inside.waiting inside.alike in
    let is = c.as_ref.ensures.value ∙ c.chosen_route-chosen.ensures in
    let there = linked_some c.args.links.now.entries inside.ribs.sent c.args.slot c.in_ok-peer.peer.now (sym c.in_ok-peer.ensures.value) in
    let due = rw c.adj_out-adj_out.ensures at (c.owed-due.ensures.owed t.adj_in t.book is) in
    let owed = ap (λ f. (mark_of conf t.adj_in t.book slot c.in-Some.prefix (peer_at conf slot) f).owed) there ∙ sym due in
    let inv = rw (← c.self.view_is) at c.loop-prefix.invariant in
    let next = rw (← c.self.view_is, c.adj_out-adj_out.ensures) at c.in-Some.ensures in
    let below = rw c.place-place.ensures.place at c.place-place.ensures.below in
    rw (← c.self.view_is)
    (NoneUpTo-more (λ q. (mark_at conf links t slot q).owed ≡ Some c.args.wanted) (IsPossible t l) c.args.after c.loop-prefix.last c.in-Some.prefix (λ q owes. owed_possible conf links t slot q l c.args.wanted there owes) next inv below
    (λ owes. let yes = c.is_wanted.ensures.1 (sym owed ∙ owes) in let no = c.if-is_wanted.false in cc))

pub returns : goal.returns
returns g c =
    let conf = c.args.conf.now in
    let inside = c.self.inside in
    let links = linked c.args.links.now.entries inside.ribs.sent in
    let l = linked_as inside.ribs.sent c.args.slot c.in_ok-peer.peer.now in
    let t = with_waiting inside.ribs inside.waiting inside.alike in
    let there = linked_some c.args.links.now.entries inside.ribs.sent c.args.slot c.in_ok-peer.peer.now (sym c.in_ok-peer.ensures.value) in
    let inv = rw (← c.self.view_is) at c.loop-prefix.invariant in
    let next = rw (← c.self.view_is, c.adj_out-adj_out.ensures) at c.in_default.ensures in
    rw (← c.self.view_is)
    (NoneUpTo-all (λ q. (mark_at conf links t c.args.slot q).owed ≡ Some c.args.wanted) (IsPossible t l) c.args.after c.loop-prefix.last (λ q owes. owed_possible conf links t c.args.slot q l c.args.wanted there owes) next inv)

pub returns-in_err-peer : goal.returns-in_err-peer
returns-in_err-peer g c =
    let t = c.args.self.now in
    let none = linked_none c.args.links.now.entries t.sent c.args.slot (sym c.in_err-peer.ensures.value) in
    let unmarked = λ (q : Prefix). ap (λ (m : Mark). m.owed) (mark_unlinked c.args.conf.now (linked c.args.links.now.entries t.sent) t c.args.slot q none) in
    rw c.from_residual.ensures (λ q above owes. let never = sym (unmarked q) ∙ owes in absurd (cc))
