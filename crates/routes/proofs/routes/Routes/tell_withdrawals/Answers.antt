use Rattle.std.proofs.Common.{rules, ◌≡◌, ◌==◌, ℕ, None, Some, cond, refl, sym, ap, subst, ◌∙◌}
use Rattle.decision.specs.BookContents.{offer_at}
use Rattle.routing.specs.Linked.{Linked}
use Rattle.routing.specs.Offers.{IsSound}
use Rattle.routing.specs.RoutingState.{RoutingState}
use Rattle.routing.specs.Sent.{linked, linked_as, peer_in}
use Rattle.routing.specs.Told.{IsTold}
use Rattle.routing.proofs.LinkedPeers.{marked_in}
use Rattle.routing.proofs.Marking.{lists_stay, tables_stay}
use Rattle.routes.proofs.FoundPeers.{found_as, marked_sent, never_found, peer_found, put_as}
use Rattle.routes.proofs.SlotMarks.{IsNow, marked_told}
use Rattle.routing.proofs.Owing.{exported_to, state_of}
use Rattle.routes.proofs.routes.Routes.tell_withdrawals.Goals as goal

pub withdraw-requires-clause-established : goal.withdraw-requires-clause-established
withdraw-requires-clause-established g c =
    let up = rw (← c.self.view_is) at c.requires.up in
    let same = peer_found c.self.inside.links.entries c.self.inside.routing.sent c.args.slot c.in-Some.told.now up.0 c.in-Some.ensures.value up.1 in
    ap (λ (x : Linked). x.peer.session.state) same ∙ up.2

pub withdraw-requires-clause-room : goal.withdraw-requires-clause-room
withdraw-requires-clause-room g c =
    let room = rw (← c.self.view_is) at c.requires.room in
    room _ (sym (found_as c.self.inside.links.entries c.self.inside.routing.sent c.args.slot c.in-Some.told.now c.in-Some.ensures.value))

pub invariant_of-self-2 : goal.invariant_of-self-2
invariant_of-self-2 g c =
    let old = c.self.inside.links.entries in
    let new = (c.get_mut.follows.lender c.withdraw.new.peer).entries in
    let t = c.self.inside.routing in
    let u = c.withdraw.new.routing in
    let v = c.told_all.new.self in
    let l = linked_as t.sent c.args.slot c.in-Some.told.now in
    let m = linked_as u.sent c.args.slot c.withdraw.new.peer in
    let state = state_of c.self.inside.conf c.self.inside.payloads (linked old t.sent) u in
    let named = c.name_withdrawals.new.named.items in
    let there = sym (found_as old t.sent c.args.slot c.in-Some.told.now c.in-Some.ensures.value) in
    let packed = rw (← c.self.view_is) at c.name_withdrawals.ensures.packed in
    let pack = packed l there in
    let told = c.told_all.ensures in
    let silent = rw (c.as_slice-2.ensures.value) at told.told in
    let others = rw (c.as_slice-2.ensures.value) at told.others in
    let heard : IsTold named None l m = rw (c.as_slice.ensures.value) at c.withdraw.ensures.told in
    let put : (s : ℕ) → peer_in new s ≡ cond (s == c.args.slot) (Some c.withdraw.new.peer) (peer_in old s) = search rules in
    let now : IsNow c.args.slot m (linked old t.sent) (linked new u.sent) = put_as c.args.slot c.withdraw.new.peer m old new t.sent u.sent put c.withdraw.ensures.others refl in
    let marked = marked_sent c.self.inside.conf (linked old t.sent) t u c.withdraw.ensures.rest c.self.invariant.1 in
    let kept : v.sent ≡ u.sent = ap (λ (x : RoutingState). x.sent) told.rest in
    let book : v.book ≡ t.book = ap (λ (x : RoutingState). x.book) told.rest ∙ ap (λ (x : RoutingState). x.book) c.withdraw.ensures.rest in (
      subst (λ b. IsSound c.self.inside.conf (offer_at b)) (sym book) c.self.invariant.0,
      marked_in c.self.inside.conf new v u.sent kept
          (marked_told c.self.inside.conf u v c.args.slot named None l m (linked old t.sent) (linked new u.sent) marked there heard now
          (λ peer p configured among. rw c.withdraw.ensures.rest (exported_to (state_of c.self.inside.conf c.self.inside.payloads (linked old t.sent) t) c.args.slot p None ((pack.each p among).1.0) peer configured)) (tables_stay u v told.rest) silent others (λ s o p off waits. lists_stay u v told.rest s o p)),
    )

pub returns-clause-told : goal.returns-clause-told
returns-clause-told g c =
    let old = c.self.inside.links.entries in
    let new = (c.get_mut.follows.lender c.withdraw.new.peer).entries in
    let t = c.self.inside.routing in
    let u = c.withdraw.new.routing in
    let v = c.told_all.new.self in
    let l = linked_as t.sent c.args.slot c.in-Some.told.now in
    let m = linked_as u.sent c.args.slot c.withdraw.new.peer in
    let heard : IsTold c.name_withdrawals.new.named.items None l m = rw (c.as_slice.ensures.value) at c.withdraw.ensures.told in
    let put : (s : ℕ) → peer_in new s ≡ cond (s == c.args.slot) (Some c.withdraw.new.peer) (peer_in old s) = search rules in
    let now : IsNow c.args.slot m (linked old t.sent) (linked new u.sent) = put_as c.args.slot c.withdraw.new.peer m old new t.sent u.sent put c.withdraw.ensures.others refl in
    rw (← c.self.view_is, c.told_all.ensures.rest, c.withdraw.ensures.rest) (record {
      before = l;
      after = m;
      was = sym (found_as old t.sent c.args.slot c.in-Some.told.now c.in-Some.ensures.value);
      told = heard;
      puts = now;
      rest = refl;
    })

pub returns-in_default-clause-told : goal.returns-in_default-clause-told
returns-in_default-clause-told g c =
    let up = rw (← c.self.view_is) at c.requires.up in
    absurd (never_found c.self.inside.links.entries c.self.inside.routing.sent c.args.slot up.0 c.in_default.ensures.value up.1)

pub returns-in_default-clause-message : goal.returns-in_default-clause-message
returns-in_default-clause-message g c =
    let up = rw (← c.self.view_is) at c.requires.up in
    absurd (never_found c.self.inside.links.entries c.self.inside.routing.sent c.args.slot up.0 c.in_default.ensures.value up.1)
