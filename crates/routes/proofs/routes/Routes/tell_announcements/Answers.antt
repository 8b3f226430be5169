use Rattle.std.proofs.Common.{rules, ◌≡◌, ◌==◌, ℕ, Some, true, cond, refl, sym, ap, subst, ◌∙◌}
use Rattle.decision.specs.BookContents.{offer_at}
use Rattle.rib_out.specs.Held.{held_at, is_among}
use Rattle.routing.specs.Linked.{Linked}
use Rattle.routing.specs.Offers.{IsSound}
use Rattle.routing.specs.RoutingState.{RoutingState}
use Rattle.routing.specs.Sent.{linked, linked_as, peer_in}
use Rattle.routing.specs.Told.{IsTold}
use Rattle.routing.proofs.LinkedPeers.{marked_in}
use Rattle.routes.proofs.FoundPeers.{found_as, marked_sent, never_found, peer_found, put_as, stay_put, table_same}
use Rattle.routes.proofs.SlotMarks.{IsNow, marked_put, marked_told}
use Rattle.routing.proofs.Owing.{exported_to, state_of}
use Rattle.routing.proofs.Results.{OnErr-is}
use Rattle.routes.proofs.routes.Routes.tell_announcements.Goals as goal

pub announce-requires-clause-established : goal.announce-requires-clause-established
announce-requires-clause-established g c =
    let up = rw (← c.self.view_is) at c.requires.up in
    let same = peer_found c.self.inside.links.entries c.self.inside.routing.sent c.args.slot c.in-Some.told.now up.0 c.in-Some.ensures.value up.1 in
    ap (λ (x : Linked). x.peer.session.state) same ∙ up.2

pub announce-requires-clause-room : goal.announce-requires-clause-room
announce-requires-clause-room g c =
    let room = rw (← c.self.view_is) at c.requires.room in
    room _ (sym (found_as c.self.inside.links.entries c.self.inside.routing.sent c.args.slot c.in-Some.told.now c.in-Some.ensures.value))

pub announce-requires-clause-news : goal.announce-requires-clause-news
announce-requires-clause-news g c =
    let news = rw (← c.self.view_is) at c.requires.news in (
      c.args.least,
      rw c.as_slice.ensures.value c.name_announcements.ensures.least,
      news _ (sym (found_as c.self.inside.links.entries c.self.inside.routing.sent c.args.slot c.in-Some.told.now c.in-Some.ensures.value)),
    )

pub invariant_of-self-in_err-announce : goal.invariant_of-self-in_err-announce
invariant_of-self-in_err-announce g c =
    let old = c.self.inside.links.entries in
    let new = (c.get_mut.follows.lender c.announce.new.peer).entries in
    let t = c.self.inside.routing in
    let u = c.announce.new.routing in
    let l = linked_as t.sent c.args.slot c.in-Some.told.now in
    let same = c.in_err-announce.ensures.err in
    let there = sym (found_as old t.sent c.args.slot c.in-Some.told.now c.in-Some.ensures.value) in
    let put : (s : ℕ) → peer_in new s ≡ cond (s == c.args.slot) (Some c.announce.new.peer) (peer_in old s) = search rules in
    let now : IsNow c.args.slot l (linked old t.sent) (linked new u.sent) =
    put_as c.args.slot c.announce.new.peer l old new t.sent u.sent put (λ s other. same.1 s) (table_same c.args.slot c.announce.new.peer c.in-Some.told.now t.sent u.sent same.0 (same.1 c.args.slot)) in (
      subst (λ b. IsSound c.self.inside.conf (offer_at b)) (sym (ap (λ (x : RoutingState). x.book) c.announce.ensures.rest)) c.self.invariant.0,
      marked_put c.self.inside.conf u c.args.slot l l (linked old t.sent) (linked new u.sent) (marked_sent c.self.inside.conf (linked old t.sent) t u c.announce.ensures.rest c.self.invariant.1) there refl refl now,
    )

pub returns-in_err-announce-clause-err : goal.returns-in_err-announce-clause-err
returns-in_err-announce-clause-err g c =
    let old = c.self.inside.links.entries in
    let new = (c.get_mut.follows.lender c.announce.new.peer).entries in
    let t = c.self.inside.routing in
    let u = c.announce.new.routing in
    let same = c.in_err-announce.ensures.err in
    let put : (s : ℕ) → peer_in new s ≡ cond (s == c.args.slot) (Some c.announce.new.peer) (peer_in old s) = search rules in
    rw (← c.self.view_is) (OnErr-is c.from_residual.result _ (stay_put c.args.slot c.announce.new.peer c.in-Some.told.now old new t.sent u.sent put same.0 same.1 c.in-Some.ensures.value))

pub returns-in_err-announce-clause-short : goal.returns-in_err-announce-clause-short
returns-in_err-announce-clause-short g c =
    let each = c.name_announcements.ensures.each in
    let short = c.in_err-announce.ensures.others in
    OnErr-is c.from_residual.result _ (λ l is.
    let here = rw (← c.self.view_is) at is in
    let same = peer_found c.self.inside.links.entries c.self.inside.routing.sent c.args.slot c.in-Some.told.now l c.in-Some.ensures.value here in
    let among : is_among short.0 c.name_announcements.new.named.items ≡ true = rw (← c.as_slice.ensures.value) short.1 in (
      short.0,
      among,
      each short.0 among,
      λ held. short.2 (ap (λ (x : Linked). held_at x.adj_out short.0) same ∙ held),
    ))

pub invariant_of-self-2 : goal.invariant_of-self-2
invariant_of-self-2 g c =
    let old = c.self.inside.links.entries in
    let new = (c.get_mut.follows.lender c.announce.new.peer).entries in
    let t = c.self.inside.routing in
    let u = c.announce.new.routing in
    let v = c.announced_all.new.self in
    let l = linked_as t.sent c.args.slot c.in-Some.told.now in
    let m = linked_as u.sent c.args.slot c.announce.new.peer in
    let each = rw (← c.self.view_is) at c.name_announcements.ensures.each in
    let named = c.name_announcements.new.named.items in
    let there = sym (found_as old t.sent c.args.slot c.in-Some.told.now c.in-Some.ensures.value) in
    let told = c.announced_all.ensures in
    let silent = rw (c.as_slice-3.ensures.value) at told.told in
    let others = rw (c.as_slice-3.ensures.value) at told.others in
    let listed = rw (c.as_slice-3.ensures.value) at told.listed in
    let heard : IsTold named (Some c.args.octets.now.items) l m = rw (c.as_slice.ensures.value) at c.in_ok-announce.ensures.told in
    let put : (s : ℕ) → peer_in new s ≡ cond (s == c.args.slot) (Some c.announce.new.peer) (peer_in old s) = search rules in
    let now : IsNow c.args.slot m (linked old t.sent) (linked new u.sent) = put_as c.args.slot c.announce.new.peer m old new t.sent u.sent put c.announce.ensures.apart refl in
    let marked = marked_sent c.self.inside.conf (linked old t.sent) t u c.announce.ensures.rest c.self.invariant.1 in
    let kept : v.sent ≡ u.sent = ap (λ (x : RoutingState). x.sent) told.rest in
    let book : v.book ≡ t.book = ap (λ (x : RoutingState). x.book) told.rest ∙ ap (λ (x : RoutingState). x.book) c.announce.ensures.rest in (
      subst (λ b. IsSound c.self.inside.conf (offer_at b)) (sym book) c.self.invariant.0,
      marked_in c.self.inside.conf new v u.sent kept
          (marked_told c.self.inside.conf u v c.args.slot named (Some c.args.octets.now.items) l m (linked old t.sent) (linked new u.sent) marked there heard now
          (λ peer p configured among. rw c.announce.ensures.rest (exported_to (state_of c.self.inside.conf c.self.inside.payloads (linked old t.sent) t) c.args.slot p (Some c.args.octets.now.items) (each p among) peer configured)) told.rest silent others listed),
    )

pub returns-clause-told : goal.returns-clause-told
returns-clause-told g c =
    let old = c.self.inside.links.entries in
    let new = (c.get_mut.follows.lender c.announce.new.peer).entries in
    let t = c.self.inside.routing in
    let u = c.announce.new.routing in
    let l = linked_as t.sent c.args.slot c.in-Some.told.now in
    let m = linked_as u.sent c.args.slot c.announce.new.peer in
    let heard : IsTold c.name_announcements.new.named.items (Some c.args.octets.now.items) l m = rw (c.as_slice.ensures.value) at c.in_ok-announce.ensures.told in
    let put : (s : ℕ) → peer_in new s ≡ cond (s == c.args.slot) (Some c.announce.new.peer) (peer_in old s) = search rules in
    let now : IsNow c.args.slot m (linked old t.sent) (linked new u.sent) = put_as c.args.slot c.announce.new.peer m old new t.sent u.sent put c.announce.ensures.apart refl in
    rw (← c.self.view_is, c.announced_all.ensures.rest, c.announce.ensures.rest) (record {
      before = l;
      after = m;
      was = sym (found_as old t.sent c.args.slot c.in-Some.told.now c.in-Some.ensures.value);
      told = heard;
      puts = now;
      rest = refl;
    })

pub returns-in_default-clause-told : goal.returns-in_default-clause-told
returns-in_default-clause-told g c =
    let up = rw (← c.self.view_is) at c.requires.up in
    absurd (never_found c.self.inside.links.entries c.self.inside.routing.sent c.args.slot up.0 c.in_default.ensures.value up.1)

pub returns-in_default-clause-message : goal.returns-in_default-clause-message
returns-in_default-clause-message g c =
    let up = rw (← c.self.view_is) at c.requires.up in
    absurd (never_found c.self.inside.links.entries c.self.inside.routing.sent c.args.slot up.0 c.in_default.ensures.value up.1)
