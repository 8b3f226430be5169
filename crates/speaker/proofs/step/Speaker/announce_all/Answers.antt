use Rattle.std.proofs.Common.{◌≡◌, Some, None, ap}
use Rattle.rib_out.specs.Held.{asked_at, held_at}
use Rattle.routing.specs.Export.{export_in}
use Rattle.speaker.specs.Export.{export_to}
use Rattle.routing.specs.Owing.{announced_of}
use Rattle.speaker.specs.Serving.{HasRoomAt, IsHad}
use Rattle.routing.specs.Tables.{best_at}
use Rattle.routing.proofs.Results.{OnErr-is}
use Rattle.speaker.proofs.Serving.{announced_is_new, export_kept, had_by, peer_now, served_by, Serves-still, short_still, Walks-announced, Walks-end, Walks-had}
use Rattle.routing.proofs.Places.{left-smaller}
use Rattle.speaker.proofs.step.Speaker.announce_all.Goals as goal
use Rattle.speaker.proofs.step.Speaker.announce_all.Goals.{then-export+in_ok-announce_from, else-export}

pub announce_from-requires-clause-news : goal.announce_from-requires-clause-news
announce_from-requires-clause-news g c =
    let h = c.loop-prefix.invariant in
    let next = c.in-Some.ensures h.serves.after (served_by _ _ _ _ h.serves c.requires.peer) in
    let tells = c.if-export.ensures.tells in
    let some : export_in c.loop-prefix.self.conf (best_at c.loop-prefix.self.loc_rib) c.loop-prefix.self.adj_in c.args.peer.now c.in-Some.prefix ≡ Some c.export.new.octets.items = rw (← c.self.view_is) tells in
    announced_is_new c.args.slot c.args.self.now c.loop-prefix.self c.loop-prefix.after c.in-Some.prefix c.args.peer.now c.export.new.octets.items h.serves c.requires.peer some next

pub announce_from-requires-clause-peer : goal.announce_from-requires-clause-peer
announce_from-requires-clause-peer g c = peer_now c.args.slot c.args.self.now c.loop-prefix.self c.args.peer.now c.loop-prefix.invariant.serves.only.rest c.requires.peer

pub returns-in_err-announce_from-clause-serves : goal.returns-in_err-announce_from-clause-serves
returns-in_err-announce_from-clause-serves g c = Serves-still _ _ c.loop-prefix.self _ c.loop-prefix.invariant.serves c.in_err-announce_from.ensures.err

pub returns-in_err-announce_from-clause-short : goal.returns-in_err-announce_from-clause-short
returns-in_err-announce_from-clause-short g c =
    let h = c.loop-prefix.invariant in
    let room : HasRoomAt c.loop-prefix.self c.args.slot = λ l is. (c.has_room.ensures l is).0 (let has = c.if-not-has_room.false in (cc)) in
    let next = c.in-Some.ensures h.serves.after (served_by _ _ _ _ h.serves c.requires.peer) in
    let told = c.in_err-announce_from.ensures in
    OnErr-is _ _ (short_still c.args.slot c.args.self.now c.loop-prefix.self _ c.loop-prefix.after c.in-Some.prefix _ c.args.peer.now c.export.new.octets.items h c.requires.slot room c.requires.peer next c.requires.gone told.least told.packed told.short told.err c.requires.below)

pub loop-prefix-smaller : goal.loop-prefix-smaller
loop-prefix-smaller g c =
    let h = c.loop-prefix.invariant in
    let next = c.in-Some.ensures h.serves.after (served_by _ _ _ _ h.serves c.requires.peer) in
    left-smaller _ _ h.place next.1 (rw (← c.place-place.ensures.place) c.place-place.ensures.below)

pub loop-prefix-preserved : goal.loop-prefix-preserved
loop-prefix-preserved g c =
    let h = c.loop-prefix.invariant in
    let next = c.in-Some.ensures h.serves.after (served_by _ _ _ _ h.serves c.requires.peer) in
    let below = rw c.place-place.ensures.place at c.place-place.ensures.below in
    let room : HasRoomAt c.loop-prefix.self c.args.slot = λ l is. (c.has_room.ensures l is).0 (let has = c.if-not-has_room.false in (cc)) in
    elim c.if-export.branch [
      | then-export+in_ok-announce_from w ↦
          let accepted = w.if-export.ensures.accepted in
          rw w.self-is (Walks-announced _ _ _ _ _ _ _ _ _ h c.requires.peer next below room (rw (← c.self.view_is) accepted) w.in_ok-announce_from.ensures.told w.in_ok-announce_from.ensures.least w.in_ok-announce_from.ensures.each w.in_ok-announce_from.ensures.packed c.requires.gone c.requires.below)
      | else-export w ↦
          let tells = w.if-export.ensures.tells.0 in
          let none : export_in c.loop-prefix.self.conf (best_at c.loop-prefix.self.loc_rib) c.loop-prefix.self.adj_in c.args.peer.now c.in-Some.prefix ≡ None = rw (← c.self.view_is) tells in
          rw w.self-is (Walks-had _ _ _ _ _ _ h c.requires.peer next below none)
    ]

pub returns-clause-done : goal.returns-clause-done
returns-clause-done g c =
    let h = c.loop-prefix.invariant in
    let last = c.in_default.ensures h.serves.after (served_by _ _ _ _ h.serves c.requires.peer) in
    Walks-end (IsHad (export_to c.args.self.now c.args.slot)) (λ q. announced_of (export_to c.loop-prefix.self c.args.slot q) (held_at h.serves.after.adj_out q) (asked_at h.serves.after.adj_out q)) c.args.slot c.args.self.now c.loop-prefix.self c.loop-prefix.after h
    (had_by c.args.slot c.args.self.now c.loop-prefix.self h.serves.after (ap (λ e. e c.args.slot) (export_kept c.args.self.now c.loop-prefix.self h.serves.only.rest))) last
