use Rattle.speaker.specs.Export.{export_to}
use Rattle.speaker.specs.Serving.{HasRoomAt}
use Rattle.rib_out.specs.Held.{held_at}
use Rattle.speaker.proofs.Owing.{withdrawn_parts}
use Rattle.routing.proofs.Places.{left-smaller}
use Rattle.speaker.proofs.Serving.{served_by, Walks-withdrawn}
use Rattle.speaker.proofs.step.Speaker.withdraw_all.Goals as goal

pub withdraw_from-requires-clause-gone : goal.withdraw_from-requires-clause-gone
withdraw_from-requires-clause-gone g c =
    let h = c.loop-prefix.invariant in
    let next = c.in-Some.ensures h.serves.after (served_by _ _ _ _ h.serves c.requires.peer) in
    (withdrawn_parts (export_to c.loop-prefix.self c.args.slot c.in-Some.prefix) (held_at h.serves.after.adj_out c.in-Some.prefix) next.0).0

pub loop-prefix-smaller : goal.loop-prefix-smaller
loop-prefix-smaller g c =
    let h = c.loop-prefix.invariant in
    let next = c.in-Some.ensures h.serves.after (served_by _ _ _ _ h.serves c.requires.peer) in
    left-smaller _ _ h.place next.1 (rw (← c.place-place.ensures.place) c.place-place.ensures.below)

pub loop-prefix-preserved : goal.loop-prefix-preserved
loop-prefix-preserved g c =
    let h = c.loop-prefix.invariant in
    let next = c.in-Some.ensures h.serves.after (served_by _ _ _ _ h.serves c.requires.peer) in
    let below = rw c.place-place.ensures.place at c.place-place.ensures.below in
    let room : HasRoomAt c.loop-prefix.self c.args.slot = λ l is. (c.has_room.ensures l is).0 (let has = c.if-not-has_room.false in (cc)) in
    Walks-withdrawn _ _ _ _ _ _ _ h next below room c.withdraw_from.ensures.told c.withdraw_from.ensures.least c.withdraw_from.ensures.packed c.requires.below
