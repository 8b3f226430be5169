use Rattle.std.proofs.Common.{◌≡◌}
use Rattle.routing.proofs.Results.{room_test}
use Rattle.speaker.proofs.PeersSeen.{peer_same}
use Rattle.speaker.proofs.step.Speaker.has_room.Goals as goal

pub returns-in-Some : goal.returns-in-Some
returns-in-Some g c = λ l linked.
    let here = rw (← c.self.view_is) at linked in
    let same : c.in-Some.found.now ≡ l.peer = peer_same _ _ l c.in-Some.ensures.value here in
    rw (← same) (room_test c.free.result _ c.free.ensures.free)
