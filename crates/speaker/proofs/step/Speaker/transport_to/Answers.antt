use Rattle.std.proofs.Common.{◌≡◌, ◌∙◌, ap}
use Rattle.speaker.specs.Shown.{transport_at}
use Rattle.speaker.proofs.PeersSeen.{session_seen}
use Rattle.speaker.proofs.step.Speaker.transport_to.Goals as goal

pub returns-in-Some : goal.returns-in-Some
returns-in-Some g c =
    rw (← c.self.view_is) (c.transport.ensures ∙ ap transport_at (session_seen _ _ c.in-Some.ensures.value))

pub returns-in-None : goal.returns-in-None
returns-in-None g c = rw (← c.self.view_is) (ap transport_at (session_seen _ _ c.in-None.ensures.value))
