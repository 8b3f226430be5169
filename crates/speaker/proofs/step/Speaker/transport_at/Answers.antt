use Rattle.std.proofs.Common.{◌≡◌, ◌∙◌, Some, ap}
use Rattle.std.specs.Option.{option_map}
use Rattle.bgp_fsm.specs.Transports.{transport_of}
use Rattle.speaker.proofs.PeersSeen.{session_seen}
use Rattle.speaker.proofs.step.Speaker.transport_at.Goals as goal

pub returns-in-Some : goal.returns-in-Some
returns-in-Some g c =
    rw (← c.self.view_is) (ap Some c.transport.ensures ∙ ap (option_map transport_of) (session_seen _ _ c.in-Some.ensures.value))

pub returns-in-None : goal.returns-in-None
returns-in-None g c = rw (← c.self.view_is) (ap (option_map transport_of) (session_seen _ _ c.in-None.ensures.value))
