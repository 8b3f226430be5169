use Rattle.speaker.proofs.Commands.{added_grows, other_left}
use Rattle.speaker.proofs.step.Speaker.obey.Goals as goal

pub returns-in-AddPeer-clause-memory : goal.returns-in-AddPeer-clause-memory
returns-in-AddPeer-clause-memory g c = rw c.in-AddPeer.is (added_grows c.add_peer.result _ c.args.self.now.conf c.in-AddPeer.slot c.in-AddPeer.conf (rw c.in-AddPeer.is at c.requires))

pub obey_other-requires-clause-other : goal.obey_other-requires-clause-other
obey_other-requires-clause-other g c =
    other_left c.args.command.now c.in_default.not-AddPeer c.in_default.not-SetPolicy c.in_default.not-Network c.in_default.not-Reach c.in_default.not-NoReach
