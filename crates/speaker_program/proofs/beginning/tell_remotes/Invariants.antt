use Rattle.std.proofs.Common.{◌≡◌, drop}
use Rattle.speaker_program.specs.Begun.{with_peers}
use Rattle.speaker_program.proofs.beginning.tell_remotes.Given as goal

-- those that are left make of the loop what all make of it
abbrev pub invariant-loop-slot : goal.invariant-loop-slot
invariant-loop-slot g l =
    (l.slot-items ≡ l.fn.settings.peers.items)
    × (with_peers (drop l.slot-index l.slot-items) l.served ≡ with_peers l.fn.settings.peers.items l.fn.served)
