use Rattle.std.proofs.Common.{take}
use Rattle.toml.specs.View.{items_view}
use Rattle.speaker_settings.specs.PeerSlots.{AreSlots}
use Rattle.speaker_settings.specs.ToldSettings.{ArePeers}
use Rattle.speaker_settings.proofs.settings.each_peer.Given as goal

-- the peers of the entries so far, no slot twice
abbrev pub invariant-loop-entry : goal.invariant-loop-entry
invariant-loop-entry l = ArePeers (items_view (take l.entry-index l.entries)) l.peers.items × AreSlots l.peers.items
