use Rattle.std.proofs.Common.{take}
use Rattle.toml.specs.View.{items_view}
use Rattle.speaker_settings.specs.ToldSettings.{AreTimers}
use Rattle.speaker_settings.proofs.settings.each_timers.Given as goal

-- the timers of the entries so far
abbrev pub invariant-loop-entry : goal.invariant-loop-entry
invariant-loop-entry l = AreTimers (items_view (take l.entry-index l.entries)) l.timers.items
