use Rattle.std.proofs.Common.{◌≡◌, drop}
use Rattle.speaker_watch.specs.RunCounts.{seeing_all}
use Rattle.speaker_watch.proofs.counts.Counts.see_all.Given as goal

-- those that are left make of the counts what all make of the first
abbrev pub invariant-loop-event : goal.invariant-loop-event
invariant-loop-event l = seeing_all (drop l.event-index l.seen) l.self ≡ seeing_all l.seen l.fn.self
