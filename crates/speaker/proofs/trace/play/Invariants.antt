use Rattle.std.proofs.Common.{◌≡◌, [], take}
use Rattle.std.specs.Prelude.{vec_capacity, vec_len}
use Rattle.runs.specs.Played.{IsPlayed}
use Rattle.runs.specs.declared.config.Config.{Config}
use Rattle.speaker.proofs.trace.play.Given as goal

-- the events so far, and the room for the answers to the others
abbrev pub invariant-loop-event : goal.invariant-loop-event
invariant-loop-event g l =
    ((config : Config) → IsPlayed config [] [] l.fn.speaker → IsPlayed config (take l.event-index l.fn.events) l.answers.items l.speaker)
    × (vec_len l.answers ≡ l.event-index)
    × (vec_capacity l.answers ≡ vec_capacity l.fn.answers)
