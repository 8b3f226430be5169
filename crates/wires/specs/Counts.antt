-- What a loop counts of the connections that it lost, beside what its wire counts.
use Rattle.std.specs.Prelude.{◌≡◌, ◌≤◌, ◌<◌, ◌+◌, ◌-◌, ◌^◌, ℕ}
use Rattle.wires.specs.Wires.{WireState, closing, one_more}
use Rattle.wires.specs.declared.wire.Parting.{Parting}

-- what a loop counts, and what its wire does
pub record Counts : Type 0 where
  pub lost : ℕ  -- connections, and attempts at one, of whose end the session was told
  pub closed : ℕ  -- those of them that were closed on this side
  pub wire : WireState

-- what calls of the wire make of the counts
abbrev pub counts_of_wire : (WireState → WireState) → Counts → Counts
counts_of_wire call counts = record counts { wire = call counts.wire }

-- a session is told that its connection is gone
abbrev pub losing_one : Counts → Counts
losing_one counts = record counts { lost = one_more counts.lost }

-- and the socket closed
abbrev pub losing : ℕ → Parting → Counts → Counts
losing number why counts = record (losing_one counts) { wire = closing number why counts.wire }

-- and counted as closed on this side
abbrev pub closing_it : ℕ → Parting → Counts → Counts
closing_it number why counts = losing number why (record counts { closed = one_more counts.closed })

-- no count is at the greatest u64
pub record AreBelowGreatest (counts : Counts) : Type 0 where
  pub lost : counts.lost < 2 ^ 64 - 1
  pub closed : counts.closed < 2 ^ 64 - 1
  pub faults : counts.wire.faults < 2 ^ 64 - 1
  pub ends : counts.wire.ends < 2 ^ 64 - 1

-- what a loop lost beyond its start is just what faults, ends and closes rose together
abbrev pub LosesJust : Counts → Counts → Type 0
LosesJust old new =
    AreBelowGreatest new
    → new.lost + (old.wire.faults + old.wire.ends + old.closed) ≡ old.lost + (new.wire.faults + new.wire.ends + new.closed)

-- or no more than that
abbrev pub LosesNoMore : Counts → Counts → Type 0
LosesNoMore old new =
    AreBelowGreatest new
    → new.lost + (old.wire.faults + old.wire.ends + old.closed) ≤ old.lost + (new.wire.faults + new.wire.ends + new.closed)
