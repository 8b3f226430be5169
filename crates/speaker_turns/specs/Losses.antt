-- What a turn loses that can't accept.
use Rattle.std.specs.Prelude.{◌≡◌, ◌+◌}
use Rattle.wires.specs.Counts.{AreBelowGreatest, Counts}

-- of all that is counted just the listener's own fault is no loss
abbrev pub LosesAllButOne : Counts → Counts → Type 0
LosesAllButOne old new =
    AreBelowGreatest new
    → new.lost + (old.wire.faults + old.wire.ends + old.closed) + 1 ≡ old.lost + (new.wire.faults + new.wire.ends + new.closed)
