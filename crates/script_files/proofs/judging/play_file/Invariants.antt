use Rattle.std.proofs.Common.{◌≡◌, ◌≤◌, ◌+◌, ◌-◌}
use Rattle.script_files.specs.Judgement.{AreAnsweredBelow, plays_up_to}
use Rattle.script_files.proofs.judging.play_file.Given as goal

abbrev pub invariant-loop-done : goal.invariant-loop-done
invariant-loop-done g l =
    (l.done ≤ l.end)
    × (l.played ≡ plays_up_to l.done l.fn.script)
    × AreAnsweredBelow (g.P.Player.answers l.fn.player) l.fn.script l.fn.told (l.done + 1)

abbrev pub decreases-loop-done : goal.decreases-loop-done
decreases-loop-done g l = l.end - l.done
