use Rattle.std.proofs.Common.{◌≡◌, ◌≤◌, length, take}
use Rattle.selection_reasons.specs.Reasons.{kept_of}
use Rattle.selection_reasons.proofs.reason.unbeaten.Given as goal

abbrev pub invariant-loop-candidate : goal.invariant-loop-candidate
invariant-loop-candidate l = record {
  items : l.kept.items ≡ kept_of l.step l.left (take l.candidate-index l.left);
  few : length l.kept.items ≤ l.candidate-index;
}
