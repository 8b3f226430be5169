use Rattle.std.proofs.Common.{◌≡◌, ◌≤◌, length, map, take}
use Rattle.selection_reasons.specs.Reasons.{all_steps, fell_by}
use Rattle.speaker_tables.proofs.candidates.with_steps.Given as goal

abbrev pub invariant-loop-candidate : goal.invariant-loop-candidate
invariant-loop-candidate l = record {
  items : l.all.items ≡ map (λ c. record { candidate = c; fell = fell_by all_steps l.candidates c }) (take l.candidate-index l.candidates);
  few : length l.all.items ≤ l.candidate-index;
}
