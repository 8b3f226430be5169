use Rattle.std.proofs.Common.{◌≡◌, ◌++◌, drop}
use Rattle.std.specs.List.{flat_map}
use Rattle.speaker_figures.specs.FiguresText.{value_text}
use Rattle.speaker_figures.proofs.writing.write_values.Given as goal

abbrev pub invariant-loop-word : goal.invariant-loop-word
invariant-loop-word g l =
    l.text.items ++ flat_map (λ told. value_text l.figure l.label told.0.now told.1) (drop l.word-index l.values) ≡ l.fn.text.items ++ flat_map (λ told. value_text l.fn.figure l.fn.label told.0.now told.1) l.fn.values
