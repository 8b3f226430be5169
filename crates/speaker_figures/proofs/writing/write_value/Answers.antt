use Rattle.std.proofs.Common.{◌≡◌, ◌++◌, ℕ, List, OnOk, subst}
use Rattle.speaker_figures.proofs.Lines.{told_value}
use Rattle.speaker_figures.proofs.writing.write_value.Goals as goal

pub returns : goal.returns
returns g c =
    subst (λ (told : List ℕ). OnOk c.write_sample.result (c.write_sample.new.text.items ≡ c.args.text.now.items ++ told))
    (told_value c.args.figure c.name.result.now c.args.label.now c.args.word.now c.args.value c.name.ensures) c.write_sample.ensures
