use Rattle.std.proofs.Common.{◌≡◌, ◌++◌, [], ℕ, List, OnOk, ap, subst, ◌∙◌}
use Rattle.prometheus_text.specs.MetricText.{name_text}
use Rattle.speaker_figures.proofs.Lines.{sample_line, told_figure}
use Rattle.speaker_figures.proofs.writing.write_figure.Goals as goal

pub returns : goal.returns
returns g c =
    subst (λ (told : List ℕ). OnOk c.write_sample.result (c.write_sample.new.text.items ≡ told))
    (ap (λ (told : List ℕ). told ++ sample_line (name_text c.name.result.now ++ []) c.args.value) c.in_ok-write_head.ensures
    ∙ told_figure c.args.figure c.args.text.now.items c.name.result.now c.args.value c.name.ensures) c.write_sample.ensures
