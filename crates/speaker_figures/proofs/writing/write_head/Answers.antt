use Rattle.std.proofs.Common.{◌≡◌, ◌++◌, ℕ, List, OnOk, subst}
use Rattle.speaker_figures.proofs.Lines.{told_head}
use Rattle.speaker_figures.proofs.writing.write_head.Goals as goal

pub returns : goal.returns
returns g c =
    subst (λ (told : List ℕ). OnOk c.write_metric.result (c.write_metric.new.text.items ≡ c.args.text.now.items ++ told))
    (told_head c.args.figure c.name.result.now c.help.result.now c.kind.result c.name.ensures c.help.ensures c.kind.ensures) c.write_metric.ensures
