use Rattle.std.proofs.Common.{◌≡◌, ◌++◌, drop}
use Rattle.prometheus_text.specs.MetricText.{more_labels}
use Rattle.prometheus_text.proofs.writing.write_more_labels.Given as goal

abbrev pub invariant-loop-label : goal.invariant-loop-label
invariant-loop-label g l = l.text.items ++ more_labels (drop l.label-index l.labels) ≡ l.fn.text.items ++ more_labels l.labels
