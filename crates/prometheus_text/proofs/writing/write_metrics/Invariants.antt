use Rattle.std.proofs.Common.{◌≡◌, ◌++◌, drop}
use Rattle.prometheus_text.specs.MetricText.{metrics_text}
use Rattle.prometheus_text.proofs.writing.write_metrics.Given as goal

abbrev pub invariant-loop-metric : goal.invariant-loop-metric
invariant-loop-metric g l = l.text.items ++ metrics_text (drop l.metric-index l.metrics) ≡ l.fn.text.items ++ metrics_text l.metrics
