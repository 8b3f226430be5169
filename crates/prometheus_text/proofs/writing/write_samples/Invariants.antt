use Rattle.std.proofs.Common.{◌≡◌, ◌++◌, drop}
use Rattle.prometheus_text.specs.MetricText.{samples_text}
use Rattle.prometheus_text.proofs.writing.write_samples.Given as goal

abbrev pub invariant-loop-sample : goal.invariant-loop-sample
invariant-loop-sample g l = l.text.items ++ samples_text l.name (drop l.sample-index l.samples) ≡ l.fn.text.items ++ samples_text l.name l.samples
