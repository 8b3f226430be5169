use Rattle.std.proofs.Common.{◌≡◌, ◌++◌, drop}
use Rattle.prometheus_text.specs.MetricText.{escaped_in_value}
use Rattle.prometheus_text.proofs.escaping.put_value.Given as goal

abbrev pub invariant-loop-octet : goal.invariant-loop-octet
invariant-loop-octet g l = l.text.items ++ escaped_in_value (drop l.octet-index l.value) ≡ l.fn.text.items ++ escaped_in_value l.value
