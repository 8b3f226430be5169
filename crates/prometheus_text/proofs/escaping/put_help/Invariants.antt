use Rattle.std.proofs.Common.{◌≡◌, ◌++◌, drop}
use Rattle.prometheus_text.specs.MetricText.{escaped_in_help}
use Rattle.prometheus_text.proofs.escaping.put_help.Given as goal

abbrev pub invariant-loop-octet : goal.invariant-loop-octet
invariant-loop-octet g l = l.text.items ++ escaped_in_help (drop l.octet-index l.help) ≡ l.fn.text.items ++ escaped_in_help l.help
