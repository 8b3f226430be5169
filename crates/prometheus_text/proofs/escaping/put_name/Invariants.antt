use Rattle.std.proofs.Common.{◌≡◌, ◌++◌, drop, map}
use Rattle.prometheus_text.specs.MetricText.{name_octet, name_text}
use Rattle.prometheus_text.proofs.escaping.put_name.Given as goal

abbrev pub invariant-loop-octet : goal.invariant-loop-octet
invariant-loop-octet g l = l.text.items ++ map name_octet (drop l.octet-index l.name) ≡ l.fn.text.items ++ name_text l.name
