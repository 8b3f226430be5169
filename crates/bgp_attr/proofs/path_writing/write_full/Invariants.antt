use Rattle.std.proofs.Common.{◌≡◌, ◌++◌, ◌-◌, replicate}
use Rattle.bgp_attr.specs.AttributeSpelling.{path_spelling}
use Rattle.bgp_attr.specs.Spread.{run}
use Rattle.bgp_attr.proofs.path_writing.write_full.Given as goal

abbrev pub invariant-loop : goal.invariant-loop
invariant-loop l = l.out.items ++ path_spelling (replicate (l.full - l.counter) (run l.asn 255)) ≡ l.fn.out.items ++ path_spelling (replicate l.full (run l.asn 255))
