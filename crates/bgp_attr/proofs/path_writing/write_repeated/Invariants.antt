use Rattle.std.proofs.Common.{◌≡◌, ◌++◌, ◌-◌, replicate}
use Rattle.bgp_attr.specs.AttributeSpelling.{asns_spelling}
use Rattle.bgp_attr.proofs.path_writing.write_repeated.Given as goal

abbrev pub invariant-loop : goal.invariant-loop
invariant-loop l = l.out.items ++ asns_spelling (replicate (l.times - l.counter) l.asn) ≡ l.fn.out.items ++ asns_spelling (replicate l.times l.asn)
