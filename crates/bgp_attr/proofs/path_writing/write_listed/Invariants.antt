use Rattle.std.proofs.Common.{◌≡◌, ◌++◌, drop}
use Rattle.bgp_attr.specs.AttributeSpelling.{asns_spelling}
use Rattle.bgp_attr.proofs.path_writing.write_listed.Given as goal

abbrev pub invariant-loop-asn : goal.invariant-loop-asn
invariant-loop-asn l = l.out.items ++ asns_spelling (drop l.asn-index l.asns) ≡ l.fn.out.items ++ asns_spelling l.asns
