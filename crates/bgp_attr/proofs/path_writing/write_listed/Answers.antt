use Rattle.std.proofs.Common.{arith, ap, length, drop}
use Rattle.bgp_attr.specs.AttributeSpelling.{asns_spelling}
use Rattle.bgp_attr.proofs.Appendings.{stops, asn_in_rest}
use Rattle.bgp_attr.proofs.path_writing.write_listed.Goals as goal

pub returns-then-not-put : goal.returns-then-not-put
returns-then-not-put c =
    stops c.args.out.now.items c.loop-asn.out.items (asns_spelling (drop c.loop-asn.asn-index c.args.asns.now)) (asns_spelling c.args.asns.now) 4 c.loop-asn.invariant
    (asn_in_rest c.args.asns.now c.loop-asn.asn-index (omega arith)) (omega (arith, c.if-not-put.ensures, ap length c.to_be_bytes.ensures))
