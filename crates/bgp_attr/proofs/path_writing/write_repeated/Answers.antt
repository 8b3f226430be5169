use Rattle.std.proofs.Common.{◌-◌, ◌+◌, ◌++◌, arith, ap, length, replicate}
use Rattle.bgp_attr.specs.AttributeSpelling.{asns_spelling}
use Rattle.bgp_attr.proofs.Appendings.{stops, asn_in_run, asn_step}
use Rattle.bgp_attr.proofs.path_writing.write_repeated.Goals as goal

pub returns-then-not-put : goal.returns-then-not-put
returns-then-not-put c =
    stops c.args.out.now.items c.loop.out.items (asns_spelling (replicate (c.args.times - c.loop.counter) c.args.asn)) (asns_spelling (replicate c.args.times c.args.asn)) 4 c.loop.invariant
    (asn_in_run c.args.asn (c.args.times - c.loop.counter) (omega arith)) (omega (arith, c.if-not-put.ensures, ap length c.to_be_bytes.ensures))

pub loop-preserved : goal.loop-preserved
loop-preserved c =
    asn_step c.loop.out.items c.put.new.out.items c.to_be_bytes.result (c.args.out.now.items ++ asns_spelling (replicate c.args.times c.args.asn)) c.args.asn
    (c.args.times - c.loop.counter) (c.args.times - (c.loop.counter + 1)) (omega arith) c.loop.invariant c.to_be_bytes.ensures c.if-not-put.ensures
