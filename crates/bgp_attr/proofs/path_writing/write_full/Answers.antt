use Rattle.std.proofs.Common.{◌-◌, ◌+◌, ◌++◌, arith, length, replicate}
use Rattle.bgp_attr.specs.AttributeSpelling.{segment_spelling, path_spelling}
use Rattle.bgp_attr.specs.Spread.{run}
use Rattle.bgp_attr.proofs.Appendings.{stops, segment_in_run, segment_step}
use Rattle.bgp_attr.proofs.path_writing.write_full.Goals as goal

pub returns-then-not-write_run : goal.returns-then-not-write_run
returns-then-not-write_run c =
    stops c.args.out.now.items c.loop.out.items (path_spelling (replicate (c.args.full - c.loop.counter) (run c.args.asn 255))) (path_spelling (replicate c.args.full (run c.args.asn 255)))
    (length (segment_spelling (run c.args.asn 255))) c.loop.invariant
    (segment_in_run (run c.args.asn 255) (c.args.full - c.loop.counter) (omega arith)) c.if-not-write_run.ensures

pub loop-preserved : goal.loop-preserved
loop-preserved c =
    segment_step c.loop.out.items c.write_run.new.out.items (c.args.out.now.items ++ path_spelling (replicate c.args.full (run c.args.asn 255))) (run c.args.asn 255)
    (c.args.full - c.loop.counter) (c.args.full - (c.loop.counter + 1)) (omega arith) c.loop.invariant c.if-not-write_run.ensures
