use Rattle.std.proofs.Common.{◌++◌, [], replicate}
use Rattle.bgp_attr.specs.AttributeSpelling.{segment_spelling}
use Rattle.bgp_attr.specs.Spread.{run}
use Rattle.bgp_attr.specs.declared.as_path.SegmentKind.TheVariants.{Sequence}
use Rattle.bgp_attr.proofs.Appendings.{appends_as, run_alone}
use Rattle.bgp_attr.proofs.path_writing.write_run.Goals as goal

pub returns : goal.returns
returns c =
    appends_as c.write_segment.result c.args.out.now.items c.write_segment.new.out.items
    (segment_spelling (record { kind = Sequence; asns = replicate c.args.times c.args.asn ++ [] })) (segment_spelling (run c.args.asn c.args.times))
    (run_alone c.args.asn c.args.times) c.write_segment.ensures
