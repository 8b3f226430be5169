use Rattle.std.proofs.Common.{◌++◌, replicate, refl}
use Rattle.bgp_attr.specs.AttributeSpelling.{path_spelling}
use Rattle.bgp_attr.specs.Spread.{run, part_of, joining_of}
use Rattle.bgp_attr.specs.Written.{segments_of}
use Rattle.bgp_attr.proofs.Appendings.{appends_as, appends_more, appends_not, spread_spelling}
use Rattle.bgp_attr.proofs.path_writing.write_path.Goals as goal

pub returns-then-write_new : goal.returns-then-write_new
returns-then-write_new g c =
    appends_as c.write_joined.result c.args.out.now.items c.write_joined.new.out.items
    (path_spelling (part_of c.args.path.now.asn c.spread-spread.result.part ++ replicate c.spread-spread.result.full (run c.args.path.now.asn 255))
    ++ path_spelling (joining_of c.segments.result.now c.args.path.now.asn c.spread-spread.result.joining))
    (path_spelling (segments_of c.args.path.now))
    (spread_spelling c.args.path.now.path.now c.segments.result.now c.args.path.now.asn c.args.path.now.times
    c.spread-spread.result.part c.spread-spread.result.full c.spread-spread.result.joining c.segments.ensures.value
    c.spread-spread.ensures.part c.spread-spread.ensures.full c.spread-spread.ensures.joining)
    (appends_more c.write_joined.result c.args.out.now.items c.write_new.new.out.items c.write_joined.new.out.items
    (path_spelling (part_of c.args.path.now.asn c.spread-spread.result.part ++ replicate c.spread-spread.result.full (run c.args.path.now.asn 255)))
    (path_spelling (joining_of c.segments.result.now c.args.path.now.asn c.spread-spread.result.joining))
    c.if-write_new.ensures c.write_joined.ensures)

pub returns-else-write_new : goal.returns-else-write_new
returns-else-write_new g c =
    appends_as c.write_new.result c.args.out.now.items c.write_new.new.out.items
    (path_spelling (part_of c.args.path.now.asn c.spread-spread.result.part ++ replicate c.spread-spread.result.full (run c.args.path.now.asn 255))
    ++ path_spelling (joining_of c.args.path.now.path.now c.args.path.now.asn c.spread-spread.result.joining))
    (path_spelling (segments_of c.args.path.now))
    (spread_spelling c.args.path.now.path.now c.args.path.now.path.now c.args.path.now.asn c.args.path.now.times
    c.spread-spread.result.part c.spread-spread.result.full c.spread-spread.result.joining refl
    c.spread-spread.ensures.part c.spread-spread.ensures.full c.spread-spread.ensures.joining)
    (appends_not c.write_new.result c.args.out.now.items c.write_new.new.out.items c.write_new.new.out.items
    (path_spelling (part_of c.args.path.now.asn c.spread-spread.result.part ++ replicate c.spread-spread.result.full (run c.args.path.now.asn 255)))
    (path_spelling (joining_of c.args.path.now.path.now c.args.path.now.asn c.spread-spread.result.joining))
    (cc) c.write_new.ensures)
