use Rattle.std.proofs.Common.{sym, replicate, ◌++◌}
use Rattle.bgp_attr.specs.AttributeSpelling.{asns_spelling}
use Rattle.bgp_attr.proofs.Appendings.{appends_as, appends_more, appends_not, asns_spelling-append}
use Rattle.bgp_attr.proofs.path_writing.write_asns.Goals as goal

pub returns-then-write_repeated : goal.returns-then-write_repeated
returns-then-write_repeated c =
    appends_as c.write_listed.result c.args.out.now.items c.write_listed.new.out.items
    (asns_spelling (replicate c.args.times c.args.asn) ++ asns_spelling c.args.asns.now) (asns_spelling (replicate c.args.times c.args.asn ++ c.args.asns.now))
    (sym (asns_spelling-append (replicate c.args.times c.args.asn) c.args.asns.now))
    (appends_more c.write_listed.result c.args.out.now.items c.write_repeated.new.out.items c.write_listed.new.out.items
    (asns_spelling (replicate c.args.times c.args.asn)) (asns_spelling c.args.asns.now) c.if-write_repeated.ensures c.write_listed.ensures)

pub returns-else-write_repeated : goal.returns-else-write_repeated
returns-else-write_repeated c =
    appends_as c.write_repeated.result c.args.out.now.items c.write_repeated.new.out.items
    (asns_spelling (replicate c.args.times c.args.asn) ++ asns_spelling c.args.asns.now) (asns_spelling (replicate c.args.times c.args.asn ++ c.args.asns.now))
    (sym (asns_spelling-append (replicate c.args.times c.args.asn) c.args.asns.now))
    (appends_not c.write_repeated.result c.args.out.now.items c.write_repeated.new.out.items c.write_repeated.new.out.items
    (asns_spelling (replicate c.args.times c.args.asn)) (asns_spelling c.args.asns.now) (cc) c.write_repeated.ensures)
