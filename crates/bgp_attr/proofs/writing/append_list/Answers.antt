use Rattle.bgp_attr.specs.AttributeSpelling.{unknown_spelling}
use Rattle.bgp_attr.proofs.Appendings.{first_stops}
use Rattle.bgp_attr.proofs.writing.append_list.Goals as goal

pub returns-then-not-append_in_part : goal.returns-then-not-append_in_part
returns-then-not-append_in_part g c =
    first_stops c.args.out.now.items c.loop-rest.out.items (unknown_spelling c.args.first c.args.attributes.now) c.args.first c.attribute-item.result c.loop-rest.rest.now
    c.in-len1-up.len_at_least c.attribute-item.is c.loop-rest.invariant (rw (c.code.ensures, c.value.ensures) at c.if-not-append_in_part.ensures)
