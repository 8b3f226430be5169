use Rattle.std.proofs.Common.{drop, arith}
use Rattle.std.specs.List.{flat_map}
use Rattle.bgp_attr.specs.AttributeSpelling.{type_spelling}
use Rattle.bgp_attr.specs.AttributeTable.{types}
use Rattle.bgp_attr.specs.Written.{attributes_of}
use Rattle.bgp_attr.proofs.Appendings.{stops, type_in_rest}
use Rattle.bgp_attr.proofs.writing.append_types.Goals as goal

pub returns-then-not-append_type : goal.returns-then-not-append_type
returns-then-not-append_type g c =
    stops c.args.out.now.items c.loop-known.out.items (flat_map (type_spelling (attributes_of c.args.attrs.now)) (drop c.loop-known.known-index types)) (flat_map (type_spelling (attributes_of c.args.attrs.now)) types)
    _ c.loop-known.invariant (type_in_rest (attributes_of c.args.attrs.now) types c.loop-known.known-index _ (omega arith)) c.if-not-append_type.ensures
