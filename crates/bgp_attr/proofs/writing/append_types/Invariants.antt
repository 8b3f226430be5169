use Rattle.std.proofs.Common.{◌≡◌, ◌++◌, drop}
use Rattle.std.specs.List.{flat_map}
use Rattle.bgp_attr.specs.AttributeSpelling.{type_spelling}
use Rattle.bgp_attr.specs.AttributeTable.{types}
use Rattle.bgp_attr.specs.Written.{attributes_of}
use Rattle.bgp_attr.proofs.writing.append_types.Given as goal

abbrev pub invariant-loop-known : goal.invariant-loop-known
invariant-loop-known g l =
    l.out.items ++ flat_map (type_spelling (attributes_of l.attrs)) (drop l.known-index types) ≡ l.fn.out.items ++ flat_map (type_spelling (attributes_of l.attrs)) types
