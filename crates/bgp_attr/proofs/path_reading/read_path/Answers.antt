use Rattle.std.proofs.Common.{◌≡◌, Some, sym, ap, ◌∙◌, arith}
use Rattle.std.specs.Option.{option_map}
use Rattle.bgp_attr.specs.AttributeReading.{path_items}
use Rattle.bgp_attr.specs.PathReading.{path_at}
use Rattle.bgp_attr.proofs.PathSpellings.{path_is_spelled}
use Rattle.bgp_attr.proofs.Paths.{path_at_octets}
use Rattle.bgp_attr.proofs.path_reading.read_path.Goals as goal

pub new-requires-clause-short : goal.new-requires-clause-short
new-requires-clause-short g c =
    let is : path_at c.args.octets.now ≡ Some c.in-Some.segments.items = sym c.in_ok-segments.ensures ∙ ap (option_map path_items) c.in-Some.is in
    omega (arith, c.requires, path_at_octets c.args.octets.now c.in-Some.segments.items is)

pub new-requires-clause-lawful : goal.new-requires-clause-lawful
new-requires-clause-lawful g c =
    let is : path_at c.args.octets.now ≡ Some c.in-Some.segments.items = sym c.in_ok-segments.ensures ∙ ap (option_map path_items) c.in-Some.is in
    (path_is_spelled c.args.octets.now c.in-Some.segments.items (λ i. omega (arith, c.type_inv.octets i)) is).each
