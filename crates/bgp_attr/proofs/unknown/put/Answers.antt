use Rattle.std.proofs.Common.{◌≡◌, true, false, sym, ◌∙◌}
use Rattle.bgp_attr.specs.UnknownAttributes.{has_code, place_of}
use Rattle.bgp_attr.proofs.UnknownLists.{insert_at_place, set_at_place}
use Rattle.bgp_attr.proofs.unknown.put.Goals as goal

pub returns-then-has_code-clause-kept : goal.returns-then-has_code-clause-kept
returns-then-has_code-clause-kept g c =
    let at : c.place_of-place.result ≡ place_of c.args.attribute.0 c.args.attributes.now.items = rw (c.deref.ensures.value, c.code-code.ensures) at c.place_of-place.ensures.place in
    let has : has_code c.args.attributes.now.items (place_of c.args.attribute.0 c.args.attributes.now.items) c.args.attribute.0 ≡ true =
    rw (c.deref-2.ensures.value, at, c.code-code.ensures) at (sym c.has_code.ensures ∙ c.if-has_code.true) in
    rw at (set_at_place c.args.attribute.0 c.args.attribute.1 c.args.attributes.now.items has)

pub returns-clause-kept : goal.returns-clause-kept
returns-clause-kept g c =
    let at : c.place_of-place.result ≡ place_of c.args.attribute.0 c.args.attributes.now.items = rw (c.deref.ensures.value, c.code-code.ensures) at c.place_of-place.ensures.place in
    let none : has_code c.args.attributes.now.items (place_of c.args.attribute.0 c.args.attributes.now.items) c.args.attribute.0 ≡ false =
    rw (c.deref-2.ensures.value, at, c.code-code.ensures) at (sym c.has_code.ensures ∙ c.if-has_code.false) in
    rw (at, insert_at_place c.args.attribute.0 c.args.attribute.1 c.args.attributes.now.items none) at c.put_between.ensures.put
