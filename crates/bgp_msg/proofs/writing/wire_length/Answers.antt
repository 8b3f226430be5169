use Rattle.std.proofs.Common.{length, ap, sym, ◌∙◌, arith}
use Rattle.std.proofs.lemmas.List.Folds.{length-flat_map-take}
use Rattle.net_prefix.specs.declared.prefix.Prefix.{Prefix}
use Rattle.net_prefix.specs.PrefixSpelling.{spelling_of}
use Rattle.bgp_msg.proofs.writing.wire_length.Goals as goal

pub overflow_add-total : goal.overflow_add-total
overflow_add-total c =
    let prefixes = c.args.prefixes.now in
    let whole = length-flat_map-take (λ (prefix : Prefix). spelling_of prefix.bits prefix.len) prefixes c.loop-prefix.prefix-index c.prefix-item.result c.loop-prefix-test.true in
    let next = ap (λ (prefix : Prefix). length (spelling_of prefix.bits prefix.len)) (sym c.prefix-item.is) in
    let octets = c.len.ensures.value ∙ ap length c.to_octets.ensures.octets in
    omega (arith, whole, next, octets, c.loop-prefix.invariant, c.requires)
