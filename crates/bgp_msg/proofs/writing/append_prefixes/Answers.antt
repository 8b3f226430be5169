use Rattle.std.proofs.Common.{length, take, ap, sym, ◌∙◌, arith, length-append}
use Rattle.std.proofs.lemmas.List.Folds.{length-flat_map-take}
use Rattle.net_prefix.specs.declared.prefix.Prefix.{Prefix}
use Rattle.net_prefix.specs.PrefixSpelling.{spelling_of}
use Rattle.bgp_msg.specs.MessageSpelling.{wire_form}
use Rattle.bgp_msg.proofs.writing.append_prefixes.Goals as goal

pub append-requires : goal.append-requires
append-requires c =
    let prefixes = c.args.prefixes.now in
    let so_far = wire_form (take c.loop-prefix.prefix-index prefixes) in
    let whole = length-flat_map-take (λ (prefix : Prefix). spelling_of prefix.bits prefix.len) prefixes c.loop-prefix.prefix-index c.prefix-item.result c.loop-prefix-test.true in
    let next = ap (λ (prefix : Prefix). length (spelling_of prefix.bits prefix.len)) (sym c.prefix-item.is) in
    let octets = ap length (c.as_slice.ensures.value ∙ c.to_octets.ensures.octets) in
    let written = ap length c.loop-prefix.invariant ∙ length-append c.args.out.now.items so_far in
    omega (arith, whole, next, octets, written, c.requires)
