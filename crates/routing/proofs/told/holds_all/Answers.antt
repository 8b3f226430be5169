use Rattle.std.proofs.Common.{rules, ◌≡◌, ◌<◌, length, Some, sym, ap, ◌∙◌}
use Rattle.rib_out.specs.Held.{held_at}
use Rattle.routing.proofs.ToldPrefixes.{held_more, item_among}
use Rattle.routing.proofs.told.holds_all.Goals as goal

pub loop-prefix-preserved : goal.loop-prefix-preserved
loop-prefix-preserved g c =
    let within : c.loop-prefix.prefix-index < length c.args.named.now = search rules in
    let held : held_at c.args.adj_out.now c.prefix-item.result ≡ Some c.args.octets.now.items = search rules in
    held_more c.args.named.now c.loop-prefix.prefix-index c.prefix-item.result (held_at c.args.adj_out.now) c.args.octets.now.items within c.prefix-item.is c.loop-prefix.invariant held

pub returns-then-not-holds-clause-one : goal.returns-then-not-holds-clause-one
returns-then-not-holds-clause-one g c =
    let within : c.loop-prefix.prefix-index < length c.args.named.now = search rules in (
      c.prefix-item.result,
      item_among c.args.named.now c.loop-prefix.prefix-index c.prefix-item.result within c.prefix-item.is,
      λ is. let yes = c.holds.ensures.1 (is ∙ ap Some (sym c.as_slice.ensures.value)) in let no = c.if-not-holds.true in cc,
    )
