use Rattle.std.proofs.Common.{◌≡◌, rules, true}
use Rattle.std.specs.BTreeMap.{is_at}
use Rattle.net_prefix.specs.PayloadOrder.{payload_cmp}
use Rattle.origin_valid.proofs.PrefixSets.{only_first}
use Rattle.origin_valid.proofs.prefix_payloads.PrefixPayloads.is_only.Goals as goal

pub returns-then-eq : goal.returns-then-eq
returns-then-eq g c =
    let at : is_at (payload_cmp c.args.payload.now) c.self.inside.first ≡ true = search rules in
    rw (← c.self.view_is) (only_first c.self.inside.first c.args.payload.now c.self.inside.others.keys c.is_empty.result c.self.invariant at c.is_empty.ensures)
