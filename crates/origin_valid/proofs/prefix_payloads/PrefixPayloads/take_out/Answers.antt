use Rattle.std.proofs.Common.{◌≡◌, rules, true, false}
use Rattle.std.specs.BTreeMap.{is_at}
use Rattle.net_prefix.specs.PayloadOrder.{payload_cmp}
use Rattle.origin_valid.proofs.PrefixSets.{left_behind, left_others}
use Rattle.origin_valid.proofs.prefix_payloads.PrefixPayloads.take_out.Goals as goal

pub invariant_of-self : goal.invariant_of-self
invariant_of-self g c =
    let apart : is_at (payload_cmp c.args.payload.now) c.self.inside.first ≡ false = search rules in
    (left_others c.self.inside.first c.args.payload.now c.self.inside.others.keys c.remove.new.self.keys c.self.invariant apart c.remove.ensures.keys).1

pub invariant_of-self-in-Some : goal.invariant_of-self-in-Some
invariant_of-self-in-Some g c =
    let at : is_at (payload_cmp c.args.payload.now) c.self.inside.first ≡ true = search rules in
    (left_behind c.self.inside.first c.args.payload.now c.in-Some.next c.self.inside.others.keys c.pop_first.new.self.keys c.self.invariant at c.in-Some.ensures.removal).1

pub returns-then-ne : goal.returns-then-ne
returns-then-ne g c more =
    let apart : is_at (payload_cmp c.args.payload.now) c.self.inside.first ≡ false = search rules in
    rw (← c.self.view_is) (left_others c.self.inside.first c.args.payload.now c.self.inside.others.keys c.remove.new.self.keys c.self.invariant apart c.remove.ensures.keys).0

pub returns-in-Some : goal.returns-in-Some
returns-in-Some g c more =
    let at : is_at (payload_cmp c.args.payload.now) c.self.inside.first ≡ true = search rules in
    rw (← c.self.view_is) (left_behind c.self.inside.first c.args.payload.now c.in-Some.next c.self.inside.others.keys c.pop_first.new.self.keys c.self.invariant at c.in-Some.ensures.removal).0
