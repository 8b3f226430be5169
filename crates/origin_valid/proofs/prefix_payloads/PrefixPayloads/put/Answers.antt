use Rattle.std.proofs.Common.{◌≡◌, rules, inl}
use Rattle.std.specs.BTreeSet.{insert_key}
use Rattle.net_prefix.specs.PayloadOrder.{payload_cmp}
use Rattle.origin_valid.proofs.PrefixSets.{either, put_behind, put_first}
use Rattle.origin_valid.proofs.prefix_payloads.PrefixPayloads.put.Goals as goal

pub invariant_of-self : goal.invariant_of-self
invariant_of-self g c =
    let is : c.insert.new.self.keys ≡ insert_key payload_cmp c.self.inside.others.keys c.self.inside.first = search rules in
    (put_first c.self.inside.first c.args.payload c.self.inside.others.keys c.insert.new.self.keys c.self.invariant (rw c.cmp.ensures at c.in-Less.is) is).1

pub invariant_of-self-in-Greater : goal.invariant_of-self-in-Greater
invariant_of-self-in-Greater g c =
    (put_behind c.self.inside.first c.args.payload c.self.inside.others.keys c.insert-in-Greater.new.self.keys c.self.invariant (rw c.cmp.ensures at c.in-Greater.is)
    (either c.insert-in-Greater.result c.insert-in-Greater.ensures.keys c.insert-in-Greater.ensures.err)).1

pub returns-then-is_ok : goal.returns-then-is_ok
returns-then-is_ok g c =
    let is : c.insert.new.self.keys ≡ insert_key payload_cmp c.self.inside.others.keys c.self.inside.first = search rules in
    rw (← c.self.view_is)
    (inl (put_first c.self.inside.first c.args.payload c.self.inside.others.keys c.insert.new.self.keys c.self.invariant (rw c.cmp.ensures at c.in-Less.is) is).0)
