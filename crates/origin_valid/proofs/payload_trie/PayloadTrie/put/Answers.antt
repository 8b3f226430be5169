use Rattle.std.proofs.Common.{◌≡◌, rules, None, cond, not, ap, sym, ◌∙◌}
use Rattle.std.specs.Result.{is_ok}
use Rattle.net_prefix.specs.PayloadSets.{put}
use Rattle.prefix_trie.specs.TrieMap.{found}
use Rattle.origin_valid.specs.KeptPayloads.{MayPut, payloads_of}
use Rattle.origin_valid.proofs.Kept.{found_none, found_some, may_put_first, may_put_more, payloads_of-set, put_nowhere, put_there, taken}
use Rattle.origin_valid.proofs.payload_trie.PayloadTrie.put.Goals as goal
use Rattle.origin_valid.proofs.payload_trie.PayloadTrie.put.Goals.{in-Ok, in-Err}

pub invariant_of-self : goal.invariant_of-self
invariant_of-self g c =
    let none : found c.self.inside.prefixes c.args.payload.prefix ≡ None = found_none c.get.result _ c.get.ensures (c.is_none.ensures ∙ ap not c.if-is_none.true) in
    (may_put_first c.self.inside.prefixes c.insert.new.self c.args.payload c.one-payloads.result (is_ok c.insert.result) c.self.invariant none c.one-payloads.ensures c.insert.ensures.entries).0

pub returns-then-is_none-clause-ok : goal.returns-then-is_none-clause-ok
returns-then-is_none-clause-ok g c =
    let none : found c.self.inside.prefixes c.args.payload.prefix ≡ None = found_none c.get.result _ c.get.ensures (c.is_none.ensures ∙ ap not c.if-is_none.true) in
    let made = may_put_first c.self.inside.prefixes c.insert.new.self c.args.payload c.one-payloads.result (is_ok c.insert.result) c.self.invariant none c.one-payloads.ensures c.insert.ensures.entries in
    elim c.match-insert.branch [
      | in-Ok w ↦ rw (w.result-is, ← c.self.view_is) (made.1 ∙ ap (λ b. cond b (put c.args.payload (payloads_of c.self.inside.prefixes)) (payloads_of c.self.inside.prefixes)) (ap is_ok w.in-Ok.is))
      | in-Err w ↦ rw w.result-is tt
    ]

pub invariant_of-self-2 : goal.invariant_of-self-2
invariant_of-self-2 g c =
    let there = found_some c.get.result _ c.get.ensures (c.is_none.ensures ∙ ap not c.if-is_none.false) in
    let u = rw there.1 at c.update.ensures in
    (may_put_more c.self.inside.prefixes c.update.new.self c.args.payload there.0 c.self.invariant there.1 (taken _ (MayPut c.args.payload there.0) _ u.1 (λ w t. search rules))).0

pub returns-then-contains-clause-ok : goal.returns-then-contains-clause-ok
returns-then-contains-clause-ok g c =
    let there = found_some c.get.result _ c.get.ensures (c.is_none.ensures ∙ ap not c.if-is_none.false) in
    let u = rw there.1 at c.update.ensures in
    let made = may_put_more c.self.inside.prefixes c.update.new.self c.args.payload there.0 c.self.invariant there.1 (taken _ (MayPut c.args.payload there.0) _ u.1 (λ w t. search rules)) in
    rw (← c.self.view_is) (put_there _ _ c.args.payload (payloads_of-set c.self.inside.prefixes c.self.invariant) made.1 (sym c.contains.ensures ∙ c.if-contains.true))

pub returns-else-contains-clause-err : goal.returns-else-contains-clause-err
returns-else-contains-clause-err g c =
    let there = found_some c.get.result _ c.get.ensures (c.is_none.ensures ∙ ap not c.if-is_none.false) in
    let u = rw there.1 at c.update.ensures in
    let made = may_put_more c.self.inside.prefixes c.update.new.self c.args.payload there.0 c.self.invariant there.1 (taken _ (MayPut c.args.payload there.0) _ u.1 (λ w t. search rules)) in
    rw (← c.self.view_is) (put_nowhere _ _ c.args.payload made.1 (sym c.contains.ensures ∙ c.if-contains.false))
