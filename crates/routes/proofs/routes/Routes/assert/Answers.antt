use Rattle.std.proofs.Common.{◌≡◌, ◌≢◌}
use Rattle.net_prefix.specs.PayloadSets.{has}
use Rattle.prefix_trie.specs.CoverWalks.{covers}
use Rattle.routing.specs.Tables.{payloads_under}
use Rattle.routes.proofs.ObeyedExceptions.{answers_other, answers_same, asserted_all, asserted_none, assertion_conf, kept_excepting, obeyed, obeyed_none}
use Rattle.routing.specs.Sent.{linked}
use Rattle.routes.proofs.routes.Routes.assert.Goals as goal

pub invariant_of-self-then-is_in_force-was_in_force : goal.invariant_of-self-then-is_in_force-was_in_force
invariant_of-self-then-is_in_force-was_in_force g c =
    let conf = assertion_conf c.self.inside.conf c.apply.new.self c.args.payload c.args.command.now c.requires.turns c.in_ok-apply.ensures.ok in
    kept_excepting c.self.inside.conf c.apply.new.self (linked c.self.inside.links.entries c.self.inside.routing.sent) c.self.inside.routing conf.0 c.self.invariant

pub choose_within-requires-clause-marked : goal.choose_within-requires-clause-marked
choose_within-requires-clause-marked g c =
    let conf = assertion_conf c.self.inside.conf c.apply.new.self c.args.payload c.args.command.now c.requires.turns c.in_ok-apply.ensures.ok in
    let kept = kept_excepting c.self.inside.conf c.apply.new.self (linked c.self.inside.links.entries c.self.inside.routing.sent) c.self.inside.routing conf.0 c.self.invariant in
    kept.1

pub returns-then-is_in_force-was_in_force-clause-ok : goal.returns-then-is_in_force-was_in_force-clause-ok
returns-then-is_in_force-was_in_force-clause-ok g c =
    let s = c.self.inside in
    let conf = assertion_conf s.conf c.apply.new.self c.args.payload c.args.command.now c.requires.turns c.in_ok-apply.ensures.ok in
    let same : has (payloads_under c.apply.new.self s.payloads) c.args.payload ≡ has (payloads_under s.conf s.payloads) c.args.payload =
    answers_same _ _ _ _ c.if-is_in_force-was_in_force.true c.is_in_force.ensures c.is_in_force-was_in_force.ensures in
    rw (← c.self.view_is)
    (obeyed_none c.args.command.now s.conf c.apply.new.self s.payloads (linked s.links.entries s.routing.sent) s.routing c.in_ok-apply.ensures.ok (λ q. asserted_none s.conf.exceptions c.apply.new.self.exceptions c.args.payload s.payloads q conf.1 same))

pub returns-clause-ok : goal.returns-clause-ok
returns-clause-ok g c =
    let s = c.self.inside in
    let conf = assertion_conf s.conf c.apply.new.self c.args.payload c.args.command.now c.requires.turns c.in_ok-apply.ensures.ok in
    let other : has (payloads_under c.apply.new.self s.payloads) c.args.payload ≢ has (payloads_under s.conf s.payloads) c.args.payload =
    answers_other _ _ _ _ c.if-is_in_force-was_in_force.false c.is_in_force.ensures c.is_in_force-was_in_force.ensures in
    rw (← c.self.view_is, c.choose_within.ensures.sent)
    (obeyed c.args.command.now s.conf c.apply.new.self s.payloads (linked s.links.entries s.routing.sent) s.routing c.choose_within.new.routing (covers c.args.payload.prefix) c.in_ok-apply.ensures.ok c.choose_within.ensures.routes
    (λ q. asserted_all s.conf.exceptions c.apply.new.self.exceptions c.args.payload s.payloads q conf.1 other)
    c.choose_within.ensures.made c.choose_within.ensures.chosen c.choose_within.ensures.rises)
