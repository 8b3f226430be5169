use Rattle.std.proofs.Common.{◌≡◌, ◌≢◌, ◌∙◌, [], List, filter, ap}
use Rattle.local_exceptions.specs.ExceptionSets.{is_turned}
use Rattle.local_exceptions.specs.Filters.{has_filter}
use Rattle.net_prefix.specs.declared.payload.Vrp.{Vrp}
use Rattle.origin_valid.specs.Stretches.{prefixes_of, stretches}
use Rattle.routing.specs.Offers.{is_within}
use Rattle.routes.proofs.ObeyedExceptions.{answers_other, answers_same, filter_conf, kept_excepting, obeyed, obeyed_none, turned_all, turned_none, turned_unloaded}
use Rattle.routing.specs.Sent.{linked}
use Rattle.routes.proofs.routes.Routes.filter.Goals as goal

pub invariant_of-self-then-has_filter-was_there : goal.invariant_of-self-then-has_filter-was_there
invariant_of-self-then-has_filter-was_there g c =
    let conf = filter_conf c.self.inside.conf c.apply.new.self c.args.filter c.args.command.now c.requires.turns c.in_ok-apply.ensures.ok in
    kept_excepting c.self.inside.conf c.apply.new.self (linked c.self.inside.links.entries c.self.inside.routing.sent) c.self.inside.routing conf.0 c.self.invariant

pub invariant_of-self-in_default : goal.invariant_of-self-in_default
invariant_of-self-in_default g c =
    let conf = filter_conf c.self.inside.conf c.apply.new.self c.args.filter c.args.command.now c.requires.turns c.in_ok-apply.ensures.ok in
    kept_excepting c.self.inside.conf c.apply.new.self (linked c.self.inside.links.entries c.self.inside.routing.sent) c.self.inside.routing conf.0 c.self.invariant

pub choose_turned-requires-clause-marked : goal.choose_turned-requires-clause-marked
choose_turned-requires-clause-marked g c =
    let conf = filter_conf c.self.inside.conf c.apply.new.self c.args.filter c.args.command.now c.requires.turns c.in_ok-apply.ensures.ok in
    let kept = kept_excepting c.self.inside.conf c.apply.new.self (linked c.self.inside.links.entries c.self.inside.routing.sent) c.self.inside.routing conf.0 c.self.invariant in
    kept.1

pub returns-then-has_filter-was_there-clause-ok : goal.returns-then-has_filter-was_there-clause-ok
returns-then-has_filter-was_there-clause-ok g c =
    let s = c.self.inside in
    let f = c.args.filter in
    let conf = filter_conf s.conf c.apply.new.self f c.args.command.now c.requires.turns c.in_ok-apply.ensures.ok in
    let was = rw c.exceptions.ensures at c.has_filter-was_there.ensures in
    let is = rw c.exceptions-2.ensures at c.has_filter.ensures in
    let same : has_filter c.apply.new.self.exceptions.filters f ≡ has_filter s.conf.exceptions.filters f = answers_same _ _ _ _ c.if-has_filter-was_there.true is was in
    rw (← c.self.view_is)
    (obeyed_none c.args.command.now s.conf c.apply.new.self s.payloads (linked s.links.entries s.routing.sent) s.routing c.in_ok-apply.ensures.ok (λ q. turned_none s.conf.exceptions c.apply.new.self.exceptions f s.payloads q conf.1 same))

pub returns-in_default-clause-ok : goal.returns-in_default-clause-ok
returns-in_default-clause-ok g c =
    let s = c.self.inside in
    let f = c.args.filter in
    let conf = filter_conf s.conf c.apply.new.self f c.args.command.now c.requires.turns c.in_ok-apply.ensures.ok in
    let was = rw c.exceptions.ensures at c.has_filter-was_there.ensures in
    let is = rw c.exceptions-2.ensures at c.has_filter.ensures in
    let other : has_filter c.apply.new.self.exceptions.filters f ≢ has_filter s.conf.exceptions.filters f = answers_other _ _ _ _ c.if-has_filter-was_there.false is was in
    let none : s.payloads ≡ [] = rw (c.in_default.is, ← c.self.view_is) at c.requires.loaded in
    rw (← c.self.view_is)
    (obeyed_none c.args.command.now s.conf c.apply.new.self s.payloads (linked s.links.entries s.routing.sent) s.routing c.in_ok-apply.ensures.ok (λ q. turned_unloaded s.conf.exceptions c.apply.new.self.exceptions f s.payloads q conf.1 other none))

pub returns-in-Some-clause-ok : goal.returns-in-Some-clause-ok
returns-in-Some-clause-ok g c =
    let s = c.self.inside in
    let f = c.args.filter in
    let later = c.apply.new.self.exceptions in
    let conf = filter_conf s.conf c.apply.new.self f c.args.command.now c.requires.turns c.in_ok-apply.ensures.ok in
    let was = rw c.exceptions.ensures at c.has_filter-was_there.ensures in
    let is = rw c.exceptions-2.ensures at c.has_filter.ensures in
    let other : has_filter later.filters f ≢ has_filter s.conf.exceptions.filters f = answers_other _ _ _ _ c.if-has_filter-was_there.false is was in
    let loaded : c.in-Some.loaded.now.keys ≡ s.payloads = rw (c.in-Some.is, ← c.self.view_is) at c.requires.loaded in
    rw (← c.self.view_is, c.choose_turned.ensures.sent)
    (obeyed c.args.command.now s.conf c.apply.new.self s.payloads (linked s.links.entries s.routing.sent) s.routing c.choose_turned.new.routing (is_within (stretches (prefixes_of (filter (is_turned later f) c.in-Some.loaded.now.keys)))) c.in_ok-apply.ensures.ok c.choose_turned.ensures.routes
    (λ q. ap (λ (l : List Vrp). is_within (stretches (prefixes_of (filter (is_turned later f) l))) q) loaded ∙ turned_all s.conf.exceptions later f s.payloads q conf.1 other)
    c.choose_turned.ensures.made c.choose_turned.ensures.chosen c.choose_turned.ensures.rises)
