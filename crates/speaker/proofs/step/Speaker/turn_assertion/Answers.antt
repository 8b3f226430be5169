use Rattle.std.proofs.Common.{◌∙◌, ap, refl, sym}
use Rattle.std.specs.Result.{result_ok}
use Rattle.bgp_conf.proofs.Assertions.{asserted_of-answer}
use Rattle.routing.specs.RoutesState.{RoutesState}
use Rattle.speaker.proofs.ExceptionCommands.{assertion_accepted, assertion_excepts, holds_excepted, none_unless_ok}
use Rattle.speaker.proofs.step.Speaker.turn_assertion.Goals as goal

pub unreachable-requires : goal.unreachable-requires
unreachable-requires g c =
    assertion_accepted c.args.self.now.conf _ c.args.command.now c.args.prefix c.args.max_len c.args.asn c.requires.turns c.requires.accepted
    (sym (asserted_of-answer c.args.prefix c.args.max_len c.args.asn c.new.result c.new.ensures) ∙ none_unless_ok c.new.result c.in_default.not-Ok)

pub assert-requires-clause-turns : goal.assert-requires-clause-turns
assert-requires-clause-turns g c =
    let is = sym (asserted_of-answer c.args.prefix c.args.max_len c.args.asn c.new.result c.new.ensures) ∙ ap result_ok c.in-Ok.is in
    (c.args.prefix, (c.args.max_len, (c.args.asn, (is, c.requires.turns))))

pub returns-clause-ok : goal.returns-clause-ok
returns-clause-ok g c = λ config r holds.
    let here = rw (← c.self.view_is) at holds in
    let did = c.in_ok-assert.ensures.ok in
    let so = assertion_excepts config r c.self.inside.routes.conf c.args.command.now c.args.prefix c.args.max_len c.args.asn c.requires.turns in (
      holds_excepted config r c.args.command.now _ _ so here did.conf refl refl refl (ap (λ (s : RoutesState). s.payloads) did.rest) (ap (λ (s : RoutesState). s.links) did.rest) (ap (λ (s : RoutesState). s.adj_in) did.rest) did.made did.chosen c.chosen-before.ensures,
      sym so.opened,
    )
