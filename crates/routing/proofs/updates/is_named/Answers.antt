use Rattle.std.proofs.Common.{true, false, sym, ap, ◌∙◌}
use Rattle.bgp_msg.specs.MessageSpelling.{front_prefixes}
use Rattle.routing.specs.Updates.{is_among}
use Rattle.routing.proofs.RouteChanges.{among_first}
use Rattle.routing.proofs.updates.is_named.Goals as goal

pub loop-named-init : goal.loop-named-init
loop-named-init c = sym (ap (λ p. is_among c.args.prefix (front_prefixes p.octets.now).0) c.into_iter-named-iterator.ensures.into_iter_gives)

pub returns-then-eq : goal.returns-then-eq
returns-then-eq c = sym (c.loop-named.invariant ∙ among_first c.in-Some.named c.args.prefix _ _ true (sym c.if-eq.true ∙ c.eq.ensures) c.in-Some.ensures.steps)

pub loop-named-preserved : goal.loop-named-preserved
loop-named-preserved c = c.loop-named.invariant ∙ among_first c.in-Some.named c.args.prefix _ _ false (sym c.if-eq.false ∙ c.eq.ensures) c.in-Some.ensures.steps

pub returns : goal.returns
returns c = sym (c.loop-named.invariant ∙ ap (is_among c.args.prefix) c.in-None.ensures.steps.0)
