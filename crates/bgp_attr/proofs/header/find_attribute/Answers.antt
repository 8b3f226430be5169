use Rattle.std.proofs.Common.{sym, ◌∙◌}
use Rattle.bgp_attr.specs.AttributeReading.{as_came}
use Rattle.bgp_attr.proofs.Splits.{found_of-none, found_of-other, found_of-own}
use Rattle.bgp_attr.proofs.header.find_attribute.Goals as goal

pub returns-then-attribute-code-clause-found : goal.returns-then-attribute-code-clause-found
returns-then-attribute-code-clause-found c =
    sym (found_of-own c.args.code c.loop-attribute.rest.now (as_came c.in-Some.attribute) c.in-Some.behind.now (sym c.in-Some.ensures.found) c.if-attribute-code.true)
    ∙ c.loop-attribute.invariant

pub loop-attribute-preserved : goal.loop-attribute-preserved
loop-attribute-preserved c =
    sym (found_of-other c.args.code c.loop-attribute.rest.now (as_came c.in-Some.attribute) c.in-Some.behind.now (sym c.in-Some.ensures.found) c.if-attribute-code.false)
    ∙ c.loop-attribute.invariant

pub returns-clause-found : goal.returns-clause-found
returns-clause-found c = sym (found_of-none c.args.code c.loop-attribute.rest.now (sym c.in_default.ensures.found)) ∙ c.loop-attribute.invariant
