use Rattle.std.proofs.Common.{sym, ◌∙◌}
use Rattle.bgp_attr.specs.AttributeReading.{as_came}
use Rattle.bgp_attr.proofs.UnknownReading.{any_behind, any_here, any_none}
use Rattle.bgp_attr.proofs.reading.has_kept.Goals as goal

pub returns-then-is_kept : goal.returns-then-is_kept
returns-then-is_kept c =
    sym (any_here c.loop-attribute.rest.now c.in-Some.behind.now (as_came c.in-Some.attribute) (sym c.in-Some.ensures.found) (sym c.is_kept.ensures ∙ c.if-is_kept.true)) ∙ c.loop-attribute.invariant

pub loop-attribute-preserved : goal.loop-attribute-preserved
loop-attribute-preserved c =
    sym (any_behind c.loop-attribute.rest.now c.in-Some.behind.now (as_came c.in-Some.attribute) (sym c.in-Some.ensures.found) (sym c.is_kept.ensures ∙ c.if-is_kept.false)) ∙ c.loop-attribute.invariant

pub returns : goal.returns
returns c = sym (any_none c.loop-attribute.rest.now (sym c.in_default.ensures.found)) ∙ c.loop-attribute.invariant
