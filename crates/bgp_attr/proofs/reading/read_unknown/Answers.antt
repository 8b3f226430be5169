use Rattle.std.proofs.Common.{sym, ◌∙◌}
use Rattle.bgp_attr.specs.AttributeReading.{as_came}
use Rattle.bgp_attr.proofs.UnknownReading.{kept_here, kept_none, not_kept}
use Rattle.bgp_attr.proofs.reading.read_unknown.Goals as goal

pub loop-attribute-preserved-in_ok-keep : goal.loop-attribute-preserved-in_ok-keep
loop-attribute-preserved-in_ok-keep g c =
    sym (kept_here c.loop-attribute.unknown c.keep.new.self c.loop-attribute.rest.now c.in-Some.behind.now (as_came c.in-Some.attribute) (sym c.in-Some.ensures.found) (sym c.is_kept.ensures ∙ c.if-is_kept.true) c.in_ok-keep.ensures)
    ∙ c.loop-attribute.invariant

pub loop-attribute-preserved : goal.loop-attribute-preserved
loop-attribute-preserved g c =
    sym (not_kept c.loop-attribute.unknown c.loop-attribute.rest.now c.in-Some.behind.now (as_came c.in-Some.attribute) (sym c.in-Some.ensures.found) (sym c.is_kept.ensures ∙ c.if-is_kept.false)) ∙ c.loop-attribute.invariant

pub returns : goal.returns
returns g c = sym (kept_none c.loop-attribute.unknown c.loop-attribute.rest.now (sym c.in_default.ensures.found)) ∙ c.loop-attribute.invariant
