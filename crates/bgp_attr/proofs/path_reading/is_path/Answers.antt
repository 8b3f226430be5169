use Rattle.std.proofs.Common.{is_some, sym, ap, ◌∙◌, ◌∷◌, []}
use Rattle.bgp_attr.specs.AttributeReading.{segment_of}
use Rattle.bgp_attr.specs.PathReading.{path_at}
use Rattle.bgp_attr.proofs.Paths.{is_some-behind, path_at-empty, path_at-none, path_at-some}
use Rattle.bgp_attr.proofs.Splits.{no_octets, some_octets}
use Rattle.bgp_attr.proofs.path_reading.is_path.Goals as goal

pub returns-in_default : goal.returns-in_default
returns-in_default c =
    sym (ap is_some (path_at-none c.loop-rest.rest.now (some_octets c.loop-rest.rest.now c.is_empty.result c.is_empty.ensures c.loop-rest-test.true) (sym c.in_default.ensures.found)))
    ∙ c.loop-rest.invariant

pub loop-rest-preserved : goal.loop-rest-preserved
loop-rest-preserved c =
    sym (ap is_some (path_at-some c.loop-rest.rest.now (segment_of c.in-Some.field-0-0) c.in-Some.behind.now (sym c.in-Some.ensures.found))
    ∙ is_some-behind (segment_of c.in-Some.field-0-0 ∷ []) (path_at c.in-Some.behind.now))
    ∙ c.loop-rest.invariant

pub returns : goal.returns
returns c =
    sym (ap is_some (path_at-empty c.loop-rest.rest.now (no_octets c.loop-rest.rest.now c.is_empty.result c.is_empty.ensures c.loop-rest-test.false)))
    ∙ c.loop-rest.invariant
