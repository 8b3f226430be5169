use Rattle.std.proofs.Common.{◌≡◌, false, true, ℕ, get_or, set, Some, sym, ap, refl}
use Rattle.std.proofs.lemmas.Result.{err_from_is_err_and}
use Rattle.bgp_attr.specs.AttributeFaults.{MalformedAttributeList, attributes_fault}
use Rattle.bgp_attr.specs.AttributeReading.{as_came}
use Rattle.bgp_attr.proofs.Faults.{all_checked, attribute_checked, cut_checked, fault_checked, nothing_checked}
use Rattle.bgp_attr.proofs.Splits.{no_octets, some_octets}
use Rattle.bgp_attr.proofs.reading.check_attributes.Goals as goal

pub loop-rest-init : goal.loop-rest-init
loop-rest-init c = nothing_checked c.args.kind c.args.octets.now

pub returns-in_default : goal.returns-in_default
returns-in_default c =
    let is : attributes_fault c.args.kind c.args.octets.now ≡ Some MalformedAttributeList =
    cut_checked c.args.kind c.loop-rest.came c.loop-rest.rest.now (attributes_fault c.args.kind c.args.octets.now) c.loop-rest.invariant
    (some_octets c.loop-rest.rest.now c.is_empty.result c.is_empty.ensures c.loop-rest-test.true) (sym c.in_default.ensures.found) in
    (rw is refl, sym is)

pub returns-in_err-check_attribute : goal.returns-in_err-check_attribute
returns-in_err-check_attribute c =
    let p = err_from_is_err_and c.from_residual.result c.from_residual.ensures.1 in
    rw (p.1, p.2) (fault_checked c.args.kind c.loop-rest.came c.loop-rest.rest.now (attributes_fault c.args.kind c.args.octets.now) (as_came c.in-Some.attribute) c.in-Some.behind.now
    (get_or c.loop-rest.came c.from.result false) c.in_err-check_attribute.field-0.0 c.loop-rest.invariant (sym c.in-Some.ensures.found) c.in-Some.ensures.code
    (ap (λ (k : ℕ). get_or c.loop-rest.came k false) c.from.ensures) c.in_err-check_attribute.ensures)

pub loop-rest-preserved : goal.loop-rest-preserved
loop-rest-preserved c =
    attribute_checked c.args.kind c.loop-rest.came (set c.loop-rest.came c.from-in-loop-rest.result true) c.loop-rest.rest.now (attributes_fault c.args.kind c.args.octets.now)
    (as_came c.in-Some.attribute) c.in-Some.behind.now
    (get_or c.loop-rest.came c.from.result false) c.loop-rest.invariant (sym c.in-Some.ensures.found) c.in-Some.ensures.code
    (ap (λ (k : ℕ). get_or c.loop-rest.came k false) c.from.ensures) c.in_ok-check_attribute.ensures (ap (λ (k : ℕ). set c.loop-rest.came k true) c.from-in-loop-rest.ensures)

pub returns : goal.returns
returns c =
    all_checked c.args.kind c.loop-rest.came c.loop-rest.rest.now (attributes_fault c.args.kind c.args.octets.now) c.loop-rest.invariant
    (no_octets c.loop-rest.rest.now c.is_empty.result c.is_empty.ensures c.loop-rest-test.false)
