use Rattle.std.proofs.Common.{◌∙◌, ap, sym}
use Rattle.std.specs.Option.{option_map}
use Rattle.bgp_msg.specs.OpenParts.{seen}
use Rattle.bgp_msg.proofs.OpenParts.{parameters-goes_on, parameters-malformed, parameters-cut, parameters-done}
use Rattle.bgp_msg.proofs.open_message.read_parameters.Goals as goal

pub returns-in_err-kind : goal.returns-in_err-kind
returns-in_err-kind c =
    ap (option_map seen) c.from_residual.ensures
    ∙ sym (parameters-cut _ _ _ c.loop-rest-test.ensures c.in_err-kind.ensures.part c.loop-rest.invariant)

pub returns-in_err-told : goal.returns-in_err-told
returns-in_err-told c =
    ap (option_map seen) c.from_residual-in_err-told.ensures
    ∙ sym (parameters-malformed _ _ _ _ _ c.in_ok-kind.ensures.part (sym c.in_err-told.ensures) c.loop-rest.invariant)

pub loop-rest-preserved : goal.loop-rest-preserved
loop-rest-preserved c =
    parameters-goes_on _ _ _ _ _ _ c.in_ok-kind.ensures.part (sym c.in_ok-told.ensures) c.loop-rest.invariant

pub returns : goal.returns
returns c = sym (parameters-done _ _ _ c.loop-rest-test.ensures c.loop-rest.invariant)
