use Rattle.std.proofs.Common.{◌∙◌, ap, sym}
use Rattle.std.specs.Option.{option_map}
use Rattle.bgp_msg.specs.OpenParts.{number}
use Rattle.bgp_msg.proofs.OpenParts.{asn-goes_on, asn-cut, asn-done}
use Rattle.bgp_msg.proofs.open_message.read_capabilities.Goals as goal

pub returns-in_err-code : goal.returns-in_err-code
returns-in_err-code c =
    ap (option_map (option_map number)) c.from_residual.ensures
    ∙ sym (asn-cut _ _ _ c.loop-rest-test.ensures c.in_err-code.ensures.part c.loop-rest.invariant)

pub loop-rest-preserved : goal.loop-rest-preserved
loop-rest-preserved c =
    asn-goes_on _ _ _ _ _ _ c.in_ok-code.ensures.part c.first_asn_of-found.ensures c.loop-rest.invariant

pub returns : goal.returns
returns c = sym (asn-done _ _ _ c.loop-rest-test.ensures c.loop-rest.invariant)
