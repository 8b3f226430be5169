use Rattle.std.proofs.Common.{◌≡◌, slice_index, sym, ap, ◌∙◌, arith}
use Rattle.std.proofs.lemmas.List.{take_rest}
use Rattle.bgp_msg.specs.OpenParts.{parameters_of}
use Rattle.bgp_msg.proofs.OpenFaults.{found-proposal}
use Rattle.bgp_msg.proofs.open_message.judge_open.Goals as goal

pub returns-clause-fault : goal.returns-clause-fault
returns-clause-fault c =
    let body = c.args.body.now in
    let version : slice_index c.args.body.now 0 ≡ 4 = omega arith in
    let parameters = ap parameters_of (sym (take_rest body 10)) ∙ sym c.in-Some.ensures in
    let is = found-proposal body c.args.expected _ _ _ (omega arith) version (omega arith) parameters c.hold_time_in-hold_time.ensures c.identifier_in-identifier.ensures in
    rw is c.judge_proposal.ensures.fault
