use Rattle.bgp_msg.proofs.OpenFaults.{found_is_first}
use Rattle.bgp_msg.proofs.open_message.read_open.Goals as goal

pub returns-clause-fault : goal.returns-clause-fault
returns-clause-fault c = rw (← found_is_first c.args.body.now c.args.expected) c.judge_open.ensures.fault
