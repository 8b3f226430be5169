use Rattle.std.proofs.Common.{arith}
use Rattle.std.proofs.lemmas.List.{get_or_default}
use Rattle.bgp_msg.proofs.ReaderAnswers.{is_front, spelled_so}
use Rattle.bgp_msg.proofs.frame.read.Goals as goal

pub returns-clause-spelled : goal.returns-clause-spelled
returns-clause-spelled c =
    spelled_so c.args.octets.now _ (λ k d h. rw (get_or_default c.args.octets.now k d 0 h) (omega (arith, c.type_inv.octets k))) c.front.ensures

pub returns-clause-stream : goal.returns-clause-stream
returns-clause-stream c = is_front c.args.octets.now _ c.front.ensures
