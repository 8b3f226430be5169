use Rattle.list_guards.proofs.Looking.{judged_alike}
use Rattle.list_guards.proofs.served_payloads_matter_to_a_share.Goals as goal

pub returns : goal.returns
returns c = judged_alike
