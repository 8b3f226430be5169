use Rattle.net_prefix.proofs.PayloadSets.{payload_cmp_exact}
use Rattle.net_prefix.proofs.payload_set.payloads_are_ordered.Goals as goal

pub returns-clause-exact : goal.returns-clause-exact
returns-clause-exact c = payload_cmp_exact
