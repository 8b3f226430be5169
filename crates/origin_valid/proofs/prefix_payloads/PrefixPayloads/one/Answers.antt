use Rattle.origin_valid.proofs.PrefixSets.{one_set}
use Rattle.origin_valid.proofs.prefix_payloads.PrefixPayloads.one.Goals as goal

pub invariant_of-result : goal.invariant_of-result
invariant_of-result g c = one_set c.args.payload c.new.result.keys c.new.ensures.empty
