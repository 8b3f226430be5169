use Rattle.std.proofs.Common.{◌++◌, length}
use Rattle.std.proofs.lemmas.List.{drop-replicate}
use Rattle.policy.specs.PolicyNames.{name_of}
use Rattle.policy.proofs.name.PolicyName.of_octets.Goals as goal

pub returns : goal.returns
unfolding name_of
returns c = λ i. record { octets = c.copy_from_slice.ensures.after i ++ drop-replicate (length c.args.name.now) 32 0 i }
