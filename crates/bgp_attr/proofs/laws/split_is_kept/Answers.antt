use Rattle.bgp_attr.proofs.SplitSpellings.{split_of-front}
use Rattle.bgp_attr.proofs.laws.split_is_kept.Goals as goal

pub returns : goal.returns
returns c = split_of-front
