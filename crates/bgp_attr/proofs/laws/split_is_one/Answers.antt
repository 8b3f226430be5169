use Rattle.bgp_attr.proofs.SplitSpellings.{is_split, one_split}
use Rattle.bgp_attr.proofs.laws.split_is_one.Goals as goal

pub returns-clause-found : goal.returns-clause-found
returns-clause-found c = is_split

pub returns-clause-only : goal.returns-clause-only
returns-clause-only c = one_split
