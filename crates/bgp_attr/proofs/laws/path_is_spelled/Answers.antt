use Rattle.bgp_attr.proofs.PathSpellings.{path_is_read, path_is_spelled}
use Rattle.bgp_attr.proofs.laws.path_is_spelled.Goals as goal

pub returns-clause-read : goal.returns-clause-read
returns-clause-read c = path_is_read

pub returns-clause-spelled : goal.returns-clause-spelled
returns-clause-spelled c = path_is_spelled
