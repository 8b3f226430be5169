use Rattle.net_prefix.proofs.Covering.{covers_between, first_of_covered}
use Rattle.net_prefix.proofs.cover_laws.covered_are_one_stretch.Goals as goal

pub returns-clause-first : goal.returns-clause-first
returns-clause-first c = first_of_covered

pub returns-clause-between : goal.returns-clause-between
returns-clause-between c = covers_between
