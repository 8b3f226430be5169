use Rattle.vrp_json.proofs.Meanings.{loads_one, loads_one_at, loads_or_not, loads_or_not_at, refused_one}
use Rattle.vrp_json.proofs.meaning.lists_mean_one_thing.Goals as goal

pub returns-clause-loads : goal.returns-clause-loads
returns-clause-loads c = loads_one

pub returns-clause-refused : goal.returns-clause-refused
returns-clause-refused c = loads_or_not

pub returns-clause-first : goal.returns-clause-first
returns-clause-first c = refused_one

pub returns-clause-loads_at : goal.returns-clause-loads_at
returns-clause-loads_at c = loads_one_at

pub returns-clause-refused_at : goal.returns-clause-refused_at
returns-clause-refused_at c = loads_or_not_at
