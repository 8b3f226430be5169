use Rattle.vrp_csv.proofs.Meanings.{load_one, load_one_at, loads_or_stops, loads_or_stops_at, refusal_one}
use Rattle.vrp_csv.proofs.meaning.records_mean_one_thing.Goals as goal

pub returns-clause-loads : goal.returns-clause-loads
returns-clause-loads c = load_one

pub returns-clause-refused : goal.returns-clause-refused
returns-clause-refused c = loads_or_stops

pub returns-clause-first : goal.returns-clause-first
returns-clause-first c = refusal_one

pub returns-clause-loads_at : goal.returns-clause-loads_at
returns-clause-loads_at c = load_one_at

pub returns-clause-refused_at : goal.returns-clause-refused_at
returns-clause-refused_at c = loads_or_stops_at
