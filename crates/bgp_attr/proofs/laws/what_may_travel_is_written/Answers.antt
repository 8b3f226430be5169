use Rattle.bgp_attr.proofs.Travelling.{kept_all_travel, spelling_travels}
use Rattle.bgp_attr.proofs.laws.what_may_travel_is_written.Goals as goal

pub returns-clause-kept : goal.returns-clause-kept
returns-clause-kept c = kept_all_travel

pub returns-clause-written : goal.returns-clause-written
returns-clause-written c = spelling_travels
