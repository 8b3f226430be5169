use Rattle.rtr_cache.proofs.Withdrawals.{clients_stay, load_goes_on}
use Rattle.rtr_cache.proofs.laws.versions_outlast_a_withdrawal.Goals as goal

pub returns-clause-clients : goal.returns-clause-clients
returns-clause-clients c = clients_stay

pub returns-clause-load : goal.returns-clause-load
returns-clause-load c = load_goes_on
