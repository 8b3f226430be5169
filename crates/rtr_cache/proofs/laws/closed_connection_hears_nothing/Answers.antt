use Rattle.rtr_cache.proofs.CacheSteps.{hears_all-closed}
use Rattle.rtr_cache.proofs.laws.closed_connection_hears_nothing.Goals as goal

pub returns : goal.returns
returns c shared refused conn items is_closed = hears_all-closed shared refused conn items is_closed
