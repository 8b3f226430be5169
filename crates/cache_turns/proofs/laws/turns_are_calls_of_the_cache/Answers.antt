use Rattle.cache_turns.proofs.Running.{steps_lead}
use Rattle.cache_turns.proofs.laws.turns_are_calls_of_the_cache.Goals as goal

pub returns : goal.returns
returns c = steps_lead
