use Rattle.cache_turns.proofs.Carrying.{carries_whole}
use Rattle.cache_turns.proofs.laws.connections_carry_whole_versions.Goals as goal

pub returns : goal.returns
returns c = carries_whole
