use Rattle.cache_program.proofs.ServedTurns.{served_are_steps}
use Rattle.cache_program.specs.Opened.{AnyList}
use Rattle.cache_program.proofs.laws.served_turns_are_steps.Goals as goal

pub returns : goal.returns
returns c = served_are_steps AnyList
