use Rattle.cache_turns.proofs.Counting.{turn_loses_no_more}
use Rattle.cache_turns.proofs.laws.no_more_are_lost_than_are_counted.Goals as goal

pub returns : goal.returns
returns c now old new result turn = turn_loses_no_more now old new result turn
