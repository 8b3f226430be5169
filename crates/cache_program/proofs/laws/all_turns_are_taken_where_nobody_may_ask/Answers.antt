use Rattle.cache_program.proofs.Attending.{all_taken}
use Rattle.cache_program.proofs.laws.all_turns_are_taken_where_nobody_may_ask.Goals as goal

pub returns : goal.returns
returns g c = all_taken g.P.Operators.wish g.P.Operators.line g.P.Operators.turns g.P.Operators.hears
