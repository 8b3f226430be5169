use Rattle.cache_program.proofs.Stopping.{ends_by_word}
use Rattle.cache_program.proofs.laws.turns_end_early_by_the_word_stop.Goals as goal

pub returns : goal.returns
returns g c = ends_by_word g.P.Operators.wish g.P.Operators.line g.P.Operators.turns g.P.Operators.hears
