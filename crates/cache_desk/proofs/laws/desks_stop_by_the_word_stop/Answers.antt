use Rattle.cache_desk.proofs.Stopping.{stops_by_word}
use Rattle.cache_desk.proofs.laws.desks_stop_by_the_word_stop.Goals as goal

pub returns : goal.returns
returns g c = λ now. stops_by_word g.P.Operators.wish g.P.Operators.line g.P.Operators.hears now
