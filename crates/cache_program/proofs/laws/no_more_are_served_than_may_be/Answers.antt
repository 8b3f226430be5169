use Rattle.cache_program.proofs.Guarded.{served_room}
use Rattle.cache_program.specs.Opened.{AnyAge, AnyList, AnyPath, AnySecond, AnyWire}
use Rattle.cache_program.proofs.laws.no_more_are_served_than_may_be.Goals as goal

pub returns : goal.returns
returns g c = served_room g.P.Operators.wish g.P.Operators.line g.P.Operators.turns g.P.Operators.hears AnyPath AnyList AnyAge AnyWire AnySecond
