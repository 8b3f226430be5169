use Rattle.book_bench.proofs.Addresses.{sound_left}
use Rattle.book_bench.proofs.given.leave.Goals as goal

pub returns : goal.returns
returns g c = sound_left c.args.slot _ _ c.requires c.leave.ensures.kept c.leave.ensures.places
