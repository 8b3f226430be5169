use Rattle.book_bench.proofs.Addresses.{sound_alone}
use Rattle.book_bench.proofs.given.live_book.Goals as goal

pub returns : goal.returns
returns g c = sound_alone 0 _ c.in-Ok.ensures
