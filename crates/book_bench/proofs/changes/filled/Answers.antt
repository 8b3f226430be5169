use Rattle.book_bench.proofs.Addresses.{sound_alone}
use Rattle.book_bench.proofs.changes.filled.Goals as goal

pub offer_all-requires : goal.offer_all-requires
offer_all-requires g c = sound_alone 0 _ c.in_ok-book.ensures
