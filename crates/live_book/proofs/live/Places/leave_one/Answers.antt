use Rattle.live_book.proofs.Alone.{kept_nobody}
use Rattle.live_book.proofs.live.Places.leave_one.Goals as goal

pub returns-clause-kept : goal.returns-clause-kept
returns-clause-kept g c = kept_nobody
