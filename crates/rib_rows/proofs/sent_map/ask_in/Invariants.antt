use Rattle.rib_in.proofs.SlotWalks.{left_above}
use Rattle.rib_rows.proofs.SentWalks.{Walks, asked}
use Rattle.rib_rows.proofs.sent_map.ask_in.Given as goal

abbrev pub invariant-loop-prefix : goal.invariant-loop-prefix
invariant-loop-prefix g l = Walks (asked l.fn.slot) l.after l.fn.rows.entries l.rows.entries

abbrev pub decreases-loop-prefix : goal.decreases-loop-prefix
decreases-loop-prefix g l = left_above l.after
