use Rattle.std.proofs.Common.{◌≡◌, slice_get}
use Rattle.decision.specs.BookContents.{rows_of}
use Rattle.prefix_table.specs.Picked.{picked}
use Rattle.rib_rows.specs.PrefixRows.{best_of, book_of}
use Rattle.rib_rows.specs.Records.{PrefixRecord, routed}
use Rattle.rib_rows.proofs.record_map.first_best.Given as goal

abbrev pub invariant-loop-prefix : goal.invariant-loop-prefix
invariant-loop-prefix g l =
    (slice_get (rows_of (book_of (routed l.fn.range))) 0 ≡ slice_get (picked (λ (r : PrefixRecord). best_of r.row) l.prefix-iterator) 0)
    × (goal.iterator-loop-prefix g).can_next l.prefix-iterator × (goal.iterator-loop-prefix g).is_finite l.prefix-iterator
