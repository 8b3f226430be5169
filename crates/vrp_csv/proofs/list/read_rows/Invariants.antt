use Rattle.std.proofs.Common.{◌≡◌, ◌≤◌, ◌+◌, ℕ, List, Some}
use Rattle.vrp_csv.specs.RecordsLeft.{IsPlain, records_left}
use Rattle.vrp_csv.proofs.ReadRows.{HasRead}
use Rattle.vrp_csv.proofs.list.read_rows.Given as goal

abbrev pub invariant-loop-row : goal.invariant-loop-row
invariant-loop-row g l =
    IsPlain l.reader × (l.row ≡ l.loaded.rows + 1) × (l.loaded.skipped ≤ l.loaded.rows)
    × ((rows : List (List (List ℕ))) → records_left g.R.Read.remaining l.fn.reader ≡ Some rows → HasRead l.fn.second l.fn.width rows l.loaded (records_left g.R.Read.remaining l.reader))
