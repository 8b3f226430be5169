use Rattle.std.proofs.Common.{◌≡◌, ◌≤◌}
use Rattle.json.specs.Json.{Items, Members}
use Rattle.vrp_json.specs.Places.{IsAtItems}
use Rattle.vrp_json.proofs.ReadEntries.{HasRead}
use Rattle.vrp_json.proofs.list.read_entries.Given as goal

abbrev pub invariant-loop-place : goal.invariant-loop-place
invariant-loop-place l =
    (l.loaded.rows ≡ l.place) × (l.loaded.skipped ≤ l.loaded.rows)
    × ((js : Items) (behind : Members) → IsAtItems js behind l.fn.reader → HasRead l.fn.second js behind l.loaded l.reader)
