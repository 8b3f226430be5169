use Rattle.std.proofs.Common.{◌≡◌, filter, length}
use Rattle.origin_valid.specs.Stretches.{prefixes_of}
use Rattle.origin_valid.specs.StretchWalks.{is_sought, outside}
use Rattle.origin_valid.proofs.stretches.StretchesIterator.next.Given as goal

abbrev pub invariant-loop-payload : goal.invariant-loop-payload
invariant-loop-payload g l =
    outside l.self-inside.last (prefixes_of (filter (is_sought l.self-inside.exceptions.now l.self-inside.filter) l.self-inside.payloads)) ≡ l.fn.self

abbrev pub decreases-loop-payload : goal.decreases-loop-payload
decreases-loop-payload g l = length l.self-inside.payloads
