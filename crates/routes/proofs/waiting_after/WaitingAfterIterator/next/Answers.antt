use Rattle.std.proofs.Common.{◌<◌, length, arith, rules, ap}
use Rattle.rib_out.specs.PrefixRows.{prefixes_above, prefixes_after}
use Rattle.rib_out.proofs.PrefixRows.{next_none, next_some}
use Rattle.routes.specs.WaitingRows.{waiting_for}
use Rattle.routes.proofs.waiting_after.WaitingAfterIterator.next.Goals as goal

pub returns-in-Some-clause-steps : goal.returns-in-Some-clause-steps
returns-in-Some-clause-steps g c =
    let found = rw c.in-Some.is at c.next_waiting-found.ensures in
    rw (← c.self.view_is)
    (next_some c.self.inside.after (waiting_for c.self.inside.routes.now c.self.inside.slot) c.in-Some.prefix c.self.invariant found.has found.above found.least)

pub returns-in-Some-clause-goes : goal.returns-in-Some-clause-goes
returns-in-Some-clause-goes g c =
    let found = rw c.in-Some.is at c.next_waiting-found.ensures in
    let prefixes = waiting_for c.self.inside.routes.now c.self.inside.slot in
    let more = next_some c.self.inside.after prefixes c.in-Some.prefix c.self.invariant found.has found.above found.least in
    let fewer : length (prefixes_above c.in-Some.prefix prefixes) < length (prefixes_after c.self.inside.after prefixes) = omega (arith, ap length more) in
    rw (← c.self.view_is) (search (rules, fewer))

pub returns-in_default-clause-steps : goal.returns-in_default-clause-steps
returns-in_default-clause-steps g c =
    let found = rw c.in_default.is at c.next_waiting-found.ensures in
    let none = next_none c.self.inside.after (waiting_for c.self.inside.routes.now c.self.inside.slot) found.none in
    rw (c.in_default.is, ← c.self.view_is) (none, none)
