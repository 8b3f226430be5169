use Rattle.std.proofs.Common.{inr, refl}
use Rattle.vrp_csv.proofs.list.read_header.Goals as goal

pub returns-then-not-branch-clause-header : goal.returns-then-not-branch-clause-header
returns-then-not-branch-clause-header g c = λ rows left.
    let none = rw c.if-not-branch.true at (c.in_ok-next_record.ensures.next rows left) in
    inr (refl, rw none tt)

pub returns-in-Some-clause-header : goal.returns-in-Some-clause-header
returns-in-Some-clause-header g c = λ rows left.
    let next = rw c.if-not-branch.false at (c.in_ok-next_record.ensures.next rows left) in
    (_, next.0, next.1, c.in-Some.ensures.0, c.in-Some.ensures.1, next.2)

pub returns-in-None-clause-header : goal.returns-in-None-clause-header
returns-in-None-clause-header g c = λ rows left.
    let next = rw c.if-not-branch.false at (c.in_ok-next_record.ensures.next rows left) in
    inr (refl, rw next.1 c.in-None.ensures)
