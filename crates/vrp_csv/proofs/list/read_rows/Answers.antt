use Rattle.std.proofs.Common.{inr, refl, arith}
use Rattle.vrp_csv.specs.declared.fault.RowFault.TheVariants.{NoMemory}
use Rattle.vrp_csv.proofs.ReadRows.{begins, refuses, rows_more, skipped_fits, stops, takes_all, takes_more}
use Rattle.vrp_csv.proofs.list.read_rows.Goals as goal

pub loop-row-init : goal.loop-row-init
loop-row-init g c =
    (c.requires.plain, refl, omega arith, λ rows left. begins c.args.second c.args.width rows _ _ left c.new.ensures.empty refl refl)

pub next_record-requires : goal.next_record-requires
next_record-requires g c = c.loop-row.invariant.0

pub returns-in-Err : goal.returns-in-Err
returns-in-Err g c = λ rows left.
    let read = c.loop-row.invariant.3 rows left in
    (c.loop-row.loaded.rows, stops c.args.second c.args.width rows c.loop-row.loaded _ c.in-Err.fault read c.in-Err.ensures.stop, c.loop-row.invariant.1)

pub returns-then-not-found : goal.returns-then-not-found
returns-then-not-found g c = λ rows left.
    let read = c.loop-row.invariant.3 rows left in
    takes_all c.args.second c.args.width rows c.loop-row.loaded _ read (rw c.if-not-found.true at c.in-Ok.ensures.next)

pub add-requires-clause-room : goal.add-requires-clause-room
add-requires-clause-room g c = omega (arith, c.loop-row.invariant.1, c.loop-row-test.true)

pub add-requires-clause-skipped : goal.add-requires-clause-skipped
add-requires-clause-skipped g c = c.loop-row.invariant.2

pub returns-in-Err-add : goal.returns-in-Err-add
returns-in-Err-add g c = λ rows left.
    let read = c.loop-row.invariant.3 rows left in
    (c.loop-row.loaded.rows, refuses c.args.second c.args.width rows _ c.loop-row.loaded _ _ c.in-Err-add.fault read (rw c.if-not-found.false at c.in-Ok.ensures.next) c.in-Err-add.ensures.err, c.loop-row.invariant.1)

pub loop-row-preserved : goal.loop-row-preserved
loop-row-preserved g c =
    let (answer, row_is, taken) = c.in_default.ensures.ok in (
      c.in-Ok.ensures.plain,
      omega (arith, c.loop-row.invariant.1, rows_more answer _ _ taken),
      skipped_fits answer _ _ taken c.loop-row.invariant.2,
      λ rows left.
          takes_more c.args.second c.args.width rows _ answer c.loop-row.loaded _ _ _ (c.loop-row.invariant.3 rows left) (rw c.if-not-found.false at c.in-Ok.ensures.next) row_is taken,
    )

pub returns : goal.returns
returns g c = λ rows left.
    let read = c.loop-row.invariant.3 rows left in
    let last = c.loop-row.auto.row-end (omega arith) in (
      c.loop-row.loaded.rows,
      stops c.args.second c.args.width rows c.loop-row.loaded _ NoMemory read (inr refl),
      omega (arith, c.loop-row.invariant.1, c.loop-row-test.false, last),
    )
