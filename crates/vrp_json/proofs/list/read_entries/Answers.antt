use Rattle.std.proofs.Common.{refl, sym, arith}
use Rattle.json.specs.Value.{value_view}
use Rattle.vrp_csv.proofs.ReadRows.{rows_more, skipped_fits}
use Rattle.vrp_json.proofs.ReadEntries.{begins, stops, takes_all, takes_more}
use Rattle.vrp_json.proofs.list.read_entries.Goals as goal

pub loop-place-init : goal.loop-place-init
loop-place-init c =
    (refl, omega arith, λ js behind at. begins c.args.second js behind _ _ at c.new.ensures.empty refl refl)

pub returns-then-take_end_array : goal.returns-then-take_end_array
returns-then-take_end_array c = λ js behind at.
    takes_all c.args.second js behind c.loop-place.loaded c.loop-place.reader (c.loop-place.invariant.2 js behind at) c.take_end_array.new.self c.if-take_end_array.ensures

pub returns-in-Err : goal.returns-in-Err
returns-in-Err c = λ js behind at.
    let none = c.if-take_end_array.ensures in
    let read = rw none.1 at c.in-Ok.ensures.ok in
    stops c.args.second js behind c.loop-place.loaded c.loop-place.reader (c.loop-place.invariant.2 js behind at) (value_view c.in-Ok.entry) c.in-Err.fault c.loop-place.place c.read.new.reader none.0 read (sym c.loop-place.invariant.0) c.in-Err.ensures.err

pub loop-place-preserved : goal.loop-place-preserved
loop-place-preserved c =
    let none = c.if-take_end_array.ensures in
    let read = rw none.1 at c.in-Ok.ensures.ok in
    let (answer, entry_is, taken) = c.in_default-add.ensures.ok in (
      omega (arith, c.loop-place.invariant.0, rows_more answer _ _ taken),
      skipped_fits answer _ _ taken c.loop-place.invariant.1,
      λ js behind at.
          takes_more c.args.second js behind c.loop-place.loaded c.loop-place.reader (c.loop-place.invariant.2 js behind at) (value_view c.in-Ok.entry) answer c.add.new.loaded c.read.new.reader none.0 read entry_is taken,
    )
