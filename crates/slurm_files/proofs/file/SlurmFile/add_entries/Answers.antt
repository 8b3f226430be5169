use Rattle.std.proofs.Common.{◌≡◌, ◌≤◌, length, inr, map, Result, Err, arith, refl}
use Rattle.std.proofs.lemmas.Result.{err_from_is_err_and}
use Rattle.json.specs.Value.{value_view}
use Rattle.slurm_files.specs.SlurmDocument.{Reads, Said}
use Rattle.slurm_files.specs.declared.fault.SlurmFault.{SlurmFault}
use Rattle.slurm_files.specs.declared.fault.SlurmFault.TheVariants.{Entry}
use Rattle.slurm_files.proofs.Reading.{ends, goes_on, of_answer, refused_at, stops}
use Rattle.slurm_files.proofs.file.SlurmFile.add_entries.Goals as goal

pub returns-in_err-add-in-Ok : goal.returns-in_err-add-in-Ok
returns-in_err-add-in-Ok g c =
    let p = err_from_is_err_and c.from_residual.result c.from_residual.ensures.1 in
    let why = c.in_err-add-in-Ok.field-0.0 in
    let answer : c.from_residual.result ≡ Err why = rw (p.1, p.2) refl in
    of_answer c.from_residual.result why c.add.new.self (λ (r : Result Said SlurmFault). Reads c.args.part 0 (map value_view c.args.entries.now) c.args.self.now r) answer
    (refused_at value_view c.args.part c.args.entries.now c.loop-place.place c.index-entries-place.result c.loop-place.self c.args.self.now c.in-Ok.entry why
    c.loop-place-test.true c.index-entries-place.is c.in-Ok.ensures c.in_err-add-in-Ok.ensures.err c.loop-place.invariant)

pub returns-in-Err : goal.returns-in-Err
returns-in-Err g c =
    inr (c.loop-place.invariant (Err (Entry c.args.part c.loop-place.place c.in-Err.cause))
    (stops value_view c.args.part c.args.entries.now c.loop-place.place c.index-entries-place.result c.loop-place.self c.in-Err.cause c.loop-place-test.true c.index-entries-place.is c.in-Err.ensures))

pub returns : goal.returns
returns g c =
    let past : length c.args.entries.now ≤ c.loop-place.place = omega (arith, c.loop-place-test.false) in
    inr (ends value_view c.args.part c.args.entries.now c.loop-place.place c.loop-place.self c.args.self.now past c.loop-place.invariant)

pub loop-place-preserved : goal.loop-place-preserved
loop-place-preserved g c = λ result more.
    c.loop-place.invariant result
    (goes_on value_view c.args.part c.args.entries.now c.loop-place.place c.index-entries-place.result c.loop-place.self c.add.new.self c.in-Ok.entry result
    c.loop-place-test.true c.index-entries-place.is c.in-Ok.ensures c.in_ok-add-in-Ok.ensures.ok.0 c.in_ok-add-in-Ok.ensures.ok.1 more)
