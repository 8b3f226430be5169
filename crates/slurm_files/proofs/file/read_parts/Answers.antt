use Rattle.std.proofs.Common.{Ok, Err}
use Rattle.std.proofs.lemmas.Result.{err_from_is_err_and}
use Rattle.slurm_files.specs.SlurmParts.{parts_view}
use Rattle.slurm_files.proofs.Reading.{fourth_added, second_refused, third_refused}
use Rattle.slurm_files.proofs.file.read_parts.Goals as goal

pub returns-in_err-add_entries-2 : goal.returns-in_err-add_entries-2
returns-in_err-add_entries-2 g c =
    let p = err_from_is_err_and c.from_residual-in_err-add_entries-2.result c.from_residual-in_err-add_entries-2.ensures.1 in
    rw (p.1, p.2) (second_refused (parts_view c.args.parts.now) c.in-Ok.file c.add_entries.new.self c.add_entries-2.new.self c.in_err-add_entries-2.field-0.0 c.in-Ok.ensures c.in_ok-add_entries.ensures c.in_err-add_entries-2.ensures)

pub returns-in_err-add_entries-3 : goal.returns-in_err-add_entries-3
returns-in_err-add_entries-3 g c =
    let p = err_from_is_err_and c.from_residual-in_err-add_entries-3.result c.from_residual-in_err-add_entries-3.ensures.1 in
    rw (p.1, p.2) (third_refused (parts_view c.args.parts.now) c.in-Ok.file c.add_entries.new.self c.add_entries-2.new.self c.add_entries-3.new.self c.in_err-add_entries-3.field-0.0 c.in-Ok.ensures c.in_ok-add_entries.ensures c.in_ok-add_entries-2.ensures c.in_err-add_entries-3.ensures)

pub returns-in_err-add_entries-4 : goal.returns-in_err-add_entries-4
returns-in_err-add_entries-4 g c =
    let p = err_from_is_err_and c.from_residual-in_err-add_entries-4.result c.from_residual-in_err-add_entries-4.ensures.1 in
    rw (p.1, p.2) (fourth_added (parts_view c.args.parts.now) c.in-Ok.file c.add_entries.new.self c.add_entries-2.new.self c.add_entries-3.new.self c.add_entries-4.new.self (Err c.in_err-add_entries-4.field-0.0) c.in-Ok.ensures c.in_ok-add_entries.ensures c.in_ok-add_entries-2.ensures c.in_ok-add_entries-3.ensures c.in_err-add_entries-4.ensures)

pub returns : goal.returns
returns g c =
    fourth_added (parts_view c.args.parts.now) c.in-Ok.file c.add_entries.new.self c.add_entries-2.new.self c.add_entries-3.new.self c.add_entries-4.new.self (Ok tt) c.in-Ok.ensures c.in_ok-add_entries.ensures c.in_ok-add_entries-2.ensures c.in_ok-add_entries-3.ensures c.in_ok-add_entries-4.ensures
