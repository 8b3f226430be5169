use Rattle.std.proofs.Common.{sym, ◌∙◌}
use Rattle.std.proofs.lemmas.List.{take_rest}
use Rattle.slurm_files.proofs.NameLists.{name_in, passes_here, stops_here}
use Rattle.slurm_files.proofs.names.names_fault.Goals as goal

pub returns-in-Some : goal.returns-in-Some
returns-in-Some g c =
    sym (stops_here name_in c.args.known.now c.args.members.now c.loop-place.place c.index-members-place.result c.in-Some.fault c.loop-place-test.true c.index-members-place.is (rw take_rest at c.in-Some.ensures))
    ∙ c.loop-place.invariant

pub loop-place-preserved : goal.loop-place-preserved
loop-place-preserved g c =
    sym (passes_here name_in c.args.known.now c.args.members.now c.loop-place.place c.index-members-place.result c.loop-place-test.true c.index-members-place.is (rw take_rest at c.in_default.ensures))
    ∙ c.loop-place.invariant
