use Rattle.routing.proofs.updates.bring_all.Goals as goal

pub returns-in-Err-clause-refused : goal.returns-in-Err-clause-refused
returns-in-Err-clause-refused g c = c.take_back.ensures.whole c.args.routing.now (rw c.as_slice.ensures.value c.in-Err.ensures.refused)
