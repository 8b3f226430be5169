use Rattle.routing.proofs.exports.export_chosen.Goals as goal

pub returns-clause-accepted : goal.returns-clause-accepted
returns-clause-accepted g c = let accepted = rw c.deref.ensures at c.export_of.ensures.accepted in rw (← c.chosen.view_is) accepted
