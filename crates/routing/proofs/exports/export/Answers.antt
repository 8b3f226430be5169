use Rattle.std.proofs.Common.{sym, ◌∙◌}
use Rattle.routing.proofs.Exported.{chosen_accepted}
use Rattle.routing.proofs.exports.export.Goals as goal

pub returns-clause-accepted : goal.returns-clause-accepted
returns-clause-accepted g c = chosen_accepted c.export_chosen.result _ _ _ c.args.prefix _ c.in-Some.chosen (sym c.in-Some.is ∙ c.chosen_route.ensures) c.export_chosen.ensures.accepted
