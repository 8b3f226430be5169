use Rattle.std.proofs.Common.{◌∙◌}
use Rattle.speaker.proofs.ShownRoutes.{cache_state_shown}
use Rattle.speaker.proofs.step.Speaker.cache_session.Goals as goal

pub returns-clause-agrees : goal.returns-clause-agrees
returns-clause-agrees g c = λ config r a. c.cache_state.ensures ∙ cache_state_shown config r c.args.self.now a
