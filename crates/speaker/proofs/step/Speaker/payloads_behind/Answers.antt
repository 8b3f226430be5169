use Rattle.std.proofs.Common.{◌∙◌, sym, ap}
use Rattle.bgp_conf.specs.Configuration.{Configuration}
use Rattle.runs.specs.SpeakerState.{payloads_in}
use Rattle.speaker.proofs.ShownRoutes.{nothing_in_force}
use Rattle.speaker.proofs.ViewsBehind.{in_force_as}
use Rattle.speaker.proofs.step.Speaker.payloads_behind.Goals as goal

pub returns-in-Some-clause-all : goal.returns-in-Some-clause-all
returns-in-Some-clause-all g c =
    rw (← c.self.view_is)
    (in_force_as _ _ _ _ _ _ c.behind.ensures.all (c.exceptions-exceptions.ensures ∙ ap (λ (conf : Configuration). conf.exceptions) c.conf.ensures)
    (c.payloads.ensures.set ∙ sym (c.self.invariant ∙ ap payloads_in c.in-Some.is)))

pub returns-in-None-clause-all : goal.returns-in-None-clause-all
returns-in-None-clause-all g c =
    rw (← c.self.view_is)
    (in_force_as _ _ _ _ _ _ c.behind-in-None.ensures.all (c.exceptions-exceptions.ensures ∙ ap (λ (conf : Configuration). conf.exceptions) c.conf.ensures)
    (sym (c.self.invariant ∙ ap payloads_in c.in-None.is)))

pub behind-requires-in-None : goal.behind-requires-in-None
behind-requires-in-None g c = record { rising = nothing_in_force }
