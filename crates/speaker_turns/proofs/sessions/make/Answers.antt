use Rattle.std.proofs.Common.{◌∙◌, sym, subst, Bool}
use Rattle.runs.specs.FirstRefusal.{refusal_of}
use Rattle.runs.specs.Runs.{call_of}
use Rattle.speaker_turns.specs.Sessions.{Asks}
use Rattle.speaker_turns.proofs.Stepping.{steps_ask, steps_well}
use Rattle.speaker_turns.proofs.sessions.make.Goals as goal

pub returns-clause-made : goal.returns-clause-made
returns-clause-made g c =
    c.is_ok.ensures.value ∙ steps_well _ _ c.step.result c.step.new.self (refusal_of c.args.speaker.now c.args.event) c.requires c.step.ensures.refused

pub returns-clause-asks : goal.returns-clause-asks
returns-clause-asks g c =
    subst (λ (b : Bool). Asks (call_of c.args.event) b c.args.speaker.now c.step.new.self) (sym c.is_ok.ensures.value)
    (steps_ask _ _ c.step.result c.step.new.self (refusal_of c.args.speaker.now c.args.event) c.requires c.step.ensures.refused c.step.ensures.agrees)
