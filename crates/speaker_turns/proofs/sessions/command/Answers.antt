use Rattle.speaker_turns.proofs.Stepping.{command_steps}
use Rattle.speaker_turns.proofs.sessions.command.Goals as goal

pub returns : goal.returns
returns g c = command_steps c.args.command _ c.step.result _ c.step.ensures.refused c.step.ensures.agrees
