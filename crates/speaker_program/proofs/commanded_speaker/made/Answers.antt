use Rattle.std.proofs.Common.{refl}
use Rattle.speaker_program.proofs.Commanding.{unmade}
use Rattle.speaker_program.proofs.commanded_speaker.made.Goals as goal

pub returns-in-Err-clause-unmade : goal.returns-in-Err-clause-unmade
returns-in-Err-clause-unmade g c = (c.in-Err.refusal, refl, unmade c.args.config c.in-Err.refusal c.new.result c.in-Err.is c.new.ensures.range c.in-Err.ensures.err)
