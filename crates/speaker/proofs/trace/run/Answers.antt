use Rattle.speaker.proofs.ListedEvents.{played_none}
use Rattle.speaker.proofs.trace.run.Goals as goal

pub returns-in-Ok-new-clause-played : goal.returns-in-Ok-new-clause-played
returns-in-Ok-new-clause-played g c = c.played.ensures c.args.config (played_none _ _ c.in-Ok-new.ensures.agrees c.in-Ok-new.ensures.ok)
