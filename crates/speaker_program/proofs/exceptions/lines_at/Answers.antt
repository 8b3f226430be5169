use Rattle.std.proofs.Common.{refl}
use Rattle.speaker_program.proofs.exceptions.lines_at.Goals as goal

pub returns-in-Ok-clause-given : goal.returns-in-Ok-clause-given
returns-in-Ok-clause-given g c = record { shown = c.args.path; shows = refl; says = record { met = c.in-Ok.ensures } }

pub returns-in-Err-clause-unopened : goal.returns-in-Err-clause-unopened
returns-in-Err-clause-unopened g c = (c.in-Err.error, c.unread.ensures.file, record { shown = c.args.path; shows = refl; says = record { met = c.in-Err.ensures } })
