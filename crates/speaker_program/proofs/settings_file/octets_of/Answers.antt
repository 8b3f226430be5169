use Rattle.std.proofs.Common.{refl}
use Rattle.speaker_program.proofs.settings_file.octets_of.Goals as goal

pub returns-in-Ok-clause-given : goal.returns-in-Ok-clause-given
returns-in-Ok-clause-given g c = (c.args.path, c.in-Ok.ensures, refl)

pub returns-in-Err-clause-unread : goal.returns-in-Err-clause-unread
returns-in-Err-clause-unread g c = (c.in-Err.error, c.unread.ensures.file, (c.args.path, c.in-Err.ensures, refl))
