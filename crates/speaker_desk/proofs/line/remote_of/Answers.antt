use Rattle.std.proofs.Common.{refl}
use Rattle.speaker_desk.proofs.Texts.{at_address}
use Rattle.speaker_desk.proofs.line.remote_of.Goals as goal

pub returns-in-None : goal.returns-in-None
returns-in-None c = at_address c.args.remotes.now c.args.slot c.args.address c.new.result c.from_bits.result (c.in-None.ensures.none refl) c.from_bits.ensures c.new.ensures.ip c.new.ensures.port
