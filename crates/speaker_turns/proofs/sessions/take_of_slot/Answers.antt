use Rattle.speaker_turns.proofs.Stepping.{slot_takes}
use Rattle.speaker_turns.proofs.sessions.take_of_slot.Goals as goal

pub returns-in-Ok-clause-bound : goal.returns-in-Ok-clause-bound
returns-in-Ok-clause-bound g c =
    (slot_takes c.args.slot (c.in-Ok.count, c.in-Ok.field-0-1) c.args.buf.now c.take.new.buf c.args.speaker.now c.take.new.self c.in-Ok.ensures.refused c.in-Ok.ensures.handed c.in-Ok.ensures.agrees).first.within

pub returns-in-Ok-clause-octets : goal.returns-in-Ok-clause-octets
returns-in-Ok-clause-octets g c =
    (slot_takes c.args.slot (c.in-Ok.count, c.in-Ok.field-0-1) c.args.buf.now c.take.new.buf c.args.speaker.now c.take.new.self c.in-Ok.ensures.refused c.in-Ok.ensures.handed c.in-Ok.ensures.agrees).first.octets

pub returns-in-Ok-clause-asks : goal.returns-in-Ok-clause-asks
returns-in-Ok-clause-asks g c =
    (slot_takes c.args.slot (c.in-Ok.count, c.in-Ok.field-0-1) c.args.buf.now c.take.new.buf c.args.speaker.now c.take.new.self c.in-Ok.ensures.refused c.in-Ok.ensures.handed c.in-Ok.ensures.agrees).asks
