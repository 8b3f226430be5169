use Rattle.std.proofs.Common.{arith}
use Rattle.speaker_program.proofs.AskedBefore.{held_all}
use Rattle.speaker_program.proofs.waiting.disable_started.Goals as goal

pub returns : goal.returns
returns g c =
    let most = c.loop-slot.auto.slot-end in
    let none = c.loop-slot-test.false in
    held_all c.loop-slot.slot c.loop-slot.slots.items c.args.served.now c.loop-slot.served (omega (arith, most, none)) c.loop-slot.invariant
