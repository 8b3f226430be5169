use Rattle.std.proofs.Common.{refl}
use Rattle.speaker.proofs.TimerEnds.{ends_four}
use Rattle.speaker.proofs.step.Speaker.end_timers.Goals as goal

pub returns-clause-ends : goal.returns-clause-ends
returns-clause-ends g c =
    ends_four c.args.slot c.end_timer-hold.result c.end_timer-connect_retry.result c.end_timer-idle_hold.result c.end_timer-keepalive.result _ c.args.self.now c.end_timer-hold.new.self c.end_timer-connect_retry.new.self c.end_timer-idle_hold.new.self c.end_timer-keepalive.new.self
    c.end_timer-hold.ensures.ends c.end_timer-connect_retry.ensures.ends c.end_timer-idle_hold.ensures.ends c.end_timer-keepalive.ensures.ends refl
