use Rattle.std.specs.Int.Bits.{or_zero_l}
use Rattle.std.proofs.Common.{◌∙◌, refl, ap, subst, arith}
use Rattle.runs.specs.SpeakerState.{SpeakerState}
use Rattle.runs.specs.Agreement.{QueuesAll}
use Rattle.runs.specs.Queueing.{starved_in}
use Rattle.speaker.proofs.Takes.{taken_agrees, link_there}
use Rattle.speaker.proofs.step.Speaker.take.Goals as goal

pub returns-clause-agrees : goal.returns-clause-agrees
returns-clause-agrees g c = λ config r a.
    let found = link_there _ (λ none. let out = (c.in-Some.ensures.none none).0 in (cc)) in
    let given = c.in-Some.ensures.some found.0 found.1 in
    let agrees =
    taken_agrees config r c.args.slot found.0 c.in-Some.taken c.queue_updates.result c.args.buf.now c.hand_out.new.buf c.args.self.now c.hand_out.new.self c.queue_updates.new.self a found.1
    given.0 given.1 given.2 (subst (λ s. QueuesAll c.queue_updates.result s c.queue_updates.new.self) c.begin_count.ensures c.queue_updates.ensures.queues) c.queue_updates.ensures.served in
    (agrees.0, rw (c.nothing-report.ensures, or_zero_l (starved_in agrees.0), agrees.1) refl, agrees.2)

pub returns-clause-counted : goal.returns-clause-counted
returns-clause-counted g c =
    let found = link_there _ (λ none. let out = (c.in-Some.ensures.none none).0 in (cc)) in
    let given = c.in-Some.ensures.some found.0 found.1 in
    c.queue_updates.ensures.counted ∙ ap (λ (s : SpeakerState). s.chosen_before) c.begin_count.ensures ∙ given.2.chosen

pub returns-clause-rises : goal.returns-clause-rises
returns-clause-rises g c =
    let found = link_there _ (λ none. let out = (c.in-Some.ensures.none none).0 in (cc)) in
    let given = c.in-Some.ensures.some found.0 found.1 in
    let same = given.2.chosen in
    let begun = ap (λ (s : SpeakerState). s.chosen) c.begin_count.ensures in
    let later = c.queue_updates.ensures.rises in
    omega (arith, same, begun, later)
