use Rattle.std.proofs.Common.{◌≡◌, true, false, sym, ap, ◌∙◌}
use Rattle.rtr_cache.specs.CacheTable.{has_room, pumped}
use Rattle.rtr_codec.specs.PduSpelling.{content_of}
use Rattle.rtr_cache.specs.Sending.{Sending, conn_of, said}
use Rattle.rtr_cache.proofs.Queueing.{part_is_short, pumped-said, pumped-full}
use Rattle.rtr_cache.proofs.sender.Sender.pump.Goals as goal

pub say-requires-clause-short : goal.say-requires-clause-short
say-requires-clause-short g c = part_is_short (content_of c.in-Some.pdu) c.in-Some.ensures.2

pub loop-self-preserved : goal.loop-self-preserved
loop-self-preserved g c = λ is_first unread.
    let room : has_room c.loop-self.self.ring ≡ true = sym c.has_room.ensures ∙ c.loop-self-test.true in
    ap (λ (s : Sending). pumped (conn_of is_first unread s)) (c.say.ensures ∙ ap (λ (s : Sending). said s (content_of c.in-Some.pdu)) c.in-Some.ensures.1)
    ∙ pumped-said is_first unread c.loop-self.self (content_of c.in-Some.pdu) c.next_pdu.new.self.left room c.in-Some.ensures.0
    ∙ c.loop-self.invariant is_first unread

pub returns : goal.returns
returns g c = λ is_first unread.
    let none : has_room c.loop-self.self.ring ≡ false = sym c.has_room.ensures ∙ c.loop-self-test.false in
    sym (pumped-full is_first unread c.loop-self.self none) ∙ c.loop-self.invariant is_first unread
