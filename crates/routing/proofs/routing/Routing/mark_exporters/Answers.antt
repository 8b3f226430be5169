use Rattle.std.proofs.Common.{arith, ℕ, Bool, not, nat_lt, ◌||◌, ◌==◌, ◌∙◌}
use Rattle.bgp_conf.specs.PeerPolicies.{exports_by}
use Rattle.policy.specs.PolicyNames.{name_of}
use Rattle.routing.specs.Sent.{linked}
use Rattle.routing.proofs.LinkedPeers.{few_in, linked_none, marked_for_as, marked_for_in, marked_in, sent_kept}
use Rattle.routing.proofs.Marking.{ExportersBelow-all, ExportersBelow-more, ExportersBelow-none, done_unless}
use Rattle.routing.proofs.routing.Routing.mark_exporters.Goals as goal

pub slots_end-slot-end-requires : goal.slots_end-slot-end-requires
slots_end-slot-end-requires g c = few_in c.args.links.now.entries c.args.self.now.sent c.requires.marked.there

pub loop-slot-init : goal.loop-slot-init
loop-slot-init g c = ExportersBelow-none c.args.conf.now (linked c.args.links.now.entries c.args.self.now.sent) (λ s. not (exports_by c.args.conf.now s (name_of c.args.name.now))) c.args.self.now c.requires.marked

pub loop-slot-preserved : goal.loop-slot-preserved
loop-slot-preserved g c =
    let conf = c.args.conf.now in
    let peers = c.args.links.now.entries in
    let n = c.loop-slot.slot in
    let done : ℕ → Bool = λ s. not (exports_by conf s (name_of c.args.name.now)) in
    let h = c.loop-slot.invariant in
    let was = sent_kept c.args.self.now c.loop-slot.self h.rest in
    let kept = sent_kept c.loop-slot.self c.mark_exporter.new.self c.mark_exporter.ensures.rest in
    let before = marked_for_in (λ s. nat_lt s n || done s) conf peers c.loop-slot.self c.args.self.now.sent was h.marked in
    let after = c.mark_exporter.ensures.marked (λ s. nat_lt s n || done s) (done_unless (nat_lt n n) (exports_by conf n (name_of c.args.name.now))) before in
    ExportersBelow-more conf (linked peers c.args.self.now.sent) done c.args.self.now c.loop-slot.self c.mark_exporter.new.self n h c.mark_exporter.ensures.rest
    (marked_for_as (λ s. s == n || (nat_lt s n || done s)) conf peers c.mark_exporter.new.self c.args.self.now.sent (kept ∙ was) after)

pub returns-clause-marked : goal.returns-clause-marked
returns-clause-marked g c =
    let peers = c.args.links.now.entries in
    let sent = c.args.self.now.sent in
    marked_in c.args.conf.now peers c.loop-slot.self sent (sent_kept c.args.self.now c.loop-slot.self c.loop-slot.invariant.rest)
    (ExportersBelow-all c.args.conf.now (linked peers sent) (λ s. not (exports_by c.args.conf.now s (name_of c.args.name.now))) c.args.self.now c.loop-slot.self c.loop-slot.slot
    (λ s over few. linked_none peers sent s (c.slots_end-slot-end.ensures.none s (omega (arith, over)) few)) c.loop-slot.invariant)
