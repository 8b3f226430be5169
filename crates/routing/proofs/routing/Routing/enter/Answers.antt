use Rattle.std.proofs.Common.{inl}
use Rattle.routing.specs.Sent.{linked}
use Rattle.routing.proofs.Marking.{all_marked, is_other, marked_fresh, this_or_other}
use Rattle.routing.proofs.routing.Routing.enter.Goals as goal

pub returns-clause-marked : goal.returns-clause-marked
returns-clause-marked g c =
    all_marked _ _ _ _ (λ s few. inl (this_or_other c.args.slot s))
    (c.mark_slot.ensures.marked (is_other c.args.slot) (marked_fresh c.args.conf.now (linked c.args.links.now.entries c.args.self.now.sent) c.args.slot c.args.self.now c.requires.fresh c.requires.unmarked))
