use Rattle.std.proofs.Common.{◌∙◌, sym, subst}
use Rattle.speaker.specs.Serving.{IsDoneAt, IsGone}
use Rattle.speaker.proofs.Passing.{QueuesOn-more}
use Rattle.speaker.proofs.Serving.{below_still, export_kept, served_on, stand_served}
use Rattle.speaker.proofs.step.Speaker.serve_in_order.Goals as goal

pub returns-clause-served : goal.returns-clause-served
returns-clause-served g c = served_on c.announce_all.result _ _ c.withdraw_all.new.self _ c.withdraw_all.ensures.serves c.announce_all.ensures.serves c.withdraw_all.ensures.done c.announce_all.ensures.done

pub returns-clause-queues : goal.returns-clause-queues
returns-clause-queues g c = QueuesOn-more _ _ _ c.withdraw_all.ensures.serves.queues c.announce_all.ensures.serves.queues

pub returns-clause-stand : goal.returns-clause-stand
returns-clause-stand g c = λ s. stand_served _ _ _ c.announce_all.ensures.serves s ∙ stand_served _ _ _ c.withdraw_all.ensures.serves s

pub announce_all-requires-clause-below : goal.announce_all-requires-clause-below
announce_all-requires-clause-below g c = below_still c.args.slot c.args.self.now c.withdraw_all.new.self c.withdraw_all.ensures.serves.only c.requires.below

pub announce_all-requires-clause-gone : goal.announce_all-requires-clause-gone
announce_all-requires-clause-gone g c =
    subst (λ e. IsDoneAt (IsGone (e c.args.slot)) c.withdraw_all.new.self c.args.slot) (sym (export_kept c.args.self.now c.withdraw_all.new.self c.withdraw_all.ensures.serves.only.rest)) c.withdraw_all.ensures.done
