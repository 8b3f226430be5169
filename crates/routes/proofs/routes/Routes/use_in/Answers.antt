use Rattle.decision.specs.BookContents.{offer_at}
use Rattle.routes.proofs.AddedMarks.{marked_importing}
use Rattle.routing.proofs.Results.{OnOk-sure}
use Rattle.routing.proofs.SoundOffers.{sound_importing}
use Rattle.routing.specs.Sent.{linked}
use Rattle.routes.proofs.routes.Routes.use_in.Goals as goal

pub choose_slot-requires-clause-sound : goal.choose_slot-requires-clause-sound
choose_slot-requires-clause-sound g c =
    let name = c.requires.uses.0 in
    let is = c.requires.uses.1 in
    let conf = OnOk-sure c.apply-takes_no_memory.result _ _ (rw is at c.apply-takes_no_memory.ensures.ok) (rw is at c.apply-takes_no_memory.ensures.memory) (λ x. x) in
    sound_importing c.self.inside.conf c.apply-takes_no_memory.new.self c.args.slot name (offer_at c.self.inside.routing.book) conf c.self.invariant.0

pub choose_slot-requires-clause-marked : goal.choose_slot-requires-clause-marked
choose_slot-requires-clause-marked g c =
    let name = c.requires.uses.0 in
    let is = c.requires.uses.1 in
    let conf = OnOk-sure c.apply-takes_no_memory.result _ _ (rw is at c.apply-takes_no_memory.ensures.ok) (rw is at c.apply-takes_no_memory.ensures.memory) (λ x. x) in
    marked_importing c.self.inside.conf c.apply-takes_no_memory.new.self (linked c.self.inside.links.entries c.self.inside.routing.sent) c.self.inside.routing c.args.slot name conf c.self.invariant.1

pub returns-clause-conf : goal.returns-clause-conf
returns-clause-conf g c =
    let name = c.requires.uses.0 in
    let is = c.requires.uses.1 in
    let conf = OnOk-sure c.apply-takes_no_memory.result _ _ (rw is at c.apply-takes_no_memory.ensures.ok) (rw is at c.apply-takes_no_memory.ensures.memory) (λ x. x) in
    rw (← c.self.view_is, is) conf

pub returns-clause-made : goal.returns-clause-made
returns-clause-made g c = rw (← c.self.view_is, c.choose_slot.ensures.sent, c.choose_slot.ensures.routes) c.choose_slot.ensures.made

pub returns-clause-chosen : goal.returns-clause-chosen
returns-clause-chosen g c = rw (← c.self.view_is) c.choose_slot.ensures.chosen
