use Rattle.std.proofs.Common.{◌∙◌, refl, arith}
use Rattle.routing.specs.Marks.{mark_at}
use Rattle.routing.specs.RoutingState.{with_waiting}
use Rattle.routing.specs.Sent.{linked}
use Rattle.routing.proofs.LinkedPeers.{few_in, linked_none}
use Rattle.routing.proofs.Marking.{PeersBelow-all, PeersBelow-more, PeersBelow-none, mark_listed}
use Rattle.routing.proofs.routing.mark_each.Goals as goal

pub slots_end-slot-end-requires : goal.slots_end-slot-end-requires
slots_end-slot-end-requires g c = few_in c.args.links.now.entries c.args.ribs.now.sent c.requires.there

pub loop-slot-init : goal.loop-slot-init
loop-slot-init g c = PeersBelow-none _ _ _ _ c.requires

pub loop-slot-preserved : goal.loop-slot-preserved
loop-slot-preserved g c =
    let ribs = c.args.ribs.now in
    let links = linked c.args.links.now.entries c.args.ribs.now.sent in
    let t = with_waiting ribs c.loop-slot.waiting c.loop-slot.alike in
    let u = with_waiting ribs c.set.new.self c.list-owed.new.alike in
    let is = c.as_ref.ensures.value ∙ c.chosen_route-chosen.ensures in
    PeersBelow-more _ _ _ _ t u c.loop-slot.slot c.loop-slot.invariant (record {
      here =
          mark_listed (mark_at c.args.conf.now links t c.loop-slot.slot c.args.prefix) u c.loop-slot.slot c.args.prefix c.list-owed.result
          (c.list-owed.ensures.owed ribs.adj_in ribs.book is) (c.list-owed.ensures.here ribs.adj_in ribs.book is) c.set.ensures.here;
      others = c.set.ensures.others;
      listed = c.list-owed.ensures.listed;
      rest = refl;
    })

pub returns : goal.returns
returns g c = PeersBelow-all _ _ _ _ _ c.loop-slot.slot (λ s high low. linked_none c.args.links.now.entries c.args.ribs.now.sent s (c.slots_end-slot-end.ensures.none s (omega (arith, c.loop-slot-test.false, high)) low)) c.loop-slot.invariant
