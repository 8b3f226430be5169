use Rattle.std.proofs.Common.{◌<◌, [], length, arith, lit<}
use Rattle.routing.proofs.RemadeOffers.{RemadeBelow-all, RemadeBelow-none, RemadeBelow-push, RemadeBelow-same}
use Rattle.routing.proofs.candidates.remade.Goals as goal
use Rattle.routing.proofs.candidates.remade.Goals.{in-Some, in_default}

pub loop-slot-init : goal.loop-slot-init
loop-slot-init g c = λ sent. rw c.new-changes.ensures (RemadeBelow-none _ _)

pub push-requires : goal.push-requires
push-requires g c =
    let few = (c.loop-slot.invariant []).few in
    let room : length c.loop-slot.changes.items < 65 = omega (arith, few, c.loop-slot-test.true) in (lit< tt, room)

pub loop-slot-preserved : goal.loop-slot-preserved
loop-slot-preserved g c = λ sent.
    elim c.match-remade_at.branch [
      | in-Some w ↦ rw (w.changes-is, w.push.ensures.items) (RemadeBelow-push _ _ c.loop-slot.slot c.loop-slot.changes.items w.in-Some.change (c.loop-slot.invariant sent) (w.in-Some.ensures sent))
      | in_default w ↦ rw w.changes-is (RemadeBelow-same _ _ c.loop-slot.slot c.loop-slot.changes.items (c.loop-slot.invariant sent) (w.in_default.ensures sent))
    ]

pub returns : goal.returns
returns g c = λ sent. RemadeBelow-all _ _ c.loop-slot.slot _ (omega (arith, c.loop-slot-test.false)) (c.loop-slot.invariant sent)
