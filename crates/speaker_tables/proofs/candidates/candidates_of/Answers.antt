use Rattle.std.proofs.Common.{◌<◌, length, arith, lit<}
use Rattle.speaker_tables.proofs.CandidateLists.{candidates_all, candidates_none, candidates_push, candidates_same}
use Rattle.speaker_tables.proofs.candidates.candidates_of.Goals as goal
use Rattle.speaker_tables.proofs.candidates.candidates_of.Goals.{in-Some, in_default}

pub loop-slot-init : goal.loop-slot-init
loop-slot-init g c = rw c.new-candidates.ensures (candidates_none _ _)

pub push-requires : goal.push-requires
push-requires g c =
    let room : length c.loop-slot.candidates.items < 65 = omega (arith, c.loop-slot.invariant.few, c.loop-slot-test.true) in (lit< tt, room)

pub loop-slot-preserved : goal.loop-slot-preserved
loop-slot-preserved g c =
    elim c.match-candidate.branch [
      | in-Some w ↦ rw (w.candidates-is, w.push.ensures.items) (candidates_push _ _ c.loop-slot.slot c.loop-slot.candidates.items w.in-Some.candidate c.loop-slot.invariant w.in-Some.ensures.kept)
      | in_default w ↦ rw w.candidates-is (candidates_same _ _ c.loop-slot.slot c.loop-slot.candidates.items c.loop-slot.invariant w.in_default.ensures.kept)
    ]

pub returns-clause-all : goal.returns-clause-all
returns-clause-all g c = candidates_all _ _ c.loop-slot.slot _ (omega (arith, c.loop-slot-test.false)) c.loop-slot.invariant

pub returns-clause-few : goal.returns-clause-few
returns-clause-few g c = omega (arith, c.loop-slot.invariant.few, c.loop-slot-test.false)
