use Rattle.speaker_exceptions.proofs.ObeyedInOrder.{AreLeft}
use Rattle.speaker_exceptions.specs.ObeyedExceptions.{command_of_assertion}
use Rattle.speaker_exceptions.proofs.obeying.obey_assertions.Given as goal

-- the commands of those that came were obeyed
abbrev pub invariant-loop-payload : goal.invariant-loop-payload
invariant-loop-payload g l =
    (goal.iterator-loop-payload g).can_next l.payload-iterator
    × (goal.iterator-loop-payload g).is_finite l.payload-iterator
    × AreLeft command_of_assertion l.fn.assertions.keys l.payload-iterator l.fn.speaker l.speaker
