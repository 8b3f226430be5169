use Rattle.speaker_exceptions.proofs.ObeyedInOrder.{AreLeft}
use Rattle.speaker_exceptions.specs.ObeyedExceptions.{command_of_filter}
use Rattle.speaker_exceptions.proofs.obeying.obey_filters.Given as goal

-- the commands of those that came were obeyed
abbrev pub invariant-loop-filter : goal.invariant-loop-filter
invariant-loop-filter g l =
    (goal.iterator-loop-filter g).can_next l.filter-iterator
    × (goal.iterator-loop-filter g).is_finite l.filter-iterator
    × AreLeft command_of_filter l.fn.filters.keys l.filter-iterator l.fn.speaker l.speaker
