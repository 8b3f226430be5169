use Rattle.rtr_codec.proofs.ReaderAnswers.{item_is_shown, uses_all}
use Rattle.rtr_codec.proofs.receiving.Receiver.front.Goals as goal

pub returns-clause-item : goal.returns-clause-item
returns-clause-item c =
    rw (← c.self.view_is)
    (item_is_shown c.self.inside.place c.self.inside.part.items _ c.self.invariant (rw c.as_slice.ensures.value at c.read.ensures.tells))

pub returns-clause-all : goal.returns-clause-all
returns-clause-all c =
    rw (← c.self.view_is)
    (uses_all c.self.inside.place c.self.inside.part.items _ c.self.invariant (rw c.as_slice.ensures.value at c.read.ensures.tells))
