use Rattle.std.proofs.Common.{◌≡◌, ◌∙◌, ap, sym}
use Rattle.speaker.specs.Shown.{held_by}
use Rattle.routing.proofs.WaitingLists.{nothing_rises}
use Rattle.speaker.proofs.PeersSeen.{held_seen, table_in_link, unseen}
use Rattle.speaker.proofs.step.Speaker.held_rows.Goals as goal

pub returns-in-Some-clause-all : goal.returns-in-Some-clause-all
returns-in-Some-clause-all g c = rw (← c.self.view_is) (c.held.ensures.all ∙ held_seen _ _ c.in-Some.ensures.value)

pub returns-in-None-clause-all : goal.returns-in-None-clause-all
returns-in-None-clause-all g c = rw (← c.self.view_is) (ap held_by (sym (unseen table_in_link _ c.in-None.ensures.value)))

pub returns-in-None-clause-rising : goal.returns-in-None-clause-rising
returns-in-None-clause-rising g c = nothing_rises
