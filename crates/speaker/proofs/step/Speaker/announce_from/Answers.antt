use Rattle.speaker.proofs.RoutesSeen.{still_at, told_at}
use Rattle.speaker.proofs.step.Speaker.announce_from.Goals as goal

pub returns-clause-told : goal.returns-clause-told
returns-clause-told g c = rw (← c.self.view_is) (told_at c.tell_announcements.result c.self.inside.config c.self.inside.moment c.self.inside.cache c.self.inside.chosen_before c.args.slot c.tell_announcements.new.draft.named.items _ c.self.inside.routes c.tell_announcements.new.self c.tell_announcements.ensures.told)

pub returns-clause-each : goal.returns-clause-each
returns-clause-each g c = rw (← c.self.view_is) c.tell_announcements.ensures.each

pub returns-clause-packed : goal.returns-clause-packed
returns-clause-packed g c = rw (← c.self.view_is) c.tell_announcements.ensures.packed

pub returns-clause-err : goal.returns-clause-err
returns-clause-err g c = rw (← c.self.view_is) (still_at c.tell_announcements.result c.self.inside.config c.self.inside.moment c.self.inside.cache c.self.inside.chosen_before c.self.inside.routes c.tell_announcements.new.self c.tell_announcements.ensures.err c.tell_announcements.ensures.rest)

pub returns-clause-short : goal.returns-clause-short
returns-clause-short g c = rw (← c.self.view_is) c.tell_announcements.ensures.short
