use Rattle.std.proofs.Common.{ap}
use Rattle.speaker.proofs.RoutesSeen.{seen, served_up}
use Rattle.speaker.proofs.step.Speaker.withdraw_from.Goals as goal

pub tell_withdrawals-requires-clause-held : goal.tell_withdrawals-requires-clause-held
tell_withdrawals-requires-clause-held g c = λ l linked.
    let up = rw (← c.self.view_is) at c.requires.up in
    let peer = rw (← c.self.view_is) at c.requires.peer in
    let held = rw (← c.self.view_is) at c.requires.held in
    held l (served_up _ c.args.slot l up peer linked)

pub returns-clause-told : goal.returns-clause-told
returns-clause-told g c =
    let did = c.tell_withdrawals.ensures.told in
    rw (← c.self.view_is) (record { before = did.before; after = did.after; was = did.was; told = did.told; puts = did.puts; rest = ap (seen c.self.inside.config c.self.inside.moment c.self.inside.cache c.self.inside.chosen_before) did.rest })

pub returns-clause-packed : goal.returns-clause-packed
returns-clause-packed g c = rw (← c.self.view_is) c.tell_withdrawals.ensures.packed
