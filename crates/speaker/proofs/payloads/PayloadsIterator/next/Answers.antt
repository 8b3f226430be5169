use Rattle.std.proofs.Common.{◌<◌, Some, length, arith, rules, sym, ap, ◌∙◌}
use Rattle.local_exceptions.specs.ExceptionSets.{under}
use Rattle.speaker.specs.Shown.{keys_if, payloads_behind}
use Rattle.speaker.proofs.PayloadRows.{row_first, row_none}
use Rattle.speaker.proofs.payloads.PayloadsIterator.next.Goals as goal

pub returns-in-Some-clause-steps : goal.returns-in-Some-clause-steps
returns-in-Some-clause-steps g c =
    let set = under c.self.inside.exceptions.now (keys_if c.self.inside.loaded) in
    rw (← c.self.view_is) (row_first c.self.inside.last set _ c.first_in_force-found.ensures.rising (sym c.in-Some.is ∙ c.first_in_force-found.ensures.first))

pub returns-in-Some-clause-goes : goal.returns-in-Some-clause-goes
returns-in-Some-clause-goes g c =
    let set = under c.self.inside.exceptions.now (keys_if c.self.inside.loaded) in
    let more = row_first c.self.inside.last set _ c.first_in_force-found.ensures.rising (sym c.in-Some.is ∙ c.first_in_force-found.ensures.first) in
    let fewer : length (payloads_behind (Some c.in-Some.payload) set) < length (payloads_behind c.self.inside.last set) = omega (arith, ap length more) in
    rw (← c.self.view_is) (search (rules, fewer))

pub returns-in_default-clause-steps : goal.returns-in_default-clause-steps
returns-in_default-clause-steps g c =
    let set = under c.self.inside.exceptions.now (keys_if c.self.inside.loaded) in
    let none = row_none (payloads_behind c.self.inside.last set) (sym c.in_default.is ∙ c.first_in_force-found.ensures.first) in
    rw (c.in_default.is, ← c.self.view_is) (none, none)
