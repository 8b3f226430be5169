use Rattle.std.proofs.Common.{refl, sym, ◌∙◌}
use Rattle.local_exceptions.proofs.Sets.{under-is_set}
use Rattle.speaker.specs.Shown.{keys_if}
use Rattle.speaker.proofs.PayloadRows.{first_under}
use Rattle.speaker.proofs.payloads.first_in_force.Goals as goal

pub returns-clause-first : goal.returns-clause-first
returns-clause-first g c =
    rw (c.least.ensures, c.first_left-kept.ensures.first, c.first_asserted-asserted.ensures.first)
    (sym (first_under c.args.exceptions.now c.args.after (keys_if c.args.loaded) c.first_left-kept.ensures.rising c.first_asserted-asserted.ensures.rising))

pub returns-clause-rising : goal.returns-clause-rising
returns-clause-rising g c = under-is_set c.args.exceptions.now (keys_if c.args.loaded) c.first_left-kept.ensures.rising
