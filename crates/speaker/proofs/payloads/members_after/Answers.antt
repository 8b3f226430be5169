use Rattle.std.proofs.Common.{sym, rules, ◌∙◌}
use Rattle.speaker.proofs.ViewsBehind.{all_members, members_above, rising_members}
use Rattle.speaker.proofs.payloads.members_after.Goals as goal

pub returns-in-Some-clause-all : goal.returns-in-Some-clause-all
returns-in-Some-clause-all g c = rw c.in-Some.is (c.range.ensures.between (search rules) ∙ members_above c.in-Some.payload c.args.set.now.keys)

pub returns-in-None-clause-all : goal.returns-in-None-clause-all
returns-in-None-clause-all g c = rw c.in-None.is (c.range-in-None.ensures.between (search rules) ∙ all_members c.args.set.now.keys)

pub returns-in-Some-clause-rising : goal.returns-in-Some-clause-rising
returns-in-Some-clause-rising g c =
    rw (c.range.ensures.between (search rules) ∙ members_above c.in-Some.payload c.args.set.now.keys) (rising_members c.in-Some.payload c.args.set.now.keys c.len.ensures.ordered)

pub returns-in-None-clause-rising : goal.returns-in-None-clause-rising
returns-in-None-clause-rising g c = rw (c.range-in-None.ensures.between (search rules) ∙ all_members c.args.set.now.keys) c.len.ensures.ordered
