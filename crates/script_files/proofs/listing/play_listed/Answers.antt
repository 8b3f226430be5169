use Rattle.std.proofs.Common.{◌<◌, ◌^◌, length, rules}
use Rattle.script_files.proofs.NameCounts.{names_fit}
use Rattle.script_files.proofs.Tallies.{settled, tallied}
use Rattle.script_files.specs.Names.{names_in}
use Rattle.script_files.proofs.listing.play_listed.Goals as goal

pub loop-name-preserved : goal.loop-name-preserved
loop-name-preserved g c =
    let fit = names_fit c.args.list.now in
    let few : length (names_in c.args.list.now) < 2 ^ 63 = search (rules, fit) in
    let stands = rw (c.in-Some.ensures.some.0) at c.loop-name.invariant in
    rw (c.count.ensures.as_told, c.count.ensures.differing)
    (tallied _ _ _ c.in_ok-play_named.field-0 _ _ _ _ _ stands few c.in_ok-play_named.ensures.as_told c.in_ok-play_named.ensures.otherwise)

pub returns-clause-split : goal.returns-clause-split
returns-clause-split g c = settled _ _ _ _ _ _ _ c.loop-name.invariant c.in_default.ensures.none
