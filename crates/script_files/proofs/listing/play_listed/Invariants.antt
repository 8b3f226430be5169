use Rattle.std.proofs.Common.{length}
use Rattle.script_files.specs.Listing.{IsTallied}
use Rattle.script_files.specs.Names.{names_in}
use Rattle.script_files.proofs.listing.play_listed.Given as goal

abbrev pub invariant-loop-name : goal.invariant-loop-name
invariant-loop-name g l =
    IsTallied (g.P.Player.answers l.fn.player) (g.S.Shelf.scripts l.fn.shelf) (g.S.Shelf.told_texts l.fn.shelf)
    l.tally.as_told l.tally.differing (names_in l.rest) (names_in l.fn.list)

abbrev pub decreases-loop-name : goal.decreases-loop-name
decreases-loop-name g l = length l.rest
