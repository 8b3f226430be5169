use Rattle.std.proofs.Common.{refl}
use Rattle.loc_rib.proofs.RowWalks.{best_routed, least_row, least_there, no_row}
use Rattle.loc_rib.proofs.ribs.Ribs.prefix_after.Goals as goal

pub returns-in-None-clause-none : goal.returns-in-None-clause-none
returns-in-None-clause-none g c = no_row c.args.after _ c.in-None.ensures

pub returns-in-Some-clause-has : goal.returns-in-Some-clause-has
returns-in-Some-clause-has g c =
    let least = least_row c.args.after _ _ c.is_chosen.ensures.rising c.in-Some.ensures in
    rw least.there refl

pub returns-in-Some-clause-above : goal.returns-in-Some-clause-above
returns-in-Some-clause-above g c = (least_row c.args.after _ _ c.is_chosen.ensures.rising c.in-Some.ensures).above

pub returns-in-Some-clause-least : goal.returns-in-Some-clause-least
returns-in-Some-clause-least g c = λ q above there.
    least_there c.args.after _ c.in-Some.prefix q (least_row c.args.after _ _ c.is_chosen.ensures.rising c.in-Some.ensures) above there

pub returns-in-Some-clause-routed : goal.returns-in-Some-clause-routed
returns-in-Some-clause-routed g c =
    let least = least_row c.args.after _ _ c.is_chosen.ensures.rising c.in-Some.ensures in
    let best = rw least.there at (c.is_chosen.ensures.best c.in-Some.prefix) in
    best_routed _ _ c.in-Some.prefix least.value c.is_chosen.ensures.routed best
