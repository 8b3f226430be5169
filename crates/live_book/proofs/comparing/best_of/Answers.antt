use Rattle.std.proofs.Common.{Some, None, sym, subst, ◌∙◌, ap}
use Rattle.decision.specs.Selection.{IsSelected}
use Rattle.decision.proofs.BestPlaces.{best_chosen}
use Rattle.live_book.specs.NeighborBests.{contenders_of, last_round, slots_of}
use Rattle.live_book.proofs.Rounds.{last_chosen}
use Rattle.live_book.proofs.comparing.best_of.Goals as goal

pub returns-in-Some-clause-best : goal.returns-in-Some-clause-best
returns-in-Some-clause-best c =
    let chosen : IsSelected (contenders_of (last_round c.args.places.now c.args.best) c.args.places.now) c.in-Some.best =
    subst (λ round. IsSelected (contenders_of round c.args.places.now) c.in-Some.best) c.last_round.ensures c.in-Some.ensures.selected in
    best_chosen (slots_of c.args.places.now) c.requires.kept (Some c.in-Some.best)
    (last_chosen c.args.places.now c.args.best c.requires.kept c.requires.bests c.requires.before (Some c.in-Some.best) chosen)

pub returns-in-None-clause-best : goal.returns-in-None-clause-best
returns-in-None-clause-best c =
    last_chosen c.args.places.now c.args.best c.requires.kept c.requires.bests c.requires.before None
    (sym (ap (λ round. contenders_of round c.args.places.now) c.last_round.ensures) ∙ c.in-None.ensures.selected)
