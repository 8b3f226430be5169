use Rattle.std.proofs.Common.{◌≡◌, map, sym, subst, ◌∙◌, ap}
use Rattle.live_book.specs.NeighborBests.{AreFair, HaveStood, leads, moved, opened_of, slots_of}
use Rattle.live_book.proofs.Moves.{fair_moved, slots_moved, stood_moved}
use Rattle.live_book.proofs.comparing.open.Goals as goal

pub returns-clause-moved : goal.returns-clause-moved
returns-clause-moved c =
    c.move_each.ensures ∙ ap (λ ns. map (moved c.args.changes.now ns) c.args.places.now) (c.deref.ensures.0 ∙ c.opened-neighbors.ensures)

pub returns-clause-slots : goal.returns-clause-slots
returns-clause-slots c =
    let made : c.move_each.new.places ≡ map (moved c.args.changes.now (opened_of c.args.changes.now c.args.places.now)) c.args.places.now =
    c.move_each.ensures ∙ ap (λ ns. map (moved c.args.changes.now ns) c.args.places.now) (c.deref.ensures.0 ∙ c.opened-neighbors.ensures) in
    ap slots_of made ∙ slots_moved c.args.changes.now (opened_of c.args.changes.now c.args.places.now) c.args.places.now

pub returns-clause-fair : goal.returns-clause-fair
returns-clause-fair c =
    let made : c.move_each.new.places ≡ map (moved c.args.changes.now (opened_of c.args.changes.now c.args.places.now)) c.args.places.now =
    c.move_each.ensures ∙ ap (λ ns. map (moved c.args.changes.now ns) c.args.places.now) (c.deref.ensures.0 ∙ c.opened-neighbors.ensures) in
    subst AreFair (sym made) (fair_moved c.args.changes.now c.args.places.now c.requires.kept c.requires.bests c.requires.after)

pub returns-clause-stood : goal.returns-clause-stood
returns-clause-stood c =
    let made : c.move_each.new.places ≡ map (moved c.args.changes.now (opened_of c.args.changes.now c.args.places.now)) c.args.places.now =
    c.move_each.ensures ∙ ap (λ ns. map (moved c.args.changes.now ns) c.args.places.now) (c.deref.ensures.0 ∙ c.opened-neighbors.ensures) in
    subst (HaveStood leads c.args.places.now) (sym made) (stood_moved c.args.changes.now (opened_of c.args.changes.now c.args.places.now) c.args.places.now)
