use Rattle.std.proofs.Common.{◌≡◌, [], ap, sym, subst, ◌∙◌, MatchOption, option_and_then, option_map}
use Rattle.decision.specs.KeptPlaces.{ArePlaces, IsBestAt, candidates_of}
use Rattle.decision.specs.BookContents.{candidate_of}
use Rattle.decision.specs.Selection.{AreDistinct, IsSelected}
use Rattle.decision.proofs.BestPlaces.{best_chosen, distinct_places}
use Rattle.decision.proofs.plain_book.PlainBook.choose_again.Goals as goal
use Rattle.decision.proofs.plain_book.PlainBook.choose_again.Goals.{in-Some, in-None}

pub choose-requires : goal.choose-requires
choose-requires g c =
    let are : ArePlaces c.self.inside.places.items = subst (λ kept. ArePlaces kept.places) (sym c.self.view_is) c.requires in
    let is : c.deref-2.result.now ≡ candidates_of c.self.inside.places.items = c.deref-2.ensures.0 ∙ c.candidates-candidates.ensures ∙ ap candidates_of c.deref.ensures.value in
    record { distinct = subst AreDistinct (sym is) (distinct_places c.self.inside.places.items are) }

pub returns-clause-best : goal.returns-clause-best
returns-clause-best g c =
    let ps = c.self.inside.places.items in
    let are : ArePlaces ps = subst (λ kept. ArePlaces kept.places) (sym c.self.view_is) c.requires in
    let is : c.deref-2.result.now ≡ candidates_of ps = c.deref-2.ensures.0 ∙ c.candidates-candidates.ensures ∙ ap candidates_of c.deref.ensures.value in
    let chosen = best_chosen ps are c.choose.result (subst (λ cs. MatchOption c.choose.result (cs ≡ []) (λ d. IsSelected cs d)) is c.choose.ensures.selected) in
    let slot : c.match-choose.self ≡ option_map (λ d. d.slot) c.choose.result = elim c.match-choose.branch [
      | in-Some w ↦ w.self-is ∙ ap (option_map (λ d. d.slot)) (sym w.in-Some.is)
      | in-None w ↦ w.self-is ∙ ap (option_map (λ d. d.slot)) (sym w.in-None.is)
    ] in
    subst (λ o. IsBestAt ps (option_and_then (candidate_of ps) o)) (sym slot) chosen
