-- A place that stands alone, after changes.
use Rattle.std.proofs.Common.{◌≡◌, ◌≤◌, ℕ, true, inl, inr, List, [], ◌∷◌, length, slice_get, slice_index_or, slice_set, MatchOption, Option, Some, None, option_and_then, option_map, cond, All, IfSome, refl, sym, ◌∙◌, ap, subst, arith}
use Rattle.std.specs.List.{IsDistinct, cons_option}
use Rattle.decision.specs.BookContents.{AreApart, candidate_of, changed}
use Rattle.decision.specs.KeptPlaces.{ArePlaces, IsBestAt, IsKept, with_changes}
use Rattle.decision.specs.Selection.{AreDistinct, IsSelected}
use Rattle.decision.specs.declared.book.Change.{Change}
use Rattle.decision.specs.declared.candidate.Candidate.{Candidate}
use Rattle.decision.proofs.BestPlaces.{best_chosen, distinct_places}
use Rattle.decision.proofs.Laws.{among_one}
use Rattle.decision.proofs.One.{first_selected}
use Rattle.live_book.specs.NeighborBests.{AreBests, IsBestOfNeighbor, empty_place, first_place, leads, offered, renewed, slots_of}
use Rattle.live_book.specs.Places.{Place}
use Rattle.live_book.proofs.Groups.{selected_best}
use Rattle.live_book.proofs.PlaceBests.{bests_pushed}
use Rattle.live_book.specs.KeptAlone.{one_place}
use Rattle.decision.proofs.PlaceLists.{places_changed, slot_itself}

one_at_most : (o : Option Candidate) → length (cons_option o []) ≤ 1
one_at_most None = omega arith
one_at_most (Some c) = omega arith

first_is : (o : Option Candidate) → o ≡ slice_get (cons_option o []) 0
first_is None = refl
first_is (Some c) = refl

chosen : (p : Place) → ArePlaces (slots_of (p ∷ [])) → MatchOption p.candidate (offered (p ∷ []) ≡ []) (λ c. IsSelected (offered (p ∷ [])) c)
chosen p are = first_selected (offered (p ∷ [])) (one_at_most p.candidate) (distinct_places (slots_of (p ∷ [])) are) p.candidate (first_is p.candidate)

-- its candidate is the best one
alone_best : (p : Place) → ArePlaces (slots_of (p ∷ [])) → IsBestAt (slots_of (p ∷ [])) (option_and_then (candidate_of (slots_of (p ∷ []))) (option_map (λ c. c.slot) p.candidate))
alone_best p are = best_chosen (slots_of (p ∷ [])) are p.candidate (chosen p are)

alone_of_neighbor : (p : Place) → ArePlaces (slots_of (p ∷ [])) → (c : Candidate) → p.candidate ≡ Some c → IsBestOfNeighbor (offered (p ∷ [])) c
alone_of_neighbor p are c e =
    let selected : IsSelected (offered (p ∷ [])) c = subst (λ o. MatchOption o (offered (p ∷ []) ≡ []) (λ d. IsSelected (offered (p ∷ [])) d)) e (chosen p are) in
    selected_best (offered (p ∷ [])) (distinct_places (slots_of (p ∷ [])) are) c (among_one (offered (p ∷ [])) c selected)

alone_bests : (p : Place) → ArePlaces (slots_of (p ∷ [])) → leads p.standing ≡ true → AreBests (p ∷ [])
alone_bests p are led q (inl is) c e = (λ also. alone_of_neighbor p are c (ap (λ r. r.candidate) is ∙ e), λ best. ap (λ r. leads r.standing) (sym is) ∙ led)
alone_bests p are led q (inr at) c e = absurd at

alone_after : (changes : List Change) (ps : List Place) (x : Place) → length ps ≡ 1 → x ≡ slice_index_or ps 0 x → ArePlaces (with_changes changes (slots_of ps)) → ArePlaces (slots_of (renewed changes x ∷ []))
alone_after changes [] x one at after = absurd (omega arith)
alone_after changes (p ∷ []) x one at after = subst (λ q. ArePlaces (slots_of (renewed changes q ∷ []))) (sym at) after
alone_after changes (p ∷ q ∷ ps) x one at after = absurd (omega arith)

alone_set : (ps : List Place) (r : Place) → length ps ≡ 1 → slice_set ps 0 r ≡ r ∷ []
alone_set [] r one = absurd (omega arith)
alone_set (p ∷ []) r one = refl
alone_set (p ∷ q ∷ ps) r one = absurd (omega arith)

pub bests_renewed : (changes : List Change) (ps : List Place) (x r : Place) → length ps ≡ 1 → x ≡ slice_index_or ps 0 x → r ≡ renewed changes x → ArePlaces (with_changes changes (slots_of ps)) → AreBests (slice_set ps 0 r)
bests_renewed changes ps x r one at is after =
    subst AreBests (sym (alone_set ps r one ∙ ap (λ q. q ∷ []) is)) (alone_bests (renewed changes x) (alone_after changes ps x one at after) refl)

pub best_renewed : (changes : List Change) (ps : List Place) (x r : Place) (best : Option ℕ) → length ps ≡ 1 → x ≡ slice_index_or ps 0 x → r ≡ renewed changes x → best ≡ option_map (λ c. c.slot) r.candidate
    → ArePlaces (with_changes changes (slots_of ps)) → IsBestAt (slots_of (slice_set ps 0 r)) (option_and_then (candidate_of (slots_of (slice_set ps 0 r))) best)
best_renewed changes ps x r best one at is slot after =
    subst (λ qs. IsBestAt (slots_of qs) (option_and_then (candidate_of (slots_of qs)) best)) (sym (alone_set ps r one ∙ ap (λ q. q ∷ []) is))
    (subst (λ o. IsBestAt (slots_of (renewed changes x ∷ [])) (option_and_then (candidate_of (slots_of (renewed changes x ∷ []))) o)) (sym (slot ∙ ap (λ q. option_map (λ c. c.slot) q.candidate) is))
    (alone_best (renewed changes x) (alone_after changes ps x one at after)))

-- ---- a place that stands in the book itself

one_distinct : (o : Option Candidate) → AreDistinct (cons_option o [])
one_distinct None = λ i j d lt within. absurd (omega (arith, lt, within))
one_distinct (Some c) = λ i j d lt within. absurd (omega (arith, lt, within))

one_chosen : (o : Option Candidate) → MatchOption o (cons_option o [] ≡ []) (λ c. IsSelected (cons_option o []) c)
one_chosen o = first_selected (cons_option o []) (one_at_most o) (one_distinct o) o (first_is o)

first_best : (slot : ℕ) (o : Option Candidate) (c : Candidate) → o ≡ Some c → IsBestOfNeighbor (offered (first_place slot o ∷ [])) c
first_best slot o c e =
    let selected : IsSelected (cons_option o []) c = subst (λ r. MatchOption r (cons_option o [] ≡ []) (λ d. IsSelected (cons_option o []) d)) e (one_chosen o) in
    selected_best (cons_option o []) (one_distinct o) c (among_one (cons_option o []) c selected)

first_bests : (slot : ℕ) (o : Option Candidate) → AreBests (first_place slot o ∷ [])
first_bests slot o q (inl is) c e = (λ also. first_best slot o c (ap (λ r. r.candidate) is ∙ e), λ best. ap (λ r. leads r.standing) (sym is))
first_bests slot o q (inr at) c e = absurd at

-- the best of a pair, of which the second has no candidate
pub pair_bests : (first second : ℕ) (o : Option Candidate) → AreBests (first_place first o ∷ empty_place second ∷ [])
pair_bests first second o = bests_pushed second (first_place first o ∷ []) (first_bests first o)

-- the one place after changes
pub after_one : (changes : List Change) (slot : ℕ) (o : Option Candidate) → IsKept (one_place slot o) → All (λ c. IfSome c.candidate (λ route. route.slot ≡ c.slot)) changes
    → AreApart (candidate_of (with_changes changes (one_place slot o).places)) → ArePlaces (one_place slot (changed changes slot o)).places
after_one changes slot o is named apart = places_changed changes (one_place slot o).places is.0 named apart

pub own_of_one : (slot : ℕ) (o : Option Candidate) → ArePlaces (one_place slot o).places → IfSome o (λ c. c.slot ≡ slot)
own_of_one slot None are = tt
own_of_one slot (Some c) are = are.own slot c (ap (λ b. option_and_then (λ d. d) (cond b (Some (Some c)) None)) (slot_itself slot))

pub kept_one : (slot : ℕ) (o : Option Candidate) → ArePlaces (one_place slot o).places → IsKept (one_place slot o)
kept_one slot o are = (are, one_chosen o)

-- nobody has a place
pub kept_nobody : IsKept (record { places = []; best = None })
unfolding IsDistinct
kept_nobody = (
  record {
    few = omega arith;
    distinct = tt;
    own = λ s c e. cc;
    apart = λ s t c d ne is also. absurd cc;
  },
  refl,
)
