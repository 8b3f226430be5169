-- A slot that gets a place leaves a book kept.
use Rattle.std.proofs.Common.{◌≡◌, ◌≤◌, ℕ, Bool, true, false, not, cond, ◌&&◌, List, [], ◌∷◌, ◌++◌, length, Option, None, refl, sym, ◌∙◌, ap, subst}
use Rattle.std.proofs.lemmas.List.{append-nil}
use Rattle.std.proofs.lemmas.List.Elements.{filter_map-append}
use Rattle.decision.specs.BookContents.{Kept, is_placed}
use Rattle.decision.specs.KeptPlaces.{ArePlaces, IsKept, alone, candidates_of}
use Rattle.decision.specs.declared.candidate.Candidate.{Candidate}
use Rattle.decision.proofs.BestPlaces.{best_moved}
use Rattle.decision.proofs.PlaceLists.{place_alone, places_pushed}

candidates_pushed : (slot : ℕ) (ps : List (ℕ × Option Candidate)) → candidates_of (ps ++ (slot, None) ∷ []) ≡ candidates_of ps
candidates_pushed slot ps = filter_map-append (λ p. p.1) ps ((slot, None) ∷ []) ∙ append-nil (candidates_of ps)

kept_same : (k w : Kept) → IsKept k → w.places ≡ k.places → w.best ≡ k.best → IsKept w
kept_same k w kept is best = (
  subst ArePlaces (sym is) kept.0,
  best_moved (candidates_of k.places) (candidates_of w.places) (ap candidates_of (sym is)) k.best w.best (sym best) kept.1,
)

kept_case : (ok placed : Bool) (slot : ℕ) (k w : Kept) → IsKept k → is_placed k.places slot ≡ placed → w.places ≡ cond (ok && not placed) (k.places ++ (slot, None) ∷ []) k.places → w.best ≡ k.best
    → length w.places ≤ 65 → IsKept w
kept_case true true slot k w kept h is best few = kept_same k w kept is best
kept_case true false slot k w kept h is best few = (
  subst ArePlaces (sym is) (places_pushed slot k.places kept.0 h (subst (λ xs. length xs ≤ 65) is few)),
  best_moved (candidates_of k.places) (candidates_of w.places) (sym (ap candidates_of is ∙ candidates_pushed slot k.places)) k.best w.best (sym best) kept.1,
)
kept_case false true slot k w kept h is best few = kept_same k w kept is best
kept_case false false slot k w kept h is best few = kept_same k w kept is best

-- by `add`
pub kept_added : (ok : Bool) (slot : ℕ) (k w : Kept) → IsKept k → w.places ≡ cond (ok && not (is_placed k.places slot)) (k.places ++ (slot, None) ∷ []) k.places → w.best ≡ k.best
    → (length k.places ≤ 65 → length w.places ≤ 65) → IsKept w
kept_added ok slot k w kept is best few = kept_case ok (is_placed k.places slot) slot k w kept refl is best (few kept.0.few)

-- by `of`
pub kept_alone : (slot : ℕ) → IsKept (alone slot)
kept_alone slot = (place_alone slot, refl)
