-- A slot that gets a place, or leaves it.
use Rattle.std.proofs.Common.{◌≡◌, ℕ, Bool, true, false, not, cond, nat_eq, List, [], ◌∷◌, ◌++◌, Option, Some, None, option_and_then, option_map, refl, sym, ◌∙◌, ap, subst}
use Rattle.std.specs.List.{IsDistinct}
use Rattle.std.specs.Map.{keys_of, lookup}
use Rattle.decision.specs.BookContents.{AreApart, candidate_of, changed}
use Rattle.decision.specs.KeptPlaces.{ArePlaces, with_changes, without_slot}
use Rattle.decision.specs.declared.book.Change.{Change}
use Rattle.decision.specs.declared.candidate.Candidate.{Candidate}
use Rattle.decision.proofs.PlaceLists.{best_added, idle_places, lookup_mapped, same_slot, slot_itself}
use Rattle.live_book.specs.NeighborBests.{AreBests, empty_place, slots_of}
use Rattle.live_book.specs.Places.{Place}
use Rattle.live_book.proofs.PlaceBests.{bests_pushed, slots_pushed}

pub added_bests : (b : Bool) (slot : ℕ) (ps new : List Place) → new ≡ cond b (ps ++ empty_place slot ∷ []) ps → AreBests ps → AreBests new
added_bests true slot ps new is bests = subst AreBests (sym is) (bests_pushed slot ps bests)
added_bests false slot ps new is bests = subst AreBests (sym is) bests

slots_added : (b : Bool) (slot : ℕ) (ps : List Place) → slots_of (cond b (ps ++ empty_place slot ∷ []) ps) ≡ cond b (slots_of ps ++ (slot, None) ∷ []) (slots_of ps)
slots_added true slot ps = slots_pushed slot ps
slots_added false slot ps = refl

-- a place more leaves the best
pub best_with_place : (b : Bool) (slot : ℕ) (ps new : List Place) (best : Option ℕ) → new ≡ cond b (ps ++ empty_place slot ∷ []) ps
    → option_and_then (candidate_of (slots_of new)) best ≡ option_and_then (candidate_of (slots_of ps)) best
best_with_place b slot ps new best is = best_added b slot (slots_of ps) (slots_of new) best (ap slots_of is ∙ slots_added b slot ps)

-- the change by which a slot's candidate goes
abbrev pub gone : ℕ → List Change
gone slot = record { slot = slot; candidate = None } ∷ []

gone_case : (b : Bool) (o : Option (Option Candidate)) (c : Candidate) → option_and_then (λ d. d) (option_map (λ (d : Option Candidate). cond b None d) o) ≡ Some c → option_and_then (λ d. d) o ≡ Some c
gone_case true None c e = cc
gone_case true (Some d) c e = cc
gone_case false None c e = cc
gone_case false (Some d) c e = e

gone_some : (slot s : ℕ) (ps : List (ℕ × Option Candidate)) (c : Candidate) → candidate_of (with_changes (gone slot) ps) s ≡ Some c → candidate_of ps s ≡ Some c
gone_some slot s ps c e = gone_case (nat_eq slot s) (lookup (nat_eq s) ps) c (sym (ap (option_and_then (λ d. d)) (lookup_mapped (changed (gone slot)) s ps)) ∙ e)

pub gone_apart : (slot : ℕ) (ps : List (ℕ × Option Candidate)) → ArePlaces ps → AreApart (candidate_of (with_changes (gone slot) ps))
gone_apart slot ps are s t c d ne is also = are.apart s t c d ne (gone_some slot s ps c is) (gone_some slot t ps d also)

none_case : (b : Bool) (o : Option (Option Candidate)) → b ≡ true → option_and_then (λ d. d) (option_map (λ (d : Option Candidate). cond b None d) o) ≡ None
none_case true None e = refl
none_case true (Some d) e = refl
none_case false o e = cc

pub gone_none : (slot : ℕ) (ps : List (ℕ × Option Candidate)) → candidate_of (with_changes (gone slot) ps) slot ≡ None
gone_none slot ps = ap (option_and_then (λ d. d)) (lookup_mapped (changed (gone slot)) slot ps) ∙ none_case (nat_eq slot slot) (lookup (nat_eq slot) ps) (slot_itself slot)

without_case : (b : Bool) (p : ℕ × Option Candidate) (more rest : List (ℕ × Option Candidate)) → more ≡ rest → cond (not b) ((p.0, cond b None p.1) ∷ more) more ≡ cond (not b) (p ∷ rest) rest
without_case true p more rest e = e
without_case false p more rest e = ap (λ (xs : List (ℕ × Option Candidate)). p ∷ xs) e

pub gone_without : (slot : ℕ) (ps : List (ℕ × Option Candidate)) → without_slot slot (with_changes (gone slot) ps) ≡ without_slot slot ps
gone_without slot [] = refl
gone_without slot (p ∷ ps) = without_case (nat_eq slot p.0) p (without_slot slot (with_changes (gone slot) ps)) (without_slot slot ps) (gone_without slot ps)

same_case : (slot s : ℕ) (ps : List (ℕ × Option Candidate)) → candidate_of ps slot ≡ None → (b : Bool) → nat_eq slot s ≡ b → cond b None (candidate_of ps s) ≡ candidate_of ps s
same_case slot s ps none true e = sym (ap (candidate_of ps) (sym (same_slot slot s e)) ∙ none)
same_case slot s ps none false e = refl

-- where there was none nothing changes
pub gone_idle : (slot : ℕ) (ps : List (ℕ × Option Candidate)) → IsDistinct nat_eq (keys_of ps) → candidate_of ps slot ≡ None → with_changes (gone slot) ps ≡ ps
gone_idle slot ps distinct none = idle_places (gone slot) ps distinct (λ s there. same_case slot s ps none (nat_eq slot s) refl)
