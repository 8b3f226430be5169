-- The best candidate of a prefix's places.
use Rattle.std.proofs.Common.{◌≡◌, ℕ, Bool, true, false, cond, inl, inr, nat_eq, List, [], ◌∷◌, All, Contains, Option, Some, None, is_some, option_and_then, option_map, not, MatchOption, slice_index_or, length, refl, sym, ◌∙◌, ap, subst, arith}
use Rattle.std.specs.List.{AllByRecursion, IsDistinct, cons_option}
use Rattle.std.specs.Map.{lookup, keys_of}
use Rattle.std.proofs.lemmas.List.Kept.{AllPairs-cons}
use Rattle.decision.specs.BookContents.{AreApart, IsBestOf, Kept, candidate_of, is_placed}
use Rattle.decision.specs.KeptPlaces.{ArePlaces, IsBestAt, IsKept, candidates_of, without_slot}
use Rattle.decision.specs.Selection.{AreDistinct, DifferInRank, IsSelected}
use Rattle.decision.specs.declared.candidate.Candidate.{Candidate}
use Rattle.decision.proofs.Laws.{at_among, contains_among, among_one, selected_member}
use Rattle.decision.proofs.One.{Among, among_selection}
use Rattle.decision.proofs.PlaceLists.{same_slot, slot_itself, other_slot, turned, placed_of_some, candidate_without, same_best}

elsewhere_head : (k : ℕ) (p : ℕ × Option Candidate) (ps : List (ℕ × Option Candidate)) → AllByRecursion (λ t. nat_eq k t ≡ false) (keys_of (p ∷ ps)) → (s : ℕ) → is_some (cond (nat_eq s p.0) (Some p.1) (lookup (nat_eq s) ps)) ≡ true
    → (b : Bool) → nat_eq s p.0 ≡ b → (is_placed ps s ≡ true → nat_eq s k ≡ false) → nat_eq s k ≡ false
elsewhere_head k p ps all s at true e rest = turned s k ∙ ap (nat_eq k) (same_slot s p.0 e) ∙ all.0
elsewhere_head k p ps all s at false e rest = rest (subst (λ b. is_some (cond b (Some p.1) (lookup (nat_eq s) ps)) ≡ true) e at)

-- a slot that has a place among others
elsewhere : (k : ℕ) (ps : List (ℕ × Option Candidate)) → AllByRecursion (λ t. nat_eq k t ≡ false) (keys_of ps) → (s : ℕ) → is_placed ps s ≡ true → nat_eq s k ≡ false
elsewhere k [] all s at = cc
elsewhere k (p ∷ ps) all s at = elsewhere_head k p ps all s at (nat_eq s p.0) refl (elsewhere k ps all.1 s)

later_head : (b : Bool) (x : Option Candidate) (rest : Option (Option Candidate)) (c : Candidate) → b ≡ false → option_and_then (λ d. d) rest ≡ Some c → option_and_then (λ d. d) (cond b (Some x) rest) ≡ Some c
later_head true x rest c fails e = cc
later_head false x rest c fails e = e

-- what a slot has behind the first place it has
later : (p : ℕ × Option Candidate) (ps : List (ℕ × Option Candidate)) → AllByRecursion (λ t. nat_eq p.0 t ≡ false) (keys_of ps) → (s : ℕ) (c : Candidate) → candidate_of ps s ≡ Some c → candidate_of (p ∷ ps) s ≡ Some c
later p ps all s c e = later_head (nat_eq s p.0) p.1 (lookup (nat_eq s) ps) c (elsewhere p.0 ps all s (placed_of_some (lookup (nat_eq s) ps) c e)) e

at_first : (b : Bool) (x : Option Candidate) (rest : Option (Option Candidate)) (c : Candidate) → b ≡ true → x ≡ Some c → option_and_then (λ d. d) (cond b (Some x) rest) ≡ Some c
at_first true x rest c holds e = e
at_first false x rest c fails e = cc

first_here : (p : ℕ × Option Candidate) (ps : List (ℕ × Option Candidate)) (c : Candidate) → p.1 ≡ Some c → candidate_of (p ∷ ps) p.0 ≡ Some c
first_here p ps c e = at_first (nat_eq p.0 p.0) p.1 (lookup (nat_eq p.0) ps) c (slot_itself p.0) e

-- each candidate is a slot's
abbrev IsOffered : List (ℕ × Option Candidate) → Candidate → Type 0
IsOffered ps c = (s : ℕ) × (candidate_of ps s ≡ Some c)

offered_head : (p : ℕ × Option Candidate) (ps : List (ℕ × Option Candidate)) → AllByRecursion (λ t. nat_eq p.0 t ≡ false) (keys_of ps) → (c : Candidate) (o : Option Candidate) → p.1 ≡ o
    → (Among c (candidates_of ps) → IsOffered ps c) → Among c (cons_option o (candidates_of ps)) → IsOffered (p ∷ ps) c
offered_head p ps all c None e rest at = let there = rest at in (there.0, later p ps all there.0 c there.1)
offered_head p ps all c (Some d) e rest (inl is) = (p.0, first_here p ps c (e ∙ ap Some is))
offered_head p ps all c (Some d) e rest (inr at) = let there = rest at in (there.0, later p ps all there.0 c there.1)

offered : (ps : List (ℕ × Option Candidate)) → IsDistinct nat_eq (keys_of ps) → (c : Candidate) → Among c (candidates_of ps) → IsOffered ps c
unfolding IsDistinct
offered [] distinct c at = absurd at
offered (p ∷ ps) distinct c at = offered_head p ps distinct.0 c p.1 refl (offered ps distinct.1 c) at

-- each slot's candidate is among them
among_later : (o : Option Candidate) (cs : List Candidate) (c : Candidate) → Among c cs → Among c (cons_option o cs)
among_later None cs c at = at
among_later (Some d) cs c at = inr at

among_here : (o : Option Candidate) (cs : List Candidate) (c : Candidate) → o ≡ Some c → Among c (cons_option o cs)
among_here None cs c e = cc
among_here (Some d) cs c e = inl cc

among_head : (p : ℕ × Option Candidate) (ps : List (ℕ × Option Candidate)) (s : ℕ) (c : Candidate) (b : Bool) → (candidate_of ps s ≡ Some c → Among c (candidates_of ps))
    → option_and_then (λ d. d) (cond b (Some p.1) (lookup (nat_eq s) ps)) ≡ Some c → Among c (cons_option p.1 (candidates_of ps))
among_head p ps s c true rest e = among_here p.1 (candidates_of ps) c e
among_head p ps s c false rest e = among_later p.1 (candidates_of ps) c (rest e)

pub among_candidates : (ps : List (ℕ × Option Candidate)) (s : ℕ) (c : Candidate) → candidate_of ps s ≡ Some c → Among c (candidates_of ps)
among_candidates [] s c e = cc
among_candidates (p ∷ ps) s c e = among_head p ps s c (nat_eq s p.0) (among_candidates ps s c) e

-- candidates of which no two agree are distinct
all_among : (P : Candidate → Type 0) (cs : List Candidate) → ((x : Candidate) → Among x cs → P x) → All P cs
all_among P cs each = λ k d h. each (slice_index_or cs k d) (at_among cs k d h)

distinct_head : (p : ℕ × Option Candidate) (ps : List (ℕ × Option Candidate)) → IsDistinct nat_eq (keys_of (p ∷ ps)) → AreApart (candidate_of (p ∷ ps)) → (o : Option Candidate) → p.1 ≡ o
    → AreDistinct (candidates_of ps) → AreDistinct (cons_option o (candidates_of ps))
unfolding IsDistinct
distinct_head p ps distinct apart None e rest = rest
distinct_head p ps distinct apart (Some c) e rest =
    AllPairs-cons DifferInRank c (candidates_of ps)
    (all_among (DifferInRank c) (candidates_of ps) (λ x at.
    let there = offered ps distinct.1 x at in
    let away : nat_eq there.0 p.0 ≡ false = elsewhere p.0 ps distinct.0 there.0 (placed_of_some (lookup (nat_eq there.0) ps) x there.1) in
    apart p.0 there.0 c x (λ is. other_slot there.0 p.0 away (sym is)) (first_here p ps c e) (later p ps distinct.0 there.0 x there.1)))
    rest

distinct_candidates : (ps : List (ℕ × Option Candidate)) → IsDistinct nat_eq (keys_of ps) → AreApart (candidate_of ps) → AreDistinct (candidates_of ps)
unfolding IsDistinct
distinct_candidates [] distinct apart = λ i j d low high. absurd (omega arith)
distinct_candidates (p ∷ ps) distinct apart =
    distinct_head p ps distinct apart p.1 refl
    (distinct_candidates ps distinct.1 (λ s t c d ne is also. apart s t c d ne (later p ps distinct.0 s c is) (later p ps distinct.0 t d also)))

pub distinct_places : (ps : List (ℕ × Option Candidate)) → ArePlaces ps → AreDistinct (candidates_of ps)
distinct_places ps are = distinct_candidates ps are.distinct are.apart

own_place : (ps : List (ℕ × Option Candidate)) → ArePlaces ps → (c : Candidate) → Among c (candidates_of ps) → candidate_of ps c.slot ≡ Some c
own_place ps are c at =
    let there = offered ps are.distinct c at in
    subst (λ s. candidate_of ps s ≡ Some c) (sym (are.own there.0 c there.1)) there.1

-- the best is its own slot's
pub best_there : (ps : List (ℕ × Option Candidate)) → ArePlaces ps → (c : Candidate) → IsSelected (candidates_of ps) c → candidate_of ps c.slot ≡ Some c
best_there ps are c is = own_place ps are c (among_selection (candidates_of ps) c (among_one (candidates_of ps) c is)).0

among_contained : (cs : List Candidate) (x : Candidate) → Contains cs x → Among x cs
among_contained cs x at = subst (λ y. Among y cs) at.2 (at_among cs at.0 x at.1)

no_head : (o : Option Candidate) (cs : List Candidate) → cons_option o cs ≡ [] → (o ≡ None) × (cs ≡ [])
no_head None cs e = (refl, e)
no_head (Some c) cs e = cc

none_head : (b : Bool) (x : Option Candidate) (rest : Option (Option Candidate)) → x ≡ None → option_and_then (λ d. d) rest ≡ None → option_and_then (λ d. d) (cond b (Some x) rest) ≡ None
none_head true x rest e h = e
none_head false x rest e h = h

none_offered : (ps : List (ℕ × Option Candidate)) → candidates_of ps ≡ [] → (s : ℕ) → candidate_of ps s ≡ None
none_offered [] e s = refl
none_offered (p ∷ ps) e s =
    let parts = no_head p.1 (candidates_of ps) e in
    none_head (nat_eq s p.0) p.1 (lookup (nat_eq s) ps) parts.0 (none_offered ps parts.1 s)

-- what is kept as the best is the best of what is offered
best_of_places : (ps : List (ℕ × Option Candidate)) → ArePlaces ps → (best : Option Candidate) → IsBestAt ps best → IsBestOf (candidate_of ps) best
best_of_places ps are None is = none_offered ps is
best_of_places ps are (Some c) is = (
  candidates_of ps,
  λ d. (λ at. own_place ps are d (among_contained (candidates_of ps) d at), λ e. contains_among (candidates_of ps) d (among_candidates ps d.slot d e)),
  is,
)

pub best_kept : (kept : Kept) → IsKept kept → IsBestOf (candidate_of kept.places) kept.best
best_kept kept is = best_of_places kept.places is.0 kept.best is.1

-- what the selection chooses is found at its slot
pub best_chosen : (ps : List (ℕ × Option Candidate)) → ArePlaces ps → (best : Option Candidate) → MatchOption best (candidates_of ps ≡ []) (λ c. IsSelected (candidates_of ps) c)
    → IsBestAt ps (option_and_then (candidate_of ps) (option_map (λ c. c.slot) best))
best_chosen ps are None is = is
best_chosen ps are (Some c) is = subst (IsBestAt ps) (sym (best_there ps are c is)) is

-- ---- a place without a candidate

no_place : (o : Option (Option Candidate)) → (is_some o ≡ true → ⊥) → option_and_then (λ c. c) o ≡ None
no_place None h = refl
no_place (Some c) h = absurd (h refl)

alone_there : (p : ℕ × Option Candidate) (ps : List (ℕ × Option Candidate)) (slot : ℕ) → AllByRecursion (λ t. nat_eq p.0 t ≡ false) (keys_of ps) → nat_eq slot p.0 ≡ true → candidate_of ps slot ≡ None
alone_there p ps slot all is = no_place (lookup (nat_eq slot) ps) (λ there. let away : nat_eq slot p.0 ≡ false = elsewhere p.0 ps all slot there in cc)

without_head : (slot : ℕ) (p : ℕ × Option Candidate) (ps : List (ℕ × Option Candidate)) → AllByRecursion (λ t. nat_eq p.0 t ≡ false) (keys_of ps) → (b : Bool) → nat_eq slot p.0 ≡ b
    → option_and_then (λ c. c) (cond b (Some p.1) (lookup (nat_eq slot) ps)) ≡ None → (candidate_of ps slot ≡ None → candidates_of (without_slot slot ps) ≡ candidates_of ps)
    → candidates_of (cond (not b) (p ∷ without_slot slot ps) (without_slot slot ps)) ≡ cons_option p.1 (candidates_of ps)
without_head slot p ps all true is none rest = rest (alone_there p ps slot all is) ∙ sym (ap (λ o. cons_option o (candidates_of ps)) none)
without_head slot p ps all false is none rest = ap (cons_option p.1) (rest none)

candidates_without : (slot : ℕ) (ps : List (ℕ × Option Candidate)) → IsDistinct nat_eq (keys_of ps) → candidate_of ps slot ≡ None → candidates_of (without_slot slot ps) ≡ candidates_of ps
unfolding IsDistinct
candidates_without slot [] distinct none = refl
candidates_without slot (p ∷ ps) distinct none = without_head slot p ps distinct.0 (nat_eq slot p.0) refl none (candidates_without slot ps distinct.1)

none_or : (b : Bool) (o : Option Candidate) → (b ≡ true → o ≡ None) → cond b None o ≡ o
none_or true o h = sym (h refl)
none_or false o h = refl

pub best_moved : (cs ds : List Candidate) → cs ≡ ds → (o r : Option Candidate) → o ≡ r → MatchOption o (cs ≡ []) (λ c. IsSelected cs c) → MatchOption r (ds ≡ []) (λ c. IsSelected ds c)
best_moved cs ds same o r e is = subst (λ xs. MatchOption r (xs ≡ []) (λ c. IsSelected xs c)) same (subst (λ x. MatchOption x (cs ≡ []) (λ c. IsSelected cs c)) e is)

-- the slot of the best has what it had, where the slot that goes has no candidate
pub best_left : (slot : ℕ) (ps : List (ℕ × Option Candidate)) → candidate_of ps slot ≡ None → (best : Option ℕ) → option_and_then (candidate_of (without_slot slot ps)) best ≡ option_and_then (candidate_of ps) best
best_left slot ps none best =
    same_best (without_slot slot ps) ps (λ t. candidate_without slot t ps ∙ none_or (nat_eq t slot) (candidate_of ps t) (λ e. ap (candidate_of ps) (same_slot t slot e) ∙ none)) best

-- so the best stays
pub best_stays : (slot : ℕ) (ps : List (ℕ × Option Candidate)) → ArePlaces ps → candidate_of ps slot ≡ None → (best : Option ℕ) → IsBestAt ps (option_and_then (candidate_of ps) best)
    → IsBestAt (without_slot slot ps) (option_and_then (candidate_of (without_slot slot ps)) best)
best_stays slot ps are none best is = best_moved (candidates_of ps) (candidates_of (without_slot slot ps)) (sym (candidates_without slot ps are.distinct none)) _ _ (sym (best_left slot ps none best)) is

no_best : (cs : List Candidate) (best : Option Candidate) → cs ≡ [] → MatchOption best (cs ≡ []) (λ c. IsSelected cs c) → best ≡ None
no_best cs None none is = refl
no_best cs (Some c) none is = let at : Contains cs c = selected_member cs (Some c) is in let few = ap length none in absurd (omega (arith, at.1, few))

-- no place has no best
pub best_nowhere : (kept : Kept) → IsKept kept → kept.places ≡ [] → kept.best ≡ None
best_nowhere kept is none = no_best (candidates_of kept.places) kept.best (ap candidates_of none) is.1
