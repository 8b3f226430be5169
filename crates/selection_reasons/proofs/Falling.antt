-- Where a candidate falls, and that the one that doesn't is selected.
use Rattle.std.proofs.Common.{◌+◌, get_or, take, ◌≡◌, ◌≢◌, ◌↔◌, ◌++◌, ◌<◌, ℕ, Bool, true, false, not, ◌||◌, if◌then◌else◌, List, [], ◌∷◌, Contains, Option, Some, None, append_assoc, length, refl, sym, ◌∙◌, ap, subst, inl, inr}
use Rattle.std.specs.List.{list_any}
use Rattle.std.specs.Option.{IfSome}
use Rattle.std.proofs.lemmas.List.Elements.{filter_more}
use Rattle.std.proofs.lemmas.List.Sums.{fold-append}
use Rattle.decision.specs.Selection.{AreDistinct, IsSelected, selection, unbeaten}
use Rattle.decision.specs.declared.candidate.Candidate.{Candidate}
use Rattle.decision.proofs.Laws.{at_among, contains_among, unbeaten_among}
use Rattle.decision.proofs.One.{Among, among_unbeaten, one_selected}
use Rattle.selection_reasons.specs.Reasons.{FellAt, all_steps, beats_at, fell_by, is_beaten, kept_of, left_by}
use Rattle.selection_reasons.specs.declared.step.Step.{Step}

among_in : (cs : List Candidate) (x : Candidate) → Contains cs x → Among x cs
among_in cs x at = subst (λ y. Among y cs) at.2 (at_among cs at.0 x at.1)

-- none of those left beats it
none_beats : (q : Candidate → Bool) (cs : List Candidate) → list_any q cs ≡ false → (y : Candidate) → Among y cs → q y ≡ false
none_beats q [] none y at = absurd at
none_beats q (c ∷ cs) none y (inl is) = ap q (sym is) ∙ first (q c) (list_any q cs) none
  where
    first : (a b : Bool) → (a || b) ≡ false → a ≡ false
    first true b e = cc
    first false b e = refl
none_beats q (c ∷ cs) none y (inr at) = none_beats q cs (rest (q c) (list_any q cs) none) y at
  where
    rest : (a b : Bool) → (a || b) ≡ false → b ≡ false
    rest true b e = cc
    rest false b e = e

any_beats : (q : Candidate → Bool) (cs : List Candidate) → ((y : Candidate) → Among y cs → q y ≡ false) → list_any q cs ≡ false
any_beats q [] none = refl
any_beats q (c ∷ cs) none = both (q c) (list_any q cs) (none c (inl refl)) (any_beats q cs (λ y at. none y (inr at)))
  where
    both : (a b : Bool) → a ≡ false → b ≡ false → (a || b) ≡ false
    both true b e f = cc
    both false b e f = f

-- what a step doesn't beat it leaves
stays : (step : Step) (left : List Candidate) (c : Candidate) → Among c left → is_beaten step left c ≡ false → Among c (unbeaten (beats_at step) left)
stays step left c at none = unbeaten_among (beats_at step) left c at (none_beats (λ d. beats_at step d c) left none)

-- what it leaves it doesn't beat
left_unbeaten : (step : Step) (left : List Candidate) (c : Candidate) → Among c (unbeaten (beats_at step) left) → is_beaten step left c ≡ false
left_unbeaten step left c at = any_beats (λ d. beats_at step d c) left (among_unbeaten (beats_at step) left c at).1

-- what steps leave was there
was_there : (steps : List Step) (left : List Candidate) (c : Candidate) → Among c (left_by steps left) → Among c left
was_there [] left c at = at
was_there (step ∷ steps) left c at = (among_unbeaten (beats_at step) left c (was_there steps (unbeaten (beats_at step) left) c at)).0

-- one that falls nowhere is left, and one that is left fell nowhere
is_left : (steps : List Step) (left : List Candidate) (c : Candidate) → Among c left → fell_by steps left c ≡ None → Among c (left_by steps left)
is_left [] left c at nowhere = at
is_left (step ∷ steps) left c at nowhere = by (is_beaten step left c) refl (λ is rest. is_left steps (unbeaten (beats_at step) left) c (stays step left c at is) rest) nowhere
  where
    by : (b : Bool) → is_beaten step left c ≡ b
        → (is_beaten step left c ≡ false → fell_by steps (unbeaten (beats_at step) left) c ≡ None → Among c (left_by steps (unbeaten (beats_at step) left)))
        → (if b then Some step else fell_by steps (unbeaten (beats_at step) left) c) ≡ None → Among c (left_by steps (unbeaten (beats_at step) left))
    by true is later nowhere = cc
    by false is later nowhere = later is nowhere

fell_nowhere : (steps : List Step) (left : List Candidate) (c : Candidate) → Among c (left_by steps left) → fell_by steps left c ≡ None
fell_nowhere [] left c at = refl
fell_nowhere (step ∷ steps) left c at =
    ap (λ b. if b then Some step else fell_by steps (unbeaten (beats_at step) left) c) (left_unbeaten step left c (was_there steps (unbeaten (beats_at step) left) c at))
    ∙ fell_nowhere steps (unbeaten (beats_at step) left) c at

-- where it falls it was left before, and is beaten
record FellOf (done steps : List Step) (cs : List Candidate) (c : Candidate) (step : Step) : Type 0 where
  before : List Step
  behind : List Step
  order : done ++ steps ≡ before ++ step ∷ behind
  left : Among c (left_by before cs)
  beaten : is_beaten step (left_by before cs) c ≡ true

fell_of : (done steps : List Step) (cs : List Candidate) (c : Candidate) → Among c (left_by done cs) → (found : Option Step) → fell_by steps (left_by done cs) c ≡ found → IfSome found (λ step. FellOf done steps cs c step)
fell_of done steps cs c at None is = tt
fell_of done [] cs c at (Some found) is = cc
fell_of done (step ∷ steps) cs c at (Some found) is =
    by (is_beaten step (left_by done cs) c) refl
    (λ none rest. fell_of (done ++ step ∷ []) steps cs c (there none) (Some found) (ap (λ l. fell_by steps l c) more ∙ rest)) is
  where
    more : left_by (done ++ step ∷ []) cs ≡ unbeaten (beats_at step) (left_by done cs)
    more = fold-append (λ left s. unbeaten (beats_at s) left) cs done (step ∷ [])

    there : is_beaten step (left_by done cs) c ≡ false → Among c (left_by (done ++ step ∷ []) cs)
    there none = subst (λ l. Among c l) (sym more) (stays step (left_by done cs) c at none)

    on : FellOf (done ++ step ∷ []) steps cs c found → FellOf done (step ∷ steps) cs c found
    on fell = record { before = fell.before; behind = fell.behind; order = sym (append_assoc done (step ∷ []) steps) ∙ fell.order; left = fell.left; beaten = fell.beaten }

    by : (b : Bool) → is_beaten step (left_by done cs) c ≡ b
        → (is_beaten step (left_by done cs) c ≡ false → fell_by steps (unbeaten (beats_at step) (left_by done cs)) c ≡ Some found → FellOf (done ++ step ∷ []) steps cs c found)
        → (if b then Some step else fell_by steps (unbeaten (beats_at step) (left_by done cs)) c) ≡ Some found → FellOf done (step ∷ steps) cs c found
    by true beaten later same =
        let one : step ≡ found = cc in
        subst (λ s. FellOf done (step ∷ steps) cs c s) one (record { before = done; behind = steps; order = refl; left = at; beaten = beaten })
    by false none later same = on (later none same)

pub fell_is : (cs : List Candidate) (c : Candidate) (found : Option Step) → found ≡ fell_by all_steps cs c → Contains cs c → IfSome found (λ step. FellAt cs c step)
fell_is cs c None is at = tt
fell_is cs c (Some step) is at =
    let fell = fell_of [] all_steps cs c (among_in cs c at) (Some step) (sym is) in
    record { before = fell.before; behind = fell.behind; order = fell.order; left = contains_among (left_by fell.before cs) c fell.left; beaten = fell.beaten }

has_one : (cs : List Candidate) (c : Candidate) → Among c cs → cs ≢ []
has_one cs c at same = subst (λ l. Among c l) same at

only : (c d : Candidate) → Among c (d ∷ []) → d ≡ c
only c d (inl is) = is
only c d (inr at) = absurd at

-- of distinct ones, the one that falls nowhere is selected, and no other one
pub best_is : (cs : List Candidate) (c : Candidate) (found : Option Step) → found ≡ fell_by all_steps cs c → Contains cs c → AreDistinct cs → (found ≡ None) ↔ IsSelected cs c
best_is cs c found is at distinct = (
  λ nowhere.
      let best = one_selected cs (has_one cs c (among_in cs c at)) distinct in
      let left : Among c (selection cs) = is_left all_steps cs c (among_in cs c at) (sym is ∙ nowhere) in
      let same = only c best.0 (subst (λ l. Among c l) best.1 left) in
      subst (λ d. IsSelected cs d) same best.1,
  λ selected. is ∙ fell_nowhere all_steps cs c (subst (λ l. Among c l) (sym selected) (inl refl)),
)

-- ---- what a step keeps, one candidate after another

pub kept_more : (step : Step) (left cs : List Candidate) (i : ℕ) (d : Candidate) → i < length cs
    → kept_of step left (take (i + 1) cs) ≡ kept_of step left (take i cs) ++ (if not (is_beaten step left (get_or cs i d)) then get_or cs i d ∷ [] else [])
kept_more step left cs i d within = filter_more (λ c. not (is_beaten step left c)) cs i d within

pub kept_all : (step : Step) (left : List Candidate) → kept_of step left left ≡ unbeaten (beats_at step) left
unfolding unbeaten
kept_all step left = refl
