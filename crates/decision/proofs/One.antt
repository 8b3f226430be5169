-- Of distinct candidates the selection leaves one.
use Rattle.std.proofs.Common.{◌≡◌, ◌≢◌, ℕ, ◌<◌, ◌≤◌, Bool, true, false, not, cond, ◌||◌, ◌&&◌, ◌==◌, ◌⊎◌, inl, inr, nat_lt, List, [], ◌∷◌, filter, Option, MatchOption, slice_get, length, refl, sym, ◌∙◌, ap, subst, arith}
use Rattle.std.specs.List.{list_any}
use Rattle.std.proofs.lemmas.Bool.Decides.{nat_tests}
use Rattle.std.proofs.lemmas.List.Kept.{AllPairs-filter}
use Rattle.decision.specs.declared.candidate.Candidate.{Candidate}
use Rattle.decision.specs.declared.selection.Step.{Step}
use Rattle.decision.specs.declared.selection.Step.TheVariants.{FewestAses, LowestOrigin, ExternalFirst, LowestCost, LowestIdentifier, LowestAddress}
use Rattle.decision.specs.Selection.{unbeaten, has_greater_degree, has_fewer_ases, has_lower_origin, med_of, has_lower_med, is_external_alone, has_lower_cost, has_lower_identifier, has_lower_address, selection, IsSelected, AreDistinct, DifferInRank}
use Rattle.decision.specs.Steps.{beats, key_of}
use Rattle.decision.proofs.Best.{beats-key}

-- x is a member
abbrev pub Among : Candidate → List Candidate → Type 0
Among x [] = ⊥
Among x (c ∷ cs) = (c ≡ x) ⊎ Among x cs

or_false : (a b : Bool) → (a || b) ≡ false → (a ≡ false) × (b ≡ false)
or_false true b e = cc
or_false false b e = (refl, e)

none_passes : (q : Candidate → Bool) (cs : List Candidate) (y : Candidate) → list_any q cs ≡ false → Among y cs → q y ≡ false
none_passes q [] y e at = absurd at
none_passes q (c ∷ cs) y e (inl is) = ap q (sym is) ∙ (or_false (q c) (list_any q cs) e).0
none_passes q (c ∷ cs) y e (inr at) = none_passes q cs y (or_false (q c) (list_any q cs) e).1 at

kept_head : (p : Candidate → Bool) (c : Candidate) (cs : List Candidate) (x : Candidate) (b : Bool) → p c ≡ b →
    (Among x (filter p cs) → Among x cs × (p x ≡ true)) → Among x (cond b (c ∷ filter p cs) (filter p cs)) → Among x (c ∷ cs) × (p x ≡ true)
kept_head p c cs x true e rest (inl is) = (inl is, ap p (sym is) ∙ e)
kept_head p c cs x true e rest (inr at) = (inr (rest at).0, (rest at).1)
kept_head p c cs x false e rest at = (inr (rest at).0, (rest at).1)

among_filter : (p : Candidate → Bool) (cs : List Candidate) (x : Candidate) → Among x (filter p cs) → Among x cs × (p x ≡ true)
among_filter p [] x at = absurd at
among_filter p (c ∷ cs) x at = kept_head p c cs x (p c) refl (among_filter p cs x) at

not_true : (b : Bool) → not b ≡ true → b ≡ false
not_true true e = cc
not_true false e = refl

-- what is left is a member, and no member beats it
pub among_unbeaten : (beats : Candidate → Candidate → Bool) (cs : List Candidate) (x : Candidate) → Among x (unbeaten beats cs) → Among x cs × ((y : Candidate) → Among y cs → beats y x ≡ false)
unfolding unbeaten
among_unbeaten beats cs x at =
    let kept : Among x cs × (not (list_any (λ d. beats d x) cs) ≡ true) = among_filter (λ c. not (list_any (λ d. beats d c) cs)) cs x at in
    (kept.0, λ y among. none_passes (λ d. beats d x) cs y (not_true (list_any (λ d. beats d x) cs) kept.1) among)

-- none beats itself, and what beats the one that beats another beats that one
pub record IsStrict (beats : Candidate → Candidate → Bool) : Type 0 where
  irreflexive : (c : Candidate) → beats c c ≡ false
  transitive : (a b c : Candidate) → beats a b ≡ true → beats b c ≡ true → beats a c ≡ true

below_below : (a b c : ℕ) → nat_lt a b ≡ true → nat_lt b c ≡ true → nat_lt a c ≡ true
below_below a b c e f = grind (arith, nat_tests)

not_below : (a : ℕ) → nat_lt a a ≡ false
not_below a = grind (arith, nat_tests)

strict_lower : (key : Candidate → ℕ) → IsStrict (λ d x. nat_lt (key d) (key x))
strict_lower key = record { irreflexive = λ c. not_below (key c); transitive = λ a b c. below_below (key a) (key b) (key c) }

strict_greater : IsStrict has_greater_degree
strict_greater = record { irreflexive = λ c. not_below c.degree; transitive = λ a b c e f. below_below c.degree b.degree a.degree f e }

strict_step : (step : Step) → IsStrict (beats step)
strict_step step = subst IsStrict (beats-key step) (strict_lower (key_of step))

both_hold : (a b : Bool) → (a && b) ≡ true → (a ≡ true) × (b ≡ true)
both_hold true b e = (refl, e)
both_hold false b e = cc

both_true : (a b : Bool) → a ≡ true → b ≡ true → (a && b) ≡ true
both_true true b e f = f
both_true false b e f = cc

same_same : (a b c : ℕ) → (a == b) ≡ true → (b == c) ≡ true → (a == c) ≡ true
same_same a b c e f = grind (arith, nat_tests)

and_false : (a b : Bool) → b ≡ false → (a && b) ≡ false
and_false true b e = e
and_false false b e = refl

strict_med : IsStrict has_lower_med
strict_med = record {
  irreflexive = λ c. and_false (c.neighbor.0 == c.neighbor.0) (nat_lt (med_of c) (med_of c)) (not_below (med_of c));
  transitive = λ a b c e f.
      let one = both_hold (a.neighbor.0 == b.neighbor.0) (nat_lt (med_of a) (med_of b)) e in
      let other = both_hold (b.neighbor.0 == c.neighbor.0) (nat_lt (med_of b) (med_of c)) f in
      both_true (a.neighbor.0 == c.neighbor.0) (nat_lt (med_of a) (med_of c)) (same_same a.neighbor.0 b.neighbor.0 c.neighbor.0 one.0 other.0) (below_below (med_of a) (med_of b) (med_of c) one.1 other.1);
}

beats_none : (beats : Candidate → Candidate → Bool) → IsStrict beats → (c x : Candidate) → beats c x ≡ true → (y : Candidate) (b : Bool) → beats y c ≡ b → beats y x ≡ false → b ≡ false
beats_none beats s c x e y false is free = refl
beats_none beats s c x e y true is free = let beaten : beats y x ≡ true = s.transitive y c x is e in cc

-- what beats one that none beats is beaten by none
none_above : (beats : Candidate → Candidate → Bool) → IsStrict beats → (c x : Candidate) → beats c x ≡ true → (ys : List Candidate) → list_any (λ y. beats y x) ys ≡ false → list_any (λ y. beats y c) ys ≡ false
none_above beats s c x e [] free = refl
none_above beats s c x e (y ∷ ys) free =
    let parts : (beats y x ≡ false) × (list_any (λ z. beats z x) ys ≡ false) = or_false (beats y x) (list_any (λ z. beats z x) ys) free in
    let first : beats y c ≡ false = beats_none beats s c x e y (beats y c) refl parts.0 in
    let others : list_any (λ z. beats z c) ys ≡ false = none_above beats s c x e ys parts.1 in
    ap (λ b. b || list_any (λ z. beats z c) ys) first ∙ others

-- one of the members that none beats
abbrev Unbeaten : (Candidate → Candidate → Bool) → List Candidate → Type 0
Unbeaten beats cs = (x : Candidate) × Among x cs × (list_any (λ d. beats d x) cs ≡ false)

unbeaten_more : (beats : Candidate → Candidate → Bool) → IsStrict beats → (c : Candidate) (cs : List Candidate) (x : Candidate) → Among x cs → list_any (λ d. beats d x) cs ≡ false → (b : Bool) → beats c x ≡ b → Unbeaten beats (c ∷ cs)
unbeaten_more beats s c cs x at free true e =
    (c, inl refl, ap (λ b. b || list_any (λ d. beats d c) cs) (s.irreflexive c) ∙ none_above beats s c x e cs free)
unbeaten_more beats s c cs x at free false e = (x, inr at, ap (λ b. b || list_any (λ d. beats d x) cs) e ∙ free)

unbeaten_one : (beats : Candidate → Candidate → Bool) → IsStrict beats → (c : Candidate) (cs : List Candidate) → Unbeaten beats (c ∷ cs)
unbeaten_one beats s c [] = (c, inl refl, ap (λ b. b || false) (s.irreflexive c))
unbeaten_one beats s c (d ∷ ds) =
    let rest : Unbeaten beats (d ∷ ds) = unbeaten_one beats s d ds in
    unbeaten_more beats s c (d ∷ ds) rest.0 rest.1 rest.2 (beats c rest.0) refl

kept_here : (b : Bool) (c : Candidate) (xs ys : List Candidate) → b ≡ true → cond b (c ∷ xs) ys ≢ []
kept_here true c xs ys e f = cc
kept_here false c xs ys e f = cc

kept_later : (b : Bool) (c : Candidate) (xs : List Candidate) → xs ≢ [] → cond b (c ∷ xs) xs ≢ []
kept_later true c xs some f = cc
kept_later false c xs some f = some f

filter_some : (p : Candidate → Bool) (cs : List Candidate) (x : Candidate) → Among x cs → p x ≡ true → filter p cs ≢ []
filter_some p [] x at e = absurd at
filter_some p (c ∷ cs) x (inl is) e = kept_here (p c) c (filter p cs) (filter p cs) (ap p is ∙ e)
filter_some p (c ∷ cs) x (inr at) e = kept_later (p c) c (filter p cs) (filter_some p cs x at e)

-- a step leaves one of its candidates
some_unbeaten : (beats : Candidate → Candidate → Bool) → IsStrict beats → (cs : List Candidate) → cs ≢ [] → unbeaten beats cs ≢ []
unfolding unbeaten
some_unbeaten beats s [] some = absurd (some refl)
some_unbeaten beats s (c ∷ cs) some =
    let one : Unbeaten beats (c ∷ cs) = unbeaten_one beats s c cs in
    filter_some (λ x. not (list_any (λ d. beats d x) (c ∷ cs))) (c ∷ cs) one.0 one.1 (ap not one.2)

distinct_unbeaten : (beats : Candidate → Candidate → Bool) (cs : List Candidate) → AreDistinct cs → AreDistinct (unbeaten beats cs)
unfolding unbeaten
distinct_unbeaten beats cs distinct = AllPairs-filter DifferInRank (λ c. not (list_any (λ d. beats d c) cs)) cs distinct

-- what all steps but the last leave
abbrev pub before_address : List Candidate → List Candidate
before_address cs = unbeaten has_lower_identifier (unbeaten has_lower_cost (unbeaten is_external_alone (unbeaten has_lower_med (unbeaten has_lower_origin (unbeaten has_fewer_ases (unbeaten has_greater_degree cs))))))

selection_some : (cs : List Candidate) → cs ≢ [] → selection cs ≢ []
selection_some cs some =
    some_unbeaten has_lower_address (strict_step LowestAddress) (before_address cs)
    (some_unbeaten has_lower_identifier (strict_step LowestIdentifier) _
    (some_unbeaten has_lower_cost (strict_step LowestCost) _
    (some_unbeaten is_external_alone (strict_step ExternalFirst) _
    (some_unbeaten has_lower_med strict_med _
    (some_unbeaten has_lower_origin (strict_step LowestOrigin) _
    (some_unbeaten has_fewer_ases (strict_step FewestAses) _
    (some_unbeaten has_greater_degree strict_greater cs some)))))))

distinct_selection : (cs : List Candidate) → AreDistinct cs → AreDistinct (selection cs)
distinct_selection cs distinct =
    distinct_unbeaten has_lower_address (before_address cs)
    (distinct_unbeaten has_lower_identifier _
    (distinct_unbeaten has_lower_cost _
    (distinct_unbeaten is_external_alone _
    (distinct_unbeaten has_lower_med _
    (distinct_unbeaten has_lower_origin _
    (distinct_unbeaten has_fewer_ases _
    (distinct_unbeaten has_greater_degree cs distinct)))))))

pub among_before : (cs : List Candidate) (x : Candidate) → Among x (before_address cs) → Among x (unbeaten has_greater_degree cs)
among_before cs x at =
    (among_unbeaten has_fewer_ases _ x
    (among_unbeaten has_lower_origin _ x
    (among_unbeaten has_lower_med _ x
    (among_unbeaten is_external_alone _ x
    (among_unbeaten has_lower_cost _ x
    (among_unbeaten has_lower_identifier _ x at).0).0).0).0).0).0

-- a selected one is a candidate, and none has a greater degree
pub among_selection : (cs : List Candidate) (x : Candidate) → Among x (selection cs) → Among x cs × ((y : Candidate) → Among y cs → has_greater_degree y x ≡ false)
among_selection cs x at = among_unbeaten has_greater_degree cs x (among_before cs x (among_unbeaten has_lower_address (before_address cs) x at).0)

neither_below : (a b : ℕ) → nat_lt a b ≡ false → nat_lt b a ≡ false → a ≡ b
neither_below a b e f = grind (arith, nat_tests)

same_rank : (cs : List Candidate) (x y : Candidate) → Among x (selection cs) → Among y (selection cs) → (x.degree ≡ y.degree) × (x.address ≡ y.address)
same_rank cs x y at_x at_y =
    let one : Among x cs × ((z : Candidate) → Among z cs → has_greater_degree z x ≡ false) = among_selection cs x at_x in
    let other : Among y cs × ((z : Candidate) → Among z cs → has_greater_degree z y ≡ false) = among_selection cs y at_y in
    let last_x : Among x (before_address cs) × ((z : Candidate) → Among z (before_address cs) → has_lower_address z x ≡ false) = among_unbeaten has_lower_address (before_address cs) x at_x in
    let last_y : Among y (before_address cs) × ((z : Candidate) → Among z (before_address cs) → has_lower_address z y ≡ false) = among_unbeaten has_lower_address (before_address cs) y at_y in
    (neither_below x.degree y.degree (one.1 y other.0) (other.1 x one.0), neither_below x.address y.address (last_y.1 x last_x.0) (last_x.1 y last_y.0))

no_two : (cs : List Candidate) (a b : Candidate) (ds : List Candidate) → selection cs ≡ a ∷ b ∷ ds → AreDistinct cs → ⊥
no_two cs a b ds is distinct =
    let distinct_two : AreDistinct (a ∷ b ∷ ds) = subst AreDistinct is (distinct_selection cs distinct) in
    let first : Among a (selection cs) = subst (Among a) (sym is) (inl refl) in
    let second : Among b (selection cs) = subst (Among b) (sym is) (inr (inl refl)) in
    let same : (a.degree ≡ b.degree) × (a.address ≡ b.address) = same_rank cs a b first second in
    distinct_two 0 1 a (omega arith) (omega arith) same.0 same.1

one_of : (cs l : List Candidate) → selection cs ≡ l → cs ≢ [] → AreDistinct cs → (c : Candidate) × (selection cs ≡ c ∷ [])
one_of cs [] is some distinct = absurd (selection_some cs some is)
one_of cs (a ∷ []) is some distinct = (a, is)
one_of cs (a ∷ b ∷ ds) is some distinct = absurd (no_two cs a b ds is distinct)

-- of distinct candidates the selection leaves one
pub one_selected : (cs : List Candidate) → cs ≢ [] → AreDistinct cs → (c : Candidate) × IsSelected cs c
one_selected cs some distinct = one_of cs (selection cs) refl some distinct

-- a candidate alone is selected
alone_selected : (c d : Candidate) → selection (c ∷ []) ≡ d ∷ [] → Among d (c ∷ []) → selection (c ∷ []) ≡ c ∷ []
alone_selected c d is (inl e) = is ∙ ap (λ x. x ∷ []) (sym e)
alone_selected c d is (inr at) = absurd at

pub first_selected : (cs : List Candidate) → length cs ≤ 1 → AreDistinct cs → (r : Option Candidate) → r ≡ slice_get cs 0 → MatchOption r (cs ≡ []) (λ c. IsSelected cs c)
first_selected [] few distinct r e = rw e refl
first_selected (c ∷ []) few distinct r e =
    let one : (d : Candidate) × IsSelected (c ∷ []) d = one_selected (c ∷ []) (λ is. cc) distinct in
    let at : Among one.0 (selection (c ∷ [])) = subst (Among one.0) (sym one.1) (inl refl) in
    rw e (alone_selected c one.0 one.1 (among_selection (c ∷ []) one.0 at).0)
first_selected (c ∷ d ∷ cs) few distinct r e = absurd (omega arith)

more_some : (cs : List Candidate) → 1 < length cs → cs ≢ []
more_some [] more e = absurd (omega arith)
more_some (c ∷ cs) more e = cc

-- the first of what is left is selected
pub front_selected : (cs : List Candidate) → 1 < length cs → AreDistinct cs → (r : Option Candidate) → r ≡ slice_get (selection cs) 0 → MatchOption r (cs ≡ []) (λ c. IsSelected cs c)
front_selected cs more distinct r e =
    let one : (d : Candidate) × IsSelected cs d = one_selected cs (more_some cs more) distinct in
    rw (e, one.1) refl
