-- What the selected one is among the candidates.
use Rattle.std.proofs.Common.{◌≡◌, ℕ, zero, suc, ◌<◌, ◌≤◌, Bool, true, false, not, cond, ◌||◌, inl, inr, nat_lt, List, [], ◌∷◌, filter, Some, None, Option, MatchOption, IfSome, All, Contains, slice_index_or, length, refl, sym, ◌∙◌, ap, subst, arith}
use Rattle.std.specs.List.{list_any}
use Rattle.std.proofs.lemmas.Bool.Decides.{nat_tests}
use Rattle.decision.specs.declared.candidate.Candidate.{Candidate}
use Rattle.decision.specs.Selection.{unbeaten, has_greater_degree, has_fewer_ases, has_lower_origin, has_lower_med, is_external_alone, has_lower_cost, has_lower_identifier, has_lower_address, selection, IsSelected}
use Rattle.decision.proofs.One.{Among, among_unbeaten, among_selection, before_address}

-- what stands at a place is a member
pub at_among : (cs : List Candidate) (k : ℕ) (d : Candidate) → k < length cs → Among (slice_index_or cs k d) cs
at_among [] k d h = absurd (omega arith)
at_among (c ∷ cs) zero d h = inl refl
at_among (c ∷ cs) (suc k) d h = inr (at_among cs k d (omega arith))

pub contains_among : (cs : List Candidate) (x : Candidate) → Among x cs → Contains cs x
contains_among [] x at = absurd at
contains_among (c ∷ cs) x (inl is) = (0, omega arith, is)
contains_among (c ∷ cs) x (inr at) =
    let rest : Contains cs x = contains_among cs x at in
    (suc rest.0, omega (arith, rest.1), rest.2)

any_none : (q : Candidate → Bool) (cs : List Candidate) → ((y : Candidate) → Among y cs → q y ≡ false) → list_any q cs ≡ false
any_none q [] none = refl
any_none q (c ∷ cs) none = ap (λ b. b || list_any q cs) (none c (inl refl)) ∙ any_none q cs (λ y at. none y (inr at))

kept_first : (b : Bool) (c : Candidate) (cs : List Candidate) → b ≡ true → Among c (cond b (c ∷ cs) cs)
kept_first true c cs e = inl refl
kept_first false c cs e = cc

kept_other : (b : Bool) (c x : Candidate) (cs : List Candidate) → Among x cs → Among x (cond b (c ∷ cs) cs)
kept_other true c x cs at = inr at
kept_other false c x cs at = at

filter_among : (p : Candidate → Bool) (cs : List Candidate) (x : Candidate) → Among x cs → p x ≡ true → Among x (filter p cs)
filter_among p [] x at e = absurd at
filter_among p (c ∷ cs) x (inl is) e = subst (λ y. Among y (cond (p c) (c ∷ filter p cs) (filter p cs))) is (kept_first (p c) c (filter p cs) (ap p is ∙ e))
filter_among p (c ∷ cs) x (inr at) e = kept_other (p c) c x (filter p cs) (filter_among p cs x at e)

-- a member that no member beats is left
pub unbeaten_among : (beats : Candidate → Candidate → Bool) (cs : List Candidate) (x : Candidate) → Among x cs → ((y : Candidate) → Among y cs → beats y x ≡ false) → Among x (unbeaten beats cs)
unfolding unbeaten
unbeaten_among beats cs x at none = filter_among (λ c. not (list_any (λ d. beats d c) cs)) cs x at (ap not (any_none (λ d. beats d x) cs none))

not_lt_le : (a b : ℕ) → nat_lt a b ≡ false → b ≤ a
not_lt_le a b e = grind (arith, nat_tests)

-- the selected one is among those of the fewest ASes
among_fewest : (cs : List Candidate) (x : Candidate) → Among x (before_address cs) → Among x (unbeaten has_fewer_ases (unbeaten has_greater_degree cs))
among_fewest cs x at =
    (among_unbeaten has_lower_origin _ x
    (among_unbeaten has_lower_med _ x
    (among_unbeaten is_external_alone _ x
    (among_unbeaten has_lower_cost _ x
    (among_unbeaten has_lower_identifier _ x at).0).0).0).0).0

pub among_one : (cs : List Candidate) (x : Candidate) → IsSelected cs x → Among x (selection cs)
among_one cs x is = subst (Among x) (sym is) (inl refl)

shortest_of : (cs : List Candidate) (x y : Candidate) → Among x (selection cs) → Among y cs → y.degree ≡ x.degree → x.path_length ≤ y.path_length
shortest_of cs x y at_x at_y same =
    let best : Among x cs × ((z : Candidate) → Among z cs → has_greater_degree z x ≡ false) = among_selection cs x at_x in
    let left : Among y (unbeaten has_greater_degree cs) = unbeaten_among has_greater_degree cs y at_y (λ z at. ap (λ n. nat_lt n z.degree) same ∙ best.1 z at) in
    let fewest : Among x (unbeaten has_greater_degree cs) × ((z : Candidate) → Among z (unbeaten has_greater_degree cs) → has_fewer_ases z x ≡ false) =
    among_unbeaten has_fewer_ases (unbeaten has_greater_degree cs) x (among_fewest cs x (among_unbeaten has_lower_address (before_address cs) x at_x).0) in
    not_lt_le y.path_length x.path_length (fewest.1 y left)

pub selected_member : (cs : List Candidate) (r : Option Candidate) → MatchOption r (cs ≡ []) (λ c. IsSelected cs c) → IfSome r (λ c. Contains cs c)
selected_member cs None is = tt
selected_member cs (Some x) is = contains_among cs x (among_selection cs x (among_one cs x is)).0

pub selected_preferred : (cs : List Candidate) (r : Option Candidate) → MatchOption r (cs ≡ []) (λ c. IsSelected cs c) → IfSome r (λ c. All (λ d. d.degree ≤ c.degree) cs)
selected_preferred cs None is = tt
selected_preferred cs (Some x) is = λ k d h. not_lt_le x.degree (slice_index_or cs k d).degree ((among_selection cs x (among_one cs x is)).1 (slice_index_or cs k d) (at_among cs k d h))

pub selected_shortest : (cs : List Candidate) (r : Option Candidate) → MatchOption r (cs ≡ []) (λ c. IsSelected cs c) → IfSome r (λ c. All (λ d. d.degree ≡ c.degree → c.path_length ≤ d.path_length) cs)
selected_shortest cs None is = tt
selected_shortest cs (Some x) is = λ k d h same. shortest_of cs x (slice_index_or cs k d) (among_one cs x is) (at_among cs k d h) same
