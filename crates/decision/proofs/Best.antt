-- What a step keeps is what no member beats.
use Rattle.std.proofs.Common.{◌≡◌, ℕ, Bool, true, false, not, ◌||◌, ◌&&◌, if◌then◌else◌, nat_lt, nat_le, min, max, List, [], ◌∷◌, ◌++◌, fold, filter, Option, Some, None, slice_get, unwrap_or, refl, sym, ◌∙◌, ap, arith}
use Rattle.std.specs.List.{list_all, list_any}
use Rattle.arrayvec.specs.ArrayVec.{ArrayVec}
use Rattle.std.proofs.lemmas.List.Folds.{list_all-append}
use Rattle.std.proofs.lemmas.List.Elements.{filter_agree}
use Rattle.std.proofs.lemmas.Bool.Decides.{nat_tests}
use Rattle.decision.specs.declared.candidate.Candidate.{Candidate}
use Rattle.std.proofs.Math.Path.{fun_ext}
use Rattle.decision.specs.declared.selection.Bound.{Bound}
use Rattle.decision.specs.declared.selection.Step.{Step}
use Rattle.decision.specs.declared.selection.Step.TheVariants.{FewestAses, LowestOrigin, ExternalFirst, LowestCost, LowestIdentifier, LowestAddress}
use Rattle.decision.specs.Selection.{unbeaten, has_greater_degree, has_lower_med}
use Rattle.decision.specs.Steps.{beats, key_of, greatest_of, has_rival, is_bounded_by, is_within, lower, lowest_of, passes_med}

or_turn : (a b c : Bool) → ((a || b) || c) ≡ (b || (a || c))
or_turn true true c = refl
or_turn true false c = refl
or_turn false true c = refl
or_turn false false c = refl

min_below : (k m n : ℕ) → (nat_lt m k || nat_lt n k) ≡ nat_lt (min m n) k
min_below k m n = grind (arith, nat_tests)

max_above : (k m n : ℕ) → (nat_lt k m || nat_lt k n) ≡ nat_lt k (max m n)
max_above k m n = grind (arith, nat_tests)

le_not_lt : (m n : ℕ) → nat_le m n ≡ not (nat_lt n m)
le_not_lt m n = grind (arith, nat_tests)

-- a number below k stands among them or is m, if the least of all is below k
any_below : (key : Candidate → ℕ) (k m : ℕ) (cs : List Candidate) → (list_any (λ d. nat_lt (key d) k) cs || nat_lt m k) ≡ nat_lt (fold (λ lowest d. min (key d) lowest) m cs) k
any_below key k m [] = refl
any_below key k m (c ∷ cs) =
    or_turn (nat_lt (key c) k) (list_any (λ d. nat_lt (key d) k) cs) (nat_lt m k)
    ∙ ap (λ b. list_any (λ d. nat_lt (key d) k) cs || b) (min_below k (key c) m)
    ∙ any_below key k (min (key c) m) cs

-- a degree above k stands among them, or m is above k, if the greatest of all is above k
any_above : (k m : ℕ) (cs : List Candidate) → (list_any (λ d. nat_lt k d.degree) cs || nat_lt k m) ≡ nat_lt k (fold (λ greatest d. max d.degree greatest) m cs)
any_above k m [] = refl
any_above k m (c ∷ cs) =
    or_turn (nat_lt k c.degree) (list_any (λ d. nat_lt k d.degree) cs) (nat_lt k m)
    ∙ ap (λ b. list_any (λ d. nat_lt k d.degree) cs || b) (max_above k c.degree m)
    ∙ any_above k (max c.degree m) cs

or_comm : (a b : Bool) → (a || b) ≡ (b || a)
or_comm true true = refl
or_comm true false = refl
or_comm false true = refl
or_comm false false = refl

none_below_zero : (n : ℕ) → nat_lt n 0 ≡ false
none_below_zero n = grind (arith, nat_tests)

or_false : (a : Bool) → a ≡ (a || false)
or_false true = refl
or_false false = refl

-- the candidates of the lowest number are those that none has a lower one than
lowest_unbeaten : (key : Candidate → ℕ) (c : Candidate) (cs : List Candidate) →
    filter (λ x. nat_le (key x) (fold (λ lowest d. min (key d) lowest) (key c) cs)) (c ∷ cs) ≡ unbeaten (λ d x. nat_lt (key d) (key x)) (c ∷ cs)
unfolding unbeaten
lowest_unbeaten key c cs = filter_agree _ _ (λ x. le_not_lt (key x) (fold (λ lowest d. min (key d) lowest) (key c) cs) ∙ ap not (sym (or_comm (nat_lt (key c) (key x)) (list_any (λ d. nat_lt (key d) (key x)) cs) ∙ any_below key (key x) (key c) cs))) (c ∷ cs)

-- the candidates of the greatest degree are those that none has a greater one than
greatest_unbeaten : (cs : List Candidate) → filter (λ x. nat_le (greatest_of cs) x.degree) cs ≡ unbeaten has_greater_degree cs
unfolding unbeaten
greatest_unbeaten cs = filter_agree _ _ (λ x. le_not_lt (greatest_of cs) x.degree ∙ ap not (sym (or_false (list_any (λ d. nat_lt x.degree d.degree) cs) ∙ ap (λ b. list_any (λ d. nat_lt x.degree d.degree) cs || b) (sym (none_below_zero x.degree)) ∙ any_above x.degree 0 cs))) cs

none_unbeaten : (beats : Candidate → Candidate → Bool) → [] ≡ unbeaten beats []
unfolding unbeaten
none_unbeaten beats = refl

external_lower : (a b : Bool) → nat_lt (if a then 0 else 1) (if b then 0 else 1) ≡ (a && not b)
external_lower true true = refl
external_lower true false = refl
external_lower false true = refl
external_lower false false = refl

-- what a step compares is its number
pub beats-key : (step : Step) → (λ d x. nat_lt (key_of step d) (key_of step x)) ≡ beats step
beats-key FewestAses = refl
beats-key LowestOrigin = refl
beats-key ExternalFirst = fun_ext (λ d. fun_ext (λ x. external_lower d.external x.external))
beats-key LowestCost = refl
beats-key LowestIdentifier = refl
beats-key LowestAddress = refl

fold_some : (key : Candidate → ℕ) (m : ℕ) (cs : List Candidate) → fold (λ lowest c. Some (lower lowest (key c))) (Some m) cs ≡ Some (fold (λ lowest d. min (key d) lowest) m cs)
fold_some key m [] = refl
fold_some key m (c ∷ cs) = fold_some key (min (key c) m) cs

-- what a step keeps, where there is a lowest number and where there is none
pub step_keeps : (step : Step) (cs : List Candidate) (key : ℕ) → lowest_of (key_of step) cs ≡ Some key →
    filter (λ x. nat_le (key_of step x) key) cs ≡ unbeaten (beats step) cs
step_keeps step [] key e = cc
step_keeps step (c ∷ cs) key e =
    let some : Some (fold (λ lowest d. min (key_of step d) lowest) (key_of step c) cs) ≡ Some key = sym (fold_some (key_of step) (key_of step c) cs) ∙ e in
    let is : fold (λ lowest d. min (key_of step d) lowest) (key_of step c) cs ≡ key = cc in
    ap (λ k. filter (λ x. nat_le (key_of step x) k) (c ∷ cs)) (sym is) ∙ lowest_unbeaten (key_of step) c cs ∙ ap (λ b. unbeaten b (c ∷ cs)) (beats-key step)

pub step_keeps_none : (step : Step) (cs : List Candidate) → lowest_of (key_of step) cs ≡ None → cs ≡ unbeaten (beats step) cs
step_keeps_none step [] e = none_unbeaten (beats step)
step_keeps_none step (c ∷ cs) e =
    let some : Some (fold (λ lowest d. min (key_of step d) lowest) (key_of step c) cs) ≡ None = sym (fold_some (key_of step) (key_of step c) cs) ∙ e in
    cc

-- candidates within one bound more
and_regroup : (a b c : Bool) → ((a && (b && true)) && c) ≡ (b && (a && c))
and_regroup true true c = refl
and_regroup true false c = refl
and_regroup false true c = refl
and_regroup false false c = refl

within_more : (degree : ℕ) (bounds : List Bound) (step : Step) (most : ℕ) (c : Candidate)
    → is_within degree (bounds ++ record { step = step; most = most } ∷ []) c ≡ (nat_le (key_of step c) most && is_within degree bounds c)
within_more degree bounds step most c =
    ap (λ b. b && nat_le degree c.degree) (list_all-append (λ (bound : Bound). nat_le (key_of bound.step c) bound.most) bounds (record { step = step; most = most } ∷ []))
    ∙ and_regroup (list_all (λ (bound : Bound). nat_le (key_of bound.step c) bound.most) bounds) (nat_le (key_of step c) most) (nat_le degree c.degree)

kept_by : (a b : Bool) (c : Candidate) (q : Candidate → Bool) (rest : List Candidate) → q c ≡ b
    → (if b && a then c ∷ filter q rest else filter q rest) ≡ filter q (if a then c ∷ rest else rest)
kept_by true true c q rest e = ap (λ x. if x then c ∷ filter q rest else filter q rest) (sym e)
kept_by true false c q rest e = ap (λ x. if x then c ∷ filter q rest else filter q rest) (sym e)
kept_by false true c q rest e = refl
kept_by false false c q rest e = refl

filter_twice : (p q : Candidate → Bool) (cs : List Candidate) → filter (λ c. q c && p c) cs ≡ filter q (filter p cs)
filter_twice p q [] = refl
filter_twice p q (c ∷ cs) =
    ap (λ (rest : List Candidate). if q c && p c then c ∷ rest else rest) (filter_twice p q cs)
    ∙ kept_by (p c) (q c) c q (filter p cs) refl

and_assoc : (a b c : Bool) → ((a && b) && c) ≡ (a && (b && c))
and_assoc true b c = refl
and_assoc false b c = refl

pub left_more : (cs : List Candidate) (degree : ℕ) (bounds : List Bound) (tied : Option (ArrayVec Bound)) (step : Step) (most : ℕ)
    → filter (λ c. is_within degree (bounds ++ record { step = step; most = most } ∷ []) c && passes_med cs degree tied c) cs
    ≡ filter (λ c. nat_le (key_of step c) most) (filter (λ c. is_within degree bounds c && passes_med cs degree tied c) cs)
left_more cs degree bounds tied step most =
    filter_agree _ _ (λ c. ap (λ b. b && passes_med cs degree tied c) (within_more degree bounds step most c)
    ∙ and_assoc (nat_le (key_of step c) most) (is_within degree bounds c) (passes_med cs degree tied c)) cs
    ∙ filter_twice (λ c. is_within degree bounds c && passes_med cs degree tied c) (λ c. nat_le (key_of step c) most) cs

-- a test that finds one of those that pass another finds one that passes both
any_head : (q : Candidate → Bool) (c : Candidate) (rest : List Candidate) (a b : Bool) → q c ≡ a → ((a && b) || list_any q rest) ≡ list_any q (if b then c ∷ rest else rest)
any_head q c rest true true e = ap (λ x. x || list_any q rest) (sym e)
any_head q c rest true false e = refl
any_head q c rest false true e = ap (λ x. x || list_any q rest) (sym e)
any_head q c rest false false e = refl

any_filter : (q p : Candidate → Bool) (cs : List Candidate) → list_any (λ d. q d && p d) cs ≡ list_any q (filter p cs)
any_filter q p [] = refl
any_filter q p (c ∷ cs) =
    ap (λ b. (q c && p c) || b) (any_filter q p cs)
    ∙ any_head q c (filter p cs) (q c) (p c) refl

med_regroup : (a n r : Bool) → (n && ((a && n) && not r)) ≡ (not r && (a && n))
med_regroup true true true = refl
med_regroup true true false = refl
med_regroup true false true = refl
med_regroup true false false = refl
med_regroup false true true = refl
med_regroup false true false = refl
med_regroup false false true = refl
med_regroup false false false = refl

and_true : (a : Bool) → a ≡ (a && true)
and_true true = refl
and_true false = refl

-- those within the bounds that none within them has a lower MED than
within_unbeaten : (degree : ℕ) (bounds : List Bound) (cs : List Candidate)
    → filter (λ c. is_within degree [] c && (is_within degree bounds c && not (has_rival cs degree bounds c))) cs
    ≡ unbeaten has_lower_med (filter (is_within degree bounds) cs)
unfolding unbeaten
within_unbeaten degree bounds cs =
    filter_agree _ _ (λ c. med_regroup (is_bounded_by bounds c) (nat_le degree c.degree) (has_rival cs degree bounds c)
    ∙ ap (λ b. not b && is_within degree bounds c) (any_filter (λ d. has_lower_med d c) (is_within degree bounds) cs)) cs
    ∙ filter_twice (is_within degree bounds) (λ c. not (list_any (λ d. has_lower_med d c) (filter (is_within degree bounds) cs))) cs

-- those of the greatest degree, where no step has been taken
pub preferred_left : (cs : List Candidate) → filter (λ c. nat_le (greatest_of cs) c.degree && true) cs ≡ unbeaten has_greater_degree cs
preferred_left cs = filter_agree _ _ (λ c. sym (and_true (nat_le (greatest_of cs) c.degree))) cs ∙ greatest_unbeaten cs

pub med_keeps : (degree : ℕ) (bounds : List Bound) (cs : List Candidate)
    → filter (λ c. is_within degree [] c && (is_within degree bounds c && not (has_rival cs degree bounds c))) cs
    ≡ unbeaten has_lower_med (filter (λ c. is_within degree bounds c && true) cs)
med_keeps degree bounds cs =
    within_unbeaten degree bounds cs
    ∙ ap (unbeaten has_lower_med) (filter_agree _ _ (λ c. and_true (is_within degree bounds c)) cs)

-- the first of candidates, as a fold finds it
first_kept : (c : Candidate) (cs : List Candidate) → fold (λ first d. Some (unwrap_or first d)) (Some c) cs ≡ Some c
first_kept c [] = refl
first_kept c (d ∷ cs) = first_kept c cs

pub fold_first : (cs : List Candidate) → fold (λ first c. Some (unwrap_or first c)) None cs ≡ slice_get cs 0
fold_first [] = refl
fold_first (c ∷ cs) = first_kept c cs
