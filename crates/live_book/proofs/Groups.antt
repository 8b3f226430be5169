-- The best of each neighbor AS is enough.
use Rattle.std.proofs.Common.{◌≡◌, ◌≢◌, ◌↔◌, ℕ, Bool, true, false, not, cond, ◌&&◌, ◌==◌, inl, inr, nat_lt, List, [], ◌∷◌, filter, Contains, refl, sym, ◌∙◌, ap, subst, arith}
use Rattle.std.proofs.lemmas.Bool.Decides.{nat_tests}
use Rattle.std.proofs.lemmas.List.Kept.{AllPairs-filter}
use Rattle.bgp_attr.specs.PathAttributes.{origin_octet}
use Rattle.decision.specs.declared.candidate.Candidate.{Candidate}
use Rattle.decision.specs.Selection.{unbeaten, has_greater_degree, has_fewer_ases, has_lower_origin, med_of, has_lower_med, is_external_alone, has_lower_cost, has_lower_identifier, has_lower_address, selection, IsSelected, AreDistinct, DifferInRank}
use Rattle.decision.proofs.One.{Among, among_unbeaten, among_selection, before_address, one_selected}
use Rattle.decision.proofs.Laws.{at_among, contains_among, among_one, unbeaten_among}
use Rattle.live_book.specs.NeighborBests.{of_neighbor, IsBestOfNeighbor}

-- each of the ones is among the others
abbrev pub Within : List Candidate → List Candidate → Type 0
Within ds cs = (x : Candidate) → Among x ds → Among x cs

-- what isn't beaten by x, which z doesn't beat, isn't beaten by z
record IsWeak (beats : Candidate → Candidate → Bool) : Type 0 where
  through : (x y z : Candidate) → beats x y ≡ false → beats z x ≡ false → beats z y ≡ false

not_below : (a b c : ℕ) → nat_lt a b ≡ false → nat_lt c a ≡ false → nat_lt c b ≡ false
not_below a b c e f = grind (arith, nat_tests)

weak_greater : IsWeak has_greater_degree
weak_greater = record { through = λ x y z e f. not_below x.degree z.degree y.degree f e }

weak_ases : IsWeak has_fewer_ases
weak_ases = record { through = λ x y z. not_below x.path_length y.path_length z.path_length }

weak_origin : IsWeak has_lower_origin
weak_origin = record { through = λ x y z. not_below (origin_octet x.origin) (origin_octet y.origin) (origin_octet z.origin) }

external_through : (x y z : Bool) → (x && not y) ≡ false → (z && not x) ≡ false → (z && not y) ≡ false
external_through x true true e f = refl
external_through x true false e f = refl
external_through true false z e f = cc
external_through false false true e f = cc
external_through false false false e f = refl

weak_external : IsWeak is_external_alone
weak_external = record { through = λ x y z. external_through x.external y.external z.external }

weak_cost : IsWeak has_lower_cost
weak_cost = record { through = λ x y z. not_below x.cost y.cost z.cost }

weak_identifier : IsWeak has_lower_identifier
weak_identifier = record { through = λ x y z. not_below x.identifier y.identifier z.identifier }

-- what is left of more is left of fewer
stays : (beats : Candidate → Candidate → Bool) (cs ds : List Candidate) → Within ds cs → (x : Candidate) → Among x (unbeaten beats cs) → Among x ds → Among x (unbeaten beats ds)
stays beats cs ds within x at there =
    unbeaten_among beats ds x there (λ y among. (among_unbeaten beats cs x at).1 y (within y among))

-- and where one of the fewer is left of more, all that is left of these is
still_within : (beats : Candidate → Candidate → Bool) → IsWeak beats → (cs ds : List Candidate) → Within ds cs → (x : Candidate) → Among x (unbeaten beats cs) → Among x ds → Within (unbeaten beats ds) (unbeaten beats cs)
still_within beats weak cs ds within x at there y among =
    let left : Among y ds × ((z : Candidate) → Among z ds → beats z y ≡ false) = among_unbeaten beats ds y among in
    unbeaten_among beats cs y (within y left.0) (λ z member. weak.through x y z (left.1 x there) ((among_unbeaten beats cs x at).1 z member))

-- what the steps before (c) leave, and what those behind it do
abbrev pub three : List Candidate → List Candidate
three cs = unbeaten has_lower_origin (unbeaten has_fewer_ases (unbeaten has_greater_degree cs))

abbrev pub four : List Candidate → List Candidate
four cs = unbeaten has_lower_address (unbeaten has_lower_identifier (unbeaten has_lower_cost (unbeaten is_external_alone cs)))

first_of_three : (cs : List Candidate) (x : Candidate) → Among x (three cs) → Among x (unbeaten has_greater_degree cs)
first_of_three cs x at = (among_unbeaten has_fewer_ases _ x (among_unbeaten has_lower_origin _ x at).0).0

pub three_of : (cs : List Candidate) (x : Candidate) → Among x (three cs) → Among x cs
three_of cs x at = (among_unbeaten has_greater_degree cs x (first_of_three cs x at)).0

pub three_within : (cs ds : List Candidate) → Within ds cs → (x : Candidate) → Among x (three cs) → Among x ds → Within (three ds) (three cs)
three_within cs ds within x at there =
    let second : Among x (unbeaten has_fewer_ases (unbeaten has_greater_degree cs)) = (among_unbeaten has_lower_origin _ x at).0 in
    let first : Among x (unbeaten has_greater_degree cs) = (among_unbeaten has_fewer_ases _ x second).0 in
    let within_first : Within (unbeaten has_greater_degree ds) (unbeaten has_greater_degree cs) = still_within has_greater_degree weak_greater cs ds within x first there in
    let here_first : Among x (unbeaten has_greater_degree ds) = stays has_greater_degree cs ds within x first there in
    let within_second : Within (unbeaten has_fewer_ases (unbeaten has_greater_degree ds)) (unbeaten has_fewer_ases (unbeaten has_greater_degree cs)) =
    still_within has_fewer_ases weak_ases _ _ within_first x second here_first in
    let here_second : Among x (unbeaten has_fewer_ases (unbeaten has_greater_degree ds)) = stays has_fewer_ases _ _ within_first x second here_first in
    still_within has_lower_origin weak_origin _ _ within_second x at here_second

-- x is left of fewer, where z is that
pub three_here : (cs ds : List Candidate) → Within ds cs → (x : Candidate) → Among x (three cs) → Among x ds → (z : Candidate) → Among z (three cs) → Among z ds → Among z (three ds)
three_here cs ds within x at there z also member =
    let second : Among x (unbeaten has_fewer_ases (unbeaten has_greater_degree cs)) = (among_unbeaten has_lower_origin _ x at).0 in
    let first : Among x (unbeaten has_greater_degree cs) = (among_unbeaten has_fewer_ases _ x second).0 in
    let within_first : Within (unbeaten has_greater_degree ds) (unbeaten has_greater_degree cs) = still_within has_greater_degree weak_greater cs ds within x first there in
    let here_first : Among x (unbeaten has_greater_degree ds) = stays has_greater_degree cs ds within x first there in
    let within_second : Within (unbeaten has_fewer_ases (unbeaten has_greater_degree ds)) (unbeaten has_fewer_ases (unbeaten has_greater_degree cs)) =
    still_within has_fewer_ases weak_ases _ _ within_first x second here_first in
    let z_second : Among z (unbeaten has_fewer_ases (unbeaten has_greater_degree cs)) = (among_unbeaten has_lower_origin _ z also).0 in
    let z_first : Among z (unbeaten has_greater_degree cs) = (among_unbeaten has_fewer_ases _ z z_second).0 in
    let z_here_first : Among z (unbeaten has_greater_degree ds) = stays has_greater_degree cs ds within z z_first member in
    let z_here_second : Among z (unbeaten has_fewer_ases (unbeaten has_greater_degree ds)) = stays has_fewer_ases _ _ within_first z z_second z_here_first in
    stays has_lower_origin _ _ within_second z also z_here_second

four_here : (cs ds : List Candidate) → Within ds cs → (x : Candidate) → Among x (four cs) → Among x ds → Among x (four ds)
four_here cs ds within x at there =
    let third : Among x (unbeaten has_lower_identifier (unbeaten has_lower_cost (unbeaten is_external_alone cs))) = (among_unbeaten has_lower_address _ x at).0 in
    let second : Among x (unbeaten has_lower_cost (unbeaten is_external_alone cs)) = (among_unbeaten has_lower_identifier _ x third).0 in
    let first : Among x (unbeaten is_external_alone cs) = (among_unbeaten has_lower_cost _ x second).0 in
    let within_first : Within (unbeaten is_external_alone ds) (unbeaten is_external_alone cs) = still_within is_external_alone weak_external cs ds within x first there in
    let here_first : Among x (unbeaten is_external_alone ds) = stays is_external_alone cs ds within x first there in
    let within_second : Within (unbeaten has_lower_cost (unbeaten is_external_alone ds)) (unbeaten has_lower_cost (unbeaten is_external_alone cs)) =
    still_within has_lower_cost weak_cost _ _ within_first x second here_first in
    let here_second : Among x (unbeaten has_lower_cost (unbeaten is_external_alone ds)) = stays has_lower_cost _ _ within_first x second here_first in
    let within_third : Within (unbeaten has_lower_identifier (unbeaten has_lower_cost (unbeaten is_external_alone ds))) (unbeaten has_lower_identifier (unbeaten has_lower_cost (unbeaten is_external_alone cs))) =
    still_within has_lower_identifier weak_identifier _ _ within_second x third here_second in
    let here_third : Among x (unbeaten has_lower_identifier (unbeaten has_lower_cost (unbeaten is_external_alone ds))) = stays has_lower_identifier _ _ within_second x third here_second in
    stays has_lower_address _ _ within_third x at here_third

-- what (c) leaves of those that the steps before it do
abbrev pub past_med : List Candidate → List Candidate
past_med cs = unbeaten has_lower_med (three cs)

pub selected_past : (cs : List Candidate) (x : Candidate) → Among x (selection cs) → Among x (past_med cs)
selected_past cs x at =
    (among_unbeaten is_external_alone _ x
    (among_unbeaten has_lower_cost _ x
    (among_unbeaten has_lower_identifier _ x (among_unbeaten has_lower_address (before_address cs) x at).0).0).0).0

pub selected_three : (cs : List Candidate) (x : Candidate) → Among x (selection cs) → Among x (three cs)
selected_three cs x at = (among_unbeaten has_lower_med (three cs) x (selected_past cs x at)).0

-- the selected one is selected of fewer, where (c) leaves none of these that it takes from all
selected_here : (cs ds : List Candidate) → Within ds cs → (x : Candidate) → Among x (selection cs) → Among x ds
    → (Within (three ds) (three cs) → Within (past_med ds) (past_med cs)) → Among x (selection ds)
selected_here cs ds within x at there past =
    let before : Among x (three cs) = selected_three cs x at in
    let within_three : Within (three ds) (three cs) = three_within cs ds within x before there in
    let here : Among x (three ds) = three_here cs ds within x before there x before there in
    let here_past : Among x (past_med ds) = stays has_lower_med (three cs) (three ds) within_three x (selected_past cs x at) here in
    four_here (past_med cs) (past_med ds) (past within_three) x at here_past

-- ---- fewer of one neighbor AS

med_numbers : (nx ny nz mx my mz : ℕ) → ny ≡ nx → ((nx == ny) && nat_lt mx my) ≡ false → ((nz == nx) && nat_lt mz mx) ≡ false → ((nz == ny) && nat_lt mz my) ≡ false
med_numbers nx ny nz mx my mz same e f = grind (arith, nat_tests)

-- the selected one is selected of any of its neighbor AS
pub selected_of_neighbor : (cs ds : List Candidate) → Within ds cs → (x : Candidate) → Among x (selection cs) → Among x ds → ((y : Candidate) → Among y ds → y.neighbor.0 ≡ x.neighbor.0) → Among x (selection ds)
selected_of_neighbor cs ds within x at there same =
    let before : Among x (three cs) = selected_three cs x at in
    let here : Among x (three ds) = three_here cs ds within x before there x before there in
    selected_here cs ds within x at there (λ within_three y among.
    let left : Among y (three ds) × ((z : Candidate) → Among z (three ds) → has_lower_med z y ≡ false) = among_unbeaten has_lower_med (three ds) y among in
    unbeaten_among has_lower_med (three cs) y (within_three y left.0) (λ z member.
    med_numbers x.neighbor.0 y.neighbor.0 z.neighbor.0 (med_of x) (med_of y) (med_of z) (same y (three_of ds y left.0)) (left.1 x here)
    ((among_unbeaten has_lower_med (three cs) x (selected_past cs x at)).1 z member)))

-- ---- the bests of neighbor ASes

kept_head : (p : Candidate → Bool) (c : Candidate) (cs : List Candidate) (x : Candidate) (b : Bool) → p c ≡ b →
    (Among x (filter p cs) → Among x cs × (p x ≡ true)) → Among x (cond b (c ∷ filter p cs) (filter p cs)) → Among x (c ∷ cs) × (p x ≡ true)
kept_head p c cs x true e rest (inl is) = (inl is, ap p (sym is) ∙ e)
kept_head p c cs x true e rest (inr at) = (inr (rest at).0, (rest at).1)
kept_head p c cs x false e rest at = (inr (rest at).0, (rest at).1)

among_filter : (p : Candidate → Bool) (cs : List Candidate) (x : Candidate) → Among x (filter p cs) → Among x cs × (p x ≡ true)
among_filter p [] x at = absurd at
among_filter p (c ∷ cs) x at = kept_head p c cs x (p c) refl (among_filter p cs x) at

kept_first : (b : Bool) (c : Candidate) (cs : List Candidate) → b ≡ true → Among c (cond b (c ∷ cs) cs)
kept_first true c cs e = inl refl
kept_first false c cs e = cc

kept_other : (b : Bool) (c x : Candidate) (cs : List Candidate) → Among x cs → Among x (cond b (c ∷ cs) cs)
kept_other true c x cs at = inr at
kept_other false c x cs at = at

filter_among : (p : Candidate → Bool) (cs : List Candidate) (x : Candidate) → Among x cs → p x ≡ true → Among x (filter p cs)
filter_among p [] x at e = absurd at
filter_among p (c ∷ cs) x (inl is) e = subst (λ y. Among y (cond (p c) (c ∷ filter p cs) (filter p cs))) is (kept_first (p c) c (filter p cs) (ap p is ∙ e))
filter_among p (c ∷ cs) x (inr at) e = kept_other (p c) c x (filter p cs) (filter_among p cs x at e)

same_number : (m n : ℕ) → (m == n) ≡ true → m ≡ n
same_number m n e = grind (arith, nat_tests)

number_same : (m n : ℕ) → m ≡ n → (m == n) ≡ true
number_same m n e = grind (arith, nat_tests)

pub in_group : (n : ℕ) (cs : List Candidate) (x : Candidate) → Among x cs → x.neighbor.0 ≡ n → Among x (of_neighbor n cs)
in_group n cs x at same = filter_among (λ c. c.neighbor.0 == n) cs x at (number_same x.neighbor.0 n same)

pub group_within : (n : ℕ) (cs : List Candidate) → Within (of_neighbor n cs) cs
group_within n cs = λ x at. (among_filter (λ c. c.neighbor.0 == n) cs x at).0

pub group_neighbor : (n : ℕ) (cs : List Candidate) (x : Candidate) → Among x (of_neighbor n cs) → x.neighbor.0 ≡ n
group_neighbor n cs x at = same_number x.neighbor.0 n (among_filter (λ c. c.neighbor.0 == n) cs x at).1

med_case : (b m : Bool) → (b ≡ true → m ≡ false) → (b && m) ≡ false
med_case true m h = h refl
med_case false m h = refl

med_lower : (z y : Candidate) → has_lower_med z y ≡ false → z.neighbor.0 ≡ y.neighbor.0 → nat_lt (med_of z) (med_of y) ≡ false
med_lower z y e same = ap (λ b. b && nat_lt (med_of z) (med_of y)) (sym (number_same z.neighbor.0 y.neighbor.0 same)) ∙ e

-- the selected one is selected of bests of neighbor ASes
pub selected_of_bests : (cs ds : List Candidate) → Within ds cs → (x : Candidate) → Among x (selection cs) → Among x ds
    → ((y : Candidate) → Among y ds → Among y (selection (of_neighbor y.neighbor.0 cs))) → Among x (selection ds)
selected_of_bests cs ds within x at there bests =
    selected_here cs ds within x at there (λ within_three y among.
    let left : Among y (three ds) × ((z : Candidate) → Among z (three ds) → has_lower_med z y ≡ false) = among_unbeaten has_lower_med (three ds) y among in
    let group : List Candidate = of_neighbor y.neighbor.0 cs in
    let best : Among y (selection group) = bests y (three_of ds y left.0) in
    let member_y : Among y group = in_group y.neighbor.0 cs y (within y (three_of ds y left.0)) refl in
    let y_three : Among y (three cs) = within_three y left.0 in
    unbeaten_among has_lower_med (three cs) y y_three (λ z member.
    med_case (z.neighbor.0 == y.neighbor.0) (nat_lt (med_of z) (med_of y)) (λ same.
    let z_group : Among z group = in_group y.neighbor.0 cs z (three_of cs z member) (same_number z.neighbor.0 y.neighbor.0 same) in
    let z_three : Among z (three group) = three_here cs group (group_within y.neighbor.0 cs) y y_three member_y z member z_group in
    med_lower z y ((among_unbeaten has_lower_med (three group) y (selected_past group y best)).1 z z_three) (same_number z.neighbor.0 y.neighbor.0 same))))

-- ---- of distinct ones

one_among : (c d : Candidate) → Among c (d ∷ []) → c ≡ d
one_among c d (inl is) = sym is
one_among c d (inr at) = absurd at

some_among : (cs : List Candidate) (x : Candidate) → Among x cs → cs ≢ []
some_among [] x at = absurd at
some_among (c ∷ cs) x at = λ e. cc

pub selected_among : (cs : List Candidate) → AreDistinct cs → (x : Candidate) → Among x (selection cs) → IsSelected cs x
selected_among cs distinct x at =
    let one : (d : Candidate) × IsSelected cs d = one_selected cs (some_among cs x (among_selection cs x at).0) distinct in
    let same : x ≡ one.0 = one_among x one.0 (subst (Among x) one.1 at) in
    one.1 ∙ ap (λ d. d ∷ []) (sym same)

pub distinct_group : (n : ℕ) (cs : List Candidate) → AreDistinct cs → AreDistinct (of_neighbor n cs)
distinct_group n cs distinct = AllPairs-filter DifferInRank (λ c. c.neighbor.0 == n) cs distinct

-- the selected one is the best of its neighbor AS
pub selected_best : (cs : List Candidate) → AreDistinct cs → (x : Candidate) → Among x (selection cs) → IsBestOfNeighbor cs x
selected_best cs distinct x at =
    selected_among (of_neighbor x.neighbor.0 cs) (distinct_group x.neighbor.0 cs distinct) x
    (selected_of_neighbor cs (of_neighbor x.neighbor.0 cs) (group_within x.neighbor.0 cs) x at (in_group x.neighbor.0 cs x (among_selection cs x at).0 refl) (group_neighbor x.neighbor.0 cs))

among_contained : (cs : List Candidate) (x : Candidate) → Contains cs x → Among x cs
among_contained cs x at = subst (λ y. Among y cs) at.2 (at_among cs at.0 x at.1)

best_member : (cs : List Candidate) (x : Candidate) → IsBestOfNeighbor cs x → Among x cs
best_member cs x is = group_within x.neighbor.0 cs x (among_selection (of_neighbor x.neighbor.0 cs) x (among_one (of_neighbor x.neighbor.0 cs) x is)).0

-- these are the bests of all neighbor ASes
abbrev AreTheBests : List Candidate → List Candidate → Type 0
AreTheBests cs ds = (c : Candidate) → Contains ds c ↔ IsBestOfNeighbor cs c

selected_there : (cs ds : List Candidate) → AreDistinct cs → AreDistinct ds → AreTheBests cs ds → (x : Candidate) → IsSelected cs x → IsSelected ds x
selected_there cs ds distinct apart bests x is =
    let at : Among x (selection cs) = among_one cs x is in
    selected_among ds apart x
    (selected_of_bests cs ds (λ y among. best_member cs y ((bests y).0 (contains_among ds y among))) x at
    (among_contained ds x ((bests x).1 (selected_best cs distinct x at)))
    (λ y among. among_one (of_neighbor y.neighbor.0 cs) y ((bests y).0 (contains_among ds y among))))

selected_back : (cs ds : List Candidate) → AreDistinct cs → AreDistinct ds → AreTheBests cs ds → (x : Candidate) → IsSelected ds x → IsSelected cs x
selected_back cs ds distinct apart bests x is =
    let member : Among x cs = best_member cs x ((bests x).0 (contains_among ds x (among_selection ds x (among_one ds x is)).0)) in
    let one : (d : Candidate) × IsSelected cs d = one_selected cs (some_among cs x member) distinct in
    let same : x ≡ one.0 = one_among x one.0 (subst (Among x) (selected_there cs ds distinct apart bests one.0 one.1) (among_one ds x is)) in
    one.1 ∙ ap (λ d. d ∷ []) (sym same)

pub bests_enough : (cs ds : List Candidate) → AreDistinct cs → AreDistinct ds → AreTheBests cs ds → (x : Candidate) → IsSelected cs x ↔ IsSelected ds x
bests_enough cs ds distinct apart bests x = (selected_there cs ds distinct apart bests x, selected_back cs ds distinct apart bests x)
