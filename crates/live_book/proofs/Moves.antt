-- What the changes make of the places.
use Rattle.std.proofs.Common.{◌≡◌, ◌≢◌, ℕ, Bool, true, false, cond, ◌||◌, ◌&&◌, ◌==◌, inl, inr, nat_eq, List, [], ◌∷◌, map, Option, Some, None, refl, sym, ◌∙◌, ap, subst, arith}
use Rattle.std.specs.List.{cons_option, list_any}
use Rattle.std.proofs.lemmas.Bool.Decides.{nat_tests}
use Rattle.decision.specs.BookContents.{changed}
use Rattle.decision.specs.KeptPlaces.{ArePlaces, with_changes}
use Rattle.decision.specs.Selection.{selection}
use Rattle.decision.specs.declared.book.Change.{Change}
use Rattle.decision.specs.declared.candidate.Candidate.{Candidate}
use Rattle.decision.proofs.BestPlaces.{distinct_places}
use Rattle.decision.proofs.Laws.{among_one}
use Rattle.decision.proofs.One.{Among, among_selection, one_selected}
use Rattle.live_book.specs.NeighborBests.{AreBests, AreFair, HaveStood, IsBestOfNeighbor, IsPlace, is_behind, is_kept, is_named, is_opened, leads, moved, neighbor_if, of_neighbor, offered, opened_by, opened_of, slots_of, standing_of}
use Rattle.live_book.specs.Places.{Place}
use Rattle.live_book.specs.declared.place.Standing.{Standing}
use Rattle.live_book.specs.declared.place.Standing.TheVariants.{Behind, Open, Leads, Won}
use Rattle.live_book.proofs.Groups.{distinct_group, group_neighbor, group_within, in_group, selected_of_neighbor}
use Rattle.live_book.proofs.PlaceBests.{HasPlace, among_offered, of_mapped, place_mapped, place_of, same_candidate, same_place, same_rank}

-- ---- standings after changes

abbrev Stands : Bool → Bool → Bool → Standing
Stands named led opened = cond named Open (cond led Leads (cond opened Open Behind))

led_stands : (named led opened : Bool) → leads (Stands named led opened) ≡ true → (named ≡ false) × (led ≡ true)
led_stands true led opened e = cc
led_stands false true opened e = (refl, refl)
led_stands false false true e = cc
led_stands false false false e = cc

kept_leads : (s : Standing) → is_kept s ≡ true → leads s ≡ true
kept_leads Behind e = cc
kept_leads Open e = cc
kept_leads Leads e = refl
kept_leads Won e = cc

record StandsBehind (named led opened : Bool) : Type 0 where
  unnamed : named ≡ false
  unled : led ≡ false
  unopened : opened ≡ false

behind_stands : (named led opened : Bool) → is_behind (Stands named led opened) ≡ true → StandsBehind named led opened
behind_stands true led opened e = cc
behind_stands false true opened e = cc
behind_stands false false true e = cc
behind_stands false false false e = record { unnamed = refl; unled = refl; unopened = refl }

none_or : (a b : Bool) → (a || b) ≡ false → (a ≡ false) × (b ≡ false)
none_or true b e = cc
none_or false b e = (refl, e)

kept_where : (b : Bool) (o r : Option Candidate) → b ≡ false → cond b o r ≡ r
kept_where true o r e = cc
kept_where false o r e = refl

-- what no change names stays
pub unnamed_stays : (changes : List Change) (slot : ℕ) (o : Option Candidate) → is_named changes slot ≡ false → changed changes slot o ≡ o
unnamed_stays [] slot o e = refl
unnamed_stays (change ∷ changes) slot o e =
    let parts : (nat_eq change.slot slot ≡ false) × (is_named changes slot ≡ false) = none_or (nat_eq change.slot slot) (is_named changes slot) e in
    ap (changed changes slot) (kept_where (nat_eq change.slot slot) change.candidate o parts.0) ∙ unnamed_stays changes slot o parts.1

-- ---- opened neighbor ASes

any_here : (n : ℕ) (o : Option ℕ) (ns : List ℕ) (m : ℕ) → o ≡ Some m → m ≡ n → list_any (λ k. k == n) (cons_option o ns) ≡ true
any_here n None ns m e same = cc
any_here n (Some k) ns m e same = let is : k ≡ m = cc in ap (λ b. b || list_any (λ j. j == n) ns) (number_same k n (is ∙ same))
  where
    number_same : (k n : ℕ) → k ≡ n → (k == n) ≡ true
    number_same k n same = grind (arith, nat_tests)

or_true : (a b : Bool) → b ≡ true → (a || b) ≡ true
or_true true b e = refl
or_true false b e = e

any_later : (n : ℕ) (o : Option ℕ) (ns : List ℕ) → list_any (λ k. k == n) ns ≡ true → list_any (λ k. k == n) (cons_option o ns) ≡ true
any_later n None ns e = e
any_later n (Some k) ns e = or_true (k == n) (list_any (λ j. j == n) ns) e

opened_there : (changes : List Change) (ps : List Place) (p : Place) (m n : ℕ) → IsPlace p ps → opened_by changes p ≡ Some m → m ≡ n → list_any (λ k. k == n) (opened_of changes ps) ≡ true
opened_there changes [] p m n at e same = absurd at
opened_there changes (q ∷ qs) p m n (inl is) e same = any_here n (opened_by changes q) (opened_of changes qs) m (ap (opened_by changes) is ∙ e) same
opened_there changes (q ∷ qs) p m n (inr at) e same = any_later n (opened_by changes q) (opened_of changes qs) (opened_there changes qs p m n at e same)

opens : (led named : Bool) (o : Option Candidate) (y : Candidate) → led ≡ true → named ≡ true → o ≡ Some y → neighbor_if (led && named) o ≡ Some y.neighbor.0
opens true true None y a b e = cc
opens true true (Some z) y a b e = let is : z ≡ y = cc in ap (λ c. Some c.neighbor.0) is
opens true false o y a b e = cc
opens false named o y a b e = cc

-- ---- the places that are moved

pub slots_moved : (changes : List Change) (ns : List ℕ) (ps : List Place) → slots_of (map (moved changes ns) ps) ≡ with_changes changes (slots_of ps)
slots_moved changes ns [] = refl
slots_moved changes ns (p ∷ ps) = ap (λ (rest : List (ℕ × Option Candidate)). (p.slot, changed changes p.slot p.candidate) ∷ rest) (slots_moved changes ns ps)

pub stood_moved : (changes : List Change) (ns : List ℕ) (ps : List Place) → HaveStood leads ps (map (moved changes ns) ps)
stood_moved changes ns ps =
    of_mapped (moved changes ns) ps (λ r. is_kept r.standing ≡ true → (q : Place) × IsPlace q ps × (leads q.standing ≡ true) × (q.slot ≡ r.slot) × (q.candidate ≡ r.candidate))
    (λ p at kept.
    let stands : (is_named changes p.slot ≡ false) × (leads p.standing ≡ true) =
    led_stands (is_named changes p.slot) (leads p.standing) (is_opened ns p.candidate) (kept_leads (standing_of changes ns p) kept) in
    (p, at, stands.1, refl, sym (unnamed_stays changes p.slot p.candidate stands.0)))

-- two that both lists select
pub two_selected : (cs ds : List Candidate) (x y : Candidate) → x.neighbor.0 ≡ y.neighbor.0 → Among x (selection cs) → Among y cs → Among y (selection ds) → Among x ds → (x.degree ≡ y.degree) × (x.address ≡ y.address)
two_selected cs ds x y same at_x y_there at_y x_there =
    same_rank (x ∷ y ∷ []) x y
    (selected_of_neighbor cs (x ∷ y ∷ []) (λ z at. within cs z at (among_selection cs x at_x).0 y_there) x at_x (inl refl) (λ z at. neighbor x.neighbor.0 z at refl (sym same)))
    (selected_of_neighbor ds (x ∷ y ∷ []) (λ z at. within ds z at x_there (among_selection ds y at_y).0) y at_y (inr (inl refl)) (λ z at. neighbor y.neighbor.0 z at same refl))
  where
    within : (es : List Candidate) (z : Candidate) → Among z (x ∷ y ∷ []) → Among x es → Among y es → Among z es
    within es z (inl is) one other = subst (λ c. Among c es) is one
    within es z (inr (inl is)) one other = subst (λ c. Among c es) is other
    within es z (inr (inr at)) one other = absurd at

    neighbor : (n : ℕ) (z : Candidate) → Among z (x ∷ y ∷ []) → x.neighbor.0 ≡ n → y.neighbor.0 ≡ n → z.neighbor.0 ≡ n
    neighbor n z (inl is) one other = ap (λ c. c.neighbor.0) (sym is) ∙ one
    neighbor n z (inr (inl is)) one other = ap (λ c. c.neighbor.0) (sym is) ∙ other
    neighbor n z (inr (inr at)) one other = absurd at

-- the best of a neighbor AS under another name of it
best_at : (n : ℕ) (cs : List Candidate) (y : Candidate) → IsBestOfNeighbor cs y → y.neighbor.0 ≡ n → Among y (selection (of_neighbor n cs))
best_at n cs y is same = subst (λ m. Among y (selection (of_neighbor m cs))) same (among_one (of_neighbor y.neighbor.0 cs) y is)

-- of two places that lead in one neighbor AS, both are one
pub one_leads : (ps : List Place) → ArePlaces (slots_of ps) → AreBests ps → (p q : Place) → IsPlace p ps → IsPlace q ps → (c d : Candidate) → p.candidate ≡ Some c → q.candidate ≡ Some d → c.neighbor.0 ≡ d.neighbor.0
    → leads p.standing ≡ true → leads q.standing ≡ true → p.slot ≡ q.slot
one_leads ps are bests p q at also c d e f same led_p led_q =
    let rank : (c.degree ≡ d.degree) × (c.address ≡ d.address) =
    same_rank (of_neighbor d.neighbor.0 (offered ps)) c d (best_at d.neighbor.0 (offered ps) c ((bests p at c e).0 led_p) same) (best_at d.neighbor.0 (offered ps) d ((bests q also d f).0 led_q) refl) in
    same_place ps are p q at also c d e f rank.0 rank.1

single_moved : (changes : List Change) (ns : List ℕ) (ps : List Place) → ArePlaces (slots_of ps) → AreBests ps → (p q : Place) → IsPlace p ps → IsPlace q ps → (c d : Candidate)
    → changed changes p.slot p.candidate ≡ Some c → changed changes q.slot q.candidate ≡ Some d → c.neighbor.0 ≡ d.neighbor.0
    → leads (standing_of changes ns p) ≡ true → leads (standing_of changes ns q) ≡ true → p.slot ≡ q.slot
single_moved changes ns ps are bests p q at also c d e f same led_p led_q =
    let one : (is_named changes p.slot ≡ false) × (leads p.standing ≡ true) = led_stands (is_named changes p.slot) (leads p.standing) (is_opened ns p.candidate) led_p in
    let other : (is_named changes q.slot ≡ false) × (leads q.standing ≡ true) = led_stands (is_named changes q.slot) (leads q.standing) (is_opened ns q.candidate) led_q in
    one_leads ps are bests p q at also c d (sym (unnamed_stays changes p.slot p.candidate one.0) ∙ e) (sym (unnamed_stays changes q.slot q.candidate other.0) ∙ f) same one.1 other.1

false_where : (b : Bool) → (b ≡ true → ⊥) → b ≡ false
false_where true h = absurd (h refl)
false_where false h = refl

some_of : (cs : List Candidate) (x : Candidate) → Among x cs → cs ≢ []
some_of [] x at = absurd at
some_of (c ∷ cs) x at = λ e. cc

-- who fell behind would be the best, but then he was before, and led
behind_no_best : (changes : List Change) (ps : List Place) → ArePlaces (slots_of ps) → AreBests ps → ArePlaces (slots_of (map (moved changes (opened_of changes ps)) ps))
    → (p : Place) → IsPlace p ps → (c : Candidate) → changed changes p.slot p.candidate ≡ Some c → IsBestOfNeighbor (offered (map (moved changes (opened_of changes ps)) ps)) c
    → is_behind (standing_of changes (opened_of changes ps) p) ≡ true → ⊥
behind_no_best changes ps are bests after p at c e best behind =
    let ns : List ℕ = opened_of changes ps in
    let new : List Place = map (moved changes ns) ps in
    let n : ℕ = c.neighbor.0 in
    let stands : StandsBehind (is_named changes p.slot) (leads p.standing) (is_opened ns p.candidate) = behind_stands (is_named changes p.slot) (leads p.standing) (is_opened ns p.candidate) behind in
    let here : p.candidate ≡ Some c = sym (unnamed_stays changes p.slot p.candidate stands.unnamed) ∙ e in
    let member : Among c (offered ps) = among_offered ps are p at c here in
    let group : List Candidate = of_neighbor n (offered ps) in
    let c_group : Among c group = in_group n (offered ps) c member refl in
    let one : (y : Candidate) × (selection group ≡ y ∷ []) = one_selected group (some_of group c c_group) (distinct_group n (offered ps) (distinct_places (slots_of ps) are)) in
    let y : Candidate = one.0 in
    let y_selected : Among y (selection group) = among_one group y one.1 in
    let y_group : Among y group = (among_selection group y y_selected).0 in
    let y_neighbor : y.neighbor.0 ≡ n = group_neighbor n (offered ps) y y_group in
    let there : HasPlace ps y = place_of ps y (group_within n (offered ps) y y_group) in
    let q : Place = there.0 in
    let led : leads q.standing ≡ true = (bests q there.1 y there.2).1 (subst (λ m. selection (of_neighbor m (offered ps)) ≡ y ∷ []) (sym y_neighbor) one.1) in
    let unnamed : is_named changes q.slot ≡ false = false_where (is_named changes q.slot) (λ named.
    let opened : list_any (λ k. k == n) ns ≡ true = opened_there changes ps q y.neighbor.0 n there.1 (opens (leads q.standing) (is_named changes q.slot) q.candidate y led named there.2) y_neighbor in
    let closed : list_any (λ k. k == n) ns ≡ false = ap (is_opened ns) (sym here) ∙ stands.unopened in
    absurd cc) in
    let moved_y : changed changes q.slot q.candidate ≡ Some y = unnamed_stays changes q.slot q.candidate unnamed ∙ there.2 in
    let y_new : Among y (of_neighbor n (offered new)) = in_group n (offered new) y (among_offered new after (moved changes ns q) (place_mapped (moved changes ns) ps q there.1) y moved_y) y_neighbor in
    let rank : (c.degree ≡ y.degree) × (c.address ≡ y.address) =
    two_selected (of_neighbor n (offered new)) group c y (sym y_neighbor) (among_one (of_neighbor n (offered new)) c best) y_new y_selected c_group in
    let slot : p.slot ≡ q.slot = same_place ps are p q at there.1 c y here there.2 rank.0 rank.1 in
    let same : c ≡ y = same_candidate ps are p q at there.1 c y here there.2 slot in
    let leads_p : leads p.standing ≡ true = (bests p at c here).1 (subst (λ d. selection group ≡ d ∷ []) (sym same) one.1) in
    let unled : leads p.standing ≡ false = stands.unled in
    absurd cc

pub fair_moved : (changes : List Change) (ps : List Place) → ArePlaces (slots_of ps) → AreBests ps → ArePlaces (with_changes changes (slots_of ps)) → AreFair (map (moved changes (opened_of changes ps)) ps)
fair_moved changes ps are bests after =
    let ns : List ℕ = opened_of changes ps in
    let new : List Place = map (moved changes ns) ps in
    let are_new : ArePlaces (slots_of new) = subst ArePlaces (sym (slots_moved changes ns ps)) after in
    record {
      held = of_mapped (moved changes ns) ps (λ r. (c : Candidate) → r.candidate ≡ Some c → IsBestOfNeighbor (offered new) c → is_behind r.standing ≡ false)
          (λ p at c e best. false_where (is_behind (standing_of changes ns p)) (behind_no_best changes ps are bests are_new p at c e best));
      single = λ p q at also.
          of_mapped (moved changes ns) ps (λ r. (c d : Candidate) → r.candidate ≡ Some c → q.candidate ≡ Some d → c.neighbor.0 ≡ d.neighbor.0 → leads r.standing ≡ true → leads q.standing ≡ true → r.slot ≡ q.slot)
          (λ s here.
          of_mapped (moved changes ns) ps (λ r. (c d : Candidate) → changed changes s.slot s.candidate ≡ Some c → r.candidate ≡ Some d → c.neighbor.0 ≡ d.neighbor.0 → leads (standing_of changes ns s) ≡ true → leads r.standing ≡ true → s.slot ≡ r.slot)
          (λ t there c d e f same led_s led_t. single_moved changes ns ps are bests s t here there c d e f same led_s led_t) q also) p at;
    }
