-- Places with their candidates, and members of mapped lists of them.
use Rattle.std.proofs.Common.{◌≡◌, ◌≢◌, ◌⊎◌, ◌↔◌, ℕ, ◌+◌, ◌<◌, ◌≤◌, zero, suc, Bool, true, false, not, cond, inl, inr, nat_eq, List, [], ◌∷◌, ◌++◌, map, filter, filter_map, get_or, take, drop, set, length, Option, Some, None, option_and_then, refl, sym, ◌∙◌, ap, subst, arith}
use Rattle.std.proofs.lemmas.List.{get_or_default, take_more, length_push}
use Rattle.std.proofs.lemmas.List.Elements.{filter_map-append}
use Rattle.std.proofs.lemmas.List.Edits.{map_over_more}
use Rattle.std.specs.List.{AllByRecursion, IsDistinct, cons_option}
use Rattle.std.specs.Map.{lookup, keys_of}
use Rattle.decision.specs.BookContents.{candidate_of, changed}
use Rattle.decision.specs.KeptPlaces.{ArePlaces, with_changes, without_slot}
use Rattle.decision.specs.Selection.{has_greater_degree, has_lower_address, selection}
use Rattle.decision.specs.declared.book.Change.{Change}
use Rattle.decision.specs.declared.candidate.Candidate.{Candidate}
use Rattle.decision.proofs.BestPlaces.{among_candidates}
use Rattle.decision.proofs.One.{Among, among_unbeaten, among_selection, before_address}
use Rattle.decision.proofs.PlaceLists.{same_slot, slot_itself, other_slot, slots_differ, turned}
use Rattle.live_book.specs.NeighborBests.{AreBests, IsBestOfNeighbor, IsPlace, empty_place, leads, offered, slots_of}
use Rattle.live_book.specs.Places.{Place}
use Rattle.std.proofs.lemmas.Bool.Decides.{nat_tests}
use Rattle.std.specs.Prelude.{nat_lt}

-- ---- what is at a place

differs_from : (k : ℕ) (qs : List Place) → AllByRecursion (λ t. nat_eq k t ≡ false) (keys_of (slots_of qs)) → (p : Place) → IsPlace p qs → nat_eq k p.slot ≡ false
differs_from k [] all p at = absurd at
differs_from k (q ∷ qs) all p (inl is) = ap (λ r. nat_eq k r.slot) (sym is) ∙ all.0
differs_from k (q ∷ qs) all p (inr at) = differs_from k qs all.1 p at

-- a place has its slot's candidate
pub at_place : (ps : List Place) → IsDistinct nat_eq (keys_of (slots_of ps)) → (p : Place) → IsPlace p ps → candidate_of (slots_of ps) p.slot ≡ p.candidate
unfolding IsDistinct
at_place [] distinct p at = absurd at
at_place (q ∷ qs) distinct p (inl is) =
    ap (λ b. option_and_then (λ c. c) (cond b (Some q.candidate) (lookup (nat_eq p.slot) (slots_of qs)))) (ap (λ r. nat_eq p.slot r.slot) is ∙ slot_itself p.slot)
    ∙ ap (λ r. r.candidate) is
at_place (q ∷ qs) distinct p (inr at) =
    ap (λ b. option_and_then (λ c. c) (cond b (Some q.candidate) (lookup (nat_eq p.slot) (slots_of qs)))) (turned p.slot q.slot ∙ differs_from q.slot (qs) distinct.0 p at)
    ∙ at_place qs distinct.1 p at

pub among_offered : (ps : List Place) → ArePlaces (slots_of ps) → (p : Place) → IsPlace p ps → (c : Candidate) → p.candidate ≡ Some c → Among c (offered ps)
among_offered ps are p at c e = among_candidates (slots_of ps) p.slot c (at_place ps are.distinct p at ∙ e)

-- a candidate has a place
abbrev pub HasPlace : List Place → Candidate → Type 0
HasPlace ps c = (p : Place) × IsPlace p ps × (p.candidate ≡ Some c)

place_head : (q : Place) (qs : List Place) (c : Candidate) (o : Option Candidate) → q.candidate ≡ o → (Among c (offered qs) → HasPlace qs c) → Among c (cons_option o (offered qs)) → HasPlace (q ∷ qs) c
place_head q qs c None e rest at = let there : HasPlace qs c = rest at in (there.0, inr there.1, there.2)
place_head q qs c (Some d) e rest (inl is) = (q, inl refl, e ∙ ap Some is)
place_head q qs c (Some d) e rest (inr at) = let there : HasPlace qs c = rest at in (there.0, inr there.1, there.2)

pub place_of : (ps : List Place) (c : Candidate) → Among c (offered ps) → HasPlace ps c
place_of [] c at = absurd at
place_of (q ∷ qs) c at = place_head q qs c q.candidate refl (place_of qs c) at

apart_or_same : (ps : List Place) → ArePlaces (slots_of ps) → (p q : Place) → IsPlace p ps → IsPlace q ps → (c d : Candidate) → p.candidate ≡ Some c → q.candidate ≡ Some d → c.degree ≡ d.degree → c.address ≡ d.address
    → (b : Bool) → nat_eq p.slot q.slot ≡ b → p.slot ≡ q.slot
apart_or_same ps are p q at also c d e f degree address true same = same_slot p.slot q.slot same
apart_or_same ps are p q at also c d e f degree address false same =
    absurd (are.apart p.slot q.slot c d (other_slot p.slot q.slot same) (at_place ps are.distinct p at ∙ e) (at_place ps are.distinct q also ∙ f) degree address)

-- of one rank are no two
pub same_place : (ps : List Place) → ArePlaces (slots_of ps) → (p q : Place) → IsPlace p ps → IsPlace q ps → (c d : Candidate) → p.candidate ≡ Some c → q.candidate ≡ Some d → c.degree ≡ d.degree → c.address ≡ d.address → p.slot ≡ q.slot
same_place ps are p q at also c d e f degree address = apart_or_same ps are p q at also c d e f degree address (nat_eq p.slot q.slot) refl

some_same : (o r : Option Candidate) (c d : Candidate) → o ≡ r → o ≡ Some c → r ≡ Some d → c ≡ d
some_same o r c d same e f = let both : Some c ≡ Some d = sym e ∙ same ∙ f in cc

pub same_candidate : (ps : List Place) → ArePlaces (slots_of ps) → (p q : Place) → IsPlace p ps → IsPlace q ps → (c d : Candidate) → p.candidate ≡ Some c → q.candidate ≡ Some d → p.slot ≡ q.slot → c ≡ d
same_candidate ps are p q at also c d e f same =
    some_same (candidate_of (slots_of ps) p.slot) (candidate_of (slots_of ps) q.slot) c d (ap (candidate_of (slots_of ps)) same) (at_place ps are.distinct p at ∙ e) (at_place ps are.distinct q also ∙ f)

-- ---- two that one list selects

neither_below : (a b : ℕ) → nat_lt a b ≡ false → nat_lt b a ≡ false → a ≡ b
neither_below a b e f = grind (arith, nat_tests)

pub same_rank : (cs : List Candidate) (x y : Candidate) → Among x (selection cs) → Among y (selection cs) → (x.degree ≡ y.degree) × (x.address ≡ y.address)
same_rank cs x y at_x at_y =
    let one : Among x cs × ((z : Candidate) → Among z cs → has_greater_degree z x ≡ false) = among_selection cs x at_x in
    let other : Among y cs × ((z : Candidate) → Among z cs → has_greater_degree z y ≡ false) = among_selection cs y at_y in
    let last_x : Among x (before_address cs) × ((z : Candidate) → Among z (before_address cs) → has_lower_address z x ≡ false) = among_unbeaten has_lower_address (before_address cs) x at_x in
    let last_y : Among y (before_address cs) × ((z : Candidate) → Among z (before_address cs) → has_lower_address z y ≡ false) = among_unbeaten has_lower_address (before_address cs) y at_y in
    (neither_below x.degree y.degree (one.1 y other.0) (other.1 x one.0), neither_below x.address y.address (last_y.1 x last_x.0) (last_x.1 y last_y.0))

-- ---- mapped places

pub mapped_place : (f : Place → Place) (ps : List Place) (r : Place) → IsPlace r (map f ps) → (p : Place) × IsPlace p ps × (f p ≡ r)
mapped_place f [] r at = absurd at
mapped_place f (p ∷ ps) r (inl is) = (p, inl refl, is)
mapped_place f (p ∷ ps) r (inr at) = let there : (q : Place) × IsPlace q ps × (f q ≡ r) = mapped_place f ps r at in (there.0, inr there.1, there.2)

pub place_mapped : (f : Place → Place) (ps : List Place) (p : Place) → IsPlace p ps → IsPlace (f p) (map f ps)
place_mapped f [] p at = absurd at
place_mapped f (q ∷ qs) p (inl is) = inl (ap f is)
place_mapped f (q ∷ qs) p (inr at) = inr (place_mapped f qs p at)

-- what is true of each mapped place is true of all
pub of_mapped : (f : Place → Place) (ps : List Place) (P : Place → Type 0) → ((p : Place) → IsPlace p ps → P (f p)) → (r : Place) → IsPlace r (map f ps) → P r
of_mapped f ps P each r at = let there : (p : Place) × IsPlace p ps × (f p ≡ r) = mapped_place f ps r at in subst P there.2 (each there.0 there.1)

-- places with no other slots and candidates
pub slots_same : (f : Place → Place) → ((p : Place) → (f p).slot ≡ p.slot) → ((p : Place) → (f p).candidate ≡ p.candidate) → (ps : List Place) → slots_of (map f ps) ≡ slots_of ps
slots_same f slot candidate [] = refl
slots_same f slot candidate (p ∷ ps) =
    ap (λ s. (s, (f p).candidate) ∷ slots_of (map f ps)) (slot p) ∙ ap (λ c. (p.slot, c) ∷ slots_of (map f ps)) (candidate p) ∙ ap (λ (rest : List (ℕ × Option Candidate)). (p.slot, p.candidate) ∷ rest) (slots_same f slot candidate ps)

-- what is at an index of mapped places
pub at_mapped : (f : Place → Place) (d : Place) (P Q : Place → Type 0) → ((p : Place) → P p → Q (f p)) → (P d → Q d) → (ps : List Place) (k : ℕ) → P (get_or ps k d) → Q (get_or (map f ps) k d)
at_mapped f d P Q each none [] k at = none at
at_mapped f d P Q each none (p ∷ ps) zero at = each p at
at_mapped f d P Q each none (p ∷ ps) (suc k) at = at_mapped f d P Q each none ps k at

pub index_of : (ps : List Place) (d p : Place) → IsPlace p ps → (k : ℕ) × (k < length ps) × (get_or ps k d ≡ p)
index_of [] d p at = absurd at
index_of (q ∷ qs) d p (inl is) = (0, omega arith, is)
index_of (q ∷ qs) d p (inr at) =
    let there : (k : ℕ) × (k < length qs) × (get_or qs k d ≡ p) = index_of qs d p at in
    (suc there.0, omega (arith, there.1), there.2)

-- one place more of mapped ones
pub mapped_next : (f : Place → Place) (ps qs : List Place) (i : ℕ) (d : Place) → i < length ps → length qs ≡ length ps → qs ≡ map f (take i ps) ++ drop i ps
    → set qs i (f (get_or qs i d)) ≡ map f (take (i + 1) ps) ++ drop (i + 1) ps
mapped_next f ps qs i d h long is = map_over_more f ps qs i (get_or qs i d) h is (get_or_default qs i d (get_or qs i d) (omega arith))

-- what is picked from one place more
pub picked_next : {X : Type 0} (f : Place → Option X) (ps : List Place) (i : ℕ) (d : Place) → i < length ps → filter_map f (take (i + 1) ps) ≡ filter_map f (take i ps) ++ cons_option (f (get_or ps i d)) []
picked_next f ps i d h = ap (filter_map f) (take_more ps i d h) ∙ filter_map-append f (take i ps) (get_or ps i d ∷ [])

pub picked_here : {X : Type 0} (f : Place → Option X) (ps : List Place) (i : ℕ) (p : Place) → i < length ps → p ≡ get_or ps i p → filter_map f (take (i + 1) ps) ≡ filter_map f (take i ps) ++ cons_option (f p) []
picked_here f ps i p lt is = picked_next f ps i p lt ∙ ap (λ q. filter_map f (take i ps) ++ cons_option (f q) []) (sym is)

pub length_next : {X : Type 0} (xs ys : List X) (x : X) (i : ℕ) → xs ≡ ys ++ x ∷ [] → length ys ≤ i → length xs ≤ i + 1
length_next xs ys x i is few = let long : length (ys ++ x ∷ []) ≡ length ys + 1 = length_push ys x in let same : length xs ≡ length (ys ++ x ∷ []) = ap length is in omega arith

pub length_same : {X : Type 0} (xs ys : List X) (i : ℕ) → xs ≡ ys → length ys ≤ i → length xs ≤ i + 1
length_same xs ys i is few = let same : length xs ≡ length ys = ap length is in omega arith

-- ---- a slot that is looked for

none_behind : (b : Bool) (x : Option Candidate) (rest : Option (Option Candidate)) → cond b (Some x) rest ≡ None → (b ≡ false) × (rest ≡ None)
none_behind true x rest e = cc
none_behind false x rest e = (refl, e)

pub lookup_here : (slot : ℕ) (ps : List Place) (i : ℕ) (d : Place) → i < length ps → lookup (nat_eq slot) (slots_of (take i ps)) ≡ None → (get_or ps i d).slot ≡ slot
    → Some (get_or ps i d).candidate ≡ lookup (nat_eq slot) (slots_of ps)
lookup_here slot [] i d h none is = absurd (omega arith)
lookup_here slot (p ∷ ps) zero d h none is = ap (λ b. cond b (Some p.candidate) (lookup (nat_eq slot) (slots_of ps))) (sym (ap (nat_eq slot) is ∙ slot_itself slot))
lookup_here slot (p ∷ ps) (suc k) d h none is =
    let parts : (nat_eq slot p.slot ≡ false) × (lookup (nat_eq slot) (slots_of (take k ps)) ≡ None) = none_behind (nat_eq slot p.slot) p.candidate (lookup (nat_eq slot) (slots_of (take k ps))) none in
    lookup_here slot ps k d (omega arith) parts.1 is ∙ ap (λ b. cond b (Some p.candidate) (lookup (nat_eq slot) (slots_of ps))) (sym parts.0)

lookup_behind : (slot : ℕ) (ps : List Place) (p : Place) → lookup (nat_eq slot) (slots_of ps) ≡ None → nat_eq slot p.slot ≡ false → lookup (nat_eq slot) (slots_of (ps ++ p ∷ [])) ≡ None
lookup_behind slot [] p none differs = ap (λ b. cond b (Some p.candidate) None) differs
lookup_behind slot (q ∷ ps) p none differs =
    let parts : (nat_eq slot q.slot ≡ false) × (lookup (nat_eq slot) (slots_of ps) ≡ None) = none_behind (nat_eq slot q.slot) q.candidate (lookup (nat_eq slot) (slots_of ps)) none in
    ap (λ b. cond b (Some q.candidate) (lookup (nat_eq slot) (slots_of (ps ++ p ∷ [])))) parts.0 ∙ lookup_behind slot ps p parts.1 differs

pub lookup_next : (slot : ℕ) (ps : List Place) (i : ℕ) (d : Place) → i < length ps → lookup (nat_eq slot) (slots_of (take i ps)) ≡ None → (get_or ps i d).slot ≢ slot → lookup (nat_eq slot) (slots_of (take (i + 1) ps)) ≡ None
lookup_next slot ps i d h none differs =
    ap (λ xs. lookup (nat_eq slot) (slots_of xs)) (take_more ps i d h) ∙ lookup_behind slot (take i ps) (get_or ps i d) none (slots_differ slot (get_or ps i d).slot (λ e. differs (sym e)))

-- ---- changes of nothing

pub idle_at : (changes : List Change) (ps : List Place) (i : ℕ) (d : Place) → i < length ps → with_changes changes (slots_of ps) ≡ slots_of ps
    → changed changes (get_or ps i d).slot (get_or ps i d).candidate ≡ (get_or ps i d).candidate
idle_at changes [] i d h same = absurd (omega arith)
idle_at changes (p ∷ ps) zero d h same = ap (λ (qs : List (ℕ × Option Candidate)). (get_or qs 0 (0, None)).1) same
idle_at changes (p ∷ ps) (suc k) d h same = idle_at changes ps k d (omega arith) (ap (drop 1) same)

pub idle_here : (changes : List Change) (ps : List Place) (i : ℕ) (p : Place) → i < length ps → p ≡ get_or ps i p → with_changes changes (slots_of ps) ≡ slots_of ps → changed changes p.slot p.candidate ≡ p.candidate
idle_here changes ps i p h is same = subst (λ q. changed changes q.slot q.candidate ≡ q.candidate) (sym is) (idle_at changes ps i p h same)

-- ---- a place more or less

pub slots_pushed : (slot : ℕ) (ps : List Place) → slots_of (ps ++ empty_place slot ∷ []) ≡ slots_of ps ++ (slot, None) ∷ []
slots_pushed slot [] = refl
slots_pushed slot (p ∷ ps) = ap (λ (rest : List (ℕ × Option Candidate)). (p.slot, p.candidate) ∷ rest) (slots_pushed slot ps)

offered_pushed : (slot : ℕ) (ps : List Place) → offered (ps ++ empty_place slot ∷ []) ≡ offered ps
offered_pushed slot [] = refl
offered_pushed slot (p ∷ ps) = ap (cons_option p.candidate) (offered_pushed slot ps)

pushed_place : (ps : List Place) (q p : Place) → IsPlace p (ps ++ q ∷ []) → IsPlace p ps ⊎ (q ≡ p)
pushed_place [] q p (inl is) = inr is
pushed_place [] q p (inr at) = absurd at
pushed_place (r ∷ ps) q p (inl is) = inl (inl is)
pushed_place (r ∷ ps) q p (inr at) = later (pushed_place ps q p at)
  where
    later : IsPlace p ps ⊎ (q ≡ p) → IsPlace p (r ∷ ps) ⊎ (q ≡ p)
    later (inl there) = inl (inr there)
    later (inr is) = inr is

no_candidate : (slot : ℕ) (p : Place) (c : Candidate) → empty_place slot ≡ p → p.candidate ≡ Some c → ⊥
no_candidate slot p c is e = let both : None ≡ Some c = ap (λ r. r.candidate) is ∙ e in cc

pub bests_pushed : (slot : ℕ) (ps : List Place) → AreBests ps → AreBests (ps ++ empty_place slot ∷ [])
bests_pushed slot ps bests p at c e = by_case (pushed_place ps (empty_place slot) p at)
  where
    by_case : IsPlace p ps ⊎ (empty_place slot ≡ p) → (leads p.standing ≡ true) ↔ IsBestOfNeighbor (offered (ps ++ empty_place slot ∷ [])) c
    by_case (inl there) = subst (λ cs. (leads p.standing ≡ true) ↔ IsBestOfNeighbor cs c) (sym (offered_pushed slot ps)) (bests p there c e)
    by_case (inr is) = absurd (no_candidate slot p c is e)

pub bests_alone : (slot : ℕ) → AreBests (empty_place slot ∷ [])
bests_alone slot p (inl is) c e = absurd (no_candidate slot p c is e)
bests_alone slot p (inr at) c e = absurd at

slots_case : (b : Bool) (p : Place) (rest : List Place) → slots_of (cond b (p ∷ rest) rest) ≡ cond b ((p.slot, p.candidate) ∷ slots_of rest) (slots_of rest)
slots_case true p rest = refl
slots_case false p rest = refl

pub slots_without : (slot : ℕ) (ps : List Place) → slots_of (filter (λ p. not (nat_eq slot p.slot)) ps) ≡ without_slot slot (slots_of ps)
slots_without slot [] = refl
slots_without slot (p ∷ ps) =
    slots_case (not (nat_eq slot p.slot)) p (filter (λ q. not (nat_eq slot q.slot)) ps)
    ∙ ap (λ (rest : List (ℕ × Option Candidate)). cond (not (nat_eq slot p.slot)) ((p.slot, p.candidate) ∷ rest) rest) (slots_without slot ps)

offered_head : (b : Bool) (p : Place) (rest : List Place) (cs : List Candidate) → (b ≡ true → p.candidate ≡ None) → offered rest ≡ cs → offered (cond (not b) (p ∷ rest) rest) ≡ cons_option p.candidate cs
offered_head true p rest cs none same = same ∙ sym (ap (λ o. cons_option o cs) (none refl))
offered_head false p rest cs none same = ap (cons_option p.candidate) same

offered_without : (slot : ℕ) (ps : List Place) → ((p : Place) → IsPlace p ps → nat_eq slot p.slot ≡ true → p.candidate ≡ None) → offered (filter (λ p. not (nat_eq slot p.slot)) ps) ≡ offered ps
offered_without slot [] none = refl
offered_without slot (p ∷ ps) none =
    offered_head (nat_eq slot p.slot) p (filter (λ q. not (nat_eq slot q.slot)) ps) (offered ps) (none p (inl refl)) (offered_without slot ps (λ q at. none q (inr at)))

kept_place : (b : Bool) (q : Place) (rest ps : List Place) (p : Place) → (IsPlace p rest → IsPlace p ps) → IsPlace p (cond b (q ∷ rest) rest) → IsPlace p (q ∷ ps)
kept_place true q rest ps p h (inl is) = inl is
kept_place true q rest ps p h (inr at) = inr (h at)
kept_place false q rest ps p h at = inr (h at)

filtered_place : (f : Place → Bool) (ps : List Place) (p : Place) → IsPlace p (filter f ps) → IsPlace p ps
filtered_place f [] p at = absurd at
filtered_place f (q ∷ qs) p at = kept_place (f q) q (filter f qs) qs p (filtered_place f qs p) at

pub bests_without : (slot : ℕ) (ps : List Place) → ArePlaces (slots_of ps) → candidate_of (slots_of ps) slot ≡ None → AreBests ps → AreBests (filter (λ p. not (nat_eq slot p.slot)) ps)
bests_without slot ps are none bests p at c e =
    subst (λ cs. (leads p.standing ≡ true) ↔ IsBestOfNeighbor cs c)
    (sym (offered_without slot ps (λ q there same. sym (at_place ps are.distinct q there) ∙ ap (candidate_of (slots_of ps)) (sym (same_slot slot q.slot same)) ∙ none)))
    (bests p (filtered_place (λ q. not (nat_eq slot q.slot)) ps p at) c e)
