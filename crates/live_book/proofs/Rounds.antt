-- Who is compared, and what is known afterwards.
use Rattle.std.proofs.Common.{◌≡◌, ◌≢◌, ℕ, ◌<◌, zero, suc, Bool, true, false, not, cond, ◌||◌, ◌&&◌, ◌==◌, inl, inr, nat_eq, List, [], ◌∷◌, map, get_or, length, All, Option, Some, None, MatchOption, slice_index_or, refl, sym, ◌∙◌, ap, subst, arith}
use Rattle.std.specs.Map.{keys_of}
use Rattle.std.specs.List.{AllByRecursion, IsDistinct, cons_option, list_any}
use Rattle.std.proofs.lemmas.Bool.Decides.{nat_tests}
use Rattle.std.proofs.lemmas.List.Kept.{AllPairs-cons}
use Rattle.decision.specs.BookContents.{candidate_of}
use Rattle.decision.specs.KeptPlaces.{ArePlaces, IsBestAt, candidates_of}
use Rattle.decision.specs.Selection.{AreDistinct, DifferInRank, IsSelected, selection}
use Rattle.decision.specs.declared.candidate.Candidate.{Candidate}
use Rattle.decision.proofs.BestPlaces.{distinct_places}
use Rattle.decision.proofs.Laws.{at_among, among_one}
use Rattle.decision.proofs.One.{Among, among_selection, one_selected}
use Rattle.live_book.specs.NeighborBests.{AreBests, AreFair, HaveStood, IsBestBefore, IsBestOfNeighbor, IsPlace, contender, contenders_of, empty_place, is_behind, is_in, is_kept, is_of, is_open, keeps_lead, last_round, leads, narrowed, narrowed_standing, neighbor_if, neighbor_to_settle, of_neighbor, offered, slots_of, to_settle_at}
use Rattle.live_book.specs.declared.comparing.Round.{Round}
use Rattle.live_book.specs.declared.comparing.Round.TheVariants.{Neighbor, Newcomers, Bests}
use Rattle.live_book.specs.Places.{Place}
use Rattle.live_book.specs.declared.place.Standing.{Standing}
use Rattle.live_book.specs.declared.place.Standing.TheVariants.{Behind, Open, Leads, Won}
use Rattle.live_book.proofs.Groups.{Within, distinct_group, group_neighbor, group_within, in_group, selected_best, selected_of_bests, selected_of_neighbor}
use Rattle.live_book.proofs.PlaceBests.{HasPlace, among_offered, at_mapped, at_place, index_of, of_mapped, place_of, same_candidate, same_place, same_rank, slots_same}

-- ---- who takes part

some_in : (b : Bool) (o : Option Candidate) (c : Candidate) → cond b o None ≡ Some c → (b ≡ true) × (o ≡ Some c)
some_in true o c e = (refl, e)
some_in false o c e = cc

in_some : (b : Bool) (o : Option Candidate) (c : Candidate) → b ≡ true → o ≡ Some c → cond b o None ≡ Some c
in_some true o c e f = f
in_some false o c e f = cc

-- a candidate that takes part has a place that does
abbrev pub TakesPart : Round → List Place → Candidate → Type 0
TakesPart round ps c = (p : Place) × IsPlace p ps × (is_in round p ≡ true) × (p.candidate ≡ Some c)

part_head : (round : Round) (q : Place) (qs : List Place) (c : Candidate) (o : Option Candidate) → contender round q ≡ o → (Among c (contenders_of round qs) → TakesPart round qs c)
    → Among c (cons_option o (contenders_of round qs)) → TakesPart round (q ∷ qs) c
part_head round q qs c None e rest at = let there : TakesPart round qs c = rest at in (there.0, inr there.1, there.2, there.3)
part_head round q qs c (Some d) e rest (inl is) =
    let parts : (is_in round q ≡ true) × (q.candidate ≡ Some c) = some_in (is_in round q) q.candidate c (e ∙ ap Some is) in
    (q, inl refl, parts.0, parts.1)
part_head round q qs c (Some d) e rest (inr at) = let there : TakesPart round qs c = rest at in (there.0, inr there.1, there.2, there.3)

pub part_of : (round : Round) (ps : List Place) (c : Candidate) → Among c (contenders_of round ps) → TakesPart round ps c
part_of round [] c at = absurd at
part_of round (q ∷ qs) c at = part_head round q qs c (contender round q) refl (part_of round qs c) at

among_here : (o : Option Candidate) (cs : List Candidate) (c : Candidate) → o ≡ Some c → Among c (cons_option o cs)
among_here None cs c e = cc
among_here (Some d) cs c e = inl cc

among_later : (o : Option Candidate) (cs : List Candidate) (c : Candidate) → Among c cs → Among c (cons_option o cs)
among_later None cs c at = at
among_later (Some d) cs c at = inr at

pub takes_part : (round : Round) (ps : List Place) (p : Place) (c : Candidate) → IsPlace p ps → is_in round p ≡ true → p.candidate ≡ Some c → Among c (contenders_of round ps)
takes_part round [] p c at takes e = absurd at
takes_part round (q ∷ qs) p c (inl is) takes e = among_here (contender round q) (contenders_of round qs) c (ap (contender round) is ∙ in_some (is_in round p) p.candidate c takes e)
takes_part round (q ∷ qs) p c (inr at) takes e = among_later (contender round q) (contenders_of round qs) c (takes_part round qs p c at takes e)

all_among : (P : Candidate → Type 0) (cs : List Candidate) → ((x : Candidate) → Among x cs → P x) → All P cs
all_among P cs each = λ k d h. each (slice_index_or cs k d) (at_among cs k d h)

-- candidates at other places differ
abbrev Differ : List Place → Type 0
Differ ps = (p q : Place) → IsPlace p ps → IsPlace q ps → (c d : Candidate) → p.candidate ≡ Some c → q.candidate ≡ Some d → p.slot ≢ q.slot → DifferInRank c d

other_head : (k : ℕ) (qs : List Place) → AllByRecursion (λ t. nat_eq k t ≡ false) (keys_of (slots_of qs)) → (p : Place) → IsPlace p qs → k ≢ p.slot
other_head k [] all p at = absurd at
other_head k (q ∷ qs) all p (inl is) = λ e. let no : nat_eq k p.slot ≡ false = ap (λ r. nat_eq k r.slot) (sym is) ∙ all.0 in slots_off k p.slot no e
  where
    slots_off : (s t : ℕ) → nat_eq s t ≡ false → s ≡ t → ⊥
    slots_off s t e h = grind (arith, nat_tests)
other_head k (q ∷ qs) all p (inr at) = other_head k qs all.1 p at

distinct_head : (round : Round) (q : Place) (qs : List Place) → Differ (q ∷ qs) → ((p : Place) → IsPlace p qs → q.slot ≢ p.slot) → (o : Option Candidate) → contender round q ≡ o
    → AreDistinct (contenders_of round qs) → AreDistinct (cons_option o (contenders_of round qs))
distinct_head round q qs differ other None e rest = rest
distinct_head round q qs differ other (Some c) e rest =
    AllPairs-cons DifferInRank c (contenders_of round qs)
    (all_among (DifferInRank c) (contenders_of round qs) (λ x at.
    let there : TakesPart round qs x = part_of round qs x at in
    differ q there.0 (inl refl) (inr there.1) c x (some_in (is_in round q) q.candidate c e).1 there.3 (other there.0 there.1)))
    rest

distinct_part : (round : Round) (ps : List Place) → IsDistinct nat_eq (keys_of (slots_of ps)) → Differ ps → AreDistinct (contenders_of round ps)
unfolding IsDistinct
distinct_part round [] distinct differ = λ i j d low high. absurd (omega arith)
distinct_part round (q ∷ qs) distinct differ =
    distinct_head round q qs differ (other_head q.slot qs distinct.0) (contender round q) refl
    (distinct_part round qs distinct.1 (λ p r at also c d e f ne. differ p r (inr at) (inr also) c d e f ne))

-- those that take part are distinct
pub distinct_contenders : (round : Round) (ps : List Place) → ArePlaces (slots_of ps) → AreDistinct (contenders_of round ps)
distinct_contenders round ps are =
    distinct_part round ps are.distinct (λ p q at also c d e f ne degree address. ne (same_place ps are p q at also c d e f degree address))

-- ---- one neighbor AS

both_hold : (a b : Bool) → (a && b) ≡ true → (a ≡ true) × (b ≡ true)
both_hold true b e = (refl, e)
both_hold false b e = cc

both_true : (a b : Bool) → a ≡ true → b ≡ true → (a && b) ≡ true
both_true true b e f = f
both_true false b e f = cc

same_number : (m n : ℕ) → (m == n) ≡ true → m ≡ n
same_number m n e = grind (arith, nat_tests)

number_same : (m n : ℕ) → m ≡ n → (m == n) ≡ true
number_same m n e = grind (arith, nat_tests)

of_some : (n : ℕ) (o : Option Candidate) (c : Candidate) → o ≡ Some c → is_of n o ≡ true → c.neighbor.0 ≡ n
of_some n None c e h = cc
of_some n (Some d) c e h = let is : d ≡ c = cc in ap (λ x. x.neighbor.0) (sym is) ∙ same_number d.neighbor.0 n h

some_is_of : (n : ℕ) (o : Option Candidate) (c : Candidate) → o ≡ Some c → c.neighbor.0 ≡ n → is_of n o ≡ true
some_is_of n None c e h = cc
some_is_of n (Some d) c e h = let is : d ≡ c = cc in number_same d.neighbor.0 n (ap (λ x. x.neighbor.0) is ∙ h)

abbrev Narrow : Bool → Bool → Standing → Standing
Narrow of here s = cond (not of) s (cond (not here) Behind (cond (is_kept s) Leads Won))

narrow_other : (of here : Bool) (s : Standing) → of ≡ false → Narrow of here s ≡ s
narrow_other true here s e = cc
narrow_other false here s e = refl

narrow_leads : (of here : Bool) (s : Standing) → of ≡ true → leads (Narrow of here s) ≡ true → here ≡ true
narrow_leads true true s e h = refl
narrow_leads true false s e h = cc
narrow_leads false here s e h = cc

narrow_held : (of here : Bool) (s : Standing) → of ≡ true → here ≡ true → is_behind (Narrow of here s) ≡ false
narrow_held true true Behind e h = refl
narrow_held true true Open e h = refl
narrow_held true true Leads e h = refl
narrow_held true true Won e h = refl
narrow_held true false s e h = cc
narrow_held false here s e h = cc

narrow_closed : (of here : Bool) (s : Standing) → of ≡ true → is_open (Narrow of here s) ≡ false
narrow_closed true true Behind e = refl
narrow_closed true true Open e = refl
narrow_closed true true Leads e = refl
narrow_closed true true Won e = refl
narrow_closed true false s e = refl
narrow_closed false here s e = cc

narrow_kept : (of here : Bool) (s : Standing) → is_kept (Narrow of here s) ≡ true → is_kept s ≡ true
narrow_kept true true Behind e = cc
narrow_kept true true Open e = cc
narrow_kept true true Leads e = refl
narrow_kept true true Won e = cc
narrow_kept true false s e = cc
narrow_kept false here s e = e

pub slots_narrowed : (n best : ℕ) (ps : List Place) → slots_of (map (narrowed n best) ps) ≡ slots_of ps
slots_narrowed n best ps = slots_same (narrowed n best) (λ p. refl) (λ p. refl) ps

pub stood_narrowed : (n best : ℕ) (ps : List Place) → HaveStood is_kept ps (map (narrowed n best) ps)
stood_narrowed n best ps =
    of_mapped (narrowed n best) ps (λ r. is_kept r.standing ≡ true → (q : Place) × IsPlace q ps × (is_kept q.standing ≡ true) × (q.slot ≡ r.slot) × (q.candidate ≡ r.candidate))
    (λ p at kept. (p, at, narrow_kept (is_of n p.candidate) (p.slot == best) p.standing kept, refl, refl))

pub stood_still : (ps : List Place) → HaveStood is_kept ps ps
stood_still ps p at kept = (p, at, kept, refl, refl)

pub stood_twice : (test : Standing → Bool) (old mid new : List Place) → HaveStood test old mid → HaveStood is_kept mid new → HaveStood test old new
stood_twice test old mid new first second p at kept =
    let there : (q : Place) × IsPlace q mid × (is_kept q.standing ≡ true) × (q.slot ≡ p.slot) × (q.candidate ≡ p.candidate) = second p at kept in
    let before : (q : Place) × IsPlace q old × (test q.standing ≡ true) × (q.slot ≡ there.0.slot) × (q.candidate ≡ there.0.candidate) = first there.0 there.1 there.2 in
    (before.0, before.1, before.2, before.3 ∙ there.3, before.4 ∙ there.4)

one_among : (c d : Candidate) → Among c (d ∷ []) → c ≡ d
one_among c d (inl is) = sym is
one_among c d (inr at) = absurd at

round_within : (n : ℕ) (ps : List Place) → ArePlaces (slots_of ps) → Within (contenders_of (Neighbor n) ps) (of_neighbor n (offered ps))
round_within n ps are = λ x at.
    let there : TakesPart (Neighbor n) ps x = part_of (Neighbor n) ps x at in
    in_group n (offered ps) x (among_offered ps are there.0 there.1 x there.3)
    (of_some n there.0.candidate x there.3 (both_hold (is_of n there.0.candidate) (not (is_behind there.0.standing)) there.2).0)

-- the best of the neighbor AS is the one that is chosen
best_chosen_there : (n : ℕ) (ps : List Place) → ArePlaces (slots_of ps) → AreFair ps → (b : Candidate) → IsSelected (contenders_of (Neighbor n) ps) b → (p : Place) → IsPlace p ps → (c : Candidate) → p.candidate ≡ Some c
    → c.neighbor.0 ≡ n → IsBestOfNeighbor (offered ps) c → c ≡ b
best_chosen_there n ps are fair b chosen p at c e same best =
    let takes : is_in (Neighbor n) p ≡ true = both_true (is_of n p.candidate) (not (is_behind p.standing)) (some_is_of n p.candidate c e same) (ap not (fair.held p at c e best)) in
    let there : Among c (contenders_of (Neighbor n) ps) = takes_part (Neighbor n) ps p c at takes e in
    let selected : Among c (selection (of_neighbor n (offered ps))) = subst (λ m. Among c (selection (of_neighbor m (offered ps)))) same (among_one (of_neighbor c.neighbor.0 (offered ps)) c best) in
    let here : Among c (selection (contenders_of (Neighbor n) ps)) =
    selected_of_neighbor (of_neighbor n (offered ps)) (contenders_of (Neighbor n) ps) (round_within n ps are) c selected there
    (λ y among. group_neighbor n (offered ps) y (round_within n ps are y among) ∙ sym same) in
    one_among c b (subst (Among c) chosen here)

held_case : (n : ℕ) (ps : List Place) → ArePlaces (slots_of ps) → AreFair ps → (b : Candidate) → IsSelected (contenders_of (Neighbor n) ps) b → (p : Place) → IsPlace p ps → (c : Candidate) → p.candidate ≡ Some c
    → IsBestOfNeighbor (offered ps) c → (of : Bool) → is_of n p.candidate ≡ of → is_behind (Narrow of (p.slot == b.slot) p.standing) ≡ false
held_case n ps are fair b chosen p at c e best false of = fair.held p at c e best
held_case n ps are fair b chosen p at c e best true of =
    let is : c ≡ b = best_chosen_there n ps are fair b chosen p at c e (of_some n p.candidate c e of) best in
    let own : c.slot ≡ p.slot = are.own p.slot c (at_place ps are.distinct p at ∙ e) in
    narrow_held true (p.slot == b.slot) p.standing refl (number_same p.slot b.slot (sym own ∙ ap (λ x. x.slot) is))

single_case : (n best : ℕ) (ps : List Place) → AreFair ps → (p q : Place) → IsPlace p ps → IsPlace q ps → (c d : Candidate) → p.candidate ≡ Some c → q.candidate ≡ Some d → c.neighbor.0 ≡ d.neighbor.0
    → (of_p of_q : Bool) → is_of n p.candidate ≡ of_p → is_of n q.candidate ≡ of_q
    → leads (Narrow of_p (p.slot == best) p.standing) ≡ true → leads (Narrow of_q (q.slot == best) q.standing) ≡ true → p.slot ≡ q.slot
single_case n best ps fair p q at also c d e f same true true is_p is_q led_p led_q =
    same_number p.slot best (narrow_leads true (p.slot == best) p.standing refl led_p) ∙ sym (same_number q.slot best (narrow_leads true (q.slot == best) q.standing refl led_q))
single_case n best ps fair p q at also c d e f same true false is_p is_q led_p led_q =
    let both : is_of n q.candidate ≡ true = some_is_of n q.candidate d f (sym same ∙ of_some n p.candidate c e is_p) in absurd cc
single_case n best ps fair p q at also c d e f same false true is_p is_q led_p led_q =
    let both : is_of n p.candidate ≡ true = some_is_of n p.candidate c e (same ∙ of_some n q.candidate d f is_q) in absurd cc
single_case n best ps fair p q at also c d e f same false false is_p is_q led_p led_q = fair.single p q at also c d e f same led_p led_q

pub fair_narrowed : (n : ℕ) (ps : List Place) → ArePlaces (slots_of ps) → AreFair ps → (b : Candidate) → IsSelected (contenders_of (Neighbor n) ps) b → AreFair (map (narrowed n b.slot) ps)
fair_narrowed n ps are fair b chosen =
    let new : List Place = map (narrowed n b.slot) ps in
    let same_offers : offered new ≡ offered ps = ap candidates_of (slots_narrowed n b.slot ps) in
    record {
      held = of_mapped (narrowed n b.slot) ps (λ r. (c : Candidate) → r.candidate ≡ Some c → IsBestOfNeighbor (offered new) c → is_behind r.standing ≡ false)
          (λ p at c e best. held_case n ps are fair b chosen p at c e (subst (λ cs. IsBestOfNeighbor cs c) same_offers best) (is_of n p.candidate) refl);
      single = λ p q at also.
          of_mapped (narrowed n b.slot) ps (λ r. (c d : Candidate) → r.candidate ≡ Some c → q.candidate ≡ Some d → c.neighbor.0 ≡ d.neighbor.0 → leads r.standing ≡ true → leads q.standing ≡ true → r.slot ≡ q.slot)
          (λ s here.
          of_mapped (narrowed n b.slot) ps (λ r. (c d : Candidate) → s.candidate ≡ Some c → r.candidate ≡ Some d → c.neighbor.0 ≡ d.neighbor.0 → leads (narrowed_standing n b.slot s) ≡ true → leads r.standing ≡ true → s.slot ≡ r.slot)
          (λ t there c d e f same led_s led_t. single_case n b.slot ps fair s t here there c d e f same (is_of n s.candidate) (is_of n t.candidate) refl refl led_s led_t) q also) p at;
    }

-- ---- what is to be compared still

none_open : (b : Bool) (c : Candidate) → neighbor_if b (Some c) ≡ None → b ≡ false
none_open true c e = cc
none_open false c e = refl

open_some : (b : Bool) (o : Option Candidate) (n : ℕ) → neighbor_if b o ≡ Some n → is_of n o ≡ true
open_some b None n e = cc
open_some true (Some c) n e = number_same c.neighbor.0 n cc
open_some false (Some c) n e = cc

closed_none : (b : Bool) (o : Option Candidate) → b ≡ false → neighbor_if b o ≡ None
closed_none b None e = refl
closed_none true (Some c) e = cc
closed_none false (Some c) e = refl

closed_stays : (of here : Bool) (s : Standing) (o : Option Candidate) → neighbor_if (is_open s) o ≡ None → neighbor_if (is_open (Narrow of here s)) o ≡ None
closed_stays of here s None e = refl
closed_stays true here s (Some c) e = closed_none (is_open (Narrow true here s)) (Some c) (narrow_closed true here s refl)
closed_stays false here s (Some c) e = e

pub narrowed_closed : (n best : ℕ) (ps : List Place) (k : ℕ) → to_settle_at ps k ≡ None → to_settle_at (map (narrowed n best) ps) k ≡ None
narrowed_closed n best ps k =
    at_mapped (narrowed n best) (empty_place 0) (λ p. neighbor_to_settle p ≡ None) (λ p. neighbor_to_settle p ≡ None)
    (λ p e. closed_stays (is_of n p.candidate) (p.slot == best) p.standing p.candidate e) (λ e. e) ps k

pub narrowed_settled : (n best : ℕ) (ps : List Place) (k : ℕ) → to_settle_at ps k ≡ Some n → to_settle_at (map (narrowed n best) ps) k ≡ None
narrowed_settled n best ps k =
    at_mapped (narrowed n best) (empty_place 0) (λ p. neighbor_to_settle p ≡ Some n) (λ p. neighbor_to_settle p ≡ None)
    (λ p e. closed_none (is_open (narrowed_standing n best p)) p.candidate (narrow_closed (is_of n p.candidate) (p.slot == best) p.standing (open_some (is_open p.standing) p.candidate n e))) (λ e. cc) ps k

open_not_behind : (s : Standing) → is_open s ≡ true → is_behind s ≡ false
open_not_behind Behind e = cc
open_not_behind Open e = refl
open_not_behind Leads e = refl
open_not_behind Won e = refl

open_parts : (b : Bool) (o : Option Candidate) (n : ℕ) → neighbor_if b o ≡ Some n → (b ≡ true) × ((c : Candidate) × (o ≡ Some c))
open_parts b None n e = cc
open_parts true (Some c) n e = (refl, (c, refl))
open_parts false (Some c) n e = cc

settle_there : (ps : List Place) (k : ℕ) (n : ℕ) → to_settle_at ps k ≡ Some n → (p : Place) × IsPlace p ps × (neighbor_to_settle p ≡ Some n)
settle_there [] k n e = cc
settle_there (p ∷ ps) zero n e = (p, inl refl, e)
settle_there (p ∷ ps) (suc k) n e = let there : (q : Place) × IsPlace q ps × (neighbor_to_settle q ≡ Some n) = settle_there ps k n e in (there.0, inr there.1, there.2)

no_member : (cs : List Candidate) (c : Candidate) → cs ≡ [] → Among c cs → ⊥
no_member [] c e at = at
no_member (d ∷ cs) c e at = cc

-- one that is open takes part
pub none_to_settle : (n : ℕ) (ps : List Place) → contenders_of (Neighbor n) ps ≡ [] → (k : ℕ) → to_settle_at ps k ≡ Some n → ⊥
none_to_settle n ps none k e =
    let there : (p : Place) × IsPlace p ps × (neighbor_to_settle p ≡ Some n) = settle_there ps k n e in
    let parts : (is_open there.0.standing ≡ true) × ((c : Candidate) × (there.0.candidate ≡ Some c)) = open_parts (is_open there.0.standing) there.0.candidate n there.2 in
    no_member (contenders_of (Neighbor n) ps) parts.1.0 none
    (takes_part (Neighbor n) ps there.0 parts.1.0 there.1
    (both_true (is_of n there.0.candidate) (not (is_behind there.0.standing)) (open_some (is_open there.0.standing) there.0.candidate n there.2) (ap not (open_not_behind there.0.standing parts.0)))
    parts.1.1)

leads_else : (s : Standing) → is_behind s ≡ false → is_open s ≡ false → leads s ≡ true
leads_else Behind e f = cc
leads_else Open e f = cc
leads_else Leads e f = refl
leads_else Won e f = refl

some_of : (cs : List Candidate) (x : Candidate) → Among x cs → cs ≢ []
some_of [] x at = absurd at
some_of (c ∷ cs) x at = λ e. cc

-- where nothing is to be compared, the bests lead
pub bests_settled : (ps : List Place) → ArePlaces (slots_of ps) → AreFair ps → ((k : ℕ) → k < length ps → to_settle_at ps k ≡ None) → AreBests ps
bests_settled ps are fair closed p at c e = (λ led. is_best p at c e led, λ best. best_leads p at c e best)
  where
    closed_at : (q : Place) → IsPlace q ps → (d : Candidate) → q.candidate ≡ Some d → is_open q.standing ≡ false
    closed_at q there d f =
        let index : (k : ℕ) × (k < length ps) × (get_or ps k (empty_place 0) ≡ q) = index_of ps (empty_place 0) q there in
        none_open (is_open q.standing) d (ap (neighbor_if (is_open q.standing)) (sym f) ∙ ap neighbor_to_settle (sym index.2) ∙ closed index.0 index.1)

    best_leads : (q : Place) → IsPlace q ps → (d : Candidate) → q.candidate ≡ Some d → IsBestOfNeighbor (offered ps) d → leads q.standing ≡ true
    best_leads q there d f best = leads_else q.standing (fair.held q there d f best) (closed_at q there d f)

    is_best : (q : Place) → IsPlace q ps → (d : Candidate) → q.candidate ≡ Some d → leads q.standing ≡ true → IsBestOfNeighbor (offered ps) d
    is_best q there d f led =
        let n : ℕ = d.neighbor.0 in
        let group : List Candidate = of_neighbor n (offered ps) in
        let member : Among d group = in_group n (offered ps) d (among_offered ps are q there d f) refl in
        let one : (y : Candidate) × IsSelected group y = one_selected group (some_of group d member) (distinct_group n (offered ps) (distinct_places (slots_of ps) are)) in
        let y_group : Among one.0 group = (among_selection group one.0 (among_one group one.0 one.1)).0 in
        let y_neighbor : one.0.neighbor.0 ≡ n = group_neighbor n (offered ps) one.0 y_group in
        let place : HasPlace ps one.0 = place_of ps one.0 (group_within n (offered ps) one.0 y_group) in
        let y_best : IsBestOfNeighbor (offered ps) one.0 = subst (λ m. IsSelected (of_neighbor m (offered ps)) one.0) (sym y_neighbor) one.1 in
        let y_leads : leads place.0.standing ≡ true = best_leads place.0 place.1 one.0 place.2 y_best in
        let slot : q.slot ≡ place.0.slot = fair.single q place.0 there place.1 d one.0 f place.2 (sym y_neighbor) led y_leads in
        let same : d ≡ one.0 = same_candidate ps are q place.0 there place.1 d one.0 f place.2 slot in
        subst (λ z. IsSelected group z) (sym same) one.1

-- ---- the best of all

any_place : (test : Place → Bool) (ps : List Place) → list_any test ps ≡ true → (p : Place) × IsPlace p ps × (test p ≡ true)
any_place test [] e = cc
any_place test (p ∷ ps) e = any_head test p ps (test p) refl e (any_place test ps)
  where
    any_head : (test : Place → Bool) (p : Place) (ps : List Place) (b : Bool) → test p ≡ b → (b || list_any test ps) ≡ true → (list_any test ps ≡ true → (q : Place) × IsPlace q ps × (test q ≡ true)) → (q : Place) × IsPlace q (p ∷ ps) × (test q ≡ true)
    any_head test p ps true is e rest = (p, inl refl, is)
    any_head test p ps false is e rest = let there : (q : Place) × IsPlace q ps × (test q ≡ true) = rest e in (there.0, inr there.1, there.2)

kept_leads : (s : Standing) → is_kept s ≡ true → leads s ≡ true
kept_leads Behind e = cc
kept_leads Open e = cc
kept_leads Leads e = refl
kept_leads Won e = cc

two_within : (x y : Candidate) (es : List Candidate) (z : Candidate) → Among x es → Among y es → Among z (x ∷ y ∷ []) → Among z es
two_within x y es z one other (inl is) = subst (λ c. Among c es) is one
two_within x y es z one other (inr (inl is)) = subst (λ c. Among c es) is other
two_within x y es z one other (inr (inr at)) = absurd at

two_bests : (x y : Candidate) (cs : List Candidate) (z : Candidate) → IsBestOfNeighbor cs x → IsBestOfNeighbor cs y → Among z (x ∷ y ∷ []) → Among z (selection (of_neighbor z.neighbor.0 cs))
two_bests x y cs z one other (inl is) = subst (λ c. Among c (selection (of_neighbor c.neighbor.0 cs))) is (among_one (of_neighbor x.neighbor.0 cs) x one)
two_bests x y cs z one other (inr (inl is)) = subst (λ c. Among c (selection (of_neighbor c.neighbor.0 cs))) is (among_one (of_neighbor y.neighbor.0 cs) y other)
two_bests x y cs z one other (inr (inr at)) = absurd at

-- the best of all that was, where it stays the best of its neighbor AS, and one that led beside it
two_ranks : (cs ds : List Candidate) (x y : Candidate) → Among x (selection cs) → Among y cs → IsBestOfNeighbor cs x → IsBestOfNeighbor cs y → Among y (selection ds) → Among x ds → IsBestOfNeighbor ds x → IsBestOfNeighbor ds y
    → (x.degree ≡ y.degree) × (x.address ≡ y.address)
two_ranks cs ds x y at_x y_there x_best y_best at_y x_there x_was y_was =
    same_rank (x ∷ y ∷ []) x y
    (selected_of_bests cs (x ∷ y ∷ []) (λ z. two_within x y cs z (among_selection cs x at_x).0 y_there) x at_x (inl refl) (λ z. two_bests x y cs z x_best y_best))
    (selected_of_bests ds (x ∷ y ∷ []) (λ z. two_within x y ds z x_there (among_selection ds y at_y).0) y at_y (inr (inl refl)) (λ z. two_bests x y ds z x_was y_was))

-- the best of the old places, at the slot that it was at
old_best : (old : List Place) (o : Option Candidate) → IsBestAt (slots_of old) o → (x : Candidate) → Among x (offered old) → (d : Candidate) × (o ≡ Some d) × IsSelected (offered old) d
old_best old None is x at = absurd (no_member (offered old) x is at)
old_best old (Some d) is x at = (d, refl, is)

not_kept_in : (kept same : Bool) → kept ≡ false → cond (not kept) true same ≡ true
not_kept_in true same e = cc
not_kept_in false same e = refl

same_in : (kept same : Bool) → same ≡ true → cond (not kept) true same ≡ true
same_in true same e = e
same_in false same e = refl

-- the selected one, where it leads as before, is the best that was
kept_is_best : (ps old : List Place) (slot : ℕ) → ArePlaces (slots_of ps) → AreBests ps → ArePlaces (slots_of old) → AreBests old → IsBestAt (slots_of old) (candidate_of (slots_of old) slot) → HaveStood leads old ps
    → keeps_lead ps slot ≡ true → (p : Place) → IsPlace p ps → (x : Candidate) → p.candidate ≡ Some x → Among x (selection (offered ps)) → is_kept p.standing ≡ true → p.slot ≡ slot
kept_is_best ps old slot are bests were had best stood keeps p at x e selected kept =
    let was : (q : Place) × IsPlace q old × (leads q.standing ≡ true) × (q.slot ≡ p.slot) × (q.candidate ≡ p.candidate) = stood p at kept in
    let x_old : Among x (offered old) = among_offered old were was.0 was.1 x (was.4 ∙ e) in
    let that : (d : Candidate) × (candidate_of (slots_of old) slot ≡ Some d) × IsSelected (offered old) d = old_best old (candidate_of (slots_of old) slot) best x x_old in
    let y : Candidate = that.0 in
    let holder : (r : Place) × IsPlace r ps × ((r.slot == slot && is_kept r.standing) ≡ true) = any_place (λ r. r.slot == slot && is_kept r.standing) ps keeps in
    let r : Place = holder.0 in
    let facts : ((r.slot == slot) ≡ true) × (is_kept r.standing ≡ true) = both_hold (r.slot == slot) (is_kept r.standing) holder.2 in
    let r_was : (q : Place) × IsPlace q old × (leads q.standing ≡ true) × (q.slot ≡ r.slot) × (q.candidate ≡ r.candidate) = stood r holder.1 facts.1 in
    let r_slot : r.slot ≡ slot = same_number r.slot slot facts.0 in
    let q_y : r_was.0.candidate ≡ Some y = sym (at_place old were.distinct r_was.0 r_was.1) ∙ ap (candidate_of (slots_of old)) (r_was.3 ∙ r_slot) ∙ that.1 in
    let r_y : r.candidate ≡ Some y = sym r_was.4 ∙ q_y in
    let rank : (x.degree ≡ y.degree) × (x.address ≡ y.address) =
    two_ranks (offered ps) (offered old) x y selected (among_offered ps are r holder.1 y r_y) ((bests p at x e).0 (kept_leads p.standing kept)) ((bests r holder.1 y r_y).0 (kept_leads r.standing facts.1))
    (among_one (offered old) y that.2) x_old ((had was.0 was.1 x (was.4 ∙ e)).0 was.2) ((had r_was.0 r_was.1 y q_y).0 r_was.2) in
    same_place ps are p r at holder.1 x y e r_y rank.0 rank.1 ∙ r_slot

newcomer_case : (ps : List Place) (slot : ℕ) (p : Place) (b : Bool) → is_kept p.standing ≡ b → leads p.standing ≡ true → (is_kept p.standing ≡ true → p.slot ≡ slot) → is_in (Newcomers slot) p ≡ true
newcomer_case ps slot p true is led same = both_true (leads p.standing) (cond (not (is_kept p.standing)) true (p.slot == slot)) led (same_in (is_kept p.standing) (p.slot == slot) (number_same p.slot slot (same is)))
newcomer_case ps slot p false is led same = both_true (leads p.standing) (cond (not (is_kept p.standing)) true (p.slot == slot)) led (not_kept_in (is_kept p.standing) (p.slot == slot) is)

last_in : (ps : List Place) (slot : ℕ) (p : Place) (b : Bool) → keeps_lead ps slot ≡ b → leads p.standing ≡ true → (keeps_lead ps slot ≡ true → is_kept p.standing ≡ true → p.slot ≡ slot) → is_in (cond b (Newcomers slot) Bests) p ≡ true
last_in ps slot p true is led same = newcomer_case ps slot p (is_kept p.standing) refl led (same is)
last_in ps slot p false is led same = led

-- the selected one takes part
selected_in : (ps : List Place) (best : Option ℕ) → ArePlaces (slots_of ps) → AreBests ps → IsBestBefore ps best → (x : Candidate) → Among x (selection (offered ps)) → Among x (contenders_of (last_round ps best) ps)
selected_in ps best are bests before x selected =
    let there : HasPlace ps x = place_of ps x (among_selection (offered ps) x selected).0 in
    let led : leads there.0.standing ≡ true = (bests there.0 there.1 x there.2).1 (selected_best (offered ps) (distinct_places (slots_of ps) are) x selected) in
    takes_part (last_round ps best) ps there.0 x there.1 (in_last best before there.0 there.1 there.2 led) there.2
  where
    in_last : (best : Option ℕ) → IsBestBefore ps best → (p : Place) → IsPlace p ps → p.candidate ≡ Some x → leads p.standing ≡ true → is_in (last_round ps best) p ≡ true
    in_last None was p at e led = led
    in_last (Some slot) was p at e led =
        last_in ps slot p (keeps_lead ps slot) refl led (λ keeps kept. kept_is_best ps was.0 slot are bests was.1 was.2 was.3 was.4 keeps p at x e selected kept)

in_leads : (round : Round) (p : Place) (ps : List Place) (best : Option ℕ) → round ≡ last_round ps best → is_in round p ≡ true → leads p.standing ≡ true
in_leads (Neighbor n) p ps None e h = cc
in_leads (Neighbor n) p ps (Some slot) e h = no_neighbor (keeps_lead ps slot) e
  where
    no_neighbor : (b : Bool) → Neighbor n ≡ cond b (Newcomers slot) Bests → leads p.standing ≡ true
    no_neighbor true e = cc
    no_neighbor false e = cc
in_leads (Newcomers slot) p ps best e h = (both_hold (leads p.standing) (cond (not (is_kept p.standing)) true (p.slot == slot)) h).0
in_leads Bests p ps best e h = h

selected_last : (ps : List Place) (best : Option ℕ) → ArePlaces (slots_of ps) → AreBests ps → IsBestBefore ps best → (x : Candidate) → Among x (selection (offered ps)) → Among x (selection (contenders_of (last_round ps best) ps))
selected_last ps best are bests before x selected =
    let round : Round = last_round ps best in
    selected_of_bests (offered ps) (contenders_of round ps)
    (λ y at. let there : TakesPart round ps y = part_of round ps y at in among_offered ps are there.0 there.1 y there.3) x selected (selected_in ps best are bests before x selected)
    (λ y at. let there : TakesPart round ps y = part_of round ps y at in
    among_one (of_neighbor y.neighbor.0 (offered ps)) y ((bests there.0 there.1 y there.3).0 (in_leads round there.0 ps best refl there.2)))

none_last : (ps : List Place) (best : Option ℕ) → ArePlaces (slots_of ps) → AreBests ps → IsBestBefore ps best → contenders_of (last_round ps best) ps ≡ [] → (cs : List Candidate) → offered ps ≡ cs → cs ≡ []
none_last ps best are bests before none [] is = refl
none_last ps best are bests before none (c ∷ cs) is =
    let one : (x : Candidate) × IsSelected (offered ps) x = one_selected (offered ps) (λ e. some_of (c ∷ cs) c (inl refl) (sym is ∙ e)) (distinct_places (slots_of ps) are) in
    absurd (no_member (contenders_of (last_round ps best) ps) one.0 none (selected_in ps best are bests before one.0 (among_one (offered ps) one.0 one.1)))

-- what is chosen of the last round is chosen of all
pub last_chosen : (ps : List Place) (best : Option ℕ) → ArePlaces (slots_of ps) → AreBests ps → IsBestBefore ps best → (r : Option Candidate)
    → MatchOption r (contenders_of (last_round ps best) ps ≡ []) (λ d. IsSelected (contenders_of (last_round ps best) ps) d) → MatchOption r (offered ps ≡ []) (λ d. IsSelected (offered ps) d)
last_chosen ps best are bests before None none = none_last ps best are bests before none (offered ps) refl
last_chosen ps best are bests before (Some d) chosen =
    let there : TakesPart (last_round ps best) ps d = part_of (last_round ps best) ps d (among_selection (contenders_of (last_round ps best) ps) d (among_one (contenders_of (last_round ps best) ps) d chosen)).0 in
    let member : Among d (offered ps) = among_offered ps are there.0 there.1 d there.3 in
    let one : (x : Candidate) × IsSelected (offered ps) x = one_selected (offered ps) (some_of (offered ps) d member) (distinct_places (slots_of ps) are) in
    let same : one.0 ≡ d = one_among one.0 d (subst (Among one.0) chosen (selected_last ps best are bests before one.0 (among_one (offered ps) one.0 one.1))) in
    subst (IsSelected (offered ps)) same one.1
