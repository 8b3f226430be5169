-- The best candidate of each neighbor AS, and who is compared with whom where candidates change.
use Rattle.std.specs.Prelude.{ℕ, ◌≡◌, ◌==◌, Bool, true, false, not, ◌&&◌, ◌⊎◌, ◌↔◌, Option, Some, None, List, [], ◌∷◌, filter, filter_map, map, get_or, option_and_then, if◌then◌else◌}
use Rattle.std.specs.List.{list_any}
use Rattle.decision.specs.BookContents.{candidate_of, changed}
use Rattle.decision.specs.KeptPlaces.{ArePlaces, IsBestAt, candidates_of}
use Rattle.decision.specs.Selection.{IsSelected}
use Rattle.decision.specs.declared.book.Change.{Change}
use Rattle.decision.specs.declared.candidate.Candidate.{Candidate}
use Rattle.live_book.specs.declared.comparing.Few.{Few}
use Rattle.live_book.specs.declared.comparing.Few.TheVariants.{Nobody, One, Two, Many}
use Rattle.live_book.specs.declared.comparing.Round.{Round}
use Rattle.live_book.specs.declared.comparing.Round.TheVariants.{Neighbor, Newcomers, Bests}
use Rattle.live_book.specs.Places.{Place}
use Rattle.live_book.specs.declared.place.Standing.{Standing}
use Rattle.live_book.specs.declared.place.Standing.TheVariants.{Behind, Open, Leads, Won}

-- the candidates of a neighbor AS
abbrev pub of_neighbor : ℕ → List Candidate → List Candidate
of_neighbor n cs = filter (λ c. c.neighbor.0 == n) cs

-- the one that the selection leaves of the candidates of its neighbor AS
abbrev pub IsBestOfNeighbor : List Candidate → Candidate → Type 0
IsBestOfNeighbor cs c = IsSelected (of_neighbor c.neighbor.0 cs) c

-- how a candidate stands: it is the best of its neighbor AS; it was so before the latest change; it is to be compared;
-- another one is better
abbrev pub leads : Standing → Bool
leads Behind = false
leads Open = false
leads Leads = true
leads Won = true

abbrev pub is_kept : Standing → Bool
is_kept Behind = false
is_kept Open = false
is_kept Leads = true
is_kept Won = false

abbrev pub is_open : Standing → Bool
is_open Behind = false
is_open Open = true
is_open Leads = false
is_open Won = false

abbrev pub is_behind : Standing → Bool
is_behind Behind = true
is_behind Open = false
is_behind Leads = false
is_behind Won = false

-- the slots that have a place, with their candidates
abbrev pub slots_of : List Place → List (ℕ × Option Candidate)
slots_of ps = map (λ p. (p.slot, p.candidate)) ps

-- all candidates
abbrev pub offered : List Place → List Candidate
offered ps = candidates_of (slots_of ps)

-- a place without a candidate
abbrev pub empty_place : ℕ → Place
empty_place slot = record { slot = slot; candidate = None; standing = Behind }

-- the place of a slot that stood alone
abbrev pub first_place : ℕ → Option Candidate → Place
first_place slot candidate = record { slot = slot; candidate = candidate; standing = Leads }

-- the place is one of these
abbrev pub IsPlace : Place → List Place → Type 0
IsPlace p [] = ⊥
IsPlace p (q ∷ qs) = (q ≡ p) ⊎ IsPlace p qs

-- just those candidates lead that are the best of their neighbor AS
abbrev pub AreBests : List Place → Type 0
AreBests ps = (p : Place) → IsPlace p ps → (c : Candidate) → p.candidate ≡ Some c → (leads p.standing ≡ true) ↔ IsBestOfNeighbor (offered ps) c

-- the best of each neighbor AS isn't behind, and of each AS one leads at most
pub record AreFair (ps : List Place) : Type 0 where
  pub held : (p : Place) → IsPlace p ps → (c : Candidate) → p.candidate ≡ Some c → IsBestOfNeighbor (offered ps) c → is_behind p.standing ≡ false
  pub single : (p q : Place) → IsPlace p ps → IsPlace q ps → (c d : Candidate) → p.candidate ≡ Some c → q.candidate ≡ Some d → c.neighbor.0 ≡ d.neighbor.0 → leads p.standing ≡ true → leads q.standing ≡ true → p.slot ≡ q.slot

-- what leads as before stood there already and passed this test
abbrev pub HaveStood : (Standing → Bool) → List Place → List Place → Type 0
HaveStood test old new = (p : Place) → IsPlace p new → is_kept p.standing ≡ true → (q : Place) × IsPlace q old × (test q.standing ≡ true) × (q.slot ≡ p.slot) × (q.candidate ≡ p.candidate)

-- ---- changes

-- a change is of the slot
abbrev pub is_named : List Change → ℕ → Bool
is_named changes slot = list_any (λ c. c.slot == slot) changes

-- the neighbor AS of the candidate, where this holds
abbrev pub neighbor_if : Bool → Option Candidate → Option ℕ
neighbor_if holds None = None
neighbor_if holds (Some c) = if holds then Some c.neighbor.0 else None

-- the neighbor AS whose best one the changes name at this place
abbrev pub opened_by : List Change → Place → Option ℕ
opened_by changes p = neighbor_if (leads p.standing && is_named changes p.slot) p.candidate

abbrev pub opened_of : List Change → List Place → List ℕ
opened_of changes ps = filter_map (opened_by changes) ps

-- the neighbor AS is one of these
abbrev pub has_neighbor : List ℕ → ℕ → Bool
has_neighbor ns n = list_any (λ m. m == n) ns

-- the candidate came by one of these neighbor ASes
abbrev pub is_opened : List ℕ → Option Candidate → Bool
is_opened ns None = false
is_opened ns (Some c) = has_neighbor ns c.neighbor.0

-- how a place stands after the changes
abbrev pub standing_of : List Change → List ℕ → Place → Standing
standing_of changes ns p =
    if is_named changes p.slot then Open else
    if leads p.standing then Leads else
    if is_opened ns p.candidate then Open else Behind

abbrev pub moved : List Change → List ℕ → Place → Place
moved changes ns p = record { slot = p.slot; candidate = changed changes p.slot p.candidate; standing = standing_of changes ns p }

-- a place that stands alone, after the changes
abbrev pub renewed : List Change → Place → Place
renewed changes p = record { slot = p.slot; candidate = changed changes p.slot p.candidate; standing = Won }

-- ---- who is compared

-- the candidate came by the neighbor AS
abbrev pub is_of : ℕ → Option Candidate → Bool
is_of n None = false
is_of n (Some c) = c.neighbor.0 == n

-- the place takes part
abbrev pub is_in : Round → Place → Bool
is_in (Neighbor n) p = is_of n p.candidate && not (is_behind p.standing)
is_in (Newcomers best) p = leads p.standing && (if not (is_kept p.standing) then true else p.slot == best)
is_in Bests p = leads p.standing

abbrev pub contender : Round → Place → Option Candidate
contender round p = if is_in round p then p.candidate else None

abbrev pub contenders_of : Round → List Place → List Candidate
contenders_of round ps = filter_map (contender round) ps

-- these are just the few; of many nothing is said
abbrev pub AreFew : List Candidate → Few → Type 0
AreFew cs Nobody = cs ≡ []
AreFew cs (One c) = cs ≡ c ∷ []
AreFew cs (Two c d) = cs ≡ c ∷ d ∷ []
AreFew cs Many = Unit {0}

-- the few, with one more behind them
abbrev pub few_with : Few → Candidate → Few
few_with Nobody e = One e
few_with (One c) e = Two c e
few_with (Two c d) e = Many
few_with Many e = Many

-- a place where this slot has the best of the neighbor AS
abbrev pub narrowed_standing : ℕ → ℕ → Place → Standing
narrowed_standing n best p =
    if not (is_of n p.candidate) then p.standing else
    if not (p.slot == best) then Behind else
    if is_kept p.standing then Leads else Won

abbrev pub narrowed : ℕ → ℕ → Place → Place
narrowed n best p = record { slot = p.slot; candidate = p.candidate; standing = narrowed_standing n best p }

-- the neighbor AS in which the place is to be compared
abbrev pub neighbor_to_settle : Place → Option ℕ
neighbor_to_settle p = neighbor_if (is_open p.standing) p.candidate

-- the slot has the best of its neighbor AS, as before
abbrev pub keeps_lead : List Place → ℕ → Bool
keeps_lead ps slot = list_any (λ p. p.slot == slot && is_kept p.standing) ps

-- who is compared for the best of all
abbrev pub last_round : List Place → Option ℕ → Round
last_round ps None = Bests
last_round ps (Some slot) = if keeps_lead ps slot then Newcomers slot else Bests

-- ---- what is known before each comparison

-- the best of all is that of places where each that leads as before has led
abbrev pub IsBestBefore : List Place → Option ℕ → Type 0
IsBestBefore ps best =
    (old : List Place) × ArePlaces (slots_of old) × AreBests old × IsBestAt (slots_of old) (option_and_then (candidate_of (slots_of old)) best) × HaveStood leads old ps

-- the neighbor AS in which the kth place is to be compared
abbrev pub to_settle_at : List Place → ℕ → Option ℕ
to_settle_at ps k = neighbor_to_settle (get_or ps k (empty_place 0))
