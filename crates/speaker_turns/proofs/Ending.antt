-- Of the connections that are known to end one is visited a turn.
use Rattle.std.proofs.Common.{◌≡◌, ◌==◌, ◌<◌, ◌≤◌, ◌||◌, ℕ, zero, suc, Bool, true, false, refl, sym, ap, subst, ◌∙◌, Option, None, Some, IfSome, is_some, if◌then◌else◌, nat_lt, length, le-ltb, lt-ltb, ltb-false, ltb-true, ne_eqb, eq-eqb, arith, inl, inr}
use Rattle.speaker_turns.specs.Ends.{end_at, place_count, place_of}
use Rattle.speaker_turns.specs.Serving.{PlaceState, Sides, VisitsTold, VisitsUnless}
use Rattle.speaker_turns.specs.Turns.{AtPlace, AtPlaces, IsNearer, Turns, VisitsAll, VisitsBut, comes_behind, is_off, is_the_one, next_behind, place_at, sides}
use Rattle.speaker_turns.specs.declared.end.End.{End}
use Rattle.speaker_turns.specs.declared.end.End.TheVariants.{Peer, Cache}
use Rattle.speaker_turns.specs.declared.patience.Moment.{Moment}
use Rattle.speaker_turns.specs.declared.place.Visit.{Visit}

abbrev Happening : Type 1
Happening = End → PlaceState → Sides → Visit → PlaceState → Sides → Type 0

-- the place of the session of a place
place_back : (key : ℕ) → key < 65 → place_of (end_at key) ≡ key
place_back key few = by_test (nat_lt key 64) refl
  where
    by_test : (test : Bool) → nat_lt key 64 ≡ test → place_of (if test then Peer key else Cache) ≡ key
    by_test true below = ap (λ (b : Bool). if b then key else 65) below
    by_test false above = let last = ltb-false key 64 above in omega (arith, last, few)

-- what happens at a place may be said otherwise
at_place_so : (A B : Happening) (old new : Turns) (key : ℕ) → ((before : PlaceState) (from : Sides) (visit : Visit) (left : PlaceState) (behind : Sides) → A (end_at key) before from visit left behind → B (end_at key) before from visit left behind) → AtPlace A old key new → AtPlace B old key new
at_place_so A B old new key so at =
    record {
      visit = at.visit;
      left = at.left;
      behind = at.behind;
      happens = so (place_at old key) (sides old) at.visit at.left at.behind at.happens;
      counts = at.counts;
      speaker = at.speaker;
      places = at.places;
      patience = at.patience;
      next = at.next;
    }

-- the same tests say the same
abbrev pub visits_unless : Bool → Moment → Bool → Happening
visits_unless is_off now is_one end old before visit new behind = VisitsUnless is_off now end old before visit is_one new behind

same_tests : (is_off off is_one one : Bool) (now : Moment) (end : End) (old : PlaceState) (before : Sides) (visit : Visit) (new : PlaceState) (behind : Sides) → is_off ≡ off → is_one ≡ one → VisitsUnless is_off now end old before visit is_one new behind → VisitsUnless off now end old before visit one new behind
same_tests is_off off is_one one now end old before visit new behind same_off same_one unless =
    subst (λ (b : Bool). VisitsUnless off now end old before visit b new behind) same_one
    (subst (λ (b : Bool). VisitsUnless b now end old before visit is_one new behind) same_off unless)

-- where one that ends was visited it wasn't put off
not_off : (is_off : Bool) (now : Moment) (end : End) (old : PlaceState) (before : Sides) (visit : Visit) (new : PlaceState) (behind : Sides) → VisitsUnless is_off now end old before visit true new behind → is_off ≡ false
not_off is_off now end old before visit new behind unless = by_told unless.told is_off unless.visits
  where
    by_told : (told is_off : Bool) → VisitsTold told is_off now end old (record before { wire = unless.wire }) visit true new behind → is_off ≡ false
    by_told false is_off visits = absurd (let wrong = visits.0 in cc)
    by_told true false visits = refl
    by_told true true visits = absurd (let wrong = visits.0 in cc)

none_of : (next key : ℕ) (one : Option ℕ) → (nat_lt key next || is_some one) ≡ false → (one ≡ None) × (nat_lt key next ≡ false)
none_of next key one never = by_test (nat_lt key next) one refl never
  where
    by_test : (test : Bool) (found : Option ℕ) → nat_lt key next ≡ test → (test || is_some found) ≡ false → (found ≡ None) × (nat_lt key next ≡ false)
    by_test true found is none = absurd cc
    by_test false None is none = (refl, is)
    by_test false (Some other) is none = absurd cc

-- a lower one comes before this place, and isn't at it
lower_comes : (one : Option ℕ) (key : ℕ) → IfSome one (λ o. o < key) → is_some one ≡ comes_behind one key
lower_comes None key below = refl
lower_comes (Some one) key below = sym (lt-ltb one key below)

lower_is_another : (one : Option ℕ) (key : ℕ) → IfSome one (λ o. o < key) → false ≡ is_the_one one key
lower_is_another None key below = refl
lower_is_another (Some one) key below = sym (ne_eqb one key (λ same. omega (arith, below, same)))

-- to the places below it a higher one is none
higher_is_none : (next one : ℕ) (now : Moment) (count : ℕ) (old new : Turns) → count ≤ one → one < 65 → AtPlaces (VisitsBut next None now) count old new → AtPlaces (VisitsBut next (Some one) now) count old new
higher_is_none next one now zero old new within few same = same
higher_is_none next one now (suc key) old new within few at =
    (at.0, higher_is_none next one now key old at.0 (omega (arith, within)) few at.1, at_place_so (VisitsBut next None now) (VisitsBut next (Some one) now) at.0 new key so at.2)
  where
    below : key < one
    below = omega (arith, within)

    here : place_of (end_at key) ≡ key
    here = place_back key (omega (arith, below, few))

    so : (before : PlaceState) (from : Sides) (visit : Visit) (left : PlaceState) (behind : Sides) → VisitsBut next None now (end_at key) before from visit left behind → VisitsBut next (Some one) now (end_at key) before from visit left behind
    so before from visit left behind unless =
        same_tests (is_off next None (place_of (end_at key))) (is_off next (Some one) (place_of (end_at key))) false (one == place_of (end_at key)) now (end_at key) before from visit left behind
        (ap (λ (b : Bool). nat_lt (place_of (end_at key)) next || b) (sym (le-ltb one (place_of (end_at key)) (omega (arith, here, below)))))
        (sym (ne_eqb one (place_of (end_at key)) (λ same. omega (arith, same, here, below)))) unless

-- a place more
pub visited_more : (next : ℕ) (one : Option ℕ) (now : Moment) (key : ℕ) (is_one : Bool) (old mid new : Turns) → key < 65 → IfSome one (λ o. o < key) → AtPlaces (VisitsBut next one now) key old mid → AtPlace (visits_unless (nat_lt key next || is_some one) now is_one) mid key new → AtPlaces (VisitsBut next (if is_one then Some key else one) now) (suc key) old new
visited_more next one now key false old mid new few below at place = (mid, at, at_place_so (visits_unless (nat_lt key next || is_some one) now false) (VisitsBut next one now) mid new key so place)
  where
    here : place_of (end_at key) ≡ key
    here = place_back key few

    so : (before : PlaceState) (from : Sides) (visit : Visit) (left : PlaceState) (behind : Sides) → VisitsUnless (nat_lt key next || is_some one) now (end_at key) before from visit false left behind → VisitsBut next one now (end_at key) before from visit left behind
    so before from visit left behind unless =
        same_tests (nat_lt key next || is_some one) (is_off next one (place_of (end_at key))) false (is_the_one one (place_of (end_at key))) now (end_at key) before from visit left behind
        (ap (λ (b : Bool). nat_lt key next || b) (lower_comes one key below) ∙ ap (is_off next one) (sym here))
        (lower_is_another one key below ∙ ap (is_the_one one) (sym here)) unless
visited_more next one now key true old mid new few below at place =
    (mid, higher_is_none next key now key old mid (omega arith) few (subst (λ (o : Option ℕ). AtPlaces (VisitsBut next o now) key old mid) none.0 at), at_place_so (visits_unless (nat_lt key next || is_some one) now true) (VisitsBut next (Some key) now) mid new key so place)
  where
    none : (one ≡ None) × (nat_lt key next ≡ false)
    none = none_of next key one (not_off (nat_lt key next || is_some one) now (end_at key) (place_at mid key) (sides mid) place.visit place.left place.behind place.happens)

    here : place_of (end_at key) ≡ key
    here = place_back key few

    off : is_off next (Some key) key ≡ false
    off = ap (λ (b : Bool). b || nat_lt key key) none.1 ∙ le-ltb key key (omega arith)

    so : (before : PlaceState) (from : Sides) (visit : Visit) (left : PlaceState) (behind : Sides) → VisitsUnless (nat_lt key next || is_some one) now (end_at key) before from visit true left behind → VisitsBut next (Some key) now (end_at key) before from visit left behind
    so before from visit left behind unless =
        same_tests (nat_lt key next || is_some one) (is_off next (Some key) (place_of (end_at key))) true (key == place_of (end_at key)) now (end_at key) before from visit left behind
        (not_off (nat_lt key next || is_some one) now (end_at key) before from visit left behind unless ∙ (sym off ∙ ap (is_off next (Some key)) (sym here)))
        (sym (eq-eqb key (place_of (end_at key)) (sym here))) unless

-- the one of this turn is a place that the turn looked at
pub one_within : (next key : ℕ) (one : Option ℕ) (is_one : Bool) (now : Moment) (mid new : Turns) → IfSome one (λ o. (next ≤ o) × (o < key)) → AtPlace (visits_unless (nat_lt key next || is_some one) now is_one) mid key new → IfSome (if is_one then Some key else one) (λ o. (next ≤ o) × (o < suc key))
one_within next key None false now mid new within place = tt
one_within next key (Some one) false now mid new within place = let first = within.0 in let second = within.1 in (first, omega (arith, second))
one_within next key one true now mid new within place =
    let none = none_of next key one (not_off (nat_lt key next || is_some one) now (end_at key) (place_at mid key) (sides mid) place.visit place.left place.behind place.happens) in
    (ltb-false key next none.1, omega arith)

pub below_it : (next key : ℕ) (one : Option ℕ) → IfSome one (λ o. (next ≤ o) × (o < key)) → IfSome one (λ o. o < key)
below_it next key None within = tt
below_it next key (Some one) within = within.1

-- one that is put off comes nearer
pub comes_nearer : (now key : ℕ) (old new : Turns) → (visits : VisitsAll now old new) → is_off old.next visits.one key ≡ true → IsNearer key old.next new.next
comes_nearer now key old new visits off = by_one visits.one visits.within off (ap (λ (t : Turns). t.next) visits.goes_on)
  where
    by_one : (one : Option ℕ) → IfSome one (λ o. (old.next ≤ o) × (o < length old.places)) → is_off old.next one key ≡ true → new.next ≡ next_behind one → IsNearer key old.next new.next
    by_one None within off is = (λ below. inl is, λ above. absurd (let no = le-ltb key old.next above in cc))
    by_one (Some one) within off is = (λ below. inr (omega (arith, first, is)), λ above. (omega (arith, first, is), omega (arith, behind above, is)))
      where
        first : old.next ≤ one
        first = within.0

        behind : old.next ≤ key → one < key
        behind above = ltb-true one key (ap (λ (b : Bool). b || nat_lt one key) (sym (le-ltb key old.next above)) ∙ off)

-- there are 65 places
pub few : (key count : ℕ) → key < count → count ≡ place_count → key < 65
unfolding place_count
few key count below all = omega (arith, below, all)

pub one_few : (one : Option ℕ) (next key count : ℕ) → count ≡ place_count → key ≤ count → IfSome one (λ o. (next ≤ o) × (o < key)) → IfSome one (λ o. o < place_count)
one_few None next key count all up_to within = tt
one_few (Some one) next key count all up_to within = let below = within.1 in subst (λ (n : ℕ). one < n) all (omega (arith, below, up_to))

pub none_visited : (next : ℕ) (now : Moment) (turns : Turns) → AtPlaces (VisitsBut next None now) 0 turns turns
none_visited next now turns = refl
