-- What stands at each place behind a step that concerns one of them.
use Rattle.std.proofs.Common.{◌≡◌, ◌≢◌, ◌<◌, ℕ, zero, suc, List, [], ◌∷◌, refl, ap, arith, ◌∙◌, length, slice_index_or, slice_set}
use Rattle.std.proofs.lemmas.List.{get_or-set_other, get_or-set_same, length-set}
use Rattle.wires.specs.Counts.{Counts}
use Rattle.std.proofs.Common.{Option, Some, subst, sym}
use Rattle.speaker_turns.specs.Serving.{Attends, Connection, PlaceState, Settles, Sides, Visits, VisitsWhat, line_left}
use Rattle.speaker_turns.specs.declared.end.End.{End}
use Rattle.speaker_turns.specs.Turns.{AtPlace, Turns, counted, place_at, sides, vacant}
use Rattle.speaker_turns.specs.declared.end.End.{End}
use Rattle.speaker_turns.specs.Ends.{end_at}
use Rattle.speaker_turns.specs.declared.patience.Moment.{Moment}
use Rattle.speaker_turns.specs.declared.place.Visit.{Visit}
use Rattle.speaker_turns.specs.declared.place.Visit.TheVariants.{Stays, Faulty, Ended, Closed, Overdue, Unwanted}

-- what is counted leaves the wire
pub counted_wire : (visit : Visit) (counts : Counts) → (counted visit counts).wire ≡ counts.wire
counted_wire Stays counts = refl
counted_wire Faulty counts = refl
counted_wire Ended counts = refl
counted_wire Closed counts = refl
counted_wire Overdue counts = refl
counted_wire Unwanted counts = refl

-- the place of the step, and any other
pub here : (old new : Turns) (key : ℕ) (left : PlaceState) → key < length old.places → new.places ≡ slice_set old.places key left → place_at new key ≡ left
here old new key left within places = ap (λ (l : List PlaceState). slice_index_or l key vacant) places ∙ get_or-set_same old.places key left vacant within

pub elsewhere : (old new : Turns) (key : ℕ) (left : PlaceState) (other : ℕ) → other ≢ key → new.places ≡ slice_set old.places key left → place_at new other ≡ place_at old other
elsewhere old new key left other differs places = ap (λ (l : List PlaceState). slice_index_or l other vacant) places ∙ get_or-set_other old.places key other left vacant differs

pub as_many : (old new : Turns) (key : ℕ) (left : PlaceState) → new.places ≡ slice_set old.places key left → length new.places ≡ length old.places
as_many old new key left places = ap length places ∙ length-set old.places key left

-- a visit to what stands at a place, in its parts
pub visited : (now : Moment) (end : End) (old : PlaceState) (before : Sides) (visit : Visit) (line after : Connection) (left : List ℕ) (served : Sides) (new : PlaceState) (behind : Sides) → old.line ≡ Some line → Attends line.is_up end now line old.waiting before visit after left served → Settles visit end after served behind → new ≡ record { remote = old.remote; line = line_left visit after; waiting = left } → Visits now end old before visit new behind
visited now end old before visit line after left served new behind is attends settles place =
    subst (λ (found : Option Connection). VisitsWhat end now found old before visit new behind) (sym is)
    (record { after = after; left = left; served = served; attends = attends; settles = settles; place_is = place })

-- where there is a place, what is found there is found whatever stands for one that isn't there
any_default : (xs : List PlaceState) (key : ℕ) (one other : PlaceState) → key < length xs → slice_index_or xs key one ≡ slice_index_or xs key other
any_default [] key one other within = absurd (omega (arith, within))
any_default (x ∷ xs) zero one other within = refl
any_default (x ∷ xs) (suc key) one other within = any_default xs key one other (omega (arith, within))

-- what happens at a place, in its parts
pub at_place_by : (Happens : End → PlaceState → Sides → Visit → PlaceState → Sides → Type 0) (old mid new : Turns) (key : ℕ) (end : End) (found : PlaceState) (visit : Visit) (left : PlaceState) (behind : Sides) → end ≡ end_at key → key < length old.places → found ≡ slice_index_or old.places key found → Happens end found (sides old) visit left behind → mid ≡ record { counts = record old.counts { wire = behind.wire }; speaker = behind.speaker; places = slice_set old.places key left; patience = old.patience; next = old.next } → new ≡ record mid { counts = counted visit mid.counts } → AtPlace Happens old key new
at_place_by Happens old mid new key end found visit left behind is within at happens between counts =
    record {
      visit = visit;
      left = left;
      behind = behind;
      happens = subst (λ (p : PlaceState). Happens (end_at key) p (sides old) visit left behind) (at ∙ any_default old.places key found vacant within) (subst (λ (e : End). Happens e found (sides old) visit left behind) is happens);
      counts = ap (λ (t : Turns). t.counts) counts ∙ ap (λ (t : Turns). counted visit t.counts) between;
      speaker = ap (λ (t : Turns). t.speaker) counts ∙ ap (λ (t : Turns). t.speaker) between;
      places = ap (λ (t : Turns). t.places) counts ∙ ap (λ (t : Turns). t.places) between;
      patience = ap (λ (t : Turns). t.patience) counts ∙ ap (λ (t : Turns). t.patience) between;
      next = ap (λ (t : Turns). t.next) counts ∙ ap (λ (t : Turns). t.next) between;
    }
