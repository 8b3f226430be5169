-- What connections carry, one step of a turn after another.
use Rattle.std.proofs.Common.{◌≡◌, ◌≢◌, ◌≤◌, ◌<◌, ◌-◌, ◌^◌, ℕ, zero, suc, Bool, true, false, List, [], ◌∷◌, ◌++◌, refl, sym, ap, subst, ◌∙◌, append_assoc, append-nil, inl, inr, ◌⊎◌, Option, Some, None, Result, Ok, Err, length, nat_le, arith, slice_index_or, slice_set}
use Rattle.std.proofs.lemmas.Bool.{cases_eq}
use Rattle.std.specs.declared.net.socket_addr.SocketAddr.{SocketAddr}
use Rattle.std.proofs.lemmas.Option.{same_Some}
use Rattle.runs.specs.Agreement.{Agrees}
use Rattle.runs.specs.FirstRefusal.{awaits_up}
use Rattle.runs.specs.Runs.{Call, Run, Tick_call}
use Rattle.runs.specs.SpeakerState.{SpeakerState}
use Rattle.runs.specs.declared.config.Config.{Config}
use Rattle.runs.specs.declared.event.Report.{Report}
use Rattle.wires.specs.Calls.{WireCall, Accept, Close}
use Rattle.wires.specs.Carried.{given, taken}
use Rattle.wires.specs.Counts.{Counts}
use Rattle.wires.specs.Wires.{WireState, one_more}
use Rattle.wires.specs.declared.fault.LoopFault.{LoopFault}
use Rattle.wires.specs.declared.fault.LoopFault.TheVariants as stop
use Rattle.wires.specs.declared.wire.Parting.TheVariants as parting
use Rattle.wires.proofs.Counting.{goes_on, goes_on_by_one}
use Rattle.wires.proofs.Sockets.{IsIdle, given-on, idle_on, taken-on}
use Rattle.speaker_turns.specs.Carrying.{CarriesOwn, ComesLast, IsFresh, StaysUp, handed, heard}
use Rattle.speaker_turns.specs.Ends.{end_at, place_count, place_of}
use Rattle.speaker_turns.specs.Serving.{Begins, Connection, PlaceState, Sides, seated, up}
use Rattle.speaker_turns.specs.Sessions.{Asks, Makes, Ticks, up_call, wanted_transport_of}
use Rattle.speaker_turns.specs.Turns.{Accepts, AtAll, AtPlace, AtPlaces, GivesWay, IsTold, LetsIn, NoneComes, SitsDown, Stops, TakesTurn, TakesTurns, Turns, TurnsAway, VisitsAll, VisitsBut, has_opened, is_off, is_the_one, moment_of, next_behind, place_at, sides, vacant}
use Rattle.speaker_turns.specs.declared.end.End.{End}
use Rattle.speaker_turns.specs.declared.place.Visit.{Visit}
use Rattle.speaker_turns.proofs.Asking.{Silent, handed-on, heard-on, makes_none, makes_on, of_up, silent, up-on}
use Rattle.speaker_turns.proofs.Effects.{After, Effect, Standing, begins_effect, gives_way_effect, visits_unless_effect}
use Rattle.speaker_turns.proofs.Effects.After.{Begun, Goes, Gone, SitsDown as NowSits}
use Rattle.speaker_turns.proofs.Effects.Standing.{Comes, Keeps, Tries}
use Rattle.speaker_turns.proofs.Places.{as_many, counted_wire, elsewhere, here}

-- the connection of the session of a place, over all calls since it came
pub record IsCarried (first : SpeakerState) (now : Sides) (key : ℕ) (number : ℕ) (waiting : List ℕ) : Type 0 where
  pub before : List Call
  pub since : List Call
  pub start : SpeakerState
  pub made : Makes before first start
  pub came : ComesLast key before
  pub run : Makes since start now.speaker
  pub up : StaysUp key since
  pub hears : heard key since ≡ given number now.wire.calls
  pub takes : handed key since ≡ taken number now.wire.calls ++ waiting

-- and behind more calls
carried_on : (first : SpeakerState) (old new : Sides) (key number : ℕ) (waiting left : List ℕ) (asks : List Call) (calls : List WireCall) → IsCarried first old key number waiting → Makes asks old.speaker new.speaker → new.wire.calls ≡ calls ++ old.wire.calls → StaysUp key asks → heard key asks ≡ given number calls → waiting ++ handed key asks ≡ taken number calls ++ left → IsCarried first new key number left
carried_on first old new key number waiting left asks calls c makes told up hears takes =
    record {
      before = c.before;
      since = asks ++ c.since;
      start = c.start;
      made = c.made;
      came = c.came;
      run = makes_on c.since asks c.start old.speaker new.speaker c.run makes;
      up = up-on key c.since asks c.up up;
      hears =
          heard-on key c.since asks
          ∙ (ap (λ (l : List ℕ). l ++ heard key asks) c.hears
          ∙ (ap (λ (l : List ℕ). given number old.wire.calls ++ l) hears
          ∙ (sym (given-on number old.wire.calls calls)
          ∙ ap (given number) (sym told))));
      takes =
          handed-on key c.since asks
          ∙ (ap (λ (l : List ℕ). l ++ handed key asks) c.takes
          ∙ (append_assoc (taken number old.wire.calls) waiting (handed key asks)
          ∙ (ap (λ (l : List ℕ). taken number old.wire.calls ++ l) takes
          ∙ (sym (append_assoc (taken number old.wire.calls) (taken number calls) left)
          ∙ (ap (λ (l : List ℕ). l ++ left) (sym (taken-on number old.wire.calls calls))
          ∙ ap (λ (l : List WireCall). taken number l ++ left) (sym told))))));
    }

-- a connection is carried, and an attempt has carried nothing
abbrev pub IsKept : Bool → SpeakerState → Sides → ℕ → ℕ → List ℕ → Type 0
IsKept true first now key number waiting = IsCarried first now key number waiting
IsKept false first now key number waiting = IsIdle number now.wire.calls × (waiting ≡ [])

-- beside calls that carry nothing of it
kept_beside : (up : Bool) (first : SpeakerState) (old new : Sides) (key number : ℕ) (waiting : List ℕ) (asks : List Call) (calls : List WireCall) → IsKept up first old key number waiting → Makes asks old.speaker new.speaker → new.wire.calls ≡ calls ++ old.wire.calls → Silent key asks → IsIdle number calls → IsKept up first new key number waiting
kept_beside true first old new key number waiting asks calls c makes told quiet rests =
    carried_on first old new key number waiting waiting asks calls c makes told quiet.up (quiet.hears ∙ sym rests.gives)
    (ap (λ (l : List ℕ). waiting ++ l) quiet.hands ∙ (append-nil waiting ∙ ap (λ (l : List ℕ). l ++ waiting) (sym rests.takes)))
kept_beside false first old new key number waiting asks calls kept makes told quiet rests =
    (idle_on number old.wire.calls calls new.wire.calls told kept.0 rests, kept.1)

-- what is kept at a place of what stands there
abbrev pub IsKeptAt : SpeakerState → Turns → ℕ → Connection → Type 0
IsKeptAt first turns key line = IsKept line.is_up first (sides turns) key line.number (place_at turns key).waiting

-- so it is at each place, each socket has a number of its own, and numbers that didn't come yet have carried nothing
pub record AreCarried (first : SpeakerState) (turns : Turns) : Type 0 where
  pub before : List Call
  pub made : Makes before first turns.speaker
  pub all : length turns.places ≡ place_count
  pub each : (key : ℕ) (line : Connection) → (place_at turns key).line ≡ Some line → IsKeptAt first turns key line
  pub numbered : (key : ℕ) (line : Connection) → (place_at turns key).line ≡ Some line → line.number < turns.counts.wire.sockets
  pub apart : (key other : ℕ) (line another : Connection) → other ≢ key → (place_at turns key).line ≡ Some line → (place_at turns other).line ≡ Some another → another.number ≢ line.number
  pub unused : (number : ℕ) → turns.counts.wire.sockets ≤ number → IsIdle number turns.counts.wire.calls

-- what stands at a place, where calls are of it alone
record IsHere (first : SpeakerState) (old new : Turns) (key : ℕ) (line : Connection) : Type 0 where
  pub kept : IsKeptAt first new key line
  pub numbered : line.number < new.counts.wire.sockets
  pub apart : (other : ℕ) (another : Connection) → other ≢ key → (place_at old other).line ≡ Some another → another.number ≢ line.number

-- a step that changes what stands at one place alone
record Changes (first : SpeakerState) (old : Turns) (key : ℕ) (new : Turns) : Type 0 where
  pub asks : List Call
  pub calls : List WireCall
  pub makes : Makes asks old.speaker new.speaker
  pub told : new.counts.wire.calls ≡ calls ++ old.counts.wire.calls
  pub sockets : old.counts.wire.sockets ≤ new.counts.wire.sockets
  pub all : length new.places ≡ length old.places
  pub quiet : (other : ℕ) → other ≢ key → Silent other asks
  pub rests : (other : ℕ) (another : Connection) → other ≢ key → (place_at old other).line ≡ Some another → IsIdle another.number calls
  pub unused : (number : ℕ) → new.counts.wire.sockets ≤ number → IsIdle number calls
  pub others : (other : ℕ) → other ≢ key → place_at new other ≡ place_at old other
  pub here : (line : Connection) → (place_at new key).line ≡ Some line → IsHere first old new key line

changed : (first : SpeakerState) (old new : Turns) (key : ℕ) → AreCarried first old → Changes first old key new → AreCarried first new
changed first old new key are step =
    record {
      before = step.asks ++ are.before;
      made = makes_on are.before step.asks first old.speaker new.speaker are.made step.makes;
      all = step.all ∙ are.all;
      each = λ other line is. each other line is (cases_eq other key);
      numbered = λ other line is. numbered other line is (cases_eq other key);
      apart = λ one other line another differs is there. apart one other line another differs is there (cases_eq one key) (cases_eq other key);
      unused = λ number come. idle_on number old.counts.wire.calls step.calls new.counts.wire.calls step.told (are.unused number (omega (arith, come, step.sockets))) (step.unused number come);
    }
  where
    before_it : (other : ℕ) (line : Connection) → other ≢ key → (place_at new other).line ≡ Some line → (place_at old other).line ≡ Some line
    before_it other line differs is = sym (ap (λ (p : PlaceState). p.line) (step.others other differs)) ∙ is

    moved : (other : ℕ) (line : Connection) → other ≡ key → (place_at new other).line ≡ Some line → (place_at new key).line ≡ Some line
    moved other line same is = ap (λ (k : ℕ). (place_at new k).line) (sym same) ∙ is

    each : (other : ℕ) (line : Connection) → (place_at new other).line ≡ Some line → (other ≡ key) ⊎ (other ≡ key → ⊥) → IsKeptAt first new other line
    each other line is (inl same) =
        subst (λ (k : ℕ). IsKeptAt first new k line) (sym same) (step.here line (moved other line same is)).kept
    each other line is (inr differs) =
        let old_is = before_it other line differs is in
        subst (λ (p : PlaceState). IsKept line.is_up first (sides new) other line.number p.waiting) (sym (step.others other differs))
        (kept_beside line.is_up first (sides old) (sides new) other line.number (place_at old other).waiting step.asks step.calls (are.each other line old_is) step.makes step.told (step.quiet other differs) (step.rests other line differs old_is))

    numbered : (other : ℕ) (line : Connection) → (place_at new other).line ≡ Some line → (other ≡ key) ⊎ (other ≡ key → ⊥) → line.number < new.counts.wire.sockets
    numbered other line is (inl same) = (step.here line (moved other line same is)).numbered
    numbered other line is (inr differs) =
        let below = are.numbered other line (before_it other line differs is) in
        omega (arith, below, step.sockets)

    apart : (one other : ℕ) (line another : Connection) → other ≢ one → (place_at new one).line ≡ Some line → (place_at new other).line ≡ Some another → (one ≡ key) ⊎ (one ≡ key → ⊥) → (other ≡ key) ⊎ (other ≡ key → ⊥) → another.number ≢ line.number
    apart one other line another differs is there (inl first_same) (inl second_same) = absurd (differs (second_same ∙ sym first_same))
    apart one other line another differs is there (inl same) (inr other_differs) =
        (step.here line (moved one line same is)).apart other another other_differs (before_it other another other_differs there)
    apart one other line another differs is there (inr one_differs) (inl same) =
        λ equal. (step.here another (moved other another same there)).apart one line one_differs (before_it one line one_differs is) (sym equal)
    apart one other line another differs is there (inr one_differs) (inr other_differs) =
        are.apart one other line another differs (before_it one line one_differs is) (before_it other another other_differs there)

-- what an effect at a place makes of all
effect_changes : (first : SpeakerState) (old new : Turns) (key : ℕ) (left : PlaceState) (behind : Sides) → AreCarried first old → key < length old.places → Effect key (place_at old key) (sides old) left behind → new.counts.wire ≡ behind.wire → new.speaker ≡ behind.speaker → new.places ≡ slice_set old.places key left → new.counts.wire.sockets < 2 ^ 64 - 1 → Changes first old key new
effect_changes first old new key left behind are within e wire speaker placed below =
    record {
      asks = e.asks;
      calls = e.calls;
      makes = makes;
      told = told;
      sockets = risen;
      all = as_many old new key left placed;
      quiet = λ other differs. silent key other e.asks e.of_session differs;
      rests = λ other another differs is. e.rests another.number (λ line there. are.apart key other line another differs there is);
      unused = λ number come. e.rests number (λ line there same. let under = are.numbered key line there in absurd (omega (arith, come, risen, under, same)));
      others = λ other differs. elsewhere old new key left other differs placed;
      here = λ line is. stands line (sym (ap (λ (p : PlaceState). p.line) at) ∙ is) e.after;
    }
  where
    makes : Makes e.asks old.speaker new.speaker
    makes = subst (λ (s : SpeakerState). Makes e.asks old.speaker s) (sym speaker) e.makes

    told : new.counts.wire.calls ≡ e.calls ++ old.counts.wire.calls
    told = ap (λ (w : WireState). w.calls) wire ∙ e.told

    sockets_are : new.counts.wire.sockets ≡ behind.wire.sockets
    sockets_are = ap (λ (w : WireState). w.sockets) wire

    risen : old.counts.wire.sockets ≤ new.counts.wire.sockets
    risen = omega (arith, e.sockets, sockets_are)

    at : place_at new key ≡ left
    at = here old new key left within placed

    -- what is kept there, said of the place as the effect leaves it
    said : (line : Connection) → IsKept line.is_up first (sides new) key line.number left.waiting → IsKeptAt first new key line
    said line kept = subst (λ (p : PlaceState). IsKept line.is_up first (sides new) key line.number p.waiting) (sym at) kept

    by_flag : (line : Connection) (flag : Bool) → line.is_up ≡ flag → IsKept flag first (sides new) key line.number left.waiting → IsKept line.is_up first (sides new) key line.number left.waiting
    by_flag line flag is kept = subst (λ (b : Bool). IsKept b first (sides new) key line.number left.waiting) (sym is) kept

    -- a connection that has come now
    newcomer : (number : ℕ) (waiting : List ℕ) → waiting ≡ [] → IsIdle number new.counts.wire.calls → ComesLast key e.asks → IsCarried first (sides new) key number waiting
    newcomer number waiting none unseen last =
        record {
          before = e.asks ++ are.before;
          since = [];
          start = new.speaker;
          made = makes_on are.before e.asks first old.speaker new.speaker are.made makes;
          came = last_of e.asks last;
          run = makes_none new.speaker new.speaker refl;
          up = tt;
          hears = sym unseen.gives;
          takes = sym (ap (λ (l : List ℕ). l ++ waiting) unseen.takes ∙ none);
        }
      where
        last_of : (asks : List Call) → ComesLast key asks → ComesLast key (asks ++ are.before)
        last_of [] last = absurd last
        last_of (call ∷ earlier) last = last

    -- what has stood there
    stood : (line after : Connection) → (place_at old key).line ≡ Some line → after.number ≡ line.number → Standing key line after (place_at old key).waiting left.waiting e.asks e.calls → IsHere first old new key after
    stood line after is number standing =
        record {
          kept = said after (by_standing standing);
          numbered = (let under = are.numbered key line is in omega (arith, under, risen, number));
          apart = λ other another differs there same. are.apart key other line another differs is there (same ∙ number);
        }
      where
        before_kept : (flag : Bool) → line.is_up ≡ flag → IsKept flag first (sides old) key line.number (place_at old key).waiting
        before_kept flag flagged = subst (λ (b : Bool). IsKept b first (sides old) key line.number (place_at old key).waiting) flagged (are.each key line is)

        renumber : (flag : Bool) → IsKept flag first (sides new) key line.number left.waiting → IsKept flag first (sides new) key after.number left.waiting
        renumber flag kept = subst (λ (n : ℕ). IsKept flag first (sides new) key n left.waiting) (sym number) kept

        by_standing : Standing key line after (place_at old key).waiting left.waiting e.asks e.calls → IsKept after.is_up first (sides new) key after.number left.waiting
        by_standing (Keeps was now up hears takes) =
            by_flag after true now (renumber true
            (carried_on first (sides old) (sides new) key line.number (place_at old key).waiting left.waiting e.asks e.calls (before_kept true was) makes told up hears takes))
        by_standing (Tries was now same idle) =
            let kept = before_kept false was in
            by_flag after false now (renumber false
            (idle_on line.number old.counts.wire.calls e.calls new.counts.wire.calls told kept.0 idle, same ∙ kept.1))
        by_standing (Comes was now same idle last) =
            let kept = before_kept false was in
            by_flag after true now (renumber true
            (newcomer line.number left.waiting (same ∙ kept.1) (idle_on line.number old.counts.wire.calls e.calls new.counts.wire.calls told kept.0 idle) last))

    -- what is new there
    fresh : (after : Connection) → after.number ≡ old.counts.wire.sockets → behind.wire.sockets ≡ one_more old.counts.wire.sockets → IsKept after.is_up first (sides new) key after.number left.waiting → IsHere first old new key after
    fresh after number one kept =
        let more : new.counts.wire.sockets ≡ one_more old.counts.wire.sockets = sockets_are ∙ one in
        record {
          kept = said after kept;
          numbered = omega (arith, number, more, goes_on_by_one old.counts.wire.sockets (subst (λ (n : ℕ). n < 2 ^ 64 - 1) more below));
          apart = λ other another differs there same. let under = are.numbered other another there in absurd (omega (arith, under, same, number));
        }

    unseen : (number : ℕ) → number ≡ old.counts.wire.sockets → IsIdle number e.calls → IsIdle number new.counts.wire.calls
    unseen number is idle = idle_on number old.counts.wire.calls e.calls new.counts.wire.calls told (are.unused number (omega (arith, is))) idle

    stands : (line : Connection) → left.line ≡ Some line → After key (place_at old key) old.counts.wire behind.wire e.asks e.calls left → IsHere first old new key line
    stands line is (Gone none) = absurd (let wrong : None ≡ Some line = sym none ∙ is in cc)
    stands line is (Goes before after was now number standing) =
        subst (λ (l : Connection). IsHere first old new key l) (same_Some after line (sym now ∙ is)) (stood before after was number standing)
    stands line is (Begun after now number down one none rests) =
        subst (λ (l : Connection). IsHere first old new key l) (same_Some after line (sym now ∙ is))
        (fresh after number one (by_flag after false down (unseen after.number number (rests after.number), none)))
    stands line is (NowSits after now number flag one none rests last) =
        subst (λ (l : Connection). IsHere first old new key l) (same_Some after line (sym now ∙ is))
        (fresh after number one (by_flag after true flag (newcomer after.number left.waiting none (unseen after.number number (rests after.number)) last)))

effect_carries : (first : SpeakerState) (old new : Turns) (key : ℕ) (left : PlaceState) (behind : Sides) → AreCarried first old → key < length old.places → Effect key (place_at old key) (sides old) left behind → new.counts.wire ≡ behind.wire → new.speaker ≡ behind.speaker → new.places ≡ slice_set old.places key left → new.counts.wire.sockets < 2 ^ 64 - 1 → AreCarried first new
effect_carries first old new key left behind are within e wire speaker placed below =
    changed first old new key are (effect_changes first old new key left behind are within e wire speaker placed below)

-- a step that leaves each place: its calls carry nothing of any
pub record Passes (old new : Turns) : Type 0 where
  pub asks : List Call
  pub calls : List WireCall
  pub makes : Makes asks old.speaker new.speaker
  pub told : new.counts.wire.calls ≡ calls ++ old.counts.wire.calls
  pub sockets : old.counts.wire.sockets ≤ new.counts.wire.sockets
  pub quiet : (key : ℕ) → Silent key asks
  pub rests : (number : ℕ) → IsIdle number calls
  pub same : new.places ≡ old.places

passed : (first : SpeakerState) (old new : Turns) → AreCarried first old → Passes old new → AreCarried first new
passed first old new are step =
    record {
      before = step.asks ++ are.before;
      made = makes_on are.before step.asks first old.speaker new.speaker are.made step.makes;
      all = ap length step.same ∙ are.all;
      each = λ key line is. each key line (was key line is);
      numbered = λ key line is. (let under = are.numbered key line (was key line is) in omega (arith, under, step.sockets));
      apart = λ key other line another differs is there. are.apart key other line another differs (was key line is) (was other another there);
      unused = λ number come. idle_on number old.counts.wire.calls step.calls new.counts.wire.calls step.told (are.unused number (omega (arith, come, step.sockets))) (step.rests number);
    }
  where
    at : (key : ℕ) → place_at new key ≡ place_at old key
    at key = ap (λ (l : List PlaceState). slice_index_or l key vacant) step.same

    was : (key : ℕ) (line : Connection) → (place_at new key).line ≡ Some line → (place_at old key).line ≡ Some line
    was key line is = sym (ap (λ (p : PlaceState). p.line) (at key)) ∙ is

    each : (key : ℕ) (line : Connection) → (place_at old key).line ≡ Some line → IsKeptAt first new key line
    each key line is =
        subst (λ (p : PlaceState). IsKept line.is_up first (sides new) key line.number p.waiting) (sym (at key))
        (kept_beside line.is_up first (sides old) (sides new) key line.number (place_at old key).waiting step.asks step.calls (are.each key line is) step.makes step.told (step.quiet key) (step.rests line.number))

-- what happens at one place, and at the first ones
abbrev pub Happening : Type 1
Happening = End → PlaceState → Sides → Visit → PlaceState → Sides → Type 0

abbrev pub HasEffect : Happening → Type 0
HasEffect Happens = (key : ℕ) (old : PlaceState) (before : Sides) (visit : Visit) (left : PlaceState) (behind : Sides) → key < 65 → Happens (end_at key) old before visit left behind → Effect key old before left behind

abbrev wire_at : (Happens : Happening) (old new : Turns) (key : ℕ) → (at : AtPlace Happens old key new) → new.counts.wire ≡ at.behind.wire
wire_at Happens old new key at =
    ap (λ (c : Counts). c.wire) at.counts ∙ counted_wire at.visit (record old.counts { wire = at.behind.wire })

few_places : (turns : Turns) (key : ℕ) → length turns.places ≡ place_count → key < length turns.places → key < 65
unfolding place_count
few_places turns key all within = omega (arith, all, within)

at_place_sockets : (Happens : Happening) → HasEffect Happens → (old new : Turns) (key : ℕ) → key < 65 → AtPlace Happens old key new → old.counts.wire.sockets ≤ new.counts.wire.sockets
at_place_sockets Happens effect old new key few at =
    let e = effect key (place_at old key) (sides old) at.visit at.left at.behind few at.happens in
    omega (arith, e.sockets, ap (λ (w : WireState). w.sockets) (wire_at Happens old new key at))

at_place_carries : (Happens : Happening) → HasEffect Happens → (first : SpeakerState) (old new : Turns) (key : ℕ) → AreCarried first old → key < length old.places → AtPlace Happens old key new → new.counts.wire.sockets < 2 ^ 64 - 1 → AreCarried first new
at_place_carries Happens effect first old new key are within at below =
    effect_carries first old new key at.left at.behind are within
    (effect key (place_at old key) (sides old) at.visit at.left at.behind (few_places old key are.all within) at.happens)
    (wire_at Happens old new key at) at.speaker at.places below

-- the speaker is as calls leave it
abbrev pub Made : SpeakerState → SpeakerState → Type 0
Made old new = (asks : List Call) × Makes asks old new

made_same : (old new : SpeakerState) → new ≡ old → Made old new
made_same old new same = ([], makes_none old new same)

made_both : (old mid new : SpeakerState) → Made old mid → Made mid new → Made old new
made_both old mid new one other = (other.0 ++ one.0, makes_on one.0 other.0 old mid new one.1 other.1)

-- at the first places, of which there are no more than there are
record Reaches (first : SpeakerState) (count : ℕ) (old new : Turns) : Type 0 where
  pub all : length new.places ≡ length old.places
  pub sockets : old.counts.wire.sockets ≤ new.counts.wire.sockets
  pub made : Made old.speaker new.speaker

at_place_made : (Happens : Happening) → HasEffect Happens → (old new : Turns) (key : ℕ) → key < 65 → AtPlace Happens old key new → Made old.speaker new.speaker
at_place_made Happens effect old new key few at =
    let e = effect key (place_at old key) (sides old) at.visit at.left at.behind few at.happens in
    (e.asks, subst (λ (s : SpeakerState). Makes e.asks old.speaker s) (sym at.speaker) e.makes)

at_places_reach : (Happens : Happening) → HasEffect Happens → (first : SpeakerState) (count : ℕ) (old new : Turns) → count ≤ 65 → AtPlaces Happens count old new → Reaches first count old new
at_places_reach Happens effect first zero old new within same =
    record { all = ap (λ (t : Turns). length t.places) same; sockets = omega (arith, ap (λ (t : Turns). t.counts.wire.sockets) same); made = made_same old.speaker new.speaker (ap (λ (t : Turns). t.speaker) same) }
at_places_reach Happens effect first (suc key) old new within at =
    let before = at_places_reach Happens effect first key old at.0 (omega (arith, within)) at.1 in
    record {
      all = as_many at.0 new key at.2.left at.2.places ∙ before.all;
      sockets = omega (arith, before.sockets, at_place_sockets Happens effect at.0 new key (omega (arith, within)) at.2);
      made = made_both old.speaker (at.0).speaker new.speaker before.made (at_place_made Happens effect at.0 new key (omega (arith, within)) at.2);
    }

at_places_carry : (Happens : Happening) → HasEffect Happens → (first : SpeakerState) (count : ℕ) (old new : Turns) → AreCarried first old → count ≤ length old.places → count ≤ 65 → AtPlaces Happens count old new → new.counts.wire.sockets < 2 ^ 64 - 1 → AreCarried first new
at_places_carry Happens effect first zero old new are within few same below = subst (λ (t : Turns). AreCarried first t) (sym same) are
at_places_carry Happens effect first (suc key) old new are within few at below =
    let reach = at_places_reach Happens effect first key old at.0 (omega (arith, few)) at.1 in
    let rises = at_place_sockets Happens effect at.0 new key (omega (arith, few)) at.2 in
    at_place_carries Happens effect first at.0 new key
    (at_places_carry Happens effect first key old at.0 are (omega (arith, within)) (omega (arith, few)) at.1 (omega (arith, rises, below)))
    (omega (arith, within, reach.all)) at.2 below

few_all : (turns : Turns) → length turns.places ≡ place_count → length turns.places ≤ 65
unfolding place_count
few_all turns all = omega (arith, all)

-- a step of a turn leads on: it loses no place, and no socket
pub record LeadsOn (old new : Turns) : Type 0 where
  pub all : length new.places ≡ length old.places
  pub sockets : old.counts.wire.sockets ≤ new.counts.wire.sockets
  pub made : Made old.speaker new.speaker
  pub carries : (first : SpeakerState) → new.counts.wire.sockets < 2 ^ 64 - 1 → AreCarried first old → AreCarried first new

pub all_lead : (Happens : Happening) → HasEffect Happens → (old new : Turns) → length old.places ≡ place_count → AtAll Happens old new → LeadsOn old new
all_lead Happens effect old new all at =
    let reach = at_places_reach Happens effect old.speaker (length old.places) old new (few_all old all) at in
    record {
      all = reach.all;
      sockets = reach.sockets;
      made = reach.made;
      carries = λ first below are. at_places_carry Happens effect first (length old.places) old new are (omega arith) (few_all old all) at below;
    }

pub leads_both : (old mid new : Turns) → LeadsOn old mid → LeadsOn mid new → LeadsOn old new
leads_both old mid new one other =
    record {
      all = other.all ∙ one.all;
      sockets = omega (arith, one.sockets, other.sockets);
      made = made_both old.speaker mid.speaker new.speaker one.made other.made;
      carries = λ first below are. other.carries first below (one.carries first (omega (arith, other.sockets, below)) are);
    }

pub passes_lead : (old new : Turns) → Passes old new → LeadsOn old new
passes_lead old new passes =
    record { all = ap length passes.same; sockets = passes.sockets; made = (passes.asks, passes.makes); carries = λ first below are. passed first old new are passes }

pub quiet_none : (key : ℕ) → Silent key []
quiet_none key = record { hears = refl; hands = refl; up = tt }

idle_accept : (from : Option SocketAddr) (number : ℕ) → IsIdle number (Accept from ∷ [])
idle_accept from number = record { gives = refl; takes = refl }

-- no connection comes, or accepting fails
none_passes : (old new : Turns) → NoneComes old new → Passes old new
none_passes old new none =
    record {
      asks = [];
      calls = Accept None ∷ [];
      makes = makes_none old.speaker new.speaker (ap (λ (t : Turns). t.speaker) none);
      told = ap (λ (t : Turns). t.counts.wire.calls) none;
      sockets = omega (arith, ap (λ (t : Turns). t.counts.wire.sockets) none);
      quiet = quiet_none;
      rests = idle_accept None;
      same = ap (λ (t : Turns). t.places) none;
    }

stops_pass : (old new : Turns) → Stops old stop.Accept new → Passes old new
stops_pass old new stops =
    record {
      asks = [];
      calls = Accept None ∷ [];
      makes = makes_none old.speaker new.speaker (ap (λ (t : Turns). t.speaker) stops);
      told = ap (λ (t : Turns). t.counts.wire.calls) stops;
      sockets = omega (arith, ap (λ (t : Turns). t.counts.wire.sockets) stops);
      quiet = quiet_none;
      rests = idle_accept None;
      same = ap (λ (t : Turns). t.places) stops;
    }

-- one comes that no session waits for
away_passes : (old new : Turns) → TurnsAway old new → Passes old new
away_passes old new away =
    record {
      asks = [];
      calls = Close old.counts.wire.sockets parting.NoPlace ∷ Accept (Some away.address) ∷ [];
      makes = makes_none old.speaker new.speaker (ap (λ (t : Turns). t.speaker) away.same);
      told = ap (λ (t : Turns). t.counts.wire.calls) away.same;
      sockets = omega (arith, ap (λ (t : Turns). t.counts.wire.sockets) away.same, goes_on old.counts.wire.sockets);
      quiet = quiet_none;
      rests = λ number. record { gives = refl; takes = refl };
      same = ap (λ (t : Turns). t.places) away.same;
    }

-- one comes for a session, which takes it or doesn't
lets_in_leads : (old new : Turns) → length old.places ≡ place_count → LetsIn old new → LeadsOn old new
lets_in_leads old new all lets = by_test (awaits_up (wanted_transport_of old.speaker (end_at lets.key))) lets.asks lets.sits
  where
    few : lets.key < 65
    few = few_places old lets.key all lets.place

    by_test : (test : Bool) → Asks (up_call (end_at lets.key)) test old.speaker new.speaker → SitsDown test lets.key lets.address old new → LeadsOn old new
    by_test false same sits =
        passes_lead old new (record {
          asks = [];
          calls = Close old.counts.wire.sockets parting.NoPlace ∷ Accept (Some lets.address) ∷ [];
          makes = makes_none old.speaker new.speaker same;
          told = ap (λ (c : Counts). c.wire.calls) sits.1;
          sockets = omega (arith, ap (λ (c : Counts). c.wire.sockets) sits.1, goes_on old.counts.wire.sockets);
          quiet = quiet_none;
          rests = λ number. record { gives = refl; takes = refl };
          same = sits.0;
        })
    by_test true makes sits =
        record {
          all = as_many old new lets.key _ sits.0;
          sockets = omega (arith, more, goes_on old.counts.wire.sockets);
          made = (up_call (end_at lets.key) ∷ [], makes);
          carries = λ first below are. effect_carries first old new lets.key _ (sides new) are lets.place effect refl refl sits.0 below;
        }
      where
        more : new.counts.wire.sockets ≡ one_more old.counts.wire.sockets
        more = ap (λ (c : Counts). c.wire.sockets) sits.1

        effect : Effect lets.key (place_at old lets.key) (sides old) (seated (up old.counts.wire.sockets lets.address) (place_at old lets.key)) (sides new)
        effect =
            record {
              asks = up_call (end_at lets.key) ∷ [];
              calls = Accept (Some lets.address) ∷ [];
              makes = makes;
              told = ap (λ (c : Counts). c.wire.calls) sits.1;
              sockets = omega (arith, more, goes_on old.counts.wire.sockets);
              of_session = (of_up lets.key few, tt);
              rests = λ number _. idle_accept (Some lets.address) number;
              after = NowSits (up old.counts.wire.sockets lets.address) refl refl refl more refl (idle_accept (Some lets.address)) refl;
            }

accepts_lead : (old new : Turns) → length old.places ≡ place_count → Accepts old new → LeadsOn old new
accepts_lead old new all (inl none) = passes_lead old new (none_passes old new none)
accepts_lead old new all (inr (inl away)) = passes_lead old new (away_passes old new away)
accepts_lead old new all (inr (inr lets)) = lets_in_leads old new all lets

-- a moment is told
ticks_make : (now : ℕ) (test : Bool) (old : SpeakerState) (report : Report) (new : SpeakerState) → Ticks now test old report new → (asks : List Call) × Makes asks old new × ((key : ℕ) → Silent key asks)
ticks_make now false old report new ticks = ([], makes_none old new ticks.1, quiet_none)
ticks_make now true old report new ticks =
    let makes : Makes (Tick_call now ∷ []) old new = λ config r agrees. let t = ticks config r agrees in (t.0 ∷ [], ap (λ (c : Call). c ∷ []) t.1, t.3) in
    (Tick_call now ∷ [], makes, λ key. record { hears = refl; hands = refl; up = (tt, tt) })

told_leads : (now : ℕ) (old new : Turns) → length old.places ≡ place_count → IsTold now old new → LeadsOn old new
told_leads now old new all told =
    leads_both old told.told new
    (passes_lead old told.told (record {
      asks = ticked.0;
      calls = [];
      makes = ticked.1;
      told = ap (λ (t : Turns). t.counts.wire.calls) told.same;
      sockets = omega (arith, ap (λ (t : Turns). t.counts.wire.sockets) told.same);
      quiet = ticked.2;
      rests = λ number. record { gives = refl; takes = refl };
      same = ap (λ (t : Turns). t.places) told.same;
    }))
    (all_lead (GivesWay told.report) (λ key place before visit left behind few gives. gives_way_effect (has_opened told.report (end_at key)) key place before left behind gives.gives)
    told.told new (ap (λ (t : Turns). length t.places) told.same ∙ all) told.gives_way)
  where
    ticked : (asks : List Call) × Makes asks old.speaker told.told.speaker × ((key : ℕ) → Silent key asks)
    ticked = ticks_make now (nat_le old.speaker.moment now) old.speaker told.report told.told.speaker told.ticks

-- a turn
begins_lead : (old new : Turns) → length old.places ≡ place_count → AtAll Begins old new → LeadsOn old new
begins_lead old new all begins = all_lead Begins begins_effect old new all begins

-- from where on the next turn looks is nothing that sockets carry
next_leads : (old new : Turns) (next : ℕ) → new ≡ record old { next = next } → LeadsOn old new
next_leads old new next same =
    passes_lead old new
    (record {
      asks = [];
      calls = [];
      makes = makes_none old.speaker new.speaker (ap (λ (t : Turns). t.speaker) same);
      told = ap (λ (t : Turns). t.counts.wire.calls) same;
      sockets = omega (arith, ap (λ (t : Turns). t.counts.wire.sockets) same);
      quiet = quiet_none;
      rests = λ number. record { gives = refl; takes = refl };
      same = ap (λ (t : Turns). t.places) same;
    })

visits_lead : (now : ℕ) (old new : Turns) → length old.places ≡ place_count → VisitsAll now old new → LeadsOn old new
visits_lead now old new all visits =
    leads_both old visits.visited new
    (all_lead (VisitsBut old.next visits.one (moment_of old now)) (λ key place before visit left behind few unless. visits_unless_effect (is_off old.next visits.one (place_of (end_at key))) key (moment_of old now) place before visit (is_the_one visits.one (place_of (end_at key))) left behind few unless) old visits.visited all visits.visits)
    (next_leads visits.visited new (next_behind visits.one) visits.goes_on)

pub turn_leads : (now : ℕ) (old new : Turns) (result : Result (Unit {0}) LoopFault) → length old.places ≡ place_count → TakesTurn now old result new → LeadsOn old new
turn_leads now old new (Ok nothing) all turn =
    let begins = begins_lead old turn.begun all turn.begins in
    let accepts = accepts_lead turn.begun turn.admitted (begins.all ∙ all) turn.accepts in
    let visits = visits_lead now turn.admitted turn.visited (accepts.all ∙ (begins.all ∙ all)) turn.visits in
    leads_both old turn.begun new begins
    (leads_both turn.begun turn.admitted new accepts
    (leads_both turn.admitted turn.visited new visits (told_leads now turn.visited new (visits.all ∙ (accepts.all ∙ (begins.all ∙ all))) turn.tells)))
turn_leads now old new (Err stop.Accept) all stops =
    leads_both old stops.begun new (begins_lead old stops.begun all stops.begins) (passes_lead stops.begun new (stops_pass stops.begun new stops.stops))

turns_lead : (moments : List ℕ) (old new : Turns) → length old.places ≡ place_count → TakesTurns moments old new → LeadsOn old new
turns_lead [] old new all same = passes_lead old new (still_passes same)
  where
    still_passes : new ≡ old → Passes old new
    still_passes same =
        record {
          asks = [];
          calls = [];
          makes = makes_none old.speaker new.speaker (ap (λ (t : Turns). t.speaker) same);
          told = ap (λ (t : Turns). t.counts.wire.calls) same;
          sockets = omega (arith, ap (λ (t : Turns). t.counts.wire.sockets) same);
          quiet = quiet_none;
          rests = λ number. record { gives = refl; takes = refl };
          same = ap (λ (t : Turns). t.places) same;
        }
turns_lead (now ∷ moments) old new all turns =
    let one = turn_leads now old turns.0 turns.1 all turns.2 in
    leads_both old turns.0 new one (turns_lead moments turns.0 new (one.all ∙ all) turns.3)

pub at_first : (start : Turns) → length start.places ≡ place_count → IsFresh start → AreCarried start.speaker start
at_first start all fresh =
    record {
      before = [];
      made = makes_none start.speaker start.speaker refl;
      all = all;
      each = λ key line is. absurd (wrong key line is);
      numbered = λ key line is. absurd (wrong key line is);
      apart = λ key other line another _ is _. absurd (wrong key line is);
      unused = λ number _. subst (λ (calls : List WireCall). IsIdle number calls) (sym fresh.untold) (record { gives = refl; takes = refl });
    }
  where
    wrong : (key : ℕ) (line : Connection) → (place_at start key).line ≡ Some line → ⊥
    wrong key line is = let no : None ≡ Some line = sym (fresh.free key) ∙ is in cc

-- each connection carries what is its session's own
pub carries_own : (config : Config) (r : Run) (moments : List ℕ) (start new : Turns) (key : ℕ) (line : Connection) → Agrees config r start.speaker → length start.places ≡ place_count → IsFresh start → TakesTurns moments start new → new.counts.wire.sockets < 2 ^ 64 - 1 → (place_at new key).line ≡ Some line → line.is_up ≡ true → CarriesOwn config r new key line
carries_own config r moments start new key line agrees all fresh turns below is up =
    let lead = turns_lead moments start new all turns in
    let are = lead.carries start.speaker below (at_first start all fresh) in
    let c : IsCarried start.speaker (sides new) key line.number (place_at new key).waiting = subst (λ (b : Bool). IsKept b start.speaker (sides new) key line.number (place_at new key).waiting) up (are.each key line is) in
    let first = c.made config r agrees in
    let second = c.run config (first.0 ++ r) first.2 in
    record {
      before = first.0;
      since = second.0;
      agrees = second.2;
      came = subst (λ (asks : List Call). ComesLast key asks) (sym first.1) c.came;
      up = subst (λ (asks : List Call). StaysUp key asks) (sym second.1) c.up;
      hears = ap (heard key) second.1 ∙ c.hears;
      takes = ap (handed key) second.1 ∙ c.takes;
    }

-- and any turns lead on from a run
pub turns_agree : (moments : List ℕ) (old new : Turns) → length old.places ≡ place_count → TakesTurns moments old new → (config : Config) (r : Run) → Agrees config r old.speaker → (more : Run) × Agrees config (more ++ r) new.speaker
turns_agree moments old new all turns config r agrees =
    let made = (turns_lead moments old new all turns).made in
    let m = made.1 config r agrees in
    (m.0, m.2)
