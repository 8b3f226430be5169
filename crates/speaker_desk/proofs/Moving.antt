-- Turns and commands lead on alike.
use Rattle.std.proofs.Common.{◌≡◌, ◌≢◌, ◌≤◌, ◌<◌, ◌-◌, ◌^◌, ◌++◌, ◌∙◌, ◌⊎◌, inl, inr, ℕ, zero, suc, Bool, true, false, nat_lt, List, [], ◌∷◌, Option, None, Some, MatchOption, Result, Ok, Err, if◌then◌else◌, length, refl, sym, ap, subst, append_assoc, arith, slice_set}
use Rattle.std.proofs.lemmas.Bool.{cases_eq}
use Rattle.std.specs.declared.net.socket_addr.SocketAddr.{SocketAddr}
use Rattle.bgp_conf.specs.declared.command.Command.{Command}
use Rattle.bgp_conf.specs.declared.command.Command.TheVariants.{Enable}
use Rattle.bgp_conf.specs.declared.refusal.Refusal.{Refusal}
use Rattle.runs.specs.Agreement.{Agrees}
use Rattle.bgp_conf.specs.declared.refusal.Refusal.TheVariants.{NoMemory}
use Rattle.runs.specs.FirstRefusal.{LacksMemory, refusal_of}
use Rattle.runs.specs.Runs.{Call, Command_call, Run}
use Rattle.runs.specs.SpeakerState.{SpeakerState}
use Rattle.runs.specs.declared.config.Config.{Config}
use Rattle.runs.specs.declared.event.Event.TheVariants.{Command as Commanded}
use Rattle.runs.specs.declared.event.Report.{Report}
use Rattle.runs.proofs.RefusedEvents.{takes_nothing}
use Rattle.wires.specs.declared.fault.LoopFault.TheVariants.{Accept}
use Rattle.wires.proofs.Sockets.{IsIdle}
use Rattle.speaker_turns.specs.Carrying.{CarriesOwn, ComesLast, IsFresh, StaysUp, handed, heard}
use Rattle.speaker_turns.specs.Ends.{end_at, place_count, place_of}
use Rattle.speaker_turns.specs.Obeying.{Commands, Obeys, Refuses, RefusesCommand, TakesCommand}
use Rattle.speaker_turns.specs.Serving.{Connection, GivesWayIf, GivesWayUp, GivesWayWhat, PlaceState, Sides}
use Rattle.speaker_turns.specs.Sessions.{Makes}
use Rattle.speaker_turns.specs.Turns.{AtPlaces, GivesWay, Turns, has_opened, place_at, sides, with_remote}
use Rattle.speaker_turns.specs.declared.end.End.{End}
use Rattle.speaker_turns.specs.declared.place.Visit.{Visit}
use Rattle.speaker_turns.proofs.Asking.{Silent, makes_none}
use Rattle.speaker_turns.proofs.Carrying.{AreCarried, IsCarried, IsKept, IsKeptAt, LeadsOn, Made, all_lead, at_first, leads_both, passes_lead, quiet_none, turn_leads}
use Rattle.speaker_turns.proofs.Effects.{gives_way_effect}
use Rattle.speaker_turns.proofs.Places.{as_many, elsewhere, here}
use Rattle.speaker_desk.specs.Moves.{AreCallsOf, AreCallsOfAll, Move, Moves, MovesAll}
use Rattle.speaker_desk.specs.Moves.Move.{Turned, Stopped, Obeyed, Let, Placed}

-- a command that is accepted is one call
commands_make : (command : Command) (old : SpeakerState) (report : Report) (new : SpeakerState) → Commands command old report new → Makes (Command_call command ∷ []) old new
commands_make command old report new commands = λ config r agrees.
    let t = commands config r agrees in
    (t.0 ∷ [], ap (λ (c : Call). c ∷ []) t.1, t.3)

-- and one that is refused none
abbrev err_of : Refusal → Result Report Refusal
err_of why = Err why

as_answer : (command : Command) (why : Refusal) (old new : SpeakerState) (first : Option Refusal)
    → MatchOption first ((why ≡ NoMemory) × LacksMemory (Commanded command) old new) (λ w. (why ≡ w) × (new ≡ old))
    → MatchOption first ((why ≡ NoMemory) × LacksMemory (Commanded command) old new) (λ w. (err_of why ≡ err_of w) × (new ≡ old))
as_answer command why old new None lacks = lacks
as_answer command why old new (Some first) same = (ap err_of same.0, same.1)

refused_make : (command : Command) (old : SpeakerState) (why : Refusal) (new : SpeakerState) → Refuses command old why new → (config : Config) (r : Run) → Agrees config r old → Agrees config r new
refused_make command old why new refuses =
    let first = refusal_of old (Commanded command) in
    takes_nothing first (Commanded command) why old new (as_answer command why old new first refuses)

-- a step that changes the speaker alone, by calls that carry nothing
speaks : (old new : Turns) (asks : List Call) → Makes asks old.speaker new.speaker → ((key : ℕ) → Silent key asks) → new ≡ record old { speaker = new.speaker } → LeadsOn old new
speaks old new asks makes quiet same =
    passes_lead old new
    (record {
      asks = asks;
      calls = [];
      makes = makes;
      told = ap (λ (t : Turns). t.counts.wire.calls) same;
      sockets = omega (arith, ap (λ (t : Turns). t.counts.wire.sockets) same);
      quiet = quiet;
      rests = λ number. record { gives = refl; takes = refl };
      same = ap (λ (t : Turns). t.places) same;
    })

taken_leads : (command : Command) (old new : Turns) (report : Report) → length old.places ≡ place_count → TakesCommand command old report new → LeadsOn old new
taken_leads command old new report all takes =
    leads_both old takes.told new
    (speaks old takes.told (Command_call command ∷ []) (commands_make command old.speaker report (takes.told).speaker takes.commands) (λ key. record { hears = refl; hands = refl; up = (tt, tt) }) takes.same)
    (all_lead (GivesWay report) (λ key place before visit left behind few gives. gives_way_effect (has_opened report (end_at key)) key place before left behind gives.gives)
    takes.told new (ap (λ (t : Turns). length t.places) takes.same ∙ all) takes.gives_way)

refused_leads : (command : Command) (old new : Turns) (why : Refusal) → RefusesCommand command old why new → LeadsOn old new
refused_leads command old new why refuses =
    speaks old new [] (λ config r agrees. ([], refl, refused_make command old.speaker why new.speaker refuses.refuses config r agrees)) quiet_none refuses.same

obeyed_leads : (command : Command) (old new : Turns) (result : Result Report Refusal) → length old.places ≡ place_count → Obeys command old result new → LeadsOn old new
obeyed_leads command old new (Ok report) all takes = taken_leads command old new report all takes
obeyed_leads command old new (Err why) all refuses = refused_leads command old new why refuses

-- where the other side of a session is changes nothing of what is carried
pub record IsAsAt (old new : PlaceState) : Type 0 where
  pub line : new.line ≡ old.line
  pub waiting : new.waiting ≡ old.waiting

pub record Resembles (old new : Turns) : Type 0 where
  pub counts : new.counts ≡ old.counts
  pub speaker : new.speaker ≡ old.speaker
  pub all : length new.places ≡ length old.places
  pub each : (key : ℕ) → IsAsAt (place_at old key) (place_at new key)

resembling_carries : (first : SpeakerState) (old new : Turns) → Resembles old new → AreCarried first old → AreCarried first new
resembling_carries first old new same are =
    record {
      before = are.before;
      made = subst (λ (s : SpeakerState). Makes are.before first s) (sym same.speaker) are.made;
      all = same.all ∙ are.all;
      each = λ key line is. kept key line (are.each key line (was key line is));
      numbered = λ key line is. subst (λ c. line.number < c.wire.sockets) (sym same.counts) (are.numbered key line (was key line is));
      apart = λ key other line another differs is there. are.apart key other line another differs (was key line is) (was other another there);
      unused = λ number come.
          subst (λ c. IsIdle number c.wire.calls) (sym same.counts) (are.unused number (subst (λ c. c.wire.sockets ≤ number) same.counts come));
    }
  where
    was : (key : ℕ) (line : Connection) → (place_at new key).line ≡ Some line → (place_at old key).line ≡ Some line
    was key line is = sym (same.each key).line ∙ is

    kept : (key : ℕ) (line : Connection) → IsKeptAt first old key line → IsKeptAt first new key line
    kept key line is =
        subst (λ (s : SpeakerState). IsKept line.is_up first (record { wire = new.counts.wire; speaker = s }) key line.number (place_at new key).waiting) (sym same.speaker)
        (subst (λ c. IsKept line.is_up first (record { wire = c.wire; speaker = old.speaker }) key line.number (place_at new key).waiting) (sym same.counts)
        (subst (λ (w : List ℕ). IsKept line.is_up first (sides old) key line.number w) (sym (same.each key).waiting) is))

resembling_leads : (old new : Turns) → Resembles old new → LeadsOn old new
resembling_leads old new same =
    record {
      all = same.all;
      sockets = omega (arith, ap (λ c. c.wire.sockets) same.counts);
      made = ([], makes_none old.speaker new.speaker same.speaker);
      carries = λ first below are. resembling_carries first old new same are;
    }

pub placed_resembles : (end : End) (remote : SocketAddr) (old new : Turns) → new ≡ with_remote end remote old → Resembles old new
placed_resembles end remote old new placed = by_test (nat_lt (place_of end) (length old.places)) refl placed
  where
    by_key : (key : ℕ) → place_of end < length old.places → new ≡ record old { places = slice_set old.places (place_of end) (record (place_at old (place_of end)) { remote = Some remote }) } → IsAsAt (place_at old key) (place_at new key)
    by_key key within same = by_same (cases_eq key (place_of end))
      where
        places : new.places ≡ slice_set old.places (place_of end) (record (place_at old (place_of end)) { remote = Some remote })
        places = ap (λ (t : Turns). t.places) same

        by_same : (key ≡ place_of end) ⊎ (key ≢ place_of end) → IsAsAt (place_at old key) (place_at new key)
        by_same (inl is) =
            subst (λ (k : ℕ). IsAsAt (place_at old k) (place_at new k)) (sym is)
            (subst (λ (p : PlaceState). IsAsAt (place_at old (place_of end)) p) (sym (here old new (place_of end) _ within places)) (record { line = refl; waiting = refl }))
        by_same (inr differs) =
            subst (λ (p : PlaceState). IsAsAt (place_at old key) p) (sym (elsewhere old new (place_of end) _ key differs places)) (record { line = refl; waiting = refl })

    by_test : (test : Bool) → nat_lt (place_of end) (length old.places) ≡ test → new ≡ (if test then record old { places = slice_set old.places (place_of end) (record (place_at old (place_of end)) { remote = Some remote }) } else old) → Resembles old new
    by_test true within same =
        record {
          counts = ap (λ (t : Turns). t.counts) same;
          speaker = ap (λ (t : Turns). t.speaker) same;
          all = as_many old new (place_of end) _ (ap (λ (t : Turns). t.places) same);
          each = λ key. by_key key (grind (arith, within)) same;
        }
    by_test false beyond same =
        record {
          counts = ap (λ (t : Turns). t.counts) same;
          speaker = ap (λ (t : Turns). t.speaker) same;
          all = ap (λ (t : Turns). length t.places) same;
          each = λ key. subst (λ (t : Turns). IsAsAt (place_at old key) (place_at t key)) (sym same) (record { line = refl; waiting = refl });
        }

move_leads : (move : Move) (old new : Turns) → length old.places ≡ place_count → Moves move old new → LeadsOn old new
move_leads (Turned now) old new all takes = turn_leads now old new (Ok tt) all takes
move_leads (Stopped now) old new all takes = turn_leads now old new (Err Accept) all takes
move_leads (Obeyed line command) old new all obeys = obeyed_leads command old new obeys.1 all obeys.2
move_leads (Let slot) old new all obeys = obeyed_leads (Enable slot) old new obeys.0 all obeys.1
move_leads (Placed end remote) old new all placed = resembling_leads old new (placed_resembles end remote old new placed)

none_leads : (old new : Turns) → new ≡ old → LeadsOn old new
none_leads old new same = speaks old new [] (makes_none old.speaker new.speaker (ap (λ (t : Turns). t.speaker) same)) quiet_none (same ∙ sym (ap (λ (t : Turns). record old { speaker = t.speaker }) same))

moves_lead : (moves : List Move) (old new : Turns) → length old.places ≡ place_count → MovesAll moves old new → LeadsOn old new
moves_lead [] old new all same = none_leads old new same
moves_lead (move ∷ moves) old new all made =
    let one = move_leads move old made.0 all made.1 in
    leads_both old made.0 new one (moves_lead moves made.0 new (one.all ∙ all) made.2)

-- attempts that give way leave the speaker
way_leaves : (report : Report) (end : End) (old : PlaceState) (before : Sides) (visit : Visit) (left : PlaceState) (behind : Sides) → GivesWay report end old before visit left behind → behind.speaker ≡ before.speaker
way_leaves report end old before visit left behind gives = by_test (has_opened report end) gives.gives
  where
    by_up : (up : Bool) (line : Connection) → GivesWayUp up line old before left behind → behind.speaker ≡ before.speaker
    by_up true line nothing = ap (λ (s : Sides). s.speaker) nothing.1
    by_up false line away = ap (λ (s : Sides). s.speaker) away.1

    by_line : (line : Option Connection) → GivesWayWhat line old before left behind → behind.speaker ≡ before.speaker
    by_line None nothing = ap (λ (s : Sides). s.speaker) nothing.1
    by_line (Some line) given = by_up line.is_up line given

    by_test : (test : Bool) → GivesWayIf test old before left behind → behind.speaker ≡ before.speaker
    by_test false nothing = ap (λ (s : Sides). s.speaker) nothing.1
    by_test true given = by_line old.line given

ways_leave : (report : Report) (count : ℕ) (old new : Turns) → AtPlaces (GivesWay report) count old new → new.speaker ≡ old.speaker
ways_leave report zero old new same = ap (λ (t : Turns). t.speaker) same
ways_leave report (suc key) old new at =
    at.2.speaker ∙ (way_leaves report (end_at key) (place_at at.0 key) (sides at.0) at.2.visit at.2.left at.2.behind at.2.happens ∙ ways_leave report key old at.0 at.1)

-- what a move adds to a run
abbrev Adds : Move → SpeakerState → SpeakerState → Type 0
Adds move old new = (config : Config) (r : Run) → Agrees config r old → (more : Run) × AreCallsOf move more × Agrees config (more ++ r) new

turn_adds : (old new : SpeakerState) → Made old new → (config : Config) (r : Run) → Agrees config r old → (more : Run) × Agrees config (more ++ r) new
turn_adds old new made config r agrees = let m = made.1 config r agrees in (m.0, m.2)

obeyed_adds : (line : List ℕ) (command : Command) (old new : Turns) (result : Result Report Refusal) → length old.places ≡ place_count → Obeys command old result new → Adds (Obeyed line command) old.speaker new.speaker
obeyed_adds line command old new (Ok report) all takes config r agrees =
    let t = takes.commands config r agrees in
    let same : new.speaker ≡ (takes.told).speaker = ways_leave report (length (takes.told).places) takes.told new takes.gives_way in
    (t.0 ∷ [], inr (t.0, refl, t.1), subst (λ (s : SpeakerState). Agrees config (t.0 ∷ r) s) (sym same) t.3)
obeyed_adds line command old new (Err why) all refuses config r agrees =
    ([], inl refl, refused_make command old.speaker why new.speaker refuses.refuses config r agrees)

move_adds : (move : Move) (old new : Turns) → length old.places ≡ place_count → Moves move old new → Adds move old.speaker new.speaker
move_adds (Turned now) old new all takes config r agrees =
    let m = turn_adds old.speaker new.speaker (turn_leads now old new (Ok tt) all takes).made config r agrees in (m.0, tt, m.1)
move_adds (Stopped now) old new all takes config r agrees =
    let m = turn_adds old.speaker new.speaker (turn_leads now old new (Err Accept) all takes).made config r agrees in (m.0, tt, m.1)
move_adds (Obeyed line command) old new all obeys config r agrees = obeyed_adds line command old new obeys.1 all obeys.2 config r agrees
move_adds (Let slot) old new all obeys config r agrees = obeyed_adds [] (Enable slot) old new obeys.0 all obeys.1 config r agrees
move_adds (Placed end remote) old new all placed config r agrees =
    ([], refl, subst (λ (s : SpeakerState). Agrees config r s) (sym (placed_resembles end remote old new placed).speaker) agrees)

-- whatever moves are made, the run goes on by their calls
pub moves_agree : (moves : List Move) (old new : Turns) → length old.places ≡ place_count → MovesAll moves old new → (config : Config) (r : Run) → Agrees config r old.speaker → (more : Run) × AreCallsOfAll moves more × Agrees config (more ++ r) new.speaker
moves_agree [] old new all same config r agrees =
    ([], refl, subst (λ (t : Turns). Agrees config r t.speaker) (sym same) agrees)
moves_agree (move ∷ moves) old new all made config r agrees =
    let first = move_adds move old made.0 all made.1 config r agrees in
    let later = moves_agree moves made.0 new ((move_leads move old made.0 all made.1).all ∙ all) made.2 config (first.0 ++ r) first.2 in
    (later.0 ++ first.0, (later.0, first.0, refl, first.1, later.1), subst (λ (run : Run). Agrees config run new.speaker) (sym (append_assoc later.0 first.0 r)) later.2)

-- and each connection carries what is its session's own
pub moves_carry_own : (config : Config) (r : Run) (moves : List Move) (start new : Turns) (key : ℕ) (line : Connection) → Agrees config r start.speaker → length start.places ≡ place_count → IsFresh start → MovesAll moves start new → new.counts.wire.sockets < 2 ^ 64 - 1 → (place_at new key).line ≡ Some line → line.is_up ≡ true → CarriesOwn config r new key line
moves_carry_own config r moves start new key line agrees all fresh made below is up =
    let lead = moves_lead moves start new all made in
    let are = lead.carries start.speaker below (at_first start all fresh) in
    let c : IsCarried start.speaker (sides new) key line.number (place_at new key).waiting = subst (λ (b : Bool). IsKept b start.speaker (sides new) key line.number (place_at new key).waiting) up (are.each key line is) in
    let first = c.made config r agrees in
    let second = c.run config (first.0 ++ r) first.2 in
    record {
      before = first.0;
      since = second.0;
      agrees = second.2;
      came = subst (λ (asks : List Call). ComesLast key asks) (sym first.1) c.came;
      up = subst (λ (asks : List Call). StaysUp key asks) (sym second.1) c.up;
      hears = ap (heard key) second.1 ∙ c.hears;
      takes = ap (handed key) second.1 ∙ c.takes;
    }
