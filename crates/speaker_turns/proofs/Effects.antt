-- What happens at the place of one session: which calls are made for it, and what stands there behind them.
use Rattle.std.proofs.Common.{◌≡◌, ◌≢◌, ◌≤◌, ◌<◌, ℕ, Bool, true, false, List, [], ◌∷◌, ◌++◌, refl, sym, ap, subst, ◌∙◌, append_assoc, append-nil, inl, inr, Option, Some, None, arith}
use Rattle.runs.specs.FirstRefusal.{awaits_up, may_bring_octets, may_fail}
use Rattle.runs.specs.Runs.{Call}
use Rattle.runs.specs.SpeakerState.{SpeakerState}
use Rattle.wires.specs.Calls.{WireCall, Close, Connect, Look, Try}
use Rattle.wires.specs.Carried.{given, given_by, taken, taken_by}
use Rattle.wires.specs.Wires.{WireState, attempting, one_more}
use Rattle.wires.specs.declared.wire.Attempt.{Attempt}
use Rattle.wires.specs.declared.wire.Attempt.TheVariants.{Connected, Pending, Fault as AttemptFault}
use Rattle.wires.specs.declared.wire.Parting.{Parting}
use Rattle.wires.specs.declared.wire.Parting.TheVariants as parting
use Rattle.wires.proofs.Counting.{goes_on}
use Rattle.wires.proofs.Sockets.{AreOfSocket, IsIdle, idle_socket}
use Rattle.speaker_turns.specs.Carrying.{ComesLast, StaysUp, handed, heard}
use Rattle.speaker_turns.specs.Ends.{end_at}
use Rattle.speaker_turns.specs.Serving.{Attends, AttendsAttempt, AttendsUp, Begins, BeginsTo, Connection, Finds, GivesWayIf, GivesWayUp, GivesWayWhat, IsUnwanted, Looks, LooksUp, LooksWhat, Loses, PlaceState, Settles, Sides, Visits, VisitsTold, VisitsUnless, VisitsWhat, awaited_at, is_opening, line_left}
use Rattle.speaker_turns.specs.Sessions.{Asks, Makes, fail_call, transport_of, up_call, wanted_transport_of}
use Rattle.speaker_turns.specs.declared.patience.Moment.{Moment}
use Rattle.speaker_turns.specs.declared.place.Visit.{Visit}
use Rattle.speaker_turns.specs.declared.place.Visit.TheVariants.{Stays, Faulty, Ended, Closed, Overdue, Unwanted}
use Rattle.net_prefix.specs.declared.transport.Transport.{Transport}
use Rattle.net_prefix.specs.declared.transport.Transport.TheVariants as transport
use Rattle.std.specs.declared.net.socket_addr.SocketAddr.{SocketAddr}
use Rattle.speaker_turns.proofs.Asking.{AreOf, are-on, are_made, asks_makes, if_made, makes_none, makes_on, of_fail, of_up}
use Rattle.speaker_turns.proofs.Exchanges.{serves_carries}

-- how what stood at a place stands behind these calls: a connection has carried more, an attempt is one still, or has led to a connection
pub data Standing (key : ℕ) (line after : Connection) (waiting left : List ℕ) (asks : List Call) (calls : List WireCall) : Type 0 where
  Keeps : line.is_up ≡ true → after.is_up ≡ true → StaysUp key asks → heard key asks ≡ given line.number calls → waiting ++ handed key asks ≡ taken line.number calls ++ left → Standing key line after waiting left asks calls
  Tries : line.is_up ≡ false → after.is_up ≡ false → left ≡ waiting → IsIdle line.number calls → Standing key line after waiting left asks calls
  Comes : line.is_up ≡ false → after.is_up ≡ true → left ≡ waiting → IsIdle line.number calls → ComesLast key asks → Standing key line after waiting left asks calls

-- what stands at a place behind these calls: nothing, what stood there, a new attempt, or a new connection
pub data After (key : ℕ) (old : PlaceState) (wire_before wire_behind : WireState) (asks : List Call) (calls : List WireCall) (left : PlaceState) : Type 0 where
  Gone : left.line ≡ None → After key old wire_before wire_behind asks calls left
  Goes : (line after : Connection) → old.line ≡ Some line → left.line ≡ Some after → after.number ≡ line.number → Standing key line after old.waiting left.waiting asks calls → After key old wire_before wire_behind asks calls left
  Begun : (after : Connection) → left.line ≡ Some after → after.number ≡ wire_before.sockets → after.is_up ≡ false → wire_behind.sockets ≡ one_more wire_before.sockets → left.waiting ≡ [] → ((number : ℕ) → IsIdle number calls) → After key old wire_before wire_behind asks calls left
  SitsDown : (after : Connection) → left.line ≡ Some after → after.number ≡ wire_before.sockets → after.is_up ≡ true → wire_behind.sockets ≡ one_more wire_before.sockets → left.waiting ≡ [] → ((number : ℕ) → IsIdle number calls) → ComesLast key asks → After key old wire_before wire_behind asks calls left

-- no socket but the one that stands there carries anything
abbrev pub NotThere : PlaceState → ℕ → Type 0
NotThere place number = (line : Connection) → place.line ≡ Some line → number ≢ line.number

pub record Effect (key : ℕ) (old : PlaceState) (before : Sides) (left : PlaceState) (behind : Sides) : Type 0 where
  pub asks : List Call
  pub calls : List WireCall
  pub makes : Makes asks before.speaker behind.speaker
  pub told : behind.wire.calls ≡ calls ++ before.wire.calls
  pub sockets : before.wire.sockets ≤ behind.wire.sockets
  pub of_session : AreOf key asks
  pub rests : (number : ℕ) → NotThere old number → IsIdle number calls
  pub after : After key old before.wire behind.wire asks calls left

idle_none : (number : ℕ) → IsIdle number []
idle_none number = record { gives = refl; takes = refl }

-- what nobody touches stands as it stood
still : (test : Bool) (key : ℕ) (line : Connection) (waiting : List ℕ) → line.is_up ≡ test → Standing key line line waiting waiting [] []
still true key line waiting up = Keeps up up tt refl (append-nil waiting)
still false key line waiting up = Tries up up refl (idle_none line.number)

-- nothing happens
nothing_happens : (key : ℕ) (old : PlaceState) (before : Sides) (left : PlaceState) (behind : Sides) → left ≡ old → behind ≡ before → Effect key old before left behind
nothing_happens key old before left behind same_place same =
    record {
      asks = [];
      calls = [];
      makes = makes_none before.speaker behind.speaker (ap (λ (s : Sides). s.speaker) same);
      told = ap (λ (s : Sides). s.wire.calls) same;
      sockets = omega (arith, ap (λ (s : Sides). s.wire.sockets) same);
      of_session = tt;
      rests = λ number _. idle_none number;
      after = subst (λ (p : PlaceState). After key old before.wire behind.wire [] [] p) (sym same_place) (by_line old.line refl);
    }
  where
    by_line : (line : Option Connection) → old.line ≡ line → After key old before.wire behind.wire [] [] old
    by_line None is = Gone is
    by_line (Some line) is = Goes line line is is refl (still line.is_up key line old.waiting refl)

-- an attempt begins, or fails to
failing_calls : (key : ℕ) (test : Bool) → key < 65 → AreOf key (if_made test (fail_call (end_at key)))
failing_calls key test few = are_made test key (fail_call (end_at key)) (of_fail key few)

begins_to_effect : (key : ℕ) (to : Option SocketAddr) (old : PlaceState) (before : Sides) (visit : Visit) (left : PlaceState) (behind : Sides) → key < 65 → (to ≢ None → old.line ≡ None) → BeginsTo (end_at key) to old before visit left behind → Effect key old before left behind
begins_to_effect key None old before visit left behind few free happens = nothing_happens key old before left behind happens.1 happens.2
begins_to_effect key (Some remote) old before visit left behind few free (inl attempts) =
    record {
      asks = [];
      calls = Connect remote ∷ [];
      makes = makes_none before.speaker behind.speaker (ap (λ (s : Sides). s.speaker) attempts.sides_are);
      told = ap (λ (s : Sides). s.wire.calls) attempts.sides_are;
      sockets = omega (arith, ap (λ (s : Sides). s.wire.sockets) attempts.sides_are, goes_on before.wire.sockets);
      of_session = tt;
      rests = λ number _. record { gives = refl; takes = refl };
      after =
          Begun _ (ap (λ (p : PlaceState). p.line) attempts.place_is) refl refl (ap (λ (s : Sides). s.wire.sockets) attempts.sides_are)
          (ap (λ (p : PlaceState). p.waiting) attempts.place_is) (λ number. record { gives = refl; takes = refl });
    }
begins_to_effect key (Some remote) old before visit left behind few free (inr fails) =
    let test = may_fail (transport_of before.speaker (end_at key)) in
    record {
      asks = if_made test (fail_call (end_at key));
      calls = Connect remote ∷ [];
      makes = asks_makes (fail_call (end_at key)) test before.speaker behind.speaker fails.fails;
      told = ap (λ (w : WireState). w.calls) fails.wire_is;
      sockets = omega (arith, ap (λ (w : WireState). w.sockets) fails.wire_is);
      of_session = failing_calls key test few;
      rests = λ number _. record { gives = refl; takes = refl };
      after = Gone (ap (λ (p : PlaceState). p.line) fails.place_is ∙ free (λ wrong. cc));
    }

-- an attempt begins only where nothing stands
awaited_free : (transport : Transport) (place : PlaceState) → awaited_at transport place ≢ None → place.line ≡ None
awaited_free transport.None place some = absurd (some refl)
awaited_free transport.Listening place some = absurd (some refl)
awaited_free transport.Open place some = absurd (some refl)
awaited_free transport.Closing place some = absurd (some refl)
awaited_free transport.Opening place some = by_line place.line refl some
  where
    by_line : (line : Option Connection) → place.line ≡ line → awaited_at transport.Opening place ≢ None → place.line ≡ None
    by_line None is given = is
    by_line (Some line) is given = absurd (given cc)

pub begins_effect : (key : ℕ) (old : PlaceState) (before : Sides) (visit : Visit) (left : PlaceState) (behind : Sides) → key < 65 → Begins (end_at key) old before visit left behind → Effect key old before left behind
begins_effect key old before visit left behind few begins =
    let transport = transport_of before.speaker (end_at key) in
    begins_to_effect key (awaited_at transport old) old before visit left behind few (awaited_free transport old) begins

-- what a visit makes of what stands at a place, before that is settled
record Tended (key : ℕ) (line : Connection) (waiting : List ℕ) (before : Sides) (after : Connection) (left : List ℕ) (served : Sides) : Type 0 where
  pub asks : List Call
  pub calls : List WireCall
  pub makes : Makes asks before.speaker served.speaker
  pub told : served.wire.calls ≡ calls ++ before.wire.calls
  pub sockets : served.wire.sockets ≡ before.wire.sockets
  pub of_session : AreOf key asks
  pub of_socket : AreOfSocket line.number calls
  pub number : after.number ≡ line.number
  pub standing : Standing key line after waiting left asks calls

-- and behind that
settled_effect : (visit : Visit) (key : ℕ) (line after : Connection) (old : PlaceState) (before served : Sides) (waiting : List ℕ) (left : PlaceState) (behind : Sides) → key < 65 → old.line ≡ Some line → Tended key line old.waiting before after waiting served → Settles visit (end_at key) after served behind → left ≡ record { remote = old.remote; line = line_left visit after; waiting = waiting } → Effect key old before left behind
settled_effect visit key line after old before served waiting left behind few is t settles place = by_visit visit settles place
  where
    other_sockets : (why : Parting) (other : ℕ) → NotThere old other → IsIdle other (Close after.number why ∷ t.calls)
    other_sockets why other differs = idle_socket line.number other (Close after.number why ∷ t.calls) (tt, t.of_socket) (differs line is)

    lost : (why : Parting) → Loses (end_at key) why after.number served behind → left.line ≡ None → Effect key old before left behind
    lost why loses gone = by_test (may_fail (transport_of served.speaker (end_at key))) loses.fails
      where
        by_test : (test : Bool) → Asks (fail_call (end_at key)) test served.speaker behind.speaker → Effect key old before left behind
        by_test test asks =
            record {
              asks = if_made test (fail_call (end_at key)) ++ t.asks;
              calls = Close after.number why ∷ t.calls;
              makes = makes_on t.asks (if_made test (fail_call (end_at key))) before.speaker served.speaker behind.speaker t.makes (asks_makes (fail_call (end_at key)) test served.speaker behind.speaker asks);
              told = ap (λ (w : WireState). w.calls) loses.wire_is ∙ ap (λ (l : List WireCall). Close after.number why ∷ l) t.told;
              sockets = omega (arith, ap (λ (w : WireState). w.sockets) loses.wire_is, t.sockets);
              of_session = are-on key t.asks (if_made test (fail_call (end_at key))) t.of_session (failing_calls key test few);
              rests = other_sockets why;
              after = Gone gone;
            }

    by_visit : (visit : Visit) → Settles visit (end_at key) after served behind → left ≡ record { remote = old.remote; line = line_left visit after; waiting = waiting } → Effect key old before left behind
    by_visit Stays same place =
        record {
          asks = t.asks;
          calls = t.calls;
          makes = subst (λ (s : SpeakerState). Makes t.asks before.speaker s) (sym (ap (λ (s : Sides). s.speaker) same)) t.makes;
          told = ap (λ (s : Sides). s.wire.calls) same ∙ t.told;
          sockets = omega (arith, ap (λ (s : Sides). s.wire.sockets) same, t.sockets);
          of_session = t.of_session;
          rests = λ other differs. idle_socket line.number other t.calls t.of_socket (differs line is);
          after = subst (λ (p : PlaceState). After key old before.wire behind.wire t.asks t.calls p) (sym place) (Goes line after is refl t.number t.standing);
        }
    by_visit Faulty loses place = lost parting.Failed loses (ap (λ (p : PlaceState). p.line) place)
    by_visit Ended loses place = lost parting.Ended loses (ap (λ (p : PlaceState). p.line) place)
    by_visit Closed loses place = lost parting.Closed loses (ap (λ (p : PlaceState). p.line) place)
    by_visit Overdue loses place = lost parting.Overdue loses (ap (λ (p : PlaceState). p.line) place)
    by_visit Unwanted same place =
        record {
          asks = t.asks;
          calls = Close after.number parting.Unwanted ∷ t.calls;
          makes = subst (λ (s : SpeakerState). Makes t.asks before.speaker s) (sym (ap (λ (s : Sides). s.speaker) same)) t.makes;
          told = ap (λ (s : Sides). s.wire.calls) same ∙ ap (λ (l : List WireCall). Close after.number parting.Unwanted ∷ l) t.told;
          sockets = omega (arith, ap (λ (s : Sides). s.wire.sockets) same, t.sockets);
          of_session = t.of_session;
          rests = other_sockets parting.Unwanted;
          after = Gone (ap (λ (p : PlaceState). p.line) place);
        }

-- what isn't wanted is touched by nobody
unwanted_tended : (key : ℕ) (line : Connection) (waiting : List ℕ) (before : Sides) (visit : Visit) (after : Connection) (left : List ℕ) (served : Sides) → IsUnwanted line waiting before visit after left served → Tended key line waiting before after left served
unwanted_tended key line waiting before visit after left served u =
    record {
      asks = [];
      calls = [];
      makes = makes_none before.speaker served.speaker (ap (λ (s : Sides). s.speaker) u.same);
      told = ap (λ (s : Sides). s.wire.calls) u.same;
      sockets = ap (λ (s : Sides). s.wire.sockets) u.same;
      of_session = tt;
      of_socket = tt;
      number = ap (λ (l : Connection). l.number) u.line_is;
      standing =
          subst (λ (l : Connection). Standing key line l waiting left [] []) (sym u.line_is)
          (subst (λ (w : List ℕ). Standing key line line waiting w [] []) (sym u.left_is) (still line.is_up key line waiting refl));
    }

-- a connection is served
up_tended : (test : Bool) (key : ℕ) (now : Moment) (line : Connection) (waiting : List ℕ) (before : Sides) (visit : Visit) (after : Connection) (left : List ℕ) (served : Sides) → key < 65 → line.is_up ≡ true → may_bring_octets (transport_of before.speaker (end_at key)) ≡ test → AttendsUp test (end_at key) now line waiting before visit after left served → Tended key line waiting before after left served
up_tended false key now line waiting before visit after left served few up is u = unwanted_tended key line waiting before visit after left served u
up_tended true key now line waiting before visit after left served few up is serves =
    let s = serves_carries key now line waiting before visit after left served few is serves in
    let c = s.carries in
    record {
      asks = c.asks;
      calls = c.calls;
      makes = c.makes;
      told = c.told;
      sockets = c.sockets;
      of_session = c.of_session;
      of_socket = c.of_socket;
      number = s.number;
      standing = Keeps up (s.is_up ∙ up) c.up c.hears c.takes;
    }

-- an attempt is looked at
attempt_sockets : (told : Attempt) (number : ℕ) (wire : WireState) → (attempting number told wire).sockets ≡ wire.sockets
attempt_sockets Connected number wire = refl
attempt_sockets Pending number wire = refl
attempt_sockets AttemptFault number wire = refl

attempt_calls : (told : Attempt) (number : ℕ) (wire : WireState) → (attempting number told wire).calls ≡ Try number told ∷ wire.calls
attempt_calls Connected number wire = refl
attempt_calls Pending number wire = refl
attempt_calls AttemptFault number wire = refl

looks_tended : (key : ℕ) (line : Connection) (waiting : List ℕ) (before : Sides) (visit : Visit) (after : Connection) (left : List ℕ) (served : Sides) → key < 65 → line.is_up ≡ false → left ≡ waiting → Looks (end_at key) line before visit after served → Tended key line waiting before after left served
looks_tended key line waiting before visit after left served few up same_left looks = by_told looks.told (ap (λ (w : WireState). w.calls) looks.asks ∙ attempt_calls looks.told line.number before.wire) looks.finds
  where
    sockets : served.wire.sockets ≡ before.wire.sockets
    sockets = ap (λ (w : WireState). w.sockets) looks.asks ∙ attempt_sockets looks.told line.number before.wire

    tended : (told : Attempt) (asks : List Call) → served.wire.calls ≡ Try line.number told ∷ before.wire.calls → Makes asks before.speaker served.speaker → AreOf key asks → after.number ≡ line.number → Standing key line after waiting left asks (Try line.number told ∷ []) → Tended key line waiting before after left served
    tended told asks calls makes of_session number standing =
        record {
          asks = asks;
          calls = Try line.number told ∷ [];
          makes = makes;
          told = calls;
          sockets = sockets;
          of_session = of_session;
          of_socket = (tt, tt);
          number = number;
          standing = standing;
        }

    stays : (told : Attempt) → served.wire.calls ≡ Try line.number told ∷ before.wire.calls → after.is_up ≡ false → after.number ≡ line.number → served.speaker ≡ before.speaker → Tended key line waiting before after left served
    stays told calls down number same =
        tended told [] calls (makes_none before.speaker served.speaker same) tt number (Tries up down same_left (record { gives = refl; takes = refl }))

    comes : (test : Bool) → served.wire.calls ≡ Try line.number Connected ∷ before.wire.calls → after ≡ record line { is_up = test } → Asks (up_call (end_at key)) test before.speaker served.speaker → Tended key line waiting before after left served
    comes false calls line_is same = stays Connected calls (ap (λ (l : Connection). l.is_up) line_is) (ap (λ (l : Connection). l.number) line_is) same
    comes true calls line_is makes =
        tended Connected (up_call (end_at key) ∷ []) calls makes (of_up key few, tt) (ap (λ (l : Connection). l.number) line_is)
        (Comes up (ap (λ (l : Connection). l.is_up) line_is) same_left (record { gives = refl; takes = refl }) refl)

    by_told : (told : Attempt) → served.wire.calls ≡ Try line.number told ∷ before.wire.calls → Finds told (end_at key) line before.speaker visit after served.speaker → Tended key line waiting before after left served
    by_told Pending calls found = stays Pending calls (ap (λ (l : Connection). l.is_up) found.1 ∙ up) (ap (λ (l : Connection). l.number) found.1) found.2
    by_told AttemptFault calls found = stays AttemptFault calls (ap (λ (l : Connection). l.is_up) found.1 ∙ up) (ap (λ (l : Connection). l.number) found.1) found.2
    by_told Connected calls up = comes (awaits_up (wanted_transport_of before.speaker (end_at key))) calls up.line_is up.asks

attempt_tended : (test : Bool) (key : ℕ) (line : Connection) (waiting : List ℕ) (before : Sides) (visit : Visit) (after : Connection) (left : List ℕ) (served : Sides) → key < 65 → line.is_up ≡ false → AttendsAttempt test (end_at key) line waiting before visit after left served → Tended key line waiting before after left served
attempt_tended true key line waiting before visit after left served few up looks = looks_tended key line waiting before visit after left served few up looks.1 looks.0
attempt_tended false key line waiting before visit after left served few up u = unwanted_tended key line waiting before visit after left served u

attends_tended : (up : Bool) (key : ℕ) (now : Moment) (line : Connection) (waiting : List ℕ) (before : Sides) (visit : Visit) (after : Connection) (left : List ℕ) (served : Sides) → key < 65 → line.is_up ≡ up → Attends up (end_at key) now line waiting before visit after left served → Tended key line waiting before after left served
attends_tended true key now line waiting before visit after left served few up attends =
    up_tended (may_bring_octets (transport_of before.speaker (end_at key))) key now line waiting before visit after left served few up refl attends
attends_tended false key now line waiting before visit after left served few up attends =
    attempt_tended (is_opening (transport_of before.speaker (end_at key))) key line waiting before visit after left served few up attends

-- a visit
pub visits_effect : (key : ℕ) (now : Moment) (old : PlaceState) (before : Sides) (visit : Visit) (left : PlaceState) (behind : Sides) → key < 65 → Visits now (end_at key) old before visit left behind → Effect key old before left behind
visits_effect key now old before visit left behind few visits = by_line old.line refl visits
  where
    by_line : (line : Option Connection) → old.line ≡ line → VisitsWhat (end_at key) now line old before visit left behind → Effect key old before left behind
    by_line None is nothing = nothing_happens key old before left behind nothing.1 nothing.2
    by_line (Some line) is v =
        settled_effect visit key line v.after old before v.served v.left left behind few is
        (attends_tended line.is_up key now line old.waiting before visit v.after v.left v.served few refl v.attends)
        v.settles v.place_is

-- a look carries nothing
given_behind_look : (number other : ℕ) (told : Bool) (calls : List WireCall) → given number (calls ++ Look other told ∷ []) ≡ given number calls
given_behind_look number other told [] = refl
given_behind_look number other told (call ∷ calls) = ap (λ (l : List ℕ). l ++ given_by number call) (given_behind_look number other told calls)

taken_behind_look : (number other : ℕ) (told : Bool) (calls : List WireCall) → taken number (calls ++ Look other told ∷ []) ≡ taken number calls
taken_behind_look number other told [] = refl
taken_behind_look number other told (call ∷ calls) = ap (λ (l : List ℕ). l ++ taken_by number call) (taken_behind_look number other told calls)

idle_behind_look : (number other : ℕ) (told : Bool) (calls : List WireCall) → IsIdle number calls → IsIdle number (calls ++ Look other told ∷ [])
idle_behind_look number other told calls idle =
    record { gives = given_behind_look number other told calls ∙ idle.gives; takes = taken_behind_look number other told calls ∙ idle.takes }

standing_behind_look : (key : ℕ) (line after : Connection) (waiting left : List ℕ) (asks : List Call) (calls : List WireCall) (other : ℕ) (told : Bool) → Standing key line after waiting left asks calls → Standing key line after waiting left asks (calls ++ Look other told ∷ [])
standing_behind_look key line after waiting left asks calls other told (Keeps was is up hears takes) =
    Keeps was is up (hears ∙ sym (given_behind_look line.number other told calls)) (takes ∙ ap (λ (l : List ℕ). l ++ left) (sym (taken_behind_look line.number other told calls)))
standing_behind_look key line after waiting left asks calls other told (Tries was is same idle) = Tries was is same (idle_behind_look line.number other told calls idle)
standing_behind_look key line after waiting left asks calls other told (Comes was is same idle last) = Comes was is same (idle_behind_look line.number other told calls idle) last

after_behind_look : (key : ℕ) (old : PlaceState) (before looked behind : WireState) (asks : List Call) (calls : List WireCall) (left : PlaceState) (other : ℕ) (told : Bool) → looked.sockets ≡ before.sockets → After key old looked behind asks calls left → After key old before behind asks (calls ++ Look other told ∷ []) left
after_behind_look key old before looked behind asks calls left other told same (Gone none) = Gone none
after_behind_look key old before looked behind asks calls left other told same (Goes line after was is number stands) =
    Goes line after was is number (standing_behind_look key line after old.waiting left.waiting asks calls other told stands)
after_behind_look key old before looked behind asks calls left other told same (Begun after is number down sockets none idle) =
    Begun after is (number ∙ same) down (sockets ∙ ap one_more same) none (λ number. idle_behind_look number other told calls (idle number))
after_behind_look key old before looked behind asks calls left other told same (SitsDown after is number up sockets none idle last) =
    SitsDown after is (number ∙ same) up (sockets ∙ ap one_more same) none (λ number. idle_behind_look number other told calls (idle number)) last

-- what happens behind a look
behind_look : (key : ℕ) (old : PlaceState) (before : Sides) (wire : WireState) (left : PlaceState) (behind : Sides) (other : ℕ) (told : Bool) → wire.calls ≡ Look other told ∷ before.wire.calls → wire.sockets ≡ before.wire.sockets → Effect key old (record before { wire = wire }) left behind → Effect key old before left behind
behind_look key old before wire left behind other told calls sockets effect =
    record {
      asks = effect.asks;
      calls = effect.calls ++ Look other told ∷ [];
      makes = effect.makes;
      told = effect.told ∙ (ap (λ (l : List WireCall). effect.calls ++ l) calls ∙ sym (append_assoc effect.calls (Look other told ∷ []) before.wire.calls));
      sockets = omega (arith, effect.sockets, sockets);
      of_session = effect.of_session;
      rests = λ number apart. idle_behind_look number other told effect.calls (effect.rests number apart);
      after = after_behind_look key old before.wire wire behind.wire effect.asks effect.calls left other told sockets effect.after;
    }

-- a visit, unless it is put off
pub visits_unless_effect : (is_off : Bool) (key : ℕ) (now : Moment) (old : PlaceState) (before : Sides) (visit : Visit) (is_one : Bool) (left : PlaceState) (behind : Sides) → key < 65 → VisitsUnless is_off now (end_at key) old before visit is_one left behind → Effect key old before left behind
visits_unless_effect is_off key now old before visit is_one left behind few unless = by_line old.line refl unless.looks
  where
    visited : (told is_off : Bool) → VisitsTold told is_off now (end_at key) old (record before { wire = unless.wire }) visit is_one left behind → Effect key old (record before { wire = unless.wire }) left behind
    visited false is_off visits = visits_effect key now old (record before { wire = unless.wire }) visit left behind few visits.1
    visited true false visits = visits_effect key now old (record before { wire = unless.wire }) visit left behind few visits.1
    visited true true off = nothing_happens key old (record before { wire = unless.wire }) left behind off.1.place_is off.1.sides_are

    unasked : unless.wire ≡ before.wire → Effect key old before left behind
    unasked same = subst (λ (w : WireState). Effect key old (record before { wire = w }) left behind) same (visited unless.told is_off unless.visits)

    by_up : (up : Bool) (line : Connection) → LooksUp up line before.wire unless.told unless.wire → Effect key old before left behind
    by_up false line looks = unasked looks.1
    by_up true line looks =
        behind_look key old before unless.wire left behind line.number unless.told (ap (λ (w : WireState). w.calls) looks) (ap (λ (w : WireState). w.sockets) looks) (visited unless.told is_off unless.visits)

    by_line : (line : Option Connection) → old.line ≡ line → LooksWhat line before.wire unless.told unless.wire → Effect key old before left behind
    by_line None is looks = unasked looks.1
    by_line (Some line) is looks = by_up line.is_up line looks

-- an attempt gives way
pub gives_way_effect : (test : Bool) (key : ℕ) (old : PlaceState) (before : Sides) (left : PlaceState) (behind : Sides) → GivesWayIf test old before left behind → Effect key old before left behind
gives_way_effect false key old before left behind nothing = nothing_happens key old before left behind nothing.0 nothing.1
gives_way_effect true key old before left behind gives = by_line old.line refl gives
  where
    by_up : (up : Bool) (line : Connection) → old.line ≡ Some line → GivesWayUp up line old before left behind → Effect key old before left behind
    by_up true line is nothing = nothing_happens key old before left behind nothing.0 nothing.1
    by_up false line is away =
        record {
          asks = [];
          calls = Close line.number parting.Unwanted ∷ [];
          makes = makes_none before.speaker behind.speaker (ap (λ (s : Sides). s.speaker) away.1);
          told = ap (λ (s : Sides). s.wire.calls) away.1;
          sockets = omega (arith, ap (λ (s : Sides). s.wire.sockets) away.1);
          of_session = tt;
          rests = λ number _. record { gives = refl; takes = refl };
          after = Gone (ap (λ (p : PlaceState). p.line) away.0);
        }

    by_line : (line : Option Connection) → old.line ≡ line → GivesWayWhat line old before left behind → Effect key old before left behind
    by_line None is nothing = nothing_happens key old before left behind nothing.0 nothing.1
    by_line (Some line) is given = by_up line.is_up line is given
