-- What connections carry, one step of a turn after another.
use Rattle.std.proofs.Common.{◌≡◌, ◌≢◌, ◌≤◌, ◌<◌, ◌-◌, ◌^◌, ℕ, zero, suc, Bool, true, false, List, [], ◌∷◌, ◌++◌, refl, sym, ap, subst, ◌∙◌, append_assoc, append-nil, inl, inr, ◌⊎◌, Option, Some, None, Result, Ok, Err, arith}
use Rattle.std.proofs.lemmas.Bool.{cases_eq}
use Rattle.std.specs.declared.net.socket_addr.SocketAddr.{SocketAddr}
use Rattle.std.proofs.lemmas.Option.{same_Some}
use Rattle.net_prefix.specs.declared.payload.Vrp.{Vrp}
use Rattle.rtr_cache.specs.declared.other_session.OtherSession.{OtherSession}
use Rattle.rtr_cache.specs.CacheState.{CacheState, ComesUp as CacheComesUp, client_at, empty_cache, tells_client}
use Rattle.rtr_cache.specs.CacheTable.{fresh_conn}
use Rattle.rtr_cache.specs.ClientHistory.{CameUp, IsRun, Loaded, StaysUp, Ticked, Turn, WentDown, Withdrew, handed_out, turn_of}
use Rattle.rtr_cache.specs.declared.event.CacheReport.{CacheReport}
use Rattle.rtr_cache.proofs.TellingHistories.{told_from_empty}
use Rattle.rtr_codec.specs.declared.intervals.Intervals.{Intervals}
use Rattle.cache_turns.specs.Carrying.{CarriesWhole, heard}
use Rattle.cache_turns.specs.Patience.{arriving_at}
use Rattle.cache_turns.specs.Serving.{Connection, Sides, judged}
use Rattle.cache_turns.specs.Turns.{Accepts, ComesUp, GoesDown, IsTold, LacksMemory, LinksStay, Load, LoadsSet, OtherLinksStay, Step, Stops, TakesStep, TakesSteps, TakesTurn, TellsCache, TurnAt, Turns, VisitsBelow, VisitsConnection, VisitsLink, idle, link_at, link_left, parting_for, settled, sides, Withdraw, WithdrawsSet}
use Rattle.cache_turns.specs.declared.link.Visit.{Visit}
use Rattle.cache_turns.specs.declared.link.Visit.TheVariants.{Stays, Faulty, Ended, Closed, Overdue}
use Rattle.cache_turns.specs.declared.patience.Moments.{Moments}
use Rattle.cache_turns.specs.declared.patience.Patience.{Patience}
use Rattle.cache_turns.proofs.Effects.{AreOf, Silent, handed-on, heard-on, silent, up-on}
use Rattle.cache_turns.proofs.Exchanges.{Carries, Visited, run_on, serves_carries}
use Rattle.wires.specs.Calls.{WireCall, Accept, Close}
use Rattle.wires.specs.Carried.{given, taken}
use Rattle.wires.specs.Counts.{Counts}
use Rattle.wires.specs.Wires.{WireState, nothing_told, one_more}
use Rattle.wires.specs.declared.fault.LoopFault.{LoopFault}
use Rattle.wires.specs.declared.fault.LoopFault.TheVariants as stop
use Rattle.wires.specs.declared.wire.Parting.{Parting}
use Rattle.wires.specs.declared.wire.Parting.TheVariants as parting
use Rattle.wires.proofs.Counting.{goes_on, goes_on_by_one}
use Rattle.wires.proofs.Sockets.{AreOfSocket, IsIdle, given-on, idle_on, idle_socket, taken-on}

-- the connection of a client, over all calls since the client came up
record IsCarried (first : CacheState) (turns : Sides) (key : ℕ) (link : Connection) : Type 0 where
  pub before : List Turn
  pub start : CacheState
  pub history : List Turn
  pub made : IsRun first before start
  pub fresh : client_at start key ≡ Some fresh_conn
  pub run : IsRun start history turns.cache
  pub up : StaysUp key history
  pub hears : heard key history ≡ given link.number turns.wire.calls
  pub takes : handed_out key history ≡ taken link.number turns.wire.calls ++ link.waiting

-- and behind more calls
carried_on : (first : CacheState) (old new : Sides) (key number : ℕ) (waiting left : List ℕ) (before later : Moments) (history : List Turn) (calls : List WireCall) → IsCarried first old key (record { number = number; waiting = waiting; moments = before }) → IsRun old.cache history new.cache → new.wire.calls ≡ calls ++ old.wire.calls → StaysUp key history → heard key history ≡ given number calls → waiting ++ handed_out key history ≡ taken number calls ++ left → IsCarried first new key (record { number = number; waiting = left; moments = later })
carried_on first old new key number waiting left before later history calls c run asks up hears takes =
    record {
      before = c.before;
      start = c.start;
      history = history ++ c.history;
      made = c.made;
      fresh = c.fresh;
      run = run_on c.start old.cache new.cache c.history history c.run run;
      up = up-on key c.history history c.up up;
      hears =
          heard-on key c.history history
          ∙ (ap (λ (l : List ℕ). l ++ heard key history) c.hears
          ∙ (ap (λ (l : List ℕ). given number old.wire.calls ++ l) hears
          ∙ (sym (given-on number old.wire.calls calls)
          ∙ ap (given number) (sym asks))));
      takes =
          handed-on key c.history history
          ∙ (ap (λ (l : List ℕ). l ++ handed_out key history) c.takes
          ∙ (append_assoc (taken number old.wire.calls) waiting (handed_out key history)
          ∙ (ap (λ (l : List ℕ). taken number old.wire.calls ++ l) takes
          ∙ (sym (append_assoc (taken number old.wire.calls) (taken number calls) left)
          ∙ (ap (λ (l : List ℕ). l ++ left) (sym (taken-on number old.wire.calls calls))
          ∙ ap (λ (l : List WireCall). taken number l ++ left) (sym asks))))));
    }

-- beside calls that carry nothing of it
carried_beside : (first : CacheState) (old new : Sides) (key : ℕ) (link : Connection) (history : List Turn) (calls : List WireCall) → IsCarried first old key link → IsRun old.cache history new.cache → new.wire.calls ≡ calls ++ old.wire.calls → Silent key history → IsIdle link.number calls → IsCarried first new key link
carried_beside first old new key link history calls c run asks quiet rests =
    carried_on first old new key link.number link.waiting link.waiting link.moments link.moments history calls c run asks quiet.up (quiet.hears ∙ sym rests.gives)
    (ap (λ (l : List ℕ). link.waiting ++ l) quiet.hands ∙ (append-nil link.waiting ∙ ap (λ (l : List ℕ). l ++ link.waiting) (sym rests.takes)))

-- so it is of each connection, each has a number of its own, and numbers that didn't come yet have carried nothing
record AreCarried (first : CacheState) (turns : Turns) : Type 0 where
  pub before : List Turn
  pub made : IsRun first before turns.cache
  pub each : (key : ℕ) (link : Connection) → link_at turns key ≡ Some link → IsCarried first (sides turns) key link
  pub numbered : (key : ℕ) (link : Connection) → link_at turns key ≡ Some link → link.number < turns.counts.wire.sockets
  pub apart : (key other : ℕ) (link another : Connection) → other ≢ key → link_at turns key ≡ Some link → link_at turns other ≡ Some another → another.number ≢ link.number
  pub unused : (number : ℕ) → turns.counts.wire.sockets ≤ number → IsIdle number turns.counts.wire.calls

-- the connection under a key, where calls are of it alone
record IsHere (first : CacheState) (old new : Turns) (key : ℕ) (link : Connection) : Type 0 where
  pub carried : IsCarried first (sides new) key link
  pub numbered : link.number < new.counts.wire.sockets
  pub apart : (other : ℕ) (another : Connection) → other ≢ key → link_at old other ≡ Some another → another.number ≢ link.number

-- a step that changes the connection of one key alone
record Changes (first : CacheState) (old : Turns) (key : ℕ) (new : Turns) : Type 0 where
  pub history : List Turn
  pub calls : List WireCall
  pub run : IsRun old.cache history new.cache
  pub asks : new.counts.wire.calls ≡ calls ++ old.counts.wire.calls
  pub sockets : old.counts.wire.sockets ≤ new.counts.wire.sockets
  pub quiet : (other : ℕ) (another : Connection) → other ≢ key → link_at old other ≡ Some another → Silent other history
  pub rests : (other : ℕ) (another : Connection) → other ≢ key → link_at old other ≡ Some another → IsIdle another.number calls
  pub unused : (number : ℕ) → new.counts.wire.sockets ≤ number → IsIdle number calls
  pub others : OtherLinksStay old key new
  pub here : (link : Connection) → link_at new key ≡ Some link → IsHere first old new key link

changed : (first : CacheState) (old new : Turns) (key : ℕ) → AreCarried first old → Changes first old key new → AreCarried first new
changed first old new key are step =
    record {
      before = step.history ++ are.before;
      made = run_on first old.cache new.cache are.before step.history are.made step.run;
      each = λ other link is. each other link is (cases_eq other key);
      numbered = λ other link is. numbered other link is (cases_eq other key);
      apart = λ one other link another differs is there. apart one other link another differs is there (cases_eq one key) (cases_eq other key);
      unused = λ number come. idle_on number old.counts.wire.calls step.calls new.counts.wire.calls step.asks (are.unused number (omega (arith, come, step.sockets))) (step.unused number come);
    }
  where
    before_it : (other : ℕ) (link : Connection) → other ≢ key → link_at new other ≡ Some link → link_at old other ≡ Some link
    before_it other link differs is = sym (step.others other differs) ∙ is

    each : (other : ℕ) (link : Connection) → link_at new other ≡ Some link → (other ≡ key) ⊎ (other ≡ key → ⊥) → IsCarried first (sides new) other link
    each other link is (inl same) =
        subst (λ (k : ℕ). IsCarried first (sides new) k link) (sym same) (step.here link (ap (λ (k : ℕ). link_at new k) (sym same) ∙ is)).carried
    each other link is (inr differs) =
        let old_is = before_it other link differs is in
        carried_beside first (sides old) (sides new) other link step.history step.calls (are.each other link old_is) step.run step.asks (step.quiet other link differs old_is) (step.rests other link differs old_is)

    numbered : (other : ℕ) (link : Connection) → link_at new other ≡ Some link → (other ≡ key) ⊎ (other ≡ key → ⊥) → link.number < new.counts.wire.sockets
    numbered other link is (inl same) = (step.here link (ap (λ (k : ℕ). link_at new k) (sym same) ∙ is)).numbered
    numbered other link is (inr differs) =
        let below = are.numbered other link (before_it other link differs is) in
        omega (arith, below, step.sockets)

    apart : (one other : ℕ) (link another : Connection) → other ≢ one → link_at new one ≡ Some link → link_at new other ≡ Some another → (one ≡ key) ⊎ (one ≡ key → ⊥) → (other ≡ key) ⊎ (other ≡ key → ⊥) → another.number ≢ link.number
    apart one other link another differs is there (inl first_same) (inl second_same) = absurd (differs (second_same ∙ sym first_same))
    apart one other link another differs is there (inl same) (inr other_differs) =
        (step.here link (ap (λ (k : ℕ). link_at new k) (sym same) ∙ is)).apart other another other_differs (before_it other another other_differs there)
    apart one other link another differs is there (inr one_differs) (inl same) =
        λ equal. (step.here another (ap (λ (k : ℕ). link_at new k) (sym same) ∙ there)).apart one link one_differs (before_it one link one_differs is) (sym equal)
    apart one other link another differs is there (inr one_differs) (inr other_differs) =
        are.apart one other link another differs (before_it one link one_differs is) (before_it other another other_differs there)

-- a step that leaves each connection: its calls carry nothing of any
pub record Passes (old new : Turns) : Type 0 where
  pub history : List Turn
  pub calls : List WireCall
  pub run : IsRun old.cache history new.cache
  pub asks : new.counts.wire.calls ≡ calls ++ old.counts.wire.calls
  pub sockets : old.counts.wire.sockets ≤ new.counts.wire.sockets
  pub quiet : (other : ℕ) (another : Connection) → link_at old other ≡ Some another → Silent other history
  pub rests : (number : ℕ) → IsIdle number calls
  pub links : LinksStay old new

passed : (first : CacheState) (old new : Turns) → AreCarried first old → Passes old new → AreCarried first new
passed first old new are step =
    changed first old new 0 are
    (record {
      history = step.history;
      calls = step.calls;
      run = step.run;
      asks = step.asks;
      sockets = step.sockets;
      quiet = λ other another _ is. step.quiet other another is;
      rests = λ other another _ _. step.rests another.number;
      unused = λ number _. step.rests number;
      others = λ other _. step.links other;
      here = λ link is. here link (sym (step.links 0) ∙ is);
    })
  where
    here : (link : Connection) → link_at old 0 ≡ Some link → IsHere first old new 0 link
    here link is =
        record {
          carried = carried_beside first (sides old) (sides new) 0 link step.history step.calls (are.each 0 link is) step.run step.asks (step.quiet 0 link is) (step.rests link.number);
          numbered = (let below = are.numbered 0 link is in omega (arith, below, step.sockets));
          apart = λ other another differs there. are.apart 0 other link another differs is there;
        }

-- a connection that stays was found to
judged_stays : (over : Bool) (found : Visit) → judged over found ≡ Stays → found ≡ Stays
judged_stays false found is = is
judged_stays true Stays is = refl
judged_stays true Faulty is = is
judged_stays true Ended is = is
judged_stays true Closed is = is
judged_stays true Overdue is = is

-- a visit to a connection
visit_changes : (first : CacheState) (now : ℕ) (old new : Turns) (key : ℕ) (link : Connection) → AreCarried first old → link_at old key ≡ Some link → VisitsConnection now old key link new → Changes first old key new
visit_changes first now old new key link are there v = by_visit v.visit refl v.tells (ap (λ (c : Counts). c.wire) v.counts) v.stands
  where
    met : Visited key link (sides old) v.attends.found v.left.waiting v.behind
    met = serves_carries key link (sides old) v.attends.found v.left.waiting v.behind v.attends.stands.serves

    kept : Connection
    kept = record { number = link.number; waiting = v.left.waiting; moments = v.left.moments }

    same : v.left ≡ kept
    same = ap (λ (n : ℕ). record { number = n; waiting = v.left.waiting; moments = v.left.moments }) v.attends.stands.number

    c : Carries key link.number link.waiting met.waits (sides old) v.behind
    c = met.carries

    change : (history : List Turn) (calls : List WireCall) → IsRun old.cache history new.cache → new.counts.wire.calls ≡ calls ++ old.counts.wire.calls → new.counts.wire.sockets ≡ old.counts.wire.sockets → AreOf key history → AreOfSocket link.number calls → ((after : Connection) → link_at new key ≡ Some after → IsHere first old new key after) → Changes first old key new
    change history calls run asks sockets of_client of_socket here =
        record {
          history = history;
          calls = calls;
          run = run;
          asks = asks;
          sockets = omega (arith, sockets);
          quiet = λ other another differs is. silent key other history of_client differs;
          rests = λ other another differs is. idle_socket link.number another.number calls of_socket (are.apart key other link another differs there is);
          unused = λ number come. idle_socket link.number number calls of_socket (λ same. let below = are.numbered key link there in absurd (omega (arith, come, sockets, below, same)));
          others = v.others;
          here = here;
        }

    stays : v.visit ≡ Stays → new.cache ≡ v.behind.cache → new.counts.wire ≡ v.behind.wire → link_at new key ≡ Some kept → Changes first old key new
    stays is same_cache same_wire stands =
        change c.history c.calls run asks sockets c.of_client c.of_socket here
      where
        run : IsRun old.cache c.history new.cache
        run = subst (λ (s : CacheState). IsRun old.cache c.history s) (sym same_cache) c.run

        asks : new.counts.wire.calls ≡ c.calls ++ old.counts.wire.calls
        asks = ap (λ (w : WireState). w.calls) same_wire ∙ c.asks

        sockets : new.counts.wire.sockets ≡ old.counts.wire.sockets
        sockets = ap (λ (w : WireState). w.sockets) same_wire ∙ c.sockets

        here : (after : Connection) → link_at new key ≡ Some after → IsHere first old new key after
        here after is_after =
            subst (λ (l : Connection). IsHere first old new key l) (same_Some kept after (sym stands ∙ is_after))
            (record {
              carried =
                  carried_on first (sides old) (sides new) key link.number link.waiting v.left.waiting link.moments v.left.moments c.history c.calls (are.each key link there) run asks c.up c.hears
                  (c.takes ∙ ap (λ (l : List ℕ). taken link.number c.calls ++ l) (met.stays (judged_stays _ v.attends.found (sym v.attends.judges ∙ is))));
              numbered = (let below = are.numbered key link there in omega (arith, below, sockets));
              apart = λ other another differs is_there. are.apart key other link another differs there is_there;
            })

    lost : (why : Parting) → new.counts.wire.calls ≡ Close link.number why ∷ v.behind.wire.calls → new.counts.wire.sockets ≡ v.behind.wire.sockets → GoesDown v.behind.cache key new.cache → link_at new key ≡ None → Changes first old key new
    lost why asks sockets down gone =
        change (turn_of v.behind.cache (WentDown key down.0) ∷ c.history) (Close link.number why ∷ c.calls) (c.run, down.1)
        (asks ∙ ap (λ (l : List WireCall). Close link.number why ∷ l) c.asks)
        (sockets ∙ c.sockets)
        (refl, c.of_client)
        (tt, c.of_socket)
        (λ after is. absurd (let wrong : Some after ≡ None = sym is ∙ gone in cc))

    by_visit : (visit : Visit) → v.visit ≡ visit → TellsCache visit v.behind.cache key new.cache → new.counts.wire ≡ (settled visit link.number (record old.counts { wire = v.behind.wire })).wire → link_at new key ≡ link_left visit v.left → Changes first old key new
    by_visit Stays is tells wire stands = stays is tells wire (stands ∙ ap (λ (l : Connection). Some l) same)
    by_visit Faulty is tells wire stands = lost parting.Failed (ap (λ (w : WireState). w.calls) wire) (ap (λ (w : WireState). w.sockets) wire) tells stands
    by_visit Ended is tells wire stands = lost parting.Ended (ap (λ (w : WireState). w.calls) wire) (ap (λ (w : WireState). w.sockets) wire) tells stands
    by_visit Closed is tells wire stands = lost parting.Closed (ap (λ (w : WireState). w.calls) wire) (ap (λ (w : WireState). w.sockets) wire) tells stands
    by_visit Overdue is tells wire stands = lost parting.Overdue (ap (λ (w : WireState). w.calls) wire) (ap (λ (w : WireState). w.sockets) wire) tells stands

visit_carries : (first : CacheState) (now : ℕ) (old new : Turns) (key : ℕ) (link : Option Connection) → AreCarried first old → link_at old key ≡ link → VisitsLink now old key link new → AreCarried first new
visit_carries first now old new key None are is same = subst (λ (t : Turns). AreCarried first t) (sym same) are
visit_carries first now old new key (Some link) are is v = changed first old new key are (visit_changes first now old new key link are is v)

visits_carry : (first : CacheState) (now places : ℕ) (old new : Turns) → AreCarried first old → VisitsBelow now places old new → AreCarried first new
visits_carry first now zero old new are same = subst (λ (t : Turns). AreCarried first t) (sym same) are
visits_carry first now (suc key) old new are v =
    visit_carries first now v.0 new key (link_at v.0 key) (visits_carry first now key old v.0 are v.1) refl v.2

idle_accept : (from : Option SocketAddr) (number : ℕ) → IsIdle number (Accept from ∷ [])
idle_accept from number = record { gives = refl; takes = refl }

quiet_none : (key : ℕ) → Silent key []
quiet_none key = record { hears = refl; hands = refl; up = tt }

-- a connection comes up: it has carried nothing, and its client has heard nothing
comes_changes : (first : CacheState) (now : ℕ) (old new : Turns) → AreCarried first old → (comes : ComesUp now old new) → new.counts.wire.sockets < 2 ^ 64 - 1 → Changes first old comes.key new
comes_changes first now old new are comes below =
    record {
      history = history;
      calls = Accept (Some comes.address) ∷ [];
      run = (refl, comes.comes);
      asks = asks;
      sockets = omega (arith, sockets, goes_on count);
      quiet = λ other another differs is. record { hears = refl; hands = refl; up = (tt, tt) };
      rests = λ other another _ _. idle_accept (Some comes.address) another.number;
      unused = λ number _. idle_accept (Some comes.address) number;
      others = comes.others;
      here = λ link is. subst (λ (l : Connection). IsHere first old new comes.key l) (same_Some (record { number = count; waiting = []; moments = arriving_at now }) link (sym comes.here ∙ is)) newcomer;
    }
  where
    count : ℕ
    count = old.counts.wire.sockets

    history : List Turn
    history = turn_of old.cache (CameUp (Ok (tells_client comes.key))) ∷ []

    asks : new.counts.wire.calls ≡ Accept (Some comes.address) ∷ old.counts.wire.calls
    asks = ap (λ (c : Counts). c.wire.calls) comes.counts

    sockets : new.counts.wire.sockets ≡ one_more count
    sockets = ap (λ (c : Counts). c.wire.sockets) comes.counts

    up : CacheComesUp old.cache (Ok (tells_client comes.key)) new.cache
    up = comes.comes.0

    same_key : comes.key ≡ up.0
    same_key = same_Some comes.key up.0 (ap (λ (r : CacheReport). r.client) up.1)

    fresh : client_at new.cache comes.key ≡ Some fresh_conn
    fresh = ap (client_at new.cache) same_key ∙ up.5

    unseen : IsIdle count new.counts.wire.calls
    unseen = idle_on count old.counts.wire.calls (Accept (Some comes.address) ∷ []) new.counts.wire.calls asks (are.unused count (omega arith)) (idle_accept (Some comes.address) count)

    newcomer : IsHere first old new comes.key (record { number = count; waiting = []; moments = arriving_at now })
    newcomer =
        record {
          carried = record {
            before = history ++ are.before;
            start = new.cache;
            history = [];
            made = run_on first old.cache new.cache are.before history are.made (refl, comes.comes);
            fresh = fresh;
            run = refl;
            up = tt;
            hears = sym unseen.gives;
            takes = ap (λ (l : List ℕ). l ++ []) (sym unseen.takes);
          };
          numbered = omega (arith, sockets, goes_on_by_one count (subst (λ (n : ℕ). n < 2 ^ 64 - 1) sockets below));
          apart = λ other another differs there same. let under = are.numbered other another there in absurd (omega (arith, under, same));
        }

lacks_passes : (old new : Turns) → LacksMemory old new → Passes old new
lacks_passes old new lacks =
    record {
      history = turn_of lacks.told (WentDown lacks.key lacks.goes.0) ∷ turn_of old.cache (CameUp (Ok (tells_client lacks.key))) ∷ [];
      calls = Close old.counts.wire.sockets parting.NoMemory ∷ Accept (Some lacks.address) ∷ [];
      run = ((refl, lacks.comes), lacks.goes.1);
      asks = ap (λ (c : Counts). c.wire.calls) lacks.counts;
      sockets = omega (arith, ap (λ (c : Counts). c.wire.sockets) lacks.counts, goes_on old.counts.wire.sockets);
      quiet = λ other another is. record { hears = refl; hands = refl; up = (λ same. away other another is same, (tt, tt)) };
      rests = λ number. record { gives = refl; takes = refl };
      links = lacks.links;
    }
  where
    -- no connection stands under the key of the one that goes again
    away : (other : ℕ) (another : Connection) → link_at old other ≡ Some another → lacks.key ≡ other → ⊥
    away other another is same = let wrong : None ≡ Some another = sym lacks.before ∙ (ap (link_at old) same ∙ is) in cc

-- a connection that comes leaves the others, also where the cache or memory refuses it
pub accepts_passes : (now : ℕ) (old new : Turns) → Accepts now old new → (ComesUp now old new) ⊎ (Passes old new)
accepts_passes now old new (inl none) =
    inr (record {
      history = [];
      calls = Accept None ∷ [];
      run = ap (λ (t : Turns). t.cache) none;
      asks = ap (λ (t : Turns). t.counts.wire.calls) none;
      sockets = omega (arith, ap (λ (t : Turns). t.counts.wire.sockets) none);
      quiet = λ other another is. quiet_none other;
      rests = idle_accept None;
      links = λ key. ap (λ (t : Turns). link_at t key) none;
    })
accepts_passes now old new (inr (inl away)) =
    inr (record {
      history = turn_of old.cache (CameUp (Err away.why)) ∷ [];
      calls = Close old.counts.wire.sockets (parting_for away.why) ∷ Accept (Some away.address) ∷ [];
      run = (refl, away.refused);
      asks = ap (λ (c : Counts). c.wire.calls) away.counts;
      sockets = omega (arith, ap (λ (c : Counts). c.wire.sockets) away.counts, goes_on old.counts.wire.sockets);
      quiet = λ other another is. record { hears = refl; hands = refl; up = (tt, tt) };
      rests = λ number. record { gives = refl; takes = refl };
      links = away.links;
    })
accepts_passes now old new (inr (inr (inl lacks))) = inr (lacks_passes old new lacks)
accepts_passes now old new (inr (inr (inr comes))) = inl comes

pub stops_passes : (old new : Turns) → Stops old stop.Accept new → Passes old new
stops_passes old new same =
    record {
      history = [];
      calls = Accept None ∷ [];
      run = ap (λ (t : Turns). t.cache) same;
      asks = ap (λ (t : Turns). t.counts.wire.calls) same;
      sockets = omega (arith, ap (λ (t : Turns). t.counts.wire.sockets) same);
      quiet = λ other another is. quiet_none other;
      rests = idle_accept None;
      links = λ key. ap (λ (t : Turns). link_at t key) same;
    }

pub tick_passes : (now : ℕ) (old new : Turns) → IsTold now old new → Passes old new
tick_passes now old new told =
    record {
      history = turn_of old.cache (Ticked now told.result) ∷ [];
      calls = [];
      run = (refl, told.ticks);
      asks = ap (λ (t : Turns). t.counts.wire.calls) told.same;
      sockets = omega (arith, ap (λ (t : Turns). t.counts.wire.sockets) told.same);
      quiet = λ other another is. record { hears = refl; hands = refl; up = (tt, tt) };
      rests = λ number. record { gives = refl; takes = refl };
      links = λ key. ap (λ (t : Turns). link_at t key) told.same;
    }

-- no visit lets a connection in
settled_arrives : (visit : Visit) (number : ℕ) (counts : Counts) → (settled visit number counts).wire.sockets ≡ counts.wire.sockets
settled_arrives Stays number counts = refl
settled_arrives Faulty number counts = refl
settled_arrives Ended number counts = refl
settled_arrives Closed number counts = refl
settled_arrives Overdue number counts = refl

visits_arrive : (now places : ℕ) (old new : Turns) → VisitsBelow now places old new → new.counts.wire.sockets ≡ old.counts.wire.sockets
visits_arrive now zero old new same = ap (λ (t : Turns). t.counts.wire.sockets) same
visits_arrive now (suc key) old new v = by_link (link_at v.0 key) v.2 ∙ visits_arrive now key old v.0 v.1
  where
    by_link : (link : Option Connection) → VisitsLink now v.0 key link new → new.counts.wire.sockets ≡ v.0.counts.wire.sockets
    by_link None same = ap (λ (t : Turns). t.counts.wire.sockets) same
    by_link (Some link) visited =
        ap (λ (c : Counts). c.wire.sockets) visited.counts
        ∙ (settled_arrives visited.visit link.number (record v.0.counts { wire = visited.behind.wire })
        ∙ (serves_carries key link (sides v.0) visited.attends.found visited.left.waiting visited.behind visited.attends.stands.serves).carries.sockets)

accepts_arrive : (now : ℕ) (old new : Turns) → (ComesUp now old new) ⊎ (Passes old new) → old.counts.wire.sockets ≤ new.counts.wire.sockets
accepts_arrive now old new (inl comes) = omega (arith, ap (λ (c : Counts). c.wire.sockets) comes.counts, goes_on old.counts.wire.sockets)
accepts_arrive now old new (inr passes) = passes.sockets

accepts_carry : (first : CacheState) (now : ℕ) (old new : Turns) → AreCarried first old → (ComesUp now old new) ⊎ (Passes old new) → new.counts.wire.sockets < 2 ^ 64 - 1 → AreCarried first new
accepts_carry first now old new are (inl comes) below = changed first old new comes.key are (comes_changes first now old new are comes below)
accepts_carry first now old new are (inr passes) below = passed first old new are passes

turn_arrives : (now : ℕ) (old new : Turns) (result : Result (Unit {0}) LoopFault) → TakesTurn now old result new → old.counts.wire.sockets ≤ new.counts.wire.sockets
turn_arrives now old new (Ok nothing) turn =
    omega (arith, accepts_arrive now old turn.admitted (accepts_passes now old turn.admitted turn.accepts), visits_arrive now _ turn.admitted turn.visited turn.visits, (tick_passes now turn.visited new turn.tells).sockets)
turn_arrives now old new (Err stop.Accept) stops = (stops_passes old new stops).sockets

turn_carries : (first : CacheState) (now : ℕ) (old new : Turns) (result : Result (Unit {0}) LoopFault) → AreCarried first old → TakesTurn now old result new → new.counts.wire.sockets < 2 ^ 64 - 1 → AreCarried first new
turn_carries first now old new (Ok nothing) are turn below =
    let ticks = tick_passes now turn.visited new turn.tells in
    let come : turn.admitted.counts.wire.sockets < 2 ^ 64 - 1 = omega (arith, below, visits_arrive now _ turn.admitted turn.visited turn.visits, ticks.sockets) in
    passed first turn.visited new
    (visits_carry first now _ turn.admitted turn.visited
    (accepts_carry first now old turn.admitted are (accepts_passes now old turn.admitted turn.accepts) come) turn.visits)
    ticks
turn_carries first now old new (Err stop.Accept) are stops below = passed first old new are (stops_passes old new stops)

-- a set that is loaded leaves the connections
pub load_passes : (set : List Vrp) (old new : Turns) → LoadsSet set old new → Passes old new
load_passes set old new loads =
    record {
      history = turn_of old.cache (Loaded set loads.result) ∷ [];
      calls = [];
      run = (refl, loads.loads);
      asks = ap (λ (t : Turns). t.counts.wire.calls) loads.same;
      sockets = omega (arith, ap (λ (t : Turns). t.counts.wire.sockets) loads.same);
      quiet = λ other another is. record { hears = refl; hands = refl; up = (tt, tt) };
      rests = λ number. record { gives = refl; takes = refl };
      links = λ key. ap (λ (t : Turns). link_at t key) loads.same;
    }

-- and so does one that is withdrawn
pub withdraw_passes : (old new : Turns) → WithdrawsSet old new → Passes old new
withdraw_passes old new withdraws =
    record {
      history = turn_of old.cache (Withdrew withdraws.result) ∷ [];
      calls = [];
      run = (refl, withdraws.withdraws);
      asks = ap (λ (t : Turns). t.counts.wire.calls) withdraws.same;
      sockets = omega (arith, ap (λ (t : Turns). t.counts.wire.sockets) withdraws.same);
      quiet = λ other another is. record { hears = refl; hands = refl; up = (tt, tt) };
      rests = λ number. record { gives = refl; takes = refl };
      links = λ key. ap (λ (t : Turns). link_at t key) withdraws.same;
    }

step_arrives : (step : Step) (old new : Turns) → TakesStep step old new → old.counts.wire.sockets ≤ new.counts.wire.sockets
step_arrives (TurnAt now) old new turn = turn_arrives now old new turn.0 turn.1
step_arrives (Load set) old new loads = (load_passes set old new loads).sockets
step_arrives Withdraw old new withdraws = (withdraw_passes old new withdraws).sockets

steps_arrive : (steps : List Step) (old new : Turns) → TakesSteps steps old new → old.counts.wire.sockets ≤ new.counts.wire.sockets
steps_arrive [] old new same = omega (arith, ap (λ (t : Turns). t.counts.wire.sockets) same)
steps_arrive (step ∷ steps) old new taken =
    omega (arith, step_arrives step old taken.0 taken.1, steps_arrive steps taken.0 new taken.2)

step_carries : (first : CacheState) (step : Step) (old new : Turns) → AreCarried first old → TakesStep step old new → new.counts.wire.sockets < 2 ^ 64 - 1 → AreCarried first new
step_carries first (TurnAt now) old new are turn below = turn_carries first now old new turn.0 are turn.1 below
step_carries first (Load set) old new are loads below = passed first old new are (load_passes set old new loads)
step_carries first Withdraw old new are withdraws below = passed first old new are (withdraw_passes old new withdraws)

steps_carry : (first : CacheState) (steps : List Step) (old new : Turns) → AreCarried first old → TakesSteps steps old new → new.counts.wire.sockets < 2 ^ 64 - 1 → AreCarried first new
steps_carry first [] old new are same below = subst (λ (t : Turns). AreCarried first t) (sym same) are
steps_carry first (step ∷ steps) old new are taken below =
    let come : taken.0.counts.wire.sockets < 2 ^ 64 - 1 = omega (arith, below, steps_arrive steps taken.0 new taken.2) in
    steps_carry first steps taken.0 new (step_carries first step old taken.0 are taken.1 come) taken.2 below

at_first : (patience : Patience) (first : CacheState) (before : List Turn) (cache : CacheState) (listens : Option SocketAddr) → IsRun first before cache → AreCarried first (idle patience cache (nothing_told listens))
at_first patience first before cache listens made =
    record {
      before = before;
      made = made;
      each = λ key link is. absurd (let wrong : None ≡ Some link = is in cc);
      numbered = λ key link is. absurd (let wrong : None ≡ Some link = is in cc);
      apart = λ key other link another _ is _. absurd (let wrong : None ≡ Some link = is in cc);
      unused = λ number _. record { gives = refl; takes = refl };
    }

-- each connection carries whole versions
pub carries_whole : (session : ℕ) (intervals : Intervals) (other_session : OtherSession) (before : List Turn) (patience : Patience) (cache : CacheState) (listens : Option SocketAddr) (steps : List Step) (new : Turns) (key : ℕ) (link : Connection) → IsRun (empty_cache session intervals other_session) before cache → TakesSteps steps (idle patience cache (nothing_told listens)) new → new.counts.wire.sockets < 2 ^ 64 - 1 → link_at new key ≡ Some link → CarriesWhole (empty_cache session intervals other_session) new key link
carries_whole session intervals other_session before patience cache listens steps new key link made taken below is =
    let first = empty_cache session intervals other_session in
    let c = (steps_carry first steps (idle patience cache (nothing_told listens)) new (at_first patience first before cache listens made) taken below).each key link is in
    record {
      before = c.before;
      start = c.start;
      history = c.history;
      made = c.made;
      fresh = c.fresh;
      run = c.run;
      up = c.up;
      hears = c.hears;
      takes = c.takes;
      whole = told_from_empty session intervals other_session c.before c.start new.cache key c.history c.made c.fresh c.run c.up;
    }
