-- What a visit carries over a connection: its calls of the cache and of the wire.
use Rattle.std.proofs.Common.{◌≡◌, ◌≢◌, ℕ, List, [], ◌∷◌, ◌++◌, refl, sym, ap, subst, ◌∙◌, append_assoc, append-nil, take-append-drop, Result, Ok, Err, take, drop}
use Rattle.std.proofs.lemmas.Bool.{eq-eqb}
use Rattle.rtr_cache.specs.CacheState.{CacheState}
use Rattle.rtr_cache.specs.ClientHistory.{Heard, IsRun, StaysUp, Took, Turn, handed_by, handed_out, turn_of}
use Rattle.rtr_cache.specs.declared.refusal.CacheRefusal.{CacheRefusal}
use Rattle.cache_turns.specs.Carrying.{heard}
use Rattle.cache_turns.specs.Serving.{Answers, Connection, GoesOn, Reads, Serves, Sides, Takes, left_by, taken_by as taken_of}
use Rattle.cache_turns.specs.declared.link.Visit.{Visit}
use Rattle.cache_turns.specs.declared.link.Visit.TheVariants.{Stays, Faulty, Ended}
use Rattle.cache_turns.proofs.Effects.{AreOf, are-on, handed-on, heard-on, up-on}
use Rattle.wires.specs.Calls.{WireCall, Read, Write}
use Rattle.wires.specs.Carried.{given, given_by, taken, taken_by}
use Rattle.wires.specs.Wires.{WireState, writing}
use Rattle.wires.specs.declared.wire.Received.{Received}
use Rattle.wires.specs.declared.wire.Received.TheVariants.{Octets as Came, Nothing as NoneCame, End, Fault as ReadFault}
use Rattle.wires.specs.declared.wire.Sent.{Sent}
use Rattle.wires.specs.declared.wire.Sent.TheVariants.{Octets as Went, Nothing as NoneWent, Fault as WriteFault}
use Rattle.wires.proofs.Sockets.{AreOfSocket, IsOfSocket, are_socket-on, chosen, given-on, taken-on}

-- a run goes on by another
pub run_on : (start mid end : CacheState) (before after : List Turn) → IsRun start before mid → IsRun mid after end → IsRun start (after ++ before) end
run_on start mid end before [] run same = subst (λ (c : CacheState). IsRun start before c) (sym same) run
run_on start mid end before (turn ∷ earlier) run more = (run_on start mid turn.found before earlier run more.0, more.1)

-- what calls for one connection make of the two sides: octets that wait before, and those that are left
pub record Carries (key number : ℕ) (waiting left : List ℕ) (old new : Sides) : Type 0 where
  pub history : List Turn
  pub calls : List WireCall
  pub run : IsRun old.cache history new.cache
  pub asks : new.wire.calls ≡ calls ++ old.wire.calls
  pub sockets : new.wire.sockets ≡ old.wire.sockets
  pub of_client : AreOf key history
  pub of_socket : AreOfSocket number calls
  pub up : StaysUp key history
  pub hears : heard key history ≡ given number calls
  pub takes : waiting ++ handed_out key history ≡ taken number calls ++ left

carries_on : (key number : ℕ) (waiting between left : List ℕ) (old mid new : Sides) → Carries key number waiting between old mid → Carries key number between left mid new → Carries key number waiting left old new
carries_on key number waiting between left old mid new first second =
    record {
      history = second.history ++ first.history;
      calls = second.calls ++ first.calls;
      run = run_on old.cache mid.cache new.cache first.history second.history first.run second.run;
      asks = second.asks ∙ ap (λ (l : List WireCall). second.calls ++ l) first.asks ∙ sym (append_assoc second.calls first.calls old.wire.calls);
      sockets = second.sockets ∙ first.sockets;
      of_client = are-on key first.history second.history first.of_client second.of_client;
      of_socket = are_socket-on number first.calls second.calls first.of_socket second.of_socket;
      up = up-on key first.history second.history first.up second.up;
      hears = heard-on key first.history second.history ∙ (ap (λ (l : List ℕ). l ++ heard key second.history) first.hears ∙ (ap (λ (l : List ℕ). given number first.calls ++ l) second.hears ∙ sym (given-on number first.calls second.calls)));
      takes =
          ap (λ (l : List ℕ). waiting ++ l) (handed-on key first.history second.history)
          ∙ (sym (append_assoc waiting (handed_out key first.history) (handed_out key second.history))
          ∙ (ap (λ (l : List ℕ). l ++ handed_out key second.history) first.takes
          ∙ (append_assoc (taken number first.calls) between (handed_out key second.history)
          ∙ (ap (λ (l : List ℕ). taken number first.calls ++ l) second.takes
          ∙ (sym (append_assoc (taken number first.calls) (taken number second.calls) left)
          ∙ ap (λ (l : List ℕ). l ++ left) (sym (taken-on number first.calls second.calls)))))));
    }

-- a call of the wire alone
wire_carries : (key number : ℕ) (waiting left : List ℕ) (old new : Sides) (call : WireCall) → new.cache ≡ old.cache → new.wire.calls ≡ call ∷ old.wire.calls → new.wire.sockets ≡ old.wire.sockets → IsOfSocket number call → given_by number call ≡ [] → waiting ≡ taken_by number call ++ left → Carries key number waiting left old new
wire_carries key number waiting left old new call same asks sockets is gives takes =
    record {
      history = [];
      calls = call ∷ [];
      run = same;
      asks = asks;
      sockets = sockets;
      of_client = tt;
      of_socket = (is, tt);
      up = tt;
      hears = sym gives;
      takes = append-nil waiting ∙ takes;
    }

-- no call
nothing_carries : (key number : ℕ) (waiting left : List ℕ) (old new : Sides) → new ≡ old → left ≡ waiting → Carries key number waiting left old new
nothing_carries key number waiting left old new same stays =
    record {
      history = [];
      calls = [];
      run = ap (λ (s : Sides). s.cache) same;
      asks = ap (λ (s : Sides). s.wire.calls) same;
      sockets = ap (λ (s : Sides). s.wire.sockets) same;
      of_client = tt;
      of_socket = tt;
      up = tt;
      hears = refl;
      takes = append-nil waiting ∙ sym stays;
    }

reads_carries : (received : Received) (key number : ℕ) (waiting : List ℕ) (old new : Sides) → Reads key number received old new → Carries key number waiting waiting old new
reads_carries (Came count) key number waiting old new reads =
    record {
      history = turn_of old.cache (Heard key (take count reads.buf) reads.hears.0) ∷ [];
      calls = Read number reads.buf (Came count) ∷ [];
      run = (refl, reads.hears.1);
      asks = ap (λ (w : WireState). w.calls) reads.asks;
      sockets = ap (λ (w : WireState). w.sockets) reads.asks;
      of_client = (refl, tt);
      of_socket = (refl, tt);
      up = (tt, tt);
      hears = chosen _ (take count reads.buf) [] (eq-eqb key key refl) ∙ sym (chosen _ (take count reads.buf) [] (eq-eqb number number refl));
      takes = append-nil waiting;
    }
reads_carries NoneCame key number waiting old new reads =
    wire_carries key number waiting waiting old new (Read number reads.buf NoneCame) reads.hears (ap (λ (w : WireState). w.calls) reads.asks) (ap (λ (w : WireState). w.sockets) reads.asks) refl refl refl
reads_carries End key number waiting old new reads =
    wire_carries key number waiting waiting old new (Read number reads.buf End) reads.hears (ap (λ (w : WireState). w.calls) reads.asks) (ap (λ (w : WireState). w.sockets) reads.asks) refl refl refl
reads_carries ReadFault key number waiting old new reads =
    wire_carries key number waiting waiting old new (Read number reads.buf ReadFault) reads.hears (ap (λ (w : WireState). w.calls) reads.asks) (ap (λ (w : WireState). w.sockets) reads.asks) refl refl refl

taken_handed : (key : ℕ) (buf handed : List ℕ) (result : Result ℕ CacheRefusal) → taken_of result handed ≡ handed_by key (Took key buf result handed)
taken_handed key buf handed (Ok count) = sym (chosen _ (take count handed) [] (eq-eqb key key refl))
taken_handed key buf handed (Err why) = refl

takes_carries : (key number : ℕ) (waiting octets : List ℕ) (wire : WireState) (old new : CacheState) → Takes key waiting old octets new → Carries key number waiting octets (record { wire = wire; cache = old }) (record { wire = wire; cache = new })
takes_carries key number [] octets wire old new takes =
    let hands = takes.none_wait refl in
    record {
      history = turn_of old (Took key hands.buf hands.result hands.handed) ∷ [];
      calls = [];
      run = (refl, hands.makes);
      asks = refl;
      sockets = refl;
      of_client = (refl, tt);
      of_socket = tt;
      up = (tt, tt);
      hears = refl;
      takes = sym (hands.octets_are ∙ taken_handed key hands.buf hands.handed hands.result);
    }
takes_carries key number (octet ∷ waiting) octets wire old new takes =
    let same = takes.some_wait (λ none. cc) in
    nothing_carries key number (octet ∷ waiting) octets (record { wire = wire; cache = old }) (record { wire = wire; cache = new }) (ap (λ (c : CacheState). record { wire = wire; cache = c }) same.1) same.0

write_leaves : (sent : Sent) (number : ℕ) (octets : List ℕ) → octets ≡ taken_by number (Write number octets sent) ++ left_by sent octets
write_leaves (Went count) number octets =
    sym (ap (λ (l : List ℕ). l ++ drop count octets) (chosen _ (take count octets) [] (eq-eqb number number refl)) ∙ take-append-drop count octets)
write_leaves NoneWent number octets = refl
write_leaves WriteFault number octets = refl

write_arrives : (sent : Sent) (number : ℕ) (octets : List ℕ) (wire : WireState) → (writing number octets sent wire).sockets ≡ wire.sockets
write_arrives (Went count) number octets wire = refl
write_arrives NoneWent number octets wire = refl
write_arrives WriteFault number octets wire = refl

write_calls : (sent : Sent) (number : ℕ) (octets : List ℕ) (wire : WireState) → (writing number octets sent wire).calls ≡ Write number octets sent ∷ wire.calls
write_calls (Went count) number octets wire = refl
write_calls NoneWent number octets wire = refl
write_calls WriteFault number octets wire = refl

answers_carry : (resting : Visit) (key : ℕ) (link : Connection) (old : Sides) (visit : Visit) (left : List ℕ) (new : Sides) → Answers resting key link old visit left new → Carries key link.number link.waiting left old new
answers_carry resting key link old visit left new answers =
    carries_on key link.number link.waiting answers.octets left old mid new
    (takes_carries key link.number link.waiting answers.octets old.wire old.cache new.cache answers.takes)
    (by_octets answers.octets refl)
  where
    mid : Sides
    mid = record { wire = old.wire; cache = new.cache }

    by_octets : (octets : List ℕ) → answers.octets ≡ octets → Carries key link.number answers.octets left mid new
    by_octets [] is =
        let rests = answers.none is in
        nothing_carries key link.number answers.octets left mid new (ap (λ (w : WireState). record { wire = w; cache = new.cache }) rests.same) (rests.leaves ∙ sym is)
    by_octets (octet ∷ octets) is =
        let writes = answers.some (λ none. let wrong : octet ∷ octets ≡ [] = sym is ∙ none in cc) in
        wire_carries key link.number answers.octets left mid new (Write link.number answers.octets writes.sent) refl
        (ap (λ (w : WireState). w.calls) writes.asks ∙ write_calls writes.sent link.number answers.octets old.wire)
        (ap (λ (w : WireState). w.sockets) writes.asks ∙ write_arrives writes.sent link.number answers.octets old.wire)
        refl refl
        (write_leaves writes.sent link.number answers.octets ∙ ap (λ (l : List ℕ). taken_by link.number (Write link.number answers.octets writes.sent) ++ l) (sym writes.leaves))

-- a visit, and where the connection stays what is left waiting
pub record Visited (key : ℕ) (link : Connection) (old : Sides) (visit : Visit) (left : List ℕ) (new : Sides) : Type 0 where
  pub waits : List ℕ
  pub stays : visit ≡ Stays → waits ≡ left
  pub carries : Carries key link.number link.waiting waits old new

pub serves_carries : (key : ℕ) (link : Connection) (old : Sides) (visit : Visit) (left : List ℕ) (new : Sides) → Serves key link old visit left new → Visited key link old visit left new
serves_carries key link old visit left new serves = by_read serves.received serves.reads serves.goes_on
  where
    answered : (received : Received) (resting : Visit) → Reads key link.number received old serves.behind → Answers resting key link serves.behind visit left new → Visited key link old visit left new
    answered received resting reads answers =
        record {
          waits = left;
          stays = λ _. refl;
          carries = carries_on key link.number link.waiting link.waiting left old serves.behind new (reads_carries received key link.number link.waiting old serves.behind reads) (answers_carry resting key link serves.behind visit left new answers);
        }

    over : (received : Received) (found : Visit) → Reads key link.number received old serves.behind → found ≢ Stays → visit ≡ found → new ≡ serves.behind → Visited key link old visit left new
    over received found reads differs is same =
        record {
          waits = link.waiting;
          stays = λ stays. absurd (differs (sym is ∙ stays));
          carries = carries_on key link.number link.waiting link.waiting link.waiting old serves.behind new (reads_carries received key link.number link.waiting old serves.behind reads) (nothing_carries key link.number link.waiting link.waiting serves.behind new same refl);
        }

    by_read : (received : Received) → Reads key link.number received old serves.behind → GoesOn received key link serves.behind visit left new → Visited key link old visit left new
    by_read (Came count) reads answers = answered (Came count) Stays reads answers
    by_read NoneCame reads answers = answered NoneCame Stays reads answers
    by_read End reads answers = answered End Ended reads answers
    by_read ReadFault reads found = over ReadFault Faulty reads (λ wrong. cc) found.0 found.1
