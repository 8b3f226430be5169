-- What a connection carries while it is served: calls of the speaker and of the wire.
use Rattle.std.proofs.Common.{◌≡◌, ◌<◌, ℕ, Bool, true, false, List, [], ◌∷◌, ◌++◌, refl, sym, ap, subst, ◌∙◌, append_assoc, append-nil, take-append-drop, Option, Some, None, is_some, take, drop, zero, suc}
use Rattle.std.proofs.lemmas.Bool.{eq-eqb}
use Rattle.runs.specs.FirstRefusal.{may_bring_octets}
use Rattle.routing.specs.Linked.{Linked}
use Rattle.runs.specs.Runs.{Call}
use Rattle.runs.specs.SpeakerState.{SpeakerState}
use Rattle.routing.specs.Tables.{link_at}
use Rattle.wires.specs.Calls.{WireCall, Read, Write}
use Rattle.wires.specs.Carried.{given, given_by, taken, taken_by}
use Rattle.wires.specs.TurnOctets.{outgoing_octets}
use Rattle.wires.specs.Wires.{WireState, writing}
use Rattle.wires.specs.declared.wire.Received.{Received}
use Rattle.wires.specs.declared.wire.Received.TheVariants.{Octets as Came, Nothing as NoneCame, End as InputEnd, Fault as ReadFault}
use Rattle.wires.specs.declared.wire.Sent.{Sent}
use Rattle.wires.specs.declared.wire.Sent.TheVariants.{Octets as Went, Nothing as NoneWent, Fault as WriteFault}
use Rattle.wires.proofs.Sockets.{AreOfSocket, IsOfSocket, are_socket-on, chosen, given-on, taken-on}
use Rattle.speaker_turns.specs.Carrying.{StaysUp, handed, heard}
use Rattle.speaker_turns.specs.Ends.{end_at}
use Rattle.speaker_turns.specs.Serving.{Answers, AnswersAt, Connection, GoesOn, HandsOut, Reads, Serves, Sides, Takes, left_by}
use Rattle.speaker_turns.specs.Sessions.{Asks, Makes, bytes_call, is_there, queued_for, ring_of_slot, take_call, transport_of}
use Rattle.speaker_turns.specs.declared.end.End.{End}
use Rattle.speaker_turns.specs.declared.end.End.TheVariants.{Peer, Cache}
use Rattle.speaker_turns.specs.declared.patience.Moment.{Moment}
use Rattle.speaker_turns.specs.declared.place.Visit.{Visit}
use Rattle.speaker_turns.proofs.Asking.{AreOf, are-on, bytes_hand_nothing, bytes_leave, handed-on, hands_take, heard-on, hears_bytes, makes_none, makes_on, of_bytes, of_take, take_hears_nothing, take_leaves, up-on}

-- what calls for one connection make of the two sides: octets that wait before, and those that are left
pub record Carries (key number : ℕ) (waiting left : List ℕ) (old new : Sides) : Type 0 where
  pub asks : List Call
  pub calls : List WireCall
  pub makes : Makes asks old.speaker new.speaker
  pub told : new.wire.calls ≡ calls ++ old.wire.calls
  pub sockets : new.wire.sockets ≡ old.wire.sockets
  pub of_session : AreOf key asks
  pub of_socket : AreOfSocket number calls
  pub up : StaysUp key asks
  pub hears : heard key asks ≡ given number calls
  pub takes : waiting ++ handed key asks ≡ taken number calls ++ left

pub carries_on : (key number : ℕ) (waiting between left : List ℕ) (old mid new : Sides) → Carries key number waiting between old mid → Carries key number between left mid new → Carries key number waiting left old new
carries_on key number waiting between left old mid new first second =
    record {
      asks = second.asks ++ first.asks;
      calls = second.calls ++ first.calls;
      makes = makes_on first.asks second.asks old.speaker mid.speaker new.speaker first.makes second.makes;
      told = second.told ∙ ap (λ (l : List WireCall). second.calls ++ l) first.told ∙ sym (append_assoc second.calls first.calls old.wire.calls);
      sockets = second.sockets ∙ first.sockets;
      of_session = are-on key first.asks second.asks first.of_session second.of_session;
      of_socket = are_socket-on number first.calls second.calls first.of_socket second.of_socket;
      up = up-on key first.asks second.asks first.up second.up;
      hears = heard-on key first.asks second.asks ∙ (ap (λ (l : List ℕ). l ++ heard key second.asks) first.hears ∙ (ap (λ (l : List ℕ). given number first.calls ++ l) second.hears ∙ sym (given-on number first.calls second.calls)));
      takes =
          ap (λ (l : List ℕ). waiting ++ l) (handed-on key first.asks second.asks)
          ∙ (sym (append_assoc waiting (handed key first.asks) (handed key second.asks))
          ∙ (ap (λ (l : List ℕ). l ++ handed key second.asks) first.takes
          ∙ (append_assoc (taken number first.calls) between (handed key second.asks)
          ∙ (ap (λ (l : List ℕ). taken number first.calls ++ l) second.takes
          ∙ (sym (append_assoc (taken number first.calls) (taken number second.calls) left)
          ∙ ap (λ (l : List ℕ). l ++ left) (sym (taken-on number first.calls second.calls)))))));
    }

-- a call of the wire alone
wire_carries : (key number : ℕ) (waiting left : List ℕ) (old new : Sides) (call : WireCall) → new.speaker ≡ old.speaker → new.wire.calls ≡ call ∷ old.wire.calls → new.wire.sockets ≡ old.wire.sockets → IsOfSocket number call → given_by number call ≡ [] → waiting ≡ taken_by number call ++ left → Carries key number waiting left old new
wire_carries key number waiting left old new call same told sockets is gives takes =
    record {
      asks = [];
      calls = call ∷ [];
      makes = makes_none old.speaker new.speaker same;
      told = told;
      sockets = sockets;
      of_session = tt;
      of_socket = (is, tt);
      up = tt;
      hears = sym gives;
      takes = append-nil waiting ∙ takes;
    }

-- no call
pub nothing_carries : (key number : ℕ) (waiting left : List ℕ) (old new : Sides) → new ≡ old → left ≡ waiting → Carries key number waiting left old new
nothing_carries key number waiting left old new same stays =
    record {
      asks = [];
      calls = [];
      makes = makes_none old.speaker new.speaker (ap (λ (s : Sides). s.speaker) same);
      told = ap (λ (s : Sides). s.wire.calls) same;
      sockets = ap (λ (s : Sides). s.wire.sockets) same;
      of_session = tt;
      of_socket = tt;
      up = tt;
      hears = refl;
      takes = append-nil waiting ∙ sym stays;
    }

-- a session whose transport carries octets hears them
accepted : {call : Call} {test : Bool} {old new : SpeakerState} → test ≡ true → Asks call test old new → Makes (call ∷ []) old new
accepted {call} {test} {old} {new} is asks = subst (λ (b : Bool). Asks call b old new) is asks

reads_carries : (received : Received) (key number : ℕ) (waiting : List ℕ) (old new : Sides) → key < 65 → may_bring_octets (transport_of old.speaker (end_at key)) ≡ true → Reads (end_at key) number received old new → Carries key number waiting waiting old new
reads_carries (Came count) key number waiting old new few carries reads =
    record {
      asks = bytes_call (end_at key) (take count reads.buf) ∷ [];
      calls = Read number reads.buf (Came count) ∷ [];
      makes = accepted carries reads.hears;
      told = ap (λ (w : WireState). w.calls) reads.asks;
      sockets = ap (λ (w : WireState). w.sockets) reads.asks;
      of_session = (of_bytes key (take count reads.buf) few, tt);
      of_socket = (refl, tt);
      up = bytes_leave key (end_at key) (take count reads.buf);
      hears = hears_bytes key (take count reads.buf) few ∙ sym (chosen _ (take count reads.buf) [] (eq-eqb number number refl));
      takes = ap (λ (l : List ℕ). waiting ++ l) (bytes_hand_nothing key (end_at key) (take count reads.buf)) ∙ append-nil waiting;
    }
reads_carries NoneCame key number waiting old new few carries reads =
    wire_carries key number waiting waiting old new (Read number reads.buf NoneCame) reads.hears (ap (λ (w : WireState). w.calls) reads.asks) (ap (λ (w : WireState). w.sockets) reads.asks) refl refl refl
reads_carries InputEnd key number waiting old new few carries reads =
    wire_carries key number waiting waiting old new (Read number reads.buf InputEnd) reads.hears (ap (λ (w : WireState). w.calls) reads.asks) (ap (λ (w : WireState). w.sockets) reads.asks) refl refl refl
reads_carries ReadFault key number waiting old new few carries reads =
    wire_carries key number waiting waiting old new (Read number reads.buf ReadFault) reads.hears (ap (λ (w : WireState). w.calls) reads.asks) (ap (λ (w : WireState). w.sockets) reads.asks) refl refl refl

-- where there is no ring, none is handed out
absent_ring : (link : Option Linked) → is_some link ≡ false → ring_of_slot link ≡ []
absent_ring None is = refl
absent_ring (Some l) is = absurd cc

absent_queue : (end : End) (s : SpeakerState) → is_there s end ≡ false → queued_for s end ≡ []
absent_queue (Peer slot) s is = absent_ring (link_at s.links slot) is
absent_queue Cache s is = absurd cc

pub take_none : (count : ℕ) (octets : List ℕ) → octets ≡ [] → take count octets ≡ []
take_none zero octets none = refl
take_none (suc count) [] none = refl
take_none (suc count) (octet ∷ octets) none = absurd (let wrong : octet ∷ octets ≡ [] = none in cc)

hands_carry : (key number : ℕ) (octets : List ℕ) (wire : WireState) (old new : SpeakerState) → key < 65 → HandsOut (end_at key) old octets new → Carries key number [] octets (record { wire = wire; speaker = old }) (record { wire = wire; speaker = new })
hands_carry key number octets wire old new few hands = by_ring (is_there old (end_at key)) refl hands.asks
  where
    by_ring : (there : Bool) → is_there old (end_at key) ≡ there → Asks (take_call (end_at key) octets) there old new → Carries key number [] octets (record { wire = wire; speaker = old }) (record { wire = wire; speaker = new })
    by_ring true is makes =
        record {
          asks = take_call (end_at key) octets ∷ [];
          calls = [];
          makes = makes;
          told = refl;
          sockets = refl;
          of_session = (of_take key octets few, tt);
          of_socket = tt;
          up = take_leaves key (end_at key) octets;
          hears = take_hears_nothing key (end_at key) octets;
          takes = hands_take key octets few;
        }
    by_ring false is same =
        nothing_carries key number [] octets (record { wire = wire; speaker = old }) (record { wire = wire; speaker = new })
        (ap (λ (s : SpeakerState). record { wire = wire; speaker = s }) same)
        (hands.octets_are ∙ take_none outgoing_octets (queued_for old (end_at key)) (absent_queue (end_at key) old is))

takes_carries : (key number : ℕ) (waiting octets : List ℕ) (wire : WireState) (old new : SpeakerState) → key < 65 → Takes (end_at key) waiting old octets new → Carries key number waiting octets (record { wire = wire; speaker = old }) (record { wire = wire; speaker = new })
takes_carries key number [] octets wire old new few takes = hands_carry key number octets wire old new few (takes.none_wait refl)
takes_carries key number (octet ∷ waiting) octets wire old new few takes =
    let same = takes.some_wait (λ none. cc) in
    nothing_carries key number (octet ∷ waiting) octets (record { wire = wire; speaker = old }) (record { wire = wire; speaker = new }) (ap (λ (s : SpeakerState). record { wire = wire; speaker = s }) same.1) same.0

write_leaves : (sent : Sent) (number : ℕ) (octets : List ℕ) → octets ≡ taken_by number (Write number octets sent) ++ left_by sent octets
write_leaves (Went count) number octets =
    sym (ap (λ (l : List ℕ). l ++ drop count octets) (chosen _ (take count octets) [] (eq-eqb number number refl)) ∙ take-append-drop count octets)
write_leaves NoneWent number octets = refl
write_leaves WriteFault number octets = refl

write_sockets : (sent : Sent) (number : ℕ) (octets : List ℕ) (wire : WireState) → (writing number octets sent wire).sockets ≡ wire.sockets
write_sockets (Went count) number octets wire = refl
write_sockets NoneWent number octets wire = refl
write_sockets WriteFault number octets wire = refl

write_calls : (sent : Sent) (number : ℕ) (octets : List ℕ) (wire : WireState) → (writing number octets sent wire).calls ≡ Write number octets sent ∷ wire.calls
write_calls (Went count) number octets wire = refl
write_calls NoneWent number octets wire = refl
write_calls WriteFault number octets wire = refl

answers_carry : (key number : ℕ) (waiting : List ℕ) (old : Sides) (visit : Visit) (left : List ℕ) (new : Sides) → key < 65 → Answers (end_at key) number waiting old visit left new → Carries key number waiting left old new
answers_carry key number waiting old visit left new few answers =
    carries_on key number waiting answers.octets left old mid new
    (takes_carries key number waiting answers.octets old.wire old.speaker new.speaker few answers.takes)
    (by_octets answers.octets refl)
  where
    mid : Sides
    mid = record { wire = old.wire; speaker = new.speaker }

    by_octets : (octets : List ℕ) → answers.octets ≡ octets → Carries key number answers.octets left mid new
    by_octets [] is =
        let rests = answers.none is in
        nothing_carries key number answers.octets left mid new (ap (λ (w : WireState). record { wire = w; speaker = new.speaker }) rests.same) (rests.leaves ∙ sym is)
    by_octets (octet ∷ octets) is =
        let writes = answers.some (λ none. let wrong : octet ∷ octets ≡ [] = sym is ∙ none in cc) in
        wire_carries key number answers.octets left mid new (Write number answers.octets writes.sent) refl
        (ap (λ (w : WireState). w.calls) writes.asks ∙ write_calls writes.sent number answers.octets old.wire)
        (ap (λ (w : WireState). w.sockets) writes.asks ∙ write_sockets writes.sent number answers.octets old.wire)
        refl refl
        (write_leaves writes.sent number answers.octets ∙ ap (λ (l : List ℕ). taken_by number (Write number answers.octets writes.sent) ++ l) (sym writes.leaves))

-- a connection that is served keeps its socket
pub record Served (key : ℕ) (line : Connection) (waiting : List ℕ) (old : Sides) (after : Connection) (left : List ℕ) (new : Sides) : Type 0 where
  pub number : after.number ≡ line.number
  pub is_up : after.is_up ≡ line.is_up
  pub carries : Carries key line.number waiting left old new

pub serves_carries : (key : ℕ) (now : Moment) (line : Connection) (waiting : List ℕ) (old : Sides) (visit : Visit) (after : Connection) (left : List ℕ) (new : Sides) → key < 65 → may_bring_octets (transport_of old.speaker (end_at key)) ≡ true → Serves (end_at key) now line waiting old visit after left new → Served key line waiting old after left new
serves_carries key now line waiting old visit after left new few carries serves = by_read serves.received serves.reads serves.goes_on
  where
    answered : (received : Received) → Reads (end_at key) line.number received old serves.between → AnswersAt (end_at key) now line waiting serves.between visit after left new → Served key line waiting old after left new
    answered received reads at =
        record {
          number = ap (λ (l : Connection). l.number) at.line_is;
          is_up = ap (λ (l : Connection). l.is_up) at.line_is;
          carries =
              carries_on key line.number waiting waiting left old serves.between new
              (reads_carries received key line.number waiting old serves.between few carries reads)
              (answers_carry key line.number waiting serves.between at.found left new few at.answers);
        }

    over : (received : Received) → Reads (end_at key) line.number received old serves.between → after ≡ line → left ≡ waiting → new ≡ serves.between → Served key line waiting old after left new
    over received reads same_line same_left same =
        record {
          number = ap (λ (l : Connection). l.number) same_line;
          is_up = ap (λ (l : Connection). l.is_up) same_line;
          carries =
              carries_on key line.number waiting waiting left old serves.between new
              (reads_carries received key line.number waiting old serves.between few carries reads)
              (nothing_carries key line.number waiting left serves.between new same same_left);
        }

    by_read : (received : Received) → Reads (end_at key) line.number received old serves.between → GoesOn received (end_at key) now line waiting serves.between visit after left new → Served key line waiting old after left new
    by_read (Came count) reads at = answered (Came count) reads at
    by_read NoneCame reads at = answered NoneCame reads at
    by_read InputEnd reads found = over InputEnd reads found.1 found.2 found.3
    by_read ReadFault reads found = over ReadFault reads found.1 found.2 found.3
