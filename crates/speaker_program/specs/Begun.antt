-- What settings make of a loop, and turns of that.
use Rattle.std.specs.Prelude.{◌≡◌, ◌||◌, ℕ, Bool, true, false, List, [], ◌∷◌, Option, None, Some, Ok, String, is_some, string_bytes}
use Rattle.std.specs.declared.alloc.Global.{Global}
use Rattle.std.specs.declared.net.socket_addr.SocketAddr.{SocketAddr as Address}
use Rattle.runs.specs.SpeakerState.{SpeakerState}
use Rattle.speaker_turns.specs.Turns.{Turns, idle, with_patience, with_remote}
use Rattle.speaker_turns.specs.declared.end.End.TheVariants.{Peer, Cache}
use Rattle.speaker_turns.specs.declared.patience.Patience.{Patience}
use Rattle.wires.specs.Wires.{WireState}
use Rattle.speaker_program.specs.Commanded.{IsSpeakerOf, TakesSoMany}
use Rattle.speaker_program.specs.declared.fault.SpeakerFault.{SpeakerFault}
use Rattle.speaker_program.specs.HeldBack.{AreHeldBack, wait_until, waits}
use Rattle.control_lines.specs.Perhaps.{Becomes, line_of, wish_of}
use Rattle.control_lines.specs.declared.talk.Wish.{Wish}
use Rattle.control_sockets.specs.Places.{HearsAt, Turns as VisitsAll, line_at, wish_at}
use Rattle.control_sockets.specs.declared.control_socket.ControlSocket.{ControlSocket}
use Rattle.speaker_desk.specs.Attended.{AttendsTurns, Hall}
use Rattle.speaker_desk.specs.Restarts.{none_again}
use Rattle.speaker_desk.specs.Standing.{DeskState}
use Rattle.speaker_desk.specs.declared.attending.AttendFault.{AttendFault}
use Rattle.speaker_settings.specs.declared.settings.SpeakerSettings.{SpeakerSettings}

-- it is told where each of these peers is
abbrev pub with_peers : List (ℕ × Address) → Turns → Turns
with_peers [] turns = turns
with_peers (peer ∷ peers) turns = with_peers peers (with_remote (Peer peer.0) peer.1 turns)

-- and where the cache is, if there is one
abbrev pub with_cache : Option Address → Turns → Turns
with_cache None turns = turns
with_cache (Some remote) turns = with_remote Cache remote turns

abbrev pub with_remotes : List (ℕ × Address) → Option Address → Turns → Turns
with_remotes peers cache turns = with_cache cache (with_peers peers turns)

-- how patient a loop of the settings is
abbrev pub patience_of : SpeakerSettings → Patience
patience_of settings = record { send_hold = Some settings.send_hold; open_wait = settings.open_wait }

-- the state of a wire that is given
abbrev pub StateFrom : {W : Type 0} → (W → Type 0) → (W → WireState) → WireState → Type 0
StateFrom {W} gives state_of state = (wire : W) × gives wire × (state ≡ state_of wire)

-- a loop before its first turn: its speaker is one of the settings, by such texts at their paths, it is as patient as they tell, and
-- over such a wire it knows where each peer of the settings is, and their cache
pub record IsBegun (Told : List ℕ → Option (List ℕ) → Type 0) (Opened : WireState → Type 0) (settings : SpeakerSettings) (turns : Turns) : Type 0 where
  pub speaker : SpeakerState
  pub wire : WireState
  pub is : IsSpeakerOf Told settings speaker
  pub opened : Opened wire
  pub remotes : turns ≡ with_remotes settings.peers.items settings.cache (with_patience (patience_of settings) (idle speaker wire))

-- commands may come between turns: the settings have a path for operators, or peers wait for the payloads of a cache
abbrev pub has_commands : SpeakerSettings → Bool
has_commands settings = is_some settings.control || waits settings

-- the operators of the settings: those that their path gives, if they have one
abbrev pub AreOperatorsOf : {P : Type 0} → (List ℕ → P → Type 0) → Option (String Global) → Option P → Type 0
AreOperatorsOf Gives None operators = operators ≡ None
AreOperatorsOf {P} Gives (Some path) operators = (there : P) × Gives (string_bytes path) there × (operators ≡ Some there)

-- a desk before the first turn, at which these peers wait
abbrev pub desk_of : SpeakerSettings → List ℕ → DeskState
desk_of settings slots =
    record { remotes = settings.peers.items; waiting = record { slots = slots; until = wait_until settings.wait_for_cache; is_open = false }; again = none_again; stopped = None }

module _ {P : Type 0} (wish : P → ℕ → Wish) (line : P → ℕ → List ℕ) (goes : ℕ → P → P → Type 0) (hears : ℕ → List ℕ → Bool → P → P → Type 0) (Gives : List ℕ → P → Type 0) where
  -- so many turns or fewer with the operators of the settings between them, before which peers are disabled that are to wait, where they
  -- are, and no others
  pub record AttendsOperators (settings : SpeakerSettings) (count : ℕ) (before behind : List ℕ) (old new : Turns) : Type 0 where
    pub slots : List ℕ
    pub held : Turns
    pub holds : AreHeldBack (waits settings) slots old held
    pub operators : Option P
    pub given : AreOperatorsOf Gives settings.control operators
    pub left : Hall (Option P)
    pub takes : AttendsTurns (wish_of wish) (line_of line) (λ now. Becomes (goes now)) (λ key octets goes_on. Becomes (hears key octets goes_on)) {E = AttendFault} count (Ok tt) before behind
        (record { stand = record { served = held; desk = desk_of settings slots }; operators = operators }) left
    pub leaves : new ≡ left.stand.served

-- operators at a Unix socket that was opened at the path
abbrev pub AttendsSocket : SpeakerSettings → ℕ → List ℕ → List ℕ → Turns → Turns → Type 0
AttendsSocket = AttendsOperators {P = ControlSocket} (λ socket. wish_at socket.places.items) (λ socket. line_at socket.places.items) (λ now old new. VisitsAll now old.places.items new.places.items)
    (λ key octets goes_on old new. HearsAt key octets goes_on old.places.items new.places.items) (λ path socket. string_bytes socket.path ≡ path)

-- so many turns, each at the moment that the clock told for it, or those where commands may come between them
abbrev pub TakesTurnsOf : (SpeakerSettings → ℕ → List ℕ → List ℕ → Turns → Turns → Type 0) → Bool → SpeakerSettings → ℕ → List ℕ → List ℕ → Turns → Turns → Type 0
TakesTurnsOf Attends false settings count before behind old new = TakesSoMany {E = SpeakerFault} count (Ok tt) before behind old new
TakesTurnsOf Attends true settings count before behind old new = Attends settings count before behind old new

-- what is seen on the wire is kept: for a log, or for scrapers
abbrev pub is_watched : SpeakerSettings → Bool
is_watched settings = settings.log || is_some settings.metrics

-- from there turns were taken
pub record IsServed (Told : List ℕ → Option (List ℕ) → Type 0) (Opened : WireState → Type 0) (Attends : SpeakerSettings → ℕ → List ℕ → List ℕ → Turns → Turns → Type 0) (settings : SpeakerSettings) (count : ℕ) (before behind : List ℕ) (turns : Turns) : Type 0 where
  pub begun : Turns
  pub begins : IsBegun Told Opened settings begun
  pub takes : TakesTurnsOf Attends (has_commands settings) settings count before behind begun turns
