-- What a socket carries over all turns, beside what its session heard and what the speaker handed out for it.
use Rattle.std.specs.Prelude.{◌≡◌, ◌≢◌, ◌==◌, ◌++◌, ℕ, if◌then◌else◌, List, [], ◌∷◌, None}
use Rattle.runs.specs.Agreement.{Agrees}
use Rattle.runs.specs.Runs.{Call, Run, Up_call, Fail_call, Bytes_call, Starved_call, Tick_call, Command_call, Take_call, Cache_up_call, Cache_fail_call, Cache_bytes_call, Cache_starved_call, Cache_take_call}
use Rattle.runs.specs.declared.config.Config.{Config}
use Rattle.wires.specs.Carried.{given, taken}
use Rattle.speaker_turns.specs.Ends.{end_at}
use Rattle.speaker_turns.specs.Serving.{Connection}
use Rattle.speaker_turns.specs.Sessions.{asked_in, up_call}
use Rattle.speaker_turns.specs.Turns.{Turns, place_at}

-- the octets that the session of a place hears by a call, and by all of them, the newest first
abbrev pub heard_by : ℕ → Call → List ℕ
heard_by key (Bytes_call slot octets) = if slot == key then octets else []
heard_by key (Cache_bytes_call octets) = if 64 == key then octets else []
heard_by key call = []

abbrev pub heard : ℕ → List Call → List ℕ
heard key [] = []
heard key (call ∷ earlier) = heard key earlier ++ heard_by key call

-- the octets that the speaker hands out for it
abbrev pub handed_by : ℕ → Call → List ℕ
handed_by key (Take_call slot octets) = if slot == key then octets else []
handed_by key (Cache_take_call octets) = if 64 == key then octets else []
handed_by key call = []

abbrev pub handed : ℕ → List Call → List ℕ
handed key [] = []
handed key (call ∷ earlier) = handed key earlier ++ handed_by key call

-- the call isn't one by which a connection of the session of a place comes or goes
abbrev pub Leaves : ℕ → Call → Type 0
Leaves key (Up_call slot) = slot ≢ key
Leaves key (Fail_call slot) = slot ≢ key
Leaves key Cache_up_call = 64 ≢ key
Leaves key Cache_fail_call = 64 ≢ key
Leaves key (Bytes_call slot octets) = Unit {0}
Leaves key (Starved_call slot before octet behind) = Unit {0}
Leaves key (Tick_call now) = Unit {0}
Leaves key (Command_call command) = Unit {0}
Leaves key (Take_call slot octets) = Unit {0}
Leaves key (Cache_bytes_call octets) = Unit {0}
Leaves key (Cache_starved_call before octet behind) = Unit {0}
Leaves key (Cache_take_call octets) = Unit {0}

abbrev pub StaysUp : ℕ → List Call → Type 0
StaysUp key [] = Unit {0}
StaysUp key (call ∷ earlier) = Leaves key call × StaysUp key earlier

-- the newest of these calls is the one by which the connection of the session of a place has come
abbrev pub ComesLast : ℕ → List Call → Type 0
ComesLast key [] = ⊥
ComesLast key (call ∷ earlier) = call ≡ up_call (end_at key)

-- nothing stands at any place, and the wire was asked nothing
pub record IsFresh (turns : Turns) : Type 0 where
  pub free : (key : ℕ) → (place_at turns key).line ≡ None
  pub untold : turns.counts.wire.calls ≡ []

-- The connection of the session of a place, over all calls that turns made behind a run with which the speaker agreed at their
-- beginning, since the connection came: the session has heard just what its own socket gave; and what its socket took, with what
-- waits for it, is just what the speaker handed out for it, in order.
pub record CarriesOwn (config : Config) (r : Run) (turns : Turns) (key : ℕ) (line : Connection) : Type 0 where
  pub before : Run
  pub since : Run
  pub agrees : Agrees config (since ++ (before ++ r)) turns.speaker
  pub came : ComesLast key (asked_in before)
  pub up : StaysUp key (asked_in since)
  pub hears : heard key (asked_in since) ≡ given line.number turns.counts.wire.calls
  pub takes : handed key (asked_in since) ≡ taken line.number turns.counts.wire.calls ++ (place_at turns key).waiting
