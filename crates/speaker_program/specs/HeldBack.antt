-- Peers that wait for the payloads of a cache, before the first turn (own).
use Rattle.std.specs.Prelude.{◌≡◌, ◌&&◌, ◌++◌, ℕ, zero, suc, Bool, true, false, List, [], ◌∷◌, Option, None, Some, Result, is_some}
use Rattle.std.specs.Option.{option_map}
use Rattle.bgp_conf.specs.declared.command.Command.TheVariants.{Disable}
use Rattle.bgp_conf.specs.declared.refusal.Refusal.{Refusal}
use Rattle.bgp_fsm.specs.declared.state.State.{State}
use Rattle.bgp_fsm.specs.declared.state.State.TheVariants.{Idle, Connect, Active, OpenSent, OpenConfirm, Established}
use Rattle.routing.specs.Tables.{configured_session}
use Rattle.runs.specs.SpeakerState.{SpeakerState, tables_of}
use Rattle.runs.specs.declared.event.Report.{Report}
use Rattle.speaker_turns.specs.Obeying.{Obeys}
use Rattle.speaker_turns.specs.Turns.{Turns}
use Rattle.speaker_settings.specs.declared.settings.SpeakerSettings.{SpeakerSettings}

-- peers of these settings wait
abbrev pub waits : SpeakerSettings → Bool
waits settings = is_some settings.wait_for_cache && is_some settings.cache

-- the moment until which they do at most
abbrev pub wait_until : Option ℕ → ℕ
wait_until None = 0
wait_until (Some seconds) = seconds

-- a session has left Idle
abbrev pub has_left : Option State → Bool
has_left None = false
has_left (Some Idle) = false
has_left (Some Connect) = true
has_left (Some Active) = true
has_left (Some OpenSent) = true
has_left (Some OpenConfirm) = true
has_left (Some Established) = true

-- that of a slot has
abbrev pub is_started : SpeakerState → ℕ → Bool
is_started s slot = has_left (option_map (λ session. session.state) (configured_session (tables_of s) slot))

-- the peer of a slot is disabled, and noted, where its session has
abbrev pub HoldsBack : Bool → ℕ → List ℕ → List ℕ → Turns → Turns → Type 0
HoldsBack false slot before slots old new = (slots ≡ before) × (new ≡ old)
HoldsBack true slot before slots old new = (slots ≡ before ++ slot ∷ []) × ((result : Result Report Refusal) × Obeys (Disable slot) old result new)

-- the peers of the slots below this one are, in rising order
abbrev pub HeldBelow : ℕ → List ℕ → Turns → Turns → Type 0
HeldBelow zero slots old new = (slots ≡ []) × (new ≡ old)
HeldBelow (suc slot) slots old new =
    (before : List ℕ) × (mid : Turns) × HeldBelow slot before old mid × HoldsBack (is_started mid.speaker slot) slot before slots mid new

-- those of all slots are, if they are to wait
abbrev pub AreHeldBack : Bool → List ℕ → Turns → Turns → Type 0
AreHeldBack false slots old new = (slots ≡ []) × (new ≡ old)
AreHeldBack true slots old new = HeldBelow 64 slots old new
