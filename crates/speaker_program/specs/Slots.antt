-- The slots of a speaker that settings name.
use Rattle.std.specs.Prelude.{◌≡◌, ◌≢◌, ◌<◌, ℕ, Bool, List, is_some}
use Rattle.std.specs.declared.net.socket_addr.SocketAddr.{SocketAddr as Address}
use Rattle.runs.specs.SpeakerState.{SpeakerState, tables_of}
use Rattle.routing.specs.Tables.{configured_session}
use Rattle.speaker_settings.specs.PeerSlots.{has_slot}

-- the speaker has a peer in the slot
abbrev pub is_configured : SpeakerState → ℕ → Bool
is_configured s slot = is_some (configured_session (tables_of s) slot)

-- the speaker's slots are just those of the peers
abbrev pub HasJust : List (ℕ × Address) → SpeakerState → Type 0
HasJust peers s = (slot : ℕ) → slot < 64 → is_configured s slot ≡ has_slot peers slot

-- the slot is one of the speaker's and none of the peers', or the other way round
abbrev pub IsOtherSlot : List (ℕ × Address) → SpeakerState → ℕ → Type 0
IsOtherSlot peers s slot = (slot < 64) × (is_configured s slot ≢ has_slot peers slot)
