-- What turns ask of a speaker for one of its sessions, and what the speaker makes of it.
use Rattle.std.specs.Prelude.{◌≡◌, ◌++◌, ℕ, List, [], ◌∷◌, Bool, true, false, is_some, Option, Some, None}
use Rattle.std.specs.Option.{option_map}
use Rattle.bgp_fsm.specs.StateTests.{awaits_open}
use Rattle.bgp_fsm.specs.declared.state.State.{State}
use Rattle.net_prefix.specs.declared.transport.Transport.{Transport}
use Rattle.rtr_session.specs.SessionState.{Session as CacheSession}
use Rattle.runs.specs.Agreement.{Agrees}
use Rattle.runs.specs.FirstRefusal.{cache_transport_of}
use Rattle.routing.specs.Linked.{Linked}
use Rattle.runs.specs.Runs.{Call, Run, Turn, asked, report_of, Up_call, Fail_call, Bytes_call, Tick_call, Take_call, Cache_up_call, Cache_fail_call, Cache_bytes_call, Cache_take_call}
use Rattle.speaker.specs.Shown.{transport_at, transport_or_none}
use Rattle.runs.specs.SpeakerState.{SpeakerState, tables_of}
use Rattle.routing.specs.Tables.{configured_session, link_at, session_at}
use Rattle.runs.specs.declared.config.Config.{Config}
use Rattle.runs.specs.declared.event.Report.{Report}
use Rattle.runs.specs.declared.event.TheConstants.Report.{NOTHING}
use Rattle.speaker_turns.specs.declared.end.End.{End}
use Rattle.speaker_turns.specs.declared.end.End.TheVariants.{Peer, Cache}

-- what stands between a session and its connection
abbrev pub transport_of : SpeakerState → End → Transport
transport_of s (Peer slot) = transport_at (session_at s.links slot)
transport_of s Cache = transport_or_none (cache_transport_of s)

-- the same, where the session's peer is configured
abbrev pub wanted_transport_of : SpeakerState → End → Transport
wanted_transport_of s (Peer slot) = transport_at (configured_session (tables_of s) slot)
wanted_transport_of s Cache = transport_or_none (cache_transport_of s)

-- whether a session is in OpenSent
abbrev pub is_in_open_sent : Option State → Bool
is_in_open_sent None = false
is_in_open_sent (Some state) = awaits_open state

-- whether the session of a configured peer awaits that peer's OPEN; that with the cache never does
abbrev pub is_unopened : SpeakerState → End → Bool
is_unopened s (Peer slot) = is_in_open_sent (option_map (λ session. session.state) (configured_session (tables_of s) slot))
is_unopened s Cache = false

-- what a session has queued and not yet handed out
abbrev pub ring_of_slot : Option Linked → List ℕ
ring_of_slot None = []
ring_of_slot (Some l) = l.peer.ring

abbrev pub ring_of_cache : Option CacheSession → List ℕ
ring_of_cache None = []
ring_of_cache (Some session) = session.ring

abbrev pub queued_for : SpeakerState → End → List ℕ
queued_for s (Peer slot) = ring_of_slot (link_at s.links slot)
queued_for s Cache = ring_of_cache s.cache

-- whether there is a ring
abbrev pub is_there : SpeakerState → End → Bool
is_there s (Peer slot) = is_some (link_at s.links slot)
is_there s Cache = true

-- the calls for a session
abbrev pub up_call : End → Call
up_call (Peer slot) = Up_call slot
up_call Cache = Cache_up_call

abbrev pub fail_call : End → Call
fail_call (Peer slot) = Fail_call slot
fail_call Cache = Cache_fail_call

abbrev pub bytes_call : End → List ℕ → Call
bytes_call (Peer slot) octets = Bytes_call slot octets
bytes_call Cache octets = Cache_bytes_call octets

abbrev pub take_call : End → List ℕ → Call
take_call (Peer slot) octets = Take_call slot octets
take_call Cache octets = Cache_take_call octets

-- the calls of a run as they were asked for, the newest first
abbrev pub asked_in : Run → List Call
asked_in [] = []
asked_in (now ∷ r) = asked now.call ∷ asked_in r

-- these calls were made, the newest first: for every run that the speaker agreed with, it agrees with that run followed by them
abbrev pub Makes : List Call → SpeakerState → SpeakerState → Type 0
Makes calls old new =
    (config : Config) (r : Run) → Agrees config r old → (more : Run) × (asked_in more ≡ calls) × Agrees config (more ++ r) new

-- one call, which is made, or is refused and changes nothing
abbrev pub Asks : Call → Bool → SpeakerState → SpeakerState → Type 0
Asks call false old new = new ≡ old
Asks call true old new = Makes (call ∷ []) old new

-- a moment is told, unless it is before the last one, and this is what the call reports
abbrev pub Ticks : ℕ → Bool → SpeakerState → Report → SpeakerState → Type 0
Ticks now false old report new = (report ≡ NOTHING) × (new ≡ old)
Ticks now true old report new =
    (config : Config) (r : Run) → Agrees config r old
    → (t : Turn) × (asked t.call ≡ Tick_call now) × (report ≡ report_of config r t) × Agrees config (t ∷ r) new
