-- When a call is refused (own choice: the order and the numbers).
use Rattle.std.specs.Prelude.{ℕ, ◌&&◌, ◌^◌, nat_le, nat_lt, Bool, true, false, is_some, if◌then◌else◌, Option, Some, None}
use Rattle.std.specs.Option.{option_map}
use Rattle.net_prefix.specs.declared.transport.Transport.{Transport}
use Rattle.net_prefix.specs.declared.transport.Transport.TheVariants.{None as NoConnection, Opening, Listening, Open, Closing}
use Rattle.bgp_conf.specs.declared.refusal.Refusal.{Refusal}
use Rattle.bgp_conf.specs.declared.refusal.Refusal.TheVariants.{BadSlot, ClockBack, NotExpected}
use Rattle.bgp_conf.specs.ConfAfter.{TakesMemory}
use Rattle.bgp_conf.specs.Configuration.{Configuration}
use Rattle.bgp_conf.specs.declared.command.Command.{Command}
use Rattle.bgp_conf.specs.declared.command.Command.TheVariants.{AddPeer, RemovePeer, Enable, Disable, SetPolicy, DropPolicy, UseIn, UseOut, Network, NoNetwork, Reach, NoReach, Filter, NoFilter, Assert, NoAssert}
use Rattle.bgp_conf.specs.FirstRefusal.{first_refusal}
use Rattle.bgp_fsm.specs.Transports.{is_closing, transport_of}
use Rattle.bgp_peer.specs.SessionInputs.{is_there}
use Rattle.bgp_fsm.specs.declared.session.Session.{Session}
use Rattle.rtr_codec.specs.ClientTable.{transport_of as client_transport}
use Rattle.rtr_session.specs.SessionHistory.{client}
use Rattle.runs.specs.Agreement.{tables_after}
use Rattle.runs.specs.Runs.{Run, cache_history, history, moment_after}
use Rattle.runs.specs.SpeakerState.{SpeakerState, IsAsBefore, tables_of}
use Rattle.routing.specs.Tables.{Tables, configured_session, link_at}
use Rattle.runs.specs.declared.config.Config.{Config}
use Rattle.runs.specs.declared.event.Event.{Event}
use Rattle.runs.specs.declared.event.Event.TheVariants.{Up, Fail, Bytes, Tick, Command as Commanded, CacheUp, CacheFail, CacheBytes}

-- a connection may come up
abbrev pub awaits_up : Transport → Bool
awaits_up NoConnection = false
awaits_up Opening = true
awaits_up Listening = true
awaits_up Open = false
awaits_up Closing = false

-- an attempt or a connection may fail
abbrev pub may_fail : Transport → Bool
may_fail NoConnection = false
may_fail Opening = true
may_fail Listening = false
may_fail Open = true
may_fail Closing = true

-- octets may come
abbrev pub may_bring_octets : Transport → Bool
may_bring_octets NoConnection = false
may_bring_octets Opening = false
may_bring_octets Listening = false
may_bring_octets Open = true
may_bring_octets Closing = true

-- the connection stands
abbrev pub is_open : Transport → Bool
is_open NoConnection = false
is_open Opening = false
is_open Listening = false
is_open Open = true
is_open Closing = false

-- a slot that isn't there is refused first, then one whose transport doesn't take the event
abbrev pub refused_at : Option Session → (Transport → Bool) → Option Refusal
refused_at None takes = Some BadSlot
refused_at (Some session) takes = if takes (transport_of session) then None else Some NotExpected

-- without a cache session nothing of one is expected, nor what its transport doesn't take
abbrev pub cache_refused_at : Option Transport → (Transport → Bool) → Option Refusal
cache_refused_at None takes = Some NotExpected
cache_refused_at (Some transport) takes = if takes transport then None else Some NotExpected

-- a session whose connection is still to be closed
abbrev pub closes : Option Session → Bool
closes None = false
closes (Some session) = is_closing (transport_of session)

-- the slot that a command would give to a peer, as a set of slots, where a connection of it is still to be closed
abbrev pub closing_for : Tables → Command → ℕ
closing_for t (AddPeer slot peer) = if nat_lt slot 64 && closes (t.sessions slot) then 2 ^ slot else 0
closing_for t (RemovePeer slot) = 0
closing_for t (Enable slot) = 0
closing_for t (Disable slot) = 0
closing_for t (SetPolicy name rules) = 0
closing_for t (DropPolicy name) = 0
closing_for t (UseIn slot name) = 0
closing_for t (UseOut slot name) = 0
closing_for t (Network prefix) = 0
closing_for t (NoNetwork prefix) = 0
closing_for t (Reach prefix cost) = 0
closing_for t (NoReach prefix) = 0
closing_for t (Filter prefix asn) = 0
closing_for t (NoFilter prefix asn) = 0
closing_for t (Assert prefix max_len asn) = 0
closing_for t (NoAssert prefix max_len asn) = 0

-- the first refusal of an event by the moment, the transport of the cache session, the configuration and the sessions
abbrev pub refusal_by : ℕ → Option Transport → Tables → Event → Option Refusal
refusal_by moment cache t (Up slot) = refused_at (configured_session t slot) awaits_up
refusal_by moment cache t (Fail slot) = refused_at (t.sessions slot) may_fail
refusal_by moment cache t (Bytes slot octets) = refused_at (t.sessions slot) may_bring_octets
refusal_by moment cache t (Tick now) = if nat_le moment now then None else Some ClockBack
refusal_by moment cache t (Commanded command) = first_refusal t.conf (closing_for t command) command
refusal_by moment cache t CacheUp = cache_refused_at cache awaits_up
refusal_by moment cache t CacheFail = cache_refused_at cache may_fail
refusal_by moment cache t (CacheBytes octets) = cache_refused_at cache may_bring_octets

-- the transport of the cache session after a run, where there is one
abbrev pub cache_transport_after : Config → Run → Option Transport
cache_transport_after config r = if config.cache then Some (client_transport (client config.cache_retry (cache_history r))) else None

-- the transport of the cache session of a speaker, where it has one
abbrev pub cache_transport_of : SpeakerState → Option Transport
cache_transport_of s = option_map (λ session. client_transport session.client) s.cache

-- the first refusal of an event after a run
abbrev pub refusal_in : Config → Run → Event → Option Refusal
refusal_in config r event = refusal_by (moment_after r) (cache_transport_after config r) (tables_after config r) event

-- the first refusal of an event by a speaker
abbrev pub refusal_of : SpeakerState → Event → Option Refusal
refusal_of s event = refusal_by s.moment (cache_transport_of s) (tables_of s) event

-- the first refusal of a take by a speaker
abbrev pub take_refusal_of : SpeakerState → ℕ → Option Refusal
take_refusal_of s slot = if is_some (link_at s.links slot) then None else Some BadSlot

-- the first refusal of a take after a run
abbrev pub take_refusal_in : Config → Run → ℕ → Option Refusal
take_refusal_in config r slot = if is_there (history config slot r) then None else Some BadSlot

-- the event takes memory of its own: a command that adds a peer, a local network or an entry of `reach`, or sets a policy
abbrev pub Grows : Configuration → Event → Type 0
Grows conf (Up slot) = ⊥
Grows conf (Fail slot) = ⊥
Grows conf (Bytes slot octets) = ⊥
Grows conf (Tick now) = ⊥
Grows conf (Commanded command) = TakesMemory conf command
Grows conf CacheUp = ⊥
Grows conf CacheFail = ⊥
Grows conf (CacheBytes octets) = ⊥

-- memory was refused to what an event takes of its own, and the speaker is as it was
abbrev pub LacksMemory : Event → SpeakerState → SpeakerState → Type 0
LacksMemory event old new = Grows old.conf event × IsAsBefore old new
