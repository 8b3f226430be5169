-- The calls of a speaker, and what they are to each slot and to the cache session. A run has the newest call first.
use Rattle.std.specs.Prelude.{ℕ, zero, suc, ◌==◌, ◌^◌, ◌&&◌, ◌||◌, bit_or, Bool, List, [], ◌∷◌, ◌++◌, false, true, if◌then◌else◌}
use Rattle.bgp_conf.specs.Configuration.{Configuration}
use Rattle.local_exceptions.specs.ExceptionSets.{no_exceptions}
use Rattle.routing.specs.Tables.{payloads_under}
use Rattle.bgp_conf.specs.ConfAfter.{conf_after, configured_of}
use Rattle.bgp_conf.specs.declared.command.Command.{Command}
use Rattle.bgp_conf.specs.declared.command.Command.TheVariants.{AddPeer, RemovePeer, Enable, Disable, SetPolicy, DropPolicy, UseIn, UseOut, Network, NoNetwork, Reach, NoReach, Filter, NoFilter, Assert, NoAssert}
use Rattle.bgp_conf.specs.declared.conf.ConfiguredPeer.{ConfiguredPeer}
use Rattle.bgp_fsm.specs.declared.input.Input.TheVariants.{Start, Disable as Disabled, Remove as Removed, Up, Fail, NoMemory, Expires}
use Rattle.bgp_fsm.specs.declared.timers.Timer.{Timer}
use Rattle.bgp_fsm.specs.SessionTable.{effects_of}
use Rattle.bgp_fsm.specs.TimerMoments.{has_ended}
use Rattle.bgp_peer.specs.SessionInputs as slot
use Rattle.bgp_peer.specs.SessionInputs.{Terms, Configured, Signalled, Queued, Handed, Ticked, ending, onto, session, ticked, timers}
use Rattle.net_prefix.specs.declared.payload.Vrp.{Vrp}
use Rattle.rtr_codec.specs.ClientTable.{in_force}
use Rattle.rtr_session.specs.SessionHistory as cache
use Rattle.runs.specs.Queueing.{Queue, Service, Tells, Starves, starved_in}
use Rattle.runs.specs.SlotTimes.{times_at}
use Rattle.runs.specs.declared.config.Config.{Config}
use Rattle.runs.specs.declared.event.Event.{Event}
use Rattle.runs.specs.declared.event.Event.TheVariants.{Up as CameUp, Fail as HasFailed, Bytes, Tick, Command as Commanded, CacheUp, CacheFail, CacheBytes}
use Rattle.runs.specs.declared.event.Report.{Report}

-- a call with its arguments; of a take, the octets that it handed out; of octets, where memory was refused to the UPDATE or
-- the PDU that one of them completes, which one
pub data Call : Type 0 where
  Up_call : (slot : ℕ) → Call
  Fail_call : (slot : ℕ) → Call
  Bytes_call : (slot : ℕ) → (octets : List ℕ) → Call
  Starved_call : (slot : ℕ) → (before : List ℕ) → (octet : ℕ) → (behind : List ℕ) → Call
  Tick_call : (now : ℕ) → Call
  Command_call : (command : Command) → Call
  Take_call : (slot : ℕ) → (octets : List ℕ) → Call
  Cache_up_call : Call
  Cache_fail_call : Call
  Cache_bytes_call : (octets : List ℕ) → Call
  Cache_starved_call : (before : List ℕ) → (octet : ℕ) → (behind : List ℕ) → Call
  Cache_take_call : (octets : List ℕ) → Call

-- a call as it was asked for, whether or not memory was refused to it
abbrev pub asked : Call → Call
asked (Up_call slot) = Up_call slot
asked (Fail_call slot) = Fail_call slot
asked (Bytes_call slot octets) = Bytes_call slot octets
asked (Starved_call slot before octet behind) = Bytes_call slot (before ++ octet ∷ behind)
asked (Tick_call now) = Tick_call now
asked (Command_call command) = Command_call command
asked (Take_call slot octets) = Take_call slot octets
asked Cache_up_call = Cache_up_call
asked Cache_fail_call = Cache_fail_call
asked (Cache_bytes_call octets) = Cache_bytes_call octets
asked (Cache_starved_call before octet behind) = Cache_bytes_call (before ++ octet ∷ behind)
asked (Cache_take_call octets) = Cache_take_call octets

-- the slot to whose UPDATE memory was refused, as a set of slots, a bit each
abbrev pub starved_by : Call → ℕ
starved_by (Up_call slot) = 0
starved_by (Fail_call slot) = 0
starved_by (Bytes_call slot octets) = 0
starved_by (Starved_call slot before octet behind) = 2 ^ slot
starved_by (Tick_call now) = 0
starved_by (Command_call command) = 0
starved_by (Take_call slot octets) = 0
starved_by Cache_up_call = 0
starved_by Cache_fail_call = 0
starved_by (Cache_bytes_call octets) = 0
starved_by (Cache_starved_call before octet behind) = 0
starved_by (Cache_take_call octets) = 0

-- whether memory was refused to the cache session
abbrev pub cache_starved_by : Call → Bool
cache_starved_by (Up_call slot) = false
cache_starved_by (Fail_call slot) = false
cache_starved_by (Bytes_call slot octets) = false
cache_starved_by (Starved_call slot before octet behind) = false
cache_starved_by (Tick_call now) = false
cache_starved_by (Command_call command) = false
cache_starved_by (Take_call slot octets) = false
cache_starved_by Cache_up_call = false
cache_starved_by Cache_fail_call = false
cache_starved_by (Cache_bytes_call octets) = false
cache_starved_by (Cache_starved_call before octet behind) = true
cache_starved_by (Cache_take_call octets) = false

-- a call, and what it did at its end for slots that were owed something
pub record Turn : Type 0 where
  pub call : Call
  pub queued : Queue

abbrev pub turn : Call → Queue → Turn
turn call queued = record { call = call; queued = queued }

-- the accepted calls, the newest first
abbrev pub Run : Type 0
Run = List Turn

-- the call that an event is
abbrev pub call_of : Event → Call
call_of (CameUp slot) = Up_call slot
call_of (HasFailed slot) = Fail_call slot
call_of (Bytes slot octets) = Bytes_call slot octets.now
call_of (Tick now) = Tick_call now
call_of (Commanded command) = Command_call command
call_of CacheUp = Cache_up_call
call_of CacheFail = Cache_fail_call
call_of (CacheBytes octets) = Cache_bytes_call octets.now

-- what a call makes of the configuration
abbrev pub conf_called : Call → Configuration → Configuration
conf_called (Up_call slot) conf = conf
conf_called (Fail_call slot) conf = conf
conf_called (Bytes_call slot octets) conf = conf
conf_called (Starved_call slot before octet behind) conf = conf
conf_called (Tick_call now) conf = conf
conf_called (Command_call command) conf = conf_after conf command
conf_called (Take_call slot octets) conf = conf
conf_called Cache_up_call conf = conf
conf_called Cache_fail_call conf = conf
conf_called (Cache_bytes_call octets) conf = conf
conf_called (Cache_starved_call before octet behind) conf = conf
conf_called (Cache_take_call octets) conf = conf

-- the configuration after a run
abbrev pub configuration_of : Config → Run → Configuration
configuration_of config [] = record { own = config.asn; peers = []; policies = []; networks = []; reach = []; exceptions = no_exceptions }
configuration_of config (now ∷ r) = conf_called now.call (configuration_of config r)

-- what a call makes of the moment
abbrev pub moment_called : Call → ℕ → ℕ
moment_called (Up_call slot) before = before
moment_called (Fail_call slot) before = before
moment_called (Bytes_call slot octets) before = before
moment_called (Starved_call slot front octet behind) before = before
moment_called (Tick_call now) before = now
moment_called (Command_call command) before = before
moment_called (Take_call slot octets) before = before
moment_called Cache_up_call before = before
moment_called Cache_fail_call before = before
moment_called (Cache_bytes_call octets) before = before
moment_called (Cache_starved_call front octet behind) before = before
moment_called (Cache_take_call octets) before = before

-- the moment after a run: that of its last tick, and 0 before one
abbrev pub moment_after : Run → ℕ
moment_after [] = 0
moment_after (now ∷ r) = moment_called now.call (moment_after r)

-- what a call is to the cache session; want of memory stands in the place of the PDU to which memory was refused
abbrev pub cache_called : Call → List cache.Event → List cache.Event
cache_called (Up_call slot) h = h
cache_called (Fail_call slot) h = h
cache_called (Bytes_call slot octets) h = h
cache_called (Starved_call slot before octet behind) h = h
cache_called (Tick_call now) h = cache.Ticked now ∷ h
cache_called (Command_call command) h = h
cache_called (Take_call slot octets) h = h
cache_called Cache_up_call h = cache.Came_up ∷ h
cache_called Cache_fail_call h = cache.Failed ∷ h
cache_called (Cache_bytes_call octets) h = cache.onto octets h
cache_called (Cache_starved_call before octet behind) h = cache.onto behind (cache.Refused ∷ cache.onto before h)
cache_called (Cache_take_call octets) h = cache.Handed octets ∷ h

-- what happened to the cache session in a run
abbrev pub cache_history : Run → List cache.Event
cache_history [] = []
cache_history (now ∷ r) = cache_called now.call (cache_history r)

-- the payloads that the cache session has loaded after a run: the last completed, unflushed and unexpired load
abbrev pub loaded_after : Config → Run → List Vrp
loaded_after config r = in_force (cache.client config.cache_retry (cache_history r))

-- the payloads in force after a run: those, under the local exceptions (RFC 8416 section 3)
abbrev pub payloads_after : Config → Run → List Vrp
payloads_after config r = payloads_under (configuration_of config r) (loaded_after config r)

-- the terms of a peer's session
abbrev pub terms_in : Config → ConfiguredPeer → Terms
terms_in config peer = record {
  own = record { asn = config.asn; hold_time = peer.hold; identifier = config.identifier; multiprotocol = config.multiprotocol };
  mode = peer.mode;
  peer_asn = peer.asn;
}

-- what a command is to a slot
abbrev pub commanded : Config → ℕ → Command → List slot.Event → List slot.Event
commanded config s (AddPeer slot peer) h = if s == slot then Configured (terms_in config (configured_of peer)) (times_at config.timers slot) ∷ h else h
commanded config s (RemovePeer slot) h = if s == slot then Signalled Removed ∷ h else h
commanded config s (Enable slot) h = if s == slot then Signalled Start ∷ h else h
commanded config s (Disable slot) h = if s == slot then Signalled Disabled ∷ h else h
commanded config s (SetPolicy name rules) h = h
commanded config s (DropPolicy name) h = h
commanded config s (UseIn slot name) h = h
commanded config s (UseOut slot name) h = h
commanded config s (Network prefix) h = h
commanded config s (NoNetwork prefix) h = h
commanded config s (Reach prefix cost) h = h
commanded config s (NoReach prefix) h = h
commanded config s (Filter prefix asn) h = h
commanded config s (NoFilter prefix asn) h = h
commanded config s (Assert prefix max_len asn) h = h
commanded config s (NoAssert prefix max_len asn) h = h

-- what a call is to a slot; want of memory stands in the place of the UPDATE to which memory was refused
abbrev pub called : Config → ℕ → Call → List slot.Event → List slot.Event
called config s (Up_call slot) h = if s == slot then Signalled Up ∷ h else h
called config s (Fail_call slot) h = if s == slot then Signalled Fail ∷ h else h
called config s (Bytes_call slot octets) h = if s == slot then onto octets h else h
called config s (Starved_call slot before octet behind) h = if s == slot then onto behind (Signalled NoMemory ∷ onto before h) else h
called config s (Tick_call now) h = ticked now h
called config s (Command_call command) h = commanded config s command h
called config s (Take_call slot octets) h = if s == slot then Handed octets ∷ h else h
called config s Cache_up_call h = h
called config s Cache_fail_call h = h
called config s (Cache_bytes_call octets) h = h
called config s (Cache_starved_call before octet behind) h = h
called config s (Cache_take_call octets) h = h

-- what is done for a slot is this to it
abbrev pub served_by : Service → slot.Event
served_by (Tells update) = Queued update
served_by Starves = Signalled NoMemory

-- what is done for a slot at the end of a call
abbrev pub queued_on : ℕ → Queue → List slot.Event → List slot.Event
queued_on s [] h = h
queued_on s (now ∷ queue) h = if s == now.0 then served_by now.1 ∷ queued_on s queue h else queued_on s queue h

-- what happened to a slot in a run
abbrev pub history : Config → ℕ → Run → List slot.Event
history config s [] = []
history config s (now ∷ r) = queued_on s now.queued (called config s now.call (history config s r))

-- the end of one of these timers, where they have ended at this moment, begins a connection attempt
abbrev pub opens_by : List Timer → ℕ → List slot.Event → Bool
opens_by [] now h = false
opens_by (timer ∷ timers) now h = has_ended timer now (session h).timers && (effects_of (Expires timer) (session h)).opened || opens_by timers now (ending timer now h)

-- of the first slots, so many of them, those whose connection attempt begins at this moment, a bit each
abbrev pub opened_to : (ℕ → List slot.Event) → ℕ → ℕ → ℕ
opened_to histories now zero = 0
opened_to histories now (suc s) = bit_or (if opens_by timers now (Ticked now ∷ histories s) then 2 ^ s else 0) (opened_to histories now s)

-- those whose attempt begins by a command
abbrev pub opened_commanded : Config → Run → Command → ℕ
opened_commanded config r (AddPeer slot peer) = 0
opened_commanded config r (RemovePeer slot) = 0
opened_commanded config r (Enable slot) = if (effects_of Start (session (history config slot r))).opened then 2 ^ slot else 0
opened_commanded config r (Disable slot) = 0
opened_commanded config r (SetPolicy name rules) = 0
opened_commanded config r (DropPolicy name) = 0
opened_commanded config r (UseIn slot name) = 0
opened_commanded config r (UseOut slot name) = 0
opened_commanded config r (Network prefix) = 0
opened_commanded config r (NoNetwork prefix) = 0
opened_commanded config r (Reach prefix cost) = 0
opened_commanded config r (NoReach prefix) = 0
opened_commanded config r (Filter prefix asn) = 0
opened_commanded config r (NoFilter prefix asn) = 0
opened_commanded config r (Assert prefix max_len asn) = 0
opened_commanded config r (NoAssert prefix max_len asn) = 0

-- those whose attempt begins in a call. No other input of a session begins one
abbrev pub opened_by : Config → Run → Call → ℕ
opened_by config r (Up_call slot) = 0
opened_by config r (Fail_call slot) = 0
opened_by config r (Bytes_call slot octets) = 0
opened_by config r (Starved_call slot before octet behind) = 0
opened_by config r (Tick_call now) = opened_to (λ s. history config s r) now 64
opened_by config r (Command_call command) = opened_commanded config r command
opened_by config r (Take_call slot octets) = 0
opened_by config r Cache_up_call = 0
opened_by config r Cache_fail_call = 0
opened_by config r (Cache_bytes_call octets) = 0
opened_by config r (Cache_starved_call before octet behind) = 0
opened_by config r (Cache_take_call octets) = 0

-- whether an attempt of the cache session begins in a call: by a moment alone
abbrev pub cache_opened_by : Config → Run → Call → Bool
cache_opened_by config r (Up_call slot) = false
cache_opened_by config r (Fail_call slot) = false
cache_opened_by config r (Bytes_call slot octets) = false
cache_opened_by config r (Starved_call slot before octet behind) = false
cache_opened_by config r (Tick_call now) = cache.opens_at config.cache_retry now (cache_history r)
cache_opened_by config r (Command_call command) = false
cache_opened_by config r (Take_call slot octets) = false
cache_opened_by config r Cache_up_call = false
cache_opened_by config r Cache_fail_call = false
cache_opened_by config r (Cache_bytes_call octets) = false
cache_opened_by config r (Cache_starved_call before octet behind) = false
cache_opened_by config r (Cache_take_call octets) = false

-- what a call after a run reports: the slots whose connection attempt begins, and those to which memory was refused, and
-- both of the cache session
abbrev pub report_of : Config → Run → Turn → Report
report_of config r now = record {
  opened = opened_by config r now.call;
  starved = bit_or (starved_by now.call) (starved_in now.queued);
  cache_opened = cache_opened_by config r now.call;
  cache_starved = cache_starved_by now.call;
}
