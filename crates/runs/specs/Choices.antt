-- How often a best route may be chosen, by what comes and goes (own, for RFC 4271 section 9.1).
use Rattle.std.specs.Prelude.{◌+◌, ◌&&◌, ◌||◌, ℕ, zero, suc, Bool, List, [], ◌∷◌, ◌++◌, Option, Some, None, is_some, false, if◌then◌else◌}
use Rattle.bgp_conf.specs.ConfAfter.{conf_after}
use Rattle.bgp_conf.specs.Configuration.{is_network}
use Rattle.bgp_conf.specs.declared.command.Command.{Command}
use Rattle.bgp_conf.specs.declared.command.Command.TheVariants.{AddPeer, RemovePeer, Enable, Disable, SetPolicy, DropPolicy, UseIn, UseOut, Network, NoNetwork, Reach, NoReach, Filter, NoFilter, Assert, NoAssert}
use Rattle.bgp_fsm.specs.StateTests.{is_established}
use Rattle.bgp_fsm.specs.declared.input.Input.TheVariants.{Start, Disable as Disabled, Remove as Removed, Up, Fail, NoMemory, Expires}
use Rattle.bgp_fsm.specs.declared.timers.Timer.{Timer}
use Rattle.bgp_fsm.specs.TimerMoments.{has_ended}
use Rattle.bgp_msg.specs.UpdateMeaning.{UpdateBody}
use Rattle.bgp_peer.specs.SessionInputs as slot
use Rattle.bgp_peer.specs.SessionInputs.{Octet, Signalled, Ticked, ending, onto, session, timers}
use Rattle.net_prefix.specs.declared.payload.Vrp.{Vrp}
use Rattle.net_prefix.specs.declared.prefix.Prefix.{Prefix}
use Rattle.origin_valid.specs.Touched.{is_touched}
use Rattle.rtr_codec.specs.ClientTable.{in_force}
use Rattle.rtr_session.specs.SessionHistory as cache
use Rattle.runs.specs.AdjRibIn.{brought, route}
use Rattle.routing.specs.Updates.{is_among}
use Rattle.runs.specs.Queueing.{Queue, Service, Tells, Starves}
use Rattle.runs.specs.Runs.{Call, Run, turn, Up_call, Fail_call, Bytes_call, Starved_call, Tick_call, Command_call, Take_call, Cache_up_call, Cache_fail_call, Cache_bytes_call, Cache_starved_call, Cache_take_call, cache_history, configuration_of, history, loaded_after, payloads_after}
use Rattle.runs.specs.declared.config.Config.{Config}
use Rattle.routing.specs.Chosen.{how_many, named_if, announced_if}
use Rattle.routing.specs.Tables.{payloads_under}

-- the prefixes that the slot's peer has announced, each as often as it did
abbrev pub announced_in : List slot.Event → List Prefix
announced_in [] = []
announced_in (e ∷ h) = announced_if (brought h e) ++ announced_in h

-- to how many prefixes the slot has a route
abbrev pub routes_held : List slot.Event → ℕ
routes_held h = how_many (λ p. is_some (route h p)) (announced_in h)

-- for what happens to a slot: once for each prefix that its UPDATE names, and, where the session isn't Established behind it,
-- once for each prefix to which there was a route (there is none where it wasn't Established before)
abbrev pub choices_by : List slot.Event → slot.Event → ℕ
choices_by h e = named_if (brought h e) + (if is_established (session (e ∷ h)).state then 0 else routes_held h)

-- for octets, one after another
abbrev pub choices_on : List ℕ → List slot.Event → ℕ
choices_on [] h = 0
choices_on (octet ∷ octets) h = choices_by h (Octet octet) + choices_on octets (Octet octet ∷ h)

-- whether one of the first slots, so many of them, has a route to the prefix
abbrev pub is_routed : Config → Run → ℕ → Prefix → Bool
is_routed config r zero p = false
is_routed config r (suc s) p = is_some (route (history config s r) p) || is_routed config r s p

-- the prefixes that the peers of these slots have announced
abbrev pub announced_to : Config → Run → ℕ → List Prefix
announced_to config r zero = []
announced_to config r (suc s) = announced_in (history config s r) ++ announced_to config r s

-- whether the prefix is known: some peer has announced it last and not withdrawn it, or it is a local network
abbrev pub is_known : Config → Run → Prefix → Bool
is_known config r p = is_routed config r 64 p || is_network (configuration_of config r) p

-- the local networks, and the prefixes that the peers have announced
abbrev pub named_to : Config → Run → List Prefix
named_to config r = (configuration_of config r).networks ++ announced_to config r 64

-- for the ends of these timers, where they have ended at this moment
abbrev pub choices_endings : List Timer → ℕ → List slot.Event → ℕ
choices_endings [] now h = 0
choices_endings (timer ∷ timers) now h = (if has_ended timer now (session h).timers then choices_by h (Signalled (Expires timer)) else 0) + choices_endings timers now (ending timer now h)

-- for a moment that comes to the first slots, so many of them
abbrev pub choices_to : (ℕ → List slot.Event) → ℕ → ℕ → ℕ
choices_to histories now zero = 0
choices_to histories now (suc s) = choices_endings timers now (Ticked now ∷ histories s) + choices_to histories now s

-- the payloads in force where the cache session has this history, under the local exceptions that stand after the run
abbrev pub in_force_with : Config → Run → List cache.Event → List Vrp
in_force_with config r h = payloads_under (configuration_of config r) (in_force (cache.client config.cache_retry h))

-- for what happens to the cache session, coming next: once for each known prefix that is covered by a payload which came into
-- force or went
abbrev pub choices_cached : Config → Run → List cache.Event → cache.Event → ℕ
choices_cached config r h e =
    how_many (λ p. is_known config r p && is_touched (in_force_with config r h) (in_force_with config r (e ∷ h)) p) (named_to config r)

-- for octets that come to it, one after another
abbrev pub choices_cached_on : Config → Run → List ℕ → List cache.Event → ℕ
choices_cached_on config r [] h = 0
choices_cached_on config r (octet ∷ octets) h = choices_cached config r h (cache.Octet octet) + choices_cached_on config r octets (cache.Octet octet ∷ h)

-- for a command of local exceptions: once for each known prefix that is covered by a payload which came into force or went
abbrev pub choices_excepted : Config → Run → Command → ℕ
choices_excepted config r command =
    how_many (λ p. is_known config r p && is_touched (payloads_after config r) (payloads_under (conf_after (configuration_of config r) command) (loaded_after config r)) p) (named_to config r)

-- for a command: what enabling a peer (which ends no session), disabling or removing it is to its session, for the rules of a
-- policy and an entry of `reach` that comes or goes once for each known prefix, for another import policy once for each prefix
-- to which the slot has a route, and for a local network that comes or goes once
abbrev pub choices_commanded : Config → Run → Command → ℕ
choices_commanded config r (AddPeer s peer) = 0
choices_commanded config r (RemovePeer s) = choices_by (history config s r) (Signalled Removed)
choices_commanded config r (Enable s) = choices_by (history config s r) (Signalled Start)
choices_commanded config r (Disable s) = choices_by (history config s r) (Signalled Disabled)
choices_commanded config r (SetPolicy name rules) = how_many (is_known config r) (named_to config r)
choices_commanded config r (DropPolicy name) = 0
choices_commanded config r (UseIn s name) = routes_held (history config s r)
choices_commanded config r (UseOut s name) = 0
choices_commanded config r (Network prefix) = 1
choices_commanded config r (NoNetwork prefix) = 1
choices_commanded config r (Reach prefix cost) = how_many (is_known config r) (named_to config r)
choices_commanded config r (NoReach prefix) = how_many (is_known config r) (named_to config r)
choices_commanded config r (Filter prefix asn) = choices_excepted config r (Filter prefix asn)
choices_commanded config r (NoFilter prefix asn) = choices_excepted config r (NoFilter prefix asn)
choices_commanded config r (Assert prefix max_len asn) = choices_excepted config r (Assert prefix max_len asn)
choices_commanded config r (NoAssert prefix max_len asn) = choices_excepted config r (NoAssert prefix max_len asn)

-- for a call, up to its end: for want of memory in the place of an UPDATE, which ends the session, once for each prefix to which
-- there was a route; none for octets of a slot that are handed out. Those of the cache session leave the choices of the
-- call before, so many, as they are
abbrev pub choices_called : Config → Run → ℕ → Call → ℕ
choices_called config r last (Up_call s) = choices_by (history config s r) (Signalled Up)
choices_called config r last (Fail_call s) = choices_by (history config s r) (Signalled Fail)
choices_called config r last (Bytes_call s octets) = choices_on octets (history config s r)
choices_called config r last (Starved_call s before octet behind) = choices_on before (history config s r) + routes_held (onto before (history config s r))
choices_called config r last (Tick_call now) = choices_cached config r (cache_history r) (cache.Ticked now) + choices_to (λ s. history config s r) now 64
choices_called config r last (Command_call command) = choices_commanded config r command
choices_called config r last (Take_call s octets) = 0
choices_called config r last Cache_up_call = choices_cached config r (cache_history r) cache.Came_up
choices_called config r last Cache_fail_call = choices_cached config r (cache_history r) cache.Failed
choices_called config r last (Cache_bytes_call octets) = choices_cached_on config r octets (cache_history r)
choices_called config r last (Cache_starved_call before octet behind) =
    choices_cached_on config r before (cache_history r) + choices_cached config r (cache.onto before (cache_history r)) cache.Refused
choices_called config r last (Cache_take_call octets) = last

-- for what is done for a slot: none for an UPDATE that is queued
abbrev pub choices_served : List slot.Event → Service → ℕ
choices_served h (Tells update) = 0
choices_served h Starves = choices_by h (Signalled NoMemory)

-- for what a call does at its end
abbrev pub choices_queued : Config → Call → Run → Queue → ℕ
choices_queued config call r [] = 0
choices_queued config call r (now ∷ queue) = choices_served (history config now.0 (turn call queue ∷ r)) now.1 + choices_queued config call r queue

-- for the last call of a run, with all that it did
abbrev pub choices_in : Config → Run → ℕ
choices_in config [] = 0
choices_in config (now ∷ r) = choices_called config r (choices_in config r) now.call + choices_queued config now.call r now.queued
