-- When a speaker is as a run leaves it (RFC 4271 sections 3.2, 8 and 9; RFC 2918 section 4).
use Rattle.std.specs.Prelude.{◌≡◌, ◌≢◌, ◌⊎◌, ◌==◌, ◌<◌, ◌≤◌, ◌+◌, ◌++◌, ℕ, List, [], ◌∷◌, length, Bool, Option, Some, None, is_some, false, true, if◌then◌else◌}
use Rattle.std.specs.Option.{option_map}
use Rattle.bgp_attr.specs.AttributeFaults.{is_host}
use Rattle.bgp_attr.specs.PathAttributes.{PathAttributes}
use Rattle.bgp_attr.specs.PeerKinds.{kind_between}
use Rattle.bgp_conf.specs.Configuration.{Configuration, peer_at}
use Rattle.bgp_conf.specs.declared.conf.ConfiguredPeer.{ConfiguredPeer}
use Rattle.bgp_fsm.specs.declared.state.State.TheVariants.{Established, Idle}
use Rattle.bgp_fsm.specs.StateTests.{is_established}
use Rattle.bgp_fsm.specs.TimerMoments.{stopped}
use Rattle.bgp_fsm.specs.Transports.{transport_of}
use Rattle.bgp_fsm.specs.declared.timers.Timer.{Timer}
use Rattle.bgp_msg.specs.MessageStream.{WholeMessage, messages}
use Rattle.bgp_msg.specs.UpdateMeaning.{update_fault}
use Rattle.bgp_msg.specs.declared.frame.MessageType.TheVariants.{Update}
use Rattle.bgp_peer.specs.Agreement.{PeerAgrees, IsUpdateMessage}
use Rattle.bgp_peer.specs.SentMessages.{ring_of, sent}
use Rattle.bgp_peer.specs.SessionInputs as slot
use Rattle.bgp_peer.specs.SessionInputs.{Ticked, endings, is_there, item_at, moment_of, occupant, onto, session, ticked}
use Rattle.decision.specs.BookContents.{offer_at}
use Rattle.decision.specs.declared.candidate.TheConstants.{LOCAL_SLOT}
use Rattle.net_prefix.specs.declared.asn.Asn.{Asn}
use Rattle.net_prefix.specs.declared.prefix.Prefix.{Prefix}
use Rattle.net_prefix.specs.declared.transport.Transport.TheVariants.{Open as Connected}
use Rattle.rib_in.specs.LatestRoutes.{route_at}
use Rattle.rib_out.specs.Held.{asked_at, held_at, is_among}
use Rattle.rtr_client.specs.FirstClient.{first_client}
use Rattle.rtr_codec.specs.ClientTable.{in_force}
use Rattle.rtr_codec.specs.PduSpelling.{Content}
use Rattle.rtr_codec.specs.PduStream.{WholePdu}
use Rattle.rtr_client.specs.Following.{load_takes}
use Rattle.rtr_session.specs.Agreement.{SessionAgrees}
use Rattle.rtr_session.specs.SessionHistory as cache
use Rattle.rtr_session.specs.SessionHistory.{client}
use Rattle.rtr_session.specs.SessionState.{Session as CacheSession}
use Rattle.routing.specs.Updates.{NeedsMemory}
use Rattle.runs.specs.AdjRibIn.{route}
use Rattle.runs.specs.Choices.{choices_endings, choices_in, choices_to}
use Rattle.routing.specs.Export.{IsExport, export_peer_of}
use Rattle.routing.specs.Packing.{IsPack, room_beside}
use Rattle.runs.specs.Held.{held, told_from, told_in}
use Rattle.routing.specs.Linked.{Linked}
use Rattle.routing.specs.LocRib.{IsLocRib}
use Rattle.routing.specs.Offers.{AreKept}
use Rattle.runs.specs.Queueing.{ComesFirst, Queue, Service, Tells, Starves, starved_in}
use Rattle.routing.specs.Told.{update_saying}
use Rattle.runs.specs.Refreshes.{asked}
use Rattle.runs.specs.Runs.{Call, Run, turn, Up_call, Fail_call, Bytes_call, Starved_call, Tick_call, Command_call, Take_call, Cache_up_call, Cache_fail_call, Cache_bytes_call, Cache_starved_call, Cache_take_call, cache_history, configuration_of, history, moment_after, opened_to, opens_by, payloads_after, terms_in}
use Rattle.runs.specs.SpeakerState.{SpeakerState, tables_of}
use Rattle.routing.specs.Tables.{Tables, link_at, network_route, peer_route_at}
use Rattle.runs.specs.declared.config.Config.{Config}
use Rattle.bgp_peer.specs.PeerLimits.{ring_octets, room_for_update}

-- what stands under a slot: the latest routes of its peer, and under `LOCAL_SLOT` the local networks
abbrev pub route_under : Configuration → (ℕ → List slot.Event) → ℕ → Prefix → Option PathAttributes
route_under conf histories s prefix = if s == LOCAL_SLOT then network_route conf prefix else route (histories s) prefix

-- what the selection reads after a run: the configuration, the payloads in force, the session of each slot that is there, the
-- latest routes and the local networks
abbrev pub tables_after : Config → Run → Tables
tables_after config r = record {
  conf = configuration_of config r;
  payloads = payloads_after config r;
  sessions = λ s. if is_there (history config s r) then Some (session (history config s r)) else None;
  routes = λ s prefix. route_under (configuration_of config r) (λ t. history config t r) s prefix;
}

-- the slot, what its peer holds and what it has asked for again are as this history leaves them
pub record LinkAgrees (h : List slot.Event) (l : Linked) : Type 0 where
  pub peer : PeerAgrees h l.peer
  pub held : (prefix : Prefix) → held_at l.adj_out prefix ≡ held h prefix
  pub asked : (prefix : Prefix) → asked_at l.adj_out prefix ≡ asked h prefix
  -- before Established nothing was told of any prefix
  pub silent : transport_of (session h) ≡ Connected → is_established (session h).state ≡ false → (prefix : Prefix) → told_in (sent h) prefix ≡ None

-- what is configured and kept of a slot is as this history leaves it
pub record SlotAgrees (config : Config) (found : Option ConfiguredPeer) (linked : Option Linked) (routes : Prefix → Option PathAttributes) (h : List slot.Event) : Type 0 where
  -- the configuration has the peer that occupies the slot
  pub configured : option_map (terms_in config) found ≡ occupant h
  -- the slot is there where a peer occupies it, or where a connection is still closing
  pub there : is_some linked ≡ is_there h
  pub link : (l : Linked) → linked ≡ Some l → LinkAgrees h l
  -- a vacant one is in Idle, and no timer of it runs
  pub vacant : occupant h ≡ None → ((session h).state ≡ Idle) × ((session h).timers ≡ stopped)
  pub routes_are : (prefix : Prefix) → routes prefix ≡ route h prefix

-- where 8,192 octets are free, the peer of this slot holds its export and was told of each prefix for which it asked again, if its
-- session is Established
abbrev pub IsSettledAt : Config → Run → ℕ → Type 0
IsSettledAt config r s =
    (peer : ConfiguredPeer) → peer_at (configuration_of config r) s ≡ Some peer
    → (session (history config s r)).state ≡ Established → length (ring_of (history config s r)) + room_for_update ≤ ring_octets
    → (prefix : Prefix) → IsExport (tables_after config r) (export_peer_of (configuration_of config r) s peer) prefix (held (history config s r) prefix)
    × (asked (history config s r) prefix ≡ false)

-- so it is of each slot
abbrev pub IsSettled : Config → Run → Type 0
IsSettled config r = (s : ℕ) → IsSettledAt config r s

-- as the run stands, nothing is owed to a lower slot whose ring has room
abbrev pub IsLowest : Config → Run → ℕ → Type 0
IsLowest config r s = (t : ℕ) → t < s → IsSettledAt config r t

-- the UPDATE names the prefix: what it tells of it doesn't depend on what was told before
abbrev pub Names : List ℕ → Prefix → Type 0
Names update prefix = (before : Option (List ℕ)) → told_from before (messages update) prefix ≡ told_in update prefix

-- as the run stands, this is what the export to the slot has of the prefix, and its peer doesn't hold it, or has asked for it again
pub record IsNews (config : Config) (r : Run) (s : ℕ) (peer : ConfiguredPeer) (prefix : Prefix) (export : Option (List ℕ)) : Type 0 where
  pub is_export : IsExport (tables_after config r) (export_peer_of (configuration_of config r) s peer) prefix export
  pub news : (held (history config s r) prefix ≢ export) ⊎ (asked (history config s r) prefix ≡ true)

-- as the run stands, the octets are an UPDATE that says of each prefix which it names what the export to the slot has
-- and its peer doesn't hold, or has asked for again, and it names one at least: that they are withdrawn, or one list of attributes.
-- Of all to which just that is owed, in rising order, it names the longest beginning that it has room for (the rule is an own one, for
-- RFC 4271 section 4.3). One of them comes first of all that the peer is owed, and of all slots that are owed something and have room
-- for it this is the lowest
pub record IsOwedIn (config : Config) (r : Run) (s : ℕ) (update : List ℕ) : Type 0 where
  pub peer : ConfiguredPeer
  pub configured : peer_at (configuration_of config r) s ≡ Some peer
  pub is_update : IsUpdateMessage update
  -- the other end finds no fault with it
  pub faultless : update_fault (kind_between peer.asn config.asn) is_update.0 ≡ None
  pub says : (named : List Prefix) × ((export : Option (List ℕ)) × (update ≡ update_saying named export))
  pub some : (prefix : Prefix) × Names update prefix
  pub each : (prefix : Prefix) → Names update prefix → IsNews config r s peer prefix (told_in update prefix)
  pub packed : IsPack (λ prefix. IsNews config r s peer prefix says.1.0) (room_beside says.1.0) says.0
  pub first : (least : Prefix) × (is_among least says.0 ≡ true) × ((prefix : Prefix) (export : Option (List ℕ)) → IsNews config r s peer prefix export → ComesFirst least says.1.0 prefix export)
  pub lowest : IsLowest config r s

-- as the run stands, the slot's session is Established, 8,192 octets of its ring are free, and of a prefix of the UPDATE of
-- announcements that comes first of all that it is owed, its peer doesn't hold what the export has (telling again what it holds takes
-- no memory); of all slots that are owed something and have room for it this is the lowest
pub record IsShortIn (config : Config) (r : Run) (s : ℕ) : Type 0 where
  pub peer : ConfiguredPeer
  pub octets : List ℕ
  pub named : List Prefix
  pub prefix : Prefix
  pub configured : peer_at (configuration_of config r) s ≡ Some peer
  pub established : (session (history config s r)).state ≡ Established
  pub room : length (ring_of (history config s r)) + room_for_update ≤ ring_octets
  pub packed : IsPack (λ prefix. IsNews config r s peer prefix (Some octets)) (room_beside (Some octets)) named
  pub first : (least : Prefix) × (is_among least named ≡ true) × ((prefix : Prefix) (export : Option (List ℕ)) → IsNews config r s peer prefix export → ComesFirst least (Some octets) prefix export)
  pub among : is_among prefix named ≡ true
  pub is_export : IsExport (tables_after config r) (export_peer_of (configuration_of config r) s peer) prefix (Some octets)
  pub other : held (history config s r) prefix ≢ Some octets
  pub lowest : IsLowest config r s

-- what is done for a slot was owed to it: an UPDATE that is queued, and what memory is refused to
abbrev pub IsOwed : Config → Run → ℕ → Service → Type 0
IsOwed config r s (Tells update) = IsOwedIn config r s update
IsOwed config r s Starves = IsShortIn config r s

-- all that the call did at its end was owed when it was done
abbrev pub AreOwed : Config → Call → Run → Queue → Type 0
AreOwed config call r [] = Unit {0}
AreOwed config call r (now ∷ queue) = IsOwed config (turn call queue ∷ r) now.0 now.1 × AreOwed config call r queue

-- the next octet completes a message that memory is taken for: an UPDATE to an Established session
pub record MayStarve (h : List slot.Event) (octet : ℕ) : Type 0 where
  pub body : List ℕ
  pub established : (session h).state ≡ Established
  pub completes : item_at h octet ≡ Some (WholeMessage Update body)
  pub needs : NeedsMemory (slot.kind_of (slot.terms_of h)) body

-- the next octet completes a PDU of the cache session that memory is taken for: in a load a payload that comes anew or that leaves
-- what the load started from, or the End of Data that completes one, after a Serial Query only where the load brings a payload
pub record CacheMayStarve (config : Config) (h : List cache.Event) (octet : ℕ) : Type 0 where
  pub content : Content
  pub octets : List ℕ
  pub completes : cache.item_at config.cache_retry h octet ≡ Some (WholePdu content octets)
  pub takes : load_takes (client config.cache_retry h) content ≡ true

-- memory is refused to nothing but such a message or PDU
abbrev pub IsFair : Config → Run → Call → Type 0
IsFair config r (Up_call s) = Unit {0}
IsFair config r (Fail_call s) = Unit {0}
IsFair config r (Bytes_call s octets) = Unit {0}
IsFair config r (Starved_call s before octet behind) = MayStarve (onto before (history config s r)) octet
IsFair config r (Tick_call now) = Unit {0}
IsFair config r (Command_call command) = Unit {0}
IsFair config r (Take_call s octets) = Unit {0}
IsFair config r Cache_up_call = Unit {0}
IsFair config r Cache_fail_call = Unit {0}
IsFair config r (Cache_bytes_call octets) = Unit {0}
IsFair config r (Cache_starved_call before octet behind) = CacheMayStarve config (cache.onto before (cache_history r)) octet
IsFair config r (Cache_take_call octets) = Unit {0}

-- nothing was queued but what was owed, and no session was closed for want of memory but one that takes some
abbrev pub IsThrifty : Config → Run → Type 0
IsThrifty config [] = Unit {0}
IsThrifty config (now ∷ r) = IsFair config r now.call × AreOwed config now.call r now.queued × IsThrifty config r

-- a peer that was accepted: it has one of the 64 slots, and sees of us the address of a host that isn't its own
pub record IsTaken (slot : ℕ) (peer : ConfiguredPeer) : Type 0 where
  pub within : slot < 64
  pub local : is_host peer.local ≡ true
  pub apart : (peer.local == peer.address) ≡ false

-- our AS is no 0, and each peer was accepted
abbrev pub AreTaken : Asn → Configuration → Type 0
AreTaken own conf = (0 < own.0) × ((slot : ℕ) (peer : ConfiguredPeer) → peer_at conf slot ≡ Some peer → IsTaken slot peer)

-- the cache session is there just where the settings ask for one, and is as this history leaves it; where there is none
-- nothing has happened to it
abbrev pub CacheAgrees : Config → List cache.Event → Option CacheSession → Type 0
CacheAgrees config h None = (config.cache ≡ false) × (client config.cache_retry h ≡ first_client config.cache_retry)
CacheAgrees config h (Some session) = (config.cache ≡ true) × SessionAgrees config.cache_retry h session

-- the settings, the configuration and the moment are these, and the cache session and each slot are as their histories leave
-- them
pub record HoldsBy (config : Config) (conf_is : Configuration) (now : ℕ) (cached : List cache.Event) (histories : ℕ → List slot.Event) (most : ℕ) (s : SpeakerState) : Type 0 where
  pub config_is : s.config ≡ config
  pub moment : s.moment ≡ now
  pub conf : s.conf ≡ conf_is
  -- the cache session is as its history leaves it, and routes are judged by the payloads that it has in force
  pub cache : CacheAgrees config cached s.cache
  pub payloads : s.payloads ≡ in_force (client config.cache_retry cached)
  pub peers : AreTaken config.asn s.conf
  pub slots : (slot : ℕ) → SlotAgrees config (peer_at s.conf slot) (link_at s.links slot) (peer_route_at s.adj_in slot) (histories slot)
  -- the local networks are those of the configuration
  pub networks : (prefix : Prefix) → route_at s.adj_in LOCAL_SLOT prefix ≡ network_route s.conf prefix
  -- the candidates that are kept are those of all routes
  pub kept : AreKept (tables_of s) (offer_at s.book)
  -- a best route was chosen in the last call so often at most
  pub chosen : s.chosen ≤ s.chosen_before + most

-- they are as the run leaves them, and a best route was chosen in its last call at most as often as what it did allows
abbrev pub Holds : Config → Run → SpeakerState → Type 0
Holds config r s = HoldsBy config (configuration_of config r) (moment_after r) (cache_history r) (λ slot. history config slot r) (choices_in config r) s

-- the ends of these timers of a slot, where they have ended, come to it, whatever came before, and this tells whether its
-- connection attempt begins
abbrev pub EndsTimers : List Timer → ℕ → Bool → SpeakerState → SpeakerState → Type 0
EndsTimers timers at opened old new =
    (config : Config) (conf : Configuration) (cached : List cache.Event) (histories : ℕ → List slot.Event) (most : ℕ) → moment_of (histories at) ≡ old.moment
    → HoldsBy config conf old.moment cached histories most old
    → HoldsBy config conf old.moment cached (λ s. if s == at then endings timers old.moment (histories s) else histories s) (most + choices_endings timers old.moment (histories at)) new
    × (opened ≡ opens_by timers old.moment (histories at))

-- the same for all slots, to each of which the moment has come, and these are those whose connection attempt begins
abbrev pub EndsAll : ℕ → SpeakerState → SpeakerState → Type 0
EndsAll opened old new =
    (config : Config) (conf : Configuration) (cached : List cache.Event) (histories : ℕ → List slot.Event) (most : ℕ) → HoldsBy config conf old.moment cached (λ s. Ticked old.moment ∷ histories s) most old
    → HoldsBy config conf old.moment cached (λ s. ticked old.moment (histories s)) (most + choices_to histories old.moment 64) new × (opened ≡ opened_to histories old.moment 64)

-- these octets come on a configured slot, behind those of the same call that came before: all is as the run with them
-- leaves it, where it was before
abbrev pub Hears : ℕ → List ℕ → SpeakerState → SpeakerState → Type 0
Hears slot octets old new =
    (config : Config) (r : Run) (done : List ℕ) (peer : ConfiguredPeer) → peer_at old.conf slot ≡ Some peer
    → Holds config (turn (Bytes_call slot done) [] ∷ r) old → Holds config (turn (Bytes_call slot (done ++ octets)) [] ∷ r) new

-- so they do up to one that completes an UPDATE to which memory is refused: the session of the slot is closed
abbrev pub HearsUntil : ℕ → List ℕ → SpeakerState → SpeakerState → Type 0
HearsUntil slot octets old new =
    (config : Config) (r : Run) (done : List ℕ) (peer : ConfiguredPeer) → peer_at old.conf slot ≡ Some peer
    → Holds config (turn (Bytes_call slot done) [] ∷ r) old
    → (before : List ℕ) × (octet : ℕ) × (behind : List ℕ) × (done ++ octets ≡ before ++ octet ∷ behind)
    × MayStarve (onto before (history config slot r)) octet × Holds config (turn (Starved_call slot before octet behind) [] ∷ r) new

-- these octets come to the cache session, behind those of the same call that came before: all is as the run with them leaves
-- it, where it was before
abbrev pub CacheHears : List ℕ → SpeakerState → SpeakerState → Type 0
CacheHears octets old new =
    (config : Config) (r : Run) (done : List ℕ) → Holds config (turn (Cache_bytes_call done) [] ∷ r) old → Holds config (turn (Cache_bytes_call (done ++ octets)) [] ∷ r) new

-- so they do up to one that completes a PDU to which memory is refused: the cache session is closed
abbrev pub CacheHearsUntil : List ℕ → SpeakerState → SpeakerState → Type 0
CacheHearsUntil octets old new =
    (config : Config) (r : Run) (done : List ℕ) → Holds config (turn (Cache_bytes_call done) [] ∷ r) old
    → (before : List ℕ) × (octet : ℕ) × (behind : List ℕ) × (done ++ octets ≡ before ++ octet ∷ behind)
    × CacheMayStarve config (cache.onto before (cache_history r)) octet × Holds config (turn (Cache_starved_call before octet behind) [] ∷ r) new

-- in the midst of a call all is as the run with what the call has done so far leaves it: Loc-RIB is the selection, and
-- what was done was owed
pub record Passes (config : Config) (call : Call) (r : Run) (queue : Queue) (s : SpeakerState) : Type 0 where
  pub holds : Holds config (turn call queue ∷ r) s
  pub loc_rib : IsLocRib (tables_after config (turn call queue ∷ r)) s.loc_rib
  pub owed : AreOwed config call r queue

-- the queueing goes on from the one to the other, whatever the run and the call, and memory is refused to no slot
abbrev pub QueuesOn : SpeakerState → SpeakerState → Type 0
QueuesOn old new =
    (config : Config) (call : Call) (r : Run) (queue : Queue) → Passes config call r queue old
    → (longer : Queue) × Passes config call r longer new × (starved_in longer ≡ starved_in queue)

-- memory is refused to what the slot is owed
abbrev pub QueuesStarved : ℕ → SpeakerState → SpeakerState → Type 0
QueuesStarved slot old new =
    (config : Config) (call : Call) (r : Run) (queue : Queue) → Passes config call r queue old → Passes config call r ((slot, Starves) ∷ queue) new

-- all the queueing of a call, which refuses memory to these slots, a bit each
abbrev pub QueuesAll : ℕ → SpeakerState → SpeakerState → Type 0
QueuesAll starved old new =
    (config : Config) (call : Call) (r : Run) → Passes config call r [] old
    → (queue : Queue) × Passes config call r queue new × (starved_in queue ≡ starved)

-- the speaker is as the run leaves it
pub record Agrees (config : Config) (r : Run) (s : SpeakerState) : Type 0 where
  pub holds : Holds config r s
  -- Loc-RIB is the selection over the accepted routes
  pub loc_rib : IsLocRib (tables_after config r) s.loc_rib
  -- what each Established peer was sent, read back, is its export of Loc-RIB, save prefixes waiting behind a full ring
  pub settled : IsSettled config r
  pub thrifty : IsThrifty config r
