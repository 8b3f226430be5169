-- What a speaker's settings are, key by key (own).
use Rattle.std.specs.Prelude.{◌≡◌, ◌<◌, ◌≤◌, ◌^◌, ℕ, List, [], ◌∷◌, Option, None, Some, String, false, codes, string_bytes, ⊤}
use Rattle.std.specs.declared.alloc.Global.{Global}
use Rattle.std.specs.Net.Addr.{ipv4_bits}
use Rattle.std.specs.Net.Grammar.{IsIpv4Text}
use Rattle.std.specs.declared.net.ipv4_addr.Ipv4Addr.{Ipv4Addr}
use Rattle.std.specs.declared.net.socket_addr.SocketAddr.{SocketAddr as Address}
use Rattle.toml.specs.Data.{Data, Items, Members, as_array, as_table, get_member, no_items, item}
use Rattle.bgp_fsm.specs.declared.timers.PeerTimers.{PeerTimers}
use Rattle.bgp_fsm.specs.TimerMoments.{usual}
use Rattle.net_prefix.specs.declared.asn.Asn.{Asn}
use Rattle.settings_keys.specs.Keys.{IsAddress, IsNumber, IsSpelled, IsText, IsTold, IsToldIfThere, IsToldOrUsual, IsYesOrNo}
use Rattle.settings_keys.specs.KnownKeys.{HasNoKeyBut}
use Rattle.speaker_settings.specs.PeerSlots.{AreSlots}
use Rattle.speaker_settings.specs.declared.settings.SpeakerSettings.{SpeakerSettings}

-- a number of 32 bits that is not 0, as an AS
abbrev pub IsAsn : Data → Asn → Type 0
IsAsn found asn = IsNumber found asn.0 × (1 ≤ asn.0)

-- four numbers with dots between them, not all 0, as a BGP Identifier
abbrev pub IsIdentifier : Data → ℕ → Type 0
IsIdentifier found identifier =
    (address : Ipv4Addr) × IsSpelled IsIpv4Text found address × (identifier ≡ ipv4_bits address) × (1 ≤ identifier)

-- seconds: a number of 32 bits that is not 0
abbrev pub IsSeconds : Data → ℕ → Type 0
IsSeconds found seconds = IsNumber found seconds × (1 ≤ seconds)

-- seconds that a Retry Interval may be (RFC 8210 section 6)
abbrev pub IsRetry : Data → ℕ → Type 0
IsRetry found seconds = IsNumber found seconds × (1 ≤ seconds) × (seconds ≤ 7200)

-- seconds of a timer that a peer may have: a number of 16 bits that is not 0
abbrev pub IsShortSeconds : Data → ℕ → Type 0
IsShortSeconds found seconds = IsNumber found seconds × (1 ≤ seconds) × (seconds < 2 ^ 16)

-- a number of the 64 slots
abbrev pub IsSlot : Data → ℕ → Type 0
IsSlot found slot = IsNumber found slot × (slot < 64)

-- the keys of the settings, and of each peer's table
abbrev pub keys_of_a_speaker : List (List ℕ)
keys_of_a_speaker = codes "as" ∷ codes "identifier" ∷ codes "commands" ∷ codes "slurm" ∷ codes "cache" ∷ codes "multiprotocol" ∷ codes "listen" ∷ codes "control" ∷ codes "send_hold" ∷ codes "open_wait" ∷ codes "log" ∷ codes "status" ∷ codes "metrics" ∷ codes "cache_retry" ∷ codes "wait_for_cache" ∷ codes "peer" ∷ []

abbrev pub keys_of_a_peer : List (List ℕ)
keys_of_a_peer = codes "slot" ∷ codes "remote" ∷ codes "connect_retry" ∷ codes "idle_hold" ∷ []

-- a text, as a string that has it
abbrev pub IsTextOf : Data → String Global → Type 0
IsTextOf found string = IsText found (string_bytes string)

-- a table of a slot and where its peer is, and of nothing else but that peer's timers
abbrev pub IsPeer : Data → ℕ × Address → Type 0
IsPeer found peer =
    (table : Members) × (as_table found ≡ Some table) × HasNoKeyBut keys_of_a_peer table
    × IsTold IsSlot (get_member (codes "slot") table) peer.0 × IsTold IsAddress (get_member (codes "remote") table) peer.1

-- tables of these peers, in order
abbrev pub ArePeers : Items → List (ℕ × Address) → Type 0
ArePeers no_items [] = ⊤
ArePeers no_items (peer ∷ peers) = ⊥
ArePeers (item found entries) [] = ⊥
ArePeers (item found entries) (peer ∷ peers) = IsPeer found peer × ArePeers entries peers

-- an array of such tables, with no slot twice; without the key there are no peers
abbrev pub ArePeersAt : Option Data → List (ℕ × Address) → Type 0
ArePeersAt None peers = peers ≡ []
ArePeersAt (Some found) peers = (entries : Items) × (as_array found ≡ Some entries) × ArePeers entries peers × AreSlots peers

-- a table of a slot and of the timers of its peer, which are the usual ones where the table doesn't tell them
abbrev pub IsSlotTimers : Data → ℕ × PeerTimers → Type 0
IsSlotTimers found told =
    (table : Members) × (as_table found ≡ Some table) × IsTold IsSlot (get_member (codes "slot") table) told.0
    × IsToldOrUsual IsShortSeconds usual.connect_retry (get_member (codes "connect_retry") table) told.1.connect_retry
    × IsToldOrUsual IsShortSeconds usual.idle_hold (get_member (codes "idle_hold") table) told.1.idle_hold

-- tables of these timers, in order
abbrev pub AreTimers : Items → List (ℕ × PeerTimers) → Type 0
AreTimers no_items [] = ⊤
AreTimers no_items (told ∷ timers) = ⊥
AreTimers (item found entries) [] = ⊥
AreTimers (item found entries) (told ∷ timers) = IsSlotTimers found told × AreTimers entries timers

-- an array of such tables; without the key there are no peers
abbrev pub AreTimersAt : Option Data → List (ℕ × PeerTimers) → Type 0
AreTimersAt None timers = timers ≡ []
AreTimersAt (Some found) timers = (entries : Items) × (as_array found ≡ Some entries) × AreTimers entries timers

-- the settings are what stands at their keys, and there are no others
pub record IsToldBy (table : Members) (settings : SpeakerSettings) : Type 0 where
  pub keys : HasNoKeyBut keys_of_a_speaker table
  pub asn : IsTold IsAsn (get_member (codes "as") table) settings.asn
  pub identifier : IsTold IsIdentifier (get_member (codes "identifier") table) settings.identifier
  pub commands : IsTold IsText (get_member (codes "commands") table) (string_bytes settings.commands)
  pub slurm : IsToldIfThere IsTextOf (get_member (codes "slurm") table) settings.slurm
  pub cache : IsToldIfThere IsAddress (get_member (codes "cache") table) settings.cache
  pub multiprotocol : IsToldOrUsual IsYesOrNo false (get_member (codes "multiprotocol") table) settings.multiprotocol
  pub listen : IsToldIfThere IsAddress (get_member (codes "listen") table) settings.listen
  pub control : IsToldIfThere IsTextOf (get_member (codes "control") table) settings.control
  pub send_hold : IsToldOrUsual IsSeconds 480 (get_member (codes "send_hold") table) settings.send_hold
  pub open_wait : IsToldIfThere IsSeconds (get_member (codes "open_wait") table) settings.open_wait
  pub log : IsToldOrUsual IsYesOrNo false (get_member (codes "log") table) settings.log
  pub status : IsToldIfThere IsSeconds (get_member (codes "status") table) settings.status
  pub metrics : IsToldIfThere IsAddress (get_member (codes "metrics") table) settings.metrics
  pub cache_retry : IsToldIfThere IsRetry (get_member (codes "cache_retry") table) settings.cache_retry
  pub wait_for_cache : IsToldIfThere IsSeconds (get_member (codes "wait_for_cache") table) settings.wait_for_cache
  pub peers : ArePeersAt (get_member (codes "peer") table) settings.peers.items
  pub timers : AreTimersAt (get_member (codes "peer") table) settings.timers.items
