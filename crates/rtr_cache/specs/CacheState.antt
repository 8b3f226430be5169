-- What an event makes of a cache: each client's end goes by its table, and events of one client change no other (RFC 8210 sections 5 to 8).
use Rattle.std.specs.Prelude.{◌≡◌, ◌≢◌, ◌⊎◌, ◌<◌, ◌≤◌, ◌++◌, ◌+◌, ℕ, Bool, true, false, List, [], Option, Some, None, IfSome, Result, Ok, Err, count_by, drop, if◌then◌else◌, is_some, length, min, slice_index_or, take}
use Rattle.std.specs.Option.{option_map}
use Rattle.net_prefix.specs.declared.payload.Vrp.{Vrp}
use Rattle.net_prefix.specs.declared.transport.Transport.{Transport}
use Rattle.net_prefix.specs.declared.transport.Transport.TheVariants as transports
use Rattle.rtr_cache.specs.CacheLimits.{most_clients, ring_octets, room_for_pdu}
use Rattle.rtr_cache.specs.CacheTable.{Conn, Shared, fresh_conn, hands_out, hears_octets, notified, pumped}
use Rattle.rtr_codec.specs.Intervals.{are_lawful}
use Rattle.rtr_codec.specs.declared.intervals.Intervals.{Intervals}
use Rattle.rtr_cache.specs.declared.event.CacheReport.{CacheReport}
use Rattle.rtr_cache.specs.declared.other_session.OtherSession.{OtherSession}
use Rattle.rtr_cache.specs.declared.refusal.CacheRefusal.{CacheRefusal}
use Rattle.rtr_cache.specs.declared.refusal.CacheRefusal.TheVariants.{NoClient, Full, ClockBack, NoMemory, Range}
use Rattle.vrp_delta.specs.Versions.{is_newest_set, kept_after, newest_serial}

-- what all clients share, and the end of each client's connection by its key
pub record CacheState : Type 0 where
  pub shared : Shared
  pub clients : List (Option Conn)

-- the client of a key
abbrev pub client_at : CacheState → ℕ → Option Conn
client_at cache key = slice_index_or cache.clients key None

-- how many clients there are
abbrev pub client_count : CacheState → ℕ
client_count cache = count_by is_some cache.clients

-- every client but that of the key stays as it was
abbrev pub OthersStay : CacheState → ℕ → CacheState → Type 0
OthersStay old key new = (other : ℕ) → other ≢ key → client_at new other ≡ client_at old other

-- a cache that has published nothing and has no clients, at the moment 0
abbrev pub empty_cache : ℕ → Intervals → OtherSession → CacheState
empty_cache session intervals other_session =
    record { shared = record { session = session; intervals = intervals; other_session = other_session; kept = []; withdrawn = false; now = 0 }; clients = [] }

-- a new cache: it is refused where its intervals aren't lawful, or by want of memory
abbrev pub IsNew : ℕ → Intervals → OtherSession → Result CacheState CacheRefusal → Type 0
IsNew session intervals other_session (Ok cache) = (are_lawful intervals ≡ true) × (cache ≡ empty_cache session intervals other_session)
IsNew session intervals other_session (Err why) =
    ((why ≡ Range) × (are_lawful intervals ≡ false)) ⊎ ((why ≡ NoMemory) × (are_lawful intervals ≡ true))

-- what a report tells
abbrev pub tells_nothing : CacheReport
tells_nothing = record { client = None; serial = None }

abbrev pub tells_client : ℕ → CacheReport
tells_client key = record { client = Some key; serial = None }

abbrev pub tells_serial : ℕ → CacheReport
tells_serial serial = record { client = None; serial = Some serial }

-- at a Load and at a Tick each client gets a Notify, where it is to get one, and what its response has left
abbrev pub AllAreNotified : CacheState → CacheState → Type 0
AllAreNotified old new = (key : ℕ) → client_at new key ≡ option_map (λ conn. pumped (notified new.shared conn)) (client_at old key)

-- a set is published, which no longer is withdrawn, and each client notified; memory may be refused where the set is news
abbrev pub Loads : CacheState → List Vrp → Result CacheReport CacheRefusal → CacheState → Type 0
Loads old set (Ok report) new =
    (new.shared ≡ record old.shared { kept = kept_after old.shared.kept set; withdrawn = false })
    × AllAreNotified old new × (report ≡ tells_serial (newest_serial new.shared.kept))
Loads old set (Err why) new = (why ≡ NoMemory) × (is_newest_set old.shared.kept set ≡ false)

-- the set is withdrawn until one is loaded (our own): no client changes, and a response that has begun goes on; it is never refused
abbrev pub Withdraws : CacheState → Result CacheReport CacheRefusal → CacheState → Type 0
Withdraws old (Ok report) new = (new ≡ record old { shared = record old.shared { withdrawn = true } }) × (report ≡ tells_nothing)
Withdraws old (Err why) new = ⊥

-- a client comes up under a free key, which is below 256; where there are 256 clients none comes up
abbrev pub ComesUp : CacheState → Result CacheReport CacheRefusal → CacheState → Type 0
ComesUp old (Ok report) new =
    (key : ℕ) × (report ≡ tells_client key) × (client_count old < most_clients) × (key < most_clients) × (client_at old key ≡ None)
    × (client_at new key ≡ Some fresh_conn) × OthersStay old key new × (new.shared ≡ old.shared)
ComesUp old (Err why) new =
    ((why ≡ Full) × (most_clients ≤ client_count old)) ⊎ ((why ≡ NoMemory) × (client_count old < most_clients))

-- octets of a client are heard PDU by PDU (refused says where memory refused what a query needs), and then what its response has left is queued
abbrev pub HearsOctets : CacheState → ℕ → List ℕ → Result CacheReport CacheRefusal → CacheState → Type 0
HearsOctets old key octets (Ok report) new =
    (conn : Conn) × (client_at old key ≡ Some conn)
    × ((refused : List Bool) × (client_at new key ≡ Some (pumped (hears_octets old.shared refused conn octets))))
    × OthersStay old key new × (new.shared ≡ old.shared) × (report ≡ tells_nothing)
HearsOctets old key octets (Err why) new = (why ≡ NoClient) × (client_at old key ≡ None)

-- a client's connection is lost
abbrev pub GoesDown : CacheState → ℕ → Result CacheReport CacheRefusal → CacheState → Type 0
GoesDown old key (Ok report) new =
    (client_at old key ≢ None) × (client_at new key ≡ None) × OthersStay old key new × (new.shared ≡ old.shared)
    × (report ≡ tells_nothing)
GoesDown old key (Err why) new = (why ≡ NoClient) × (client_at old key ≡ None)

-- the moment, which never goes back; each client is notified
abbrev pub Ticks : CacheState → ℕ → Result CacheReport CacheRefusal → CacheState → Type 0
Ticks old now (Ok report) new =
    (old.shared.now ≤ now) × (new.shared ≡ record old.shared { now = now }) × AllAreNotified old new × (report ≡ tells_nothing)
Ticks old now (Err why) new = (why ≡ ClockBack) × (now < old.shared.now)

-- what a take hands out: the first octets of the client's ring, as many as are there and the buffer holds
abbrev pub HandsOut : CacheState → ℕ → List ℕ → Result ℕ CacheRefusal → List ℕ → CacheState → Type 0
HandsOut old key buf (Ok count) buf_after new =
    (conn : Conn) × (client_at old key ≡ Some conn) × (count ≡ min (length buf) (length conn.ring))
    × (buf_after ≡ take count conn.ring ++ drop count buf)
    × (client_at new key ≡ Some (pumped (hands_out count conn)))
    × OthersStay old key new × (new.shared ≡ old.shared)
HandsOut old key buf (Err why) buf_after new = (why ≡ NoClient) × (client_at old key ≡ None)

-- what stands between a client and its connection
abbrev pub transport_of : Option Conn → Transport
transport_of None = transports.None
transport_of (Some conn) = if conn.is_open then transports.Open else transports.Closing

-- whether a client has sent no whole PDU yet
abbrev pub awaits_first_pdu : Option Conn → Bool
awaits_first_pdu None = false
awaits_first_pdu (Some conn) = conn.is_first

-- the serial of the last End of Data that was handed out whole for a client
abbrev pub held_serial : Option Conn → Option ℕ
held_serial None = None
held_serial (Some conn) = conn.handed.serial

-- something is left of a response only where a PDU finds no room
abbrev pub IsAtRest : Conn → Type 0
IsAtRest conn = conn.left ≢ [] → ring_octets < length conn.ring + room_for_pdu

-- so it is of every client
abbrev pub AllAreAtRest : CacheState → Type 0
AllAreAtRest cache = (key : ℕ) → IfSome (client_at cache key) IsAtRest
