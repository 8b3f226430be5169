-- The cache's table: what a PDU of a client's makes of the cache's end of its connection (RFC 8210 sections 5 to 8 and 12). The first row that holds counts:
--   an Error Report: closed without an answer
--   a fault: its Error Report, closed
--   other than a query: error 3, closed
--   a query while a response isn't wholly queued: error 3, closed
--   a query before the first load, or while the set is withdrawn (our own): error 2; the connection stays
--   a Serial Query of another session: error 0, closed; where the cache was made so (our own), a Cache Reset
--   a Serial Query, the serial is kept: a response, with what changed since
--   a Serial Query, the serial isn't kept: a Cache Reset
--   a Reset Query: a response, with all payloads
use Rattle.std.specs.Prelude.{◌+◌, ◌==◌, ◌&&◌, ℕ, nat_le, if◌then◌else◌, Bool, true, false, not, List, [], ◌∷◌, ◌++◌, Option, Some, None, take, drop, length}
use Rattle.rtr_codec.specs.declared.fault.ErrorCode.{ErrorCode}
use Rattle.rtr_codec.specs.declared.fault.ErrorCode.TheVariants.{CorruptData, InternalError, NoDataAvailable, InvalidRequest}
use Rattle.rtr_codec.specs.declared.fault.PduFault.{PduFault}
use Rattle.rtr_codec.specs.declared.fault.PduFault.TheVariants.{Unanswered, Header, Payload}
use Rattle.rtr_codec.specs.declared.intervals.Intervals.{Intervals}
use Rattle.rtr_codec.specs.declared.place.End.TheVariants.{Cache}
use Rattle.rtr_codec.specs.declared.place.Place.{Place}
use Rattle.rtr_codec.specs.PduFaults.{number_of}
use Rattle.rtr_codec.specs.PduSpelling.{Content, Serial_notify, Serial_query, Reset_query, Cache_response, Announce, Withdraw, Ipv6_prefix, End_of_data, Cache_reset, Router_key, Error_report, spelling}
use Rattle.rtr_codec.specs.PduStream.{Item, WholePdu, FaultyPdu, pdus_from, unread_from}
use Rattle.rtr_codec.specs.Responses.{response}
use Rattle.rtr_cache.specs.CacheLimits.{quoted_octets, ring_octets, room_for_pdu, seconds_between_notifies}
use Rattle.rtr_cache.specs.HandedOut.{Handed, handing, nothing_handed}
use Rattle.rtr_cache.specs.declared.other_session.OtherSession.{OtherSession}
use Rattle.rtr_cache.specs.declared.other_session.OtherSession.TheVariants.{Report, Reset}
use Rattle.vrp_delta.specs.Versions.{Version, newest_serial, version_of}

-- what all connections of a cache share: its session, what each End of Data tells, what a Serial Query of another session is answered with, the kept versions with the newest first, whether the set is withdrawn, and the moment
pub record Shared : Type 0 where
  pub session : ℕ
  pub intervals : Intervals
  pub other_session : OtherSession
  pub kept : List Version
  pub withdrawn : Bool
  pub now : ℕ

-- the versions by which queries are answered: none while the set is withdrawn (our own). They are kept: serials go on behind the next load
abbrev pub offered : Shared → List Version
offered shared = if shared.withdrawn then [] else shared.kept

-- the cache's end of one connection
pub record Conn : Type 0 where
  pub is_open : Bool  -- the cache has not closed it
  pub is_first : Bool  -- no PDU of it was read
  pub unread : List ℕ  -- what came and no PDU has taken
  pub ring : List ℕ  -- what is queued and not yet taken
  pub left : List Content  -- what is still to be said of the response in progress
  pub told : Option ℕ  -- the serial that the client was told last, by an End of Data or a Notify
  pub notified : Option ℕ  -- the moment of the last Notify
  pub handed : Handed  -- what was handed out, as the router reads it

-- a connection that has just come up
abbrev pub fresh_conn : Conn
fresh_conn = record { is_open = true; is_first = true; unread = []; ring = []; left = []; told = None; notified = None; handed = nothing_handed }

-- where on the connection the next PDU stands
abbrev pub place_of : Conn → Place
place_of conn = record { end = Cache; is_first = conn.is_first; has_response = false }

-- the ring has room for a PDU
abbrev pub has_room : List ℕ → Bool
has_room ring = nat_le (length ring + room_for_pdu) ring_octets

-- the cache closes the connection. What is queued can still be taken; nothing more is read or said
abbrev pub closed : Conn → Conn
closed conn = record conn { is_open = false; unread = []; left = [] }

-- what an Error Report quotes of the PDU at fault
abbrev pub quoted_of : List ℕ → List ℕ
quoted_of octets = take quoted_octets octets

-- the connection closes with an Error Report
abbrev pub fails : Conn → ErrorCode → List ℕ → Conn
fails conn code quoted = record (closed conn) { ring = conn.ring ++ spelling (Error_report (number_of code) quoted) }

-- an answer of one PDU after which the connection stays; without room for it the connection closes
abbrev pub answers : Conn → Content → Conn
answers conn content = if has_room conn.ring then record conn { ring = conn.ring ++ spelling content } else closed conn

-- a response begins; refused: memory refused what it needs
abbrev pub begins : Bool → Conn → List Content → Conn
begins refused conn contents = if refused then fails conn InternalError [] else record conn { left = contents }

-- a Serial Query of this session, the serial isn't kept: a Cache Reset; the serial is kept: a response, with what changed since
abbrev pub serial_answer : Shared → Bool → Conn → Version → Option Version → Conn
serial_answer shared refused conn newest None = answers conn Cache_reset
serial_answer shared refused conn newest (Some old) = begins refused conn (response shared.session shared.intervals newest old.set)

-- a Serial Query of another session: error 0, closed (RFC 8210 section 5.1); or a Cache Reset, as where the serial isn't kept (our own)
abbrev pub other_session_answer : OtherSession → Conn → List ℕ → Conn
other_session_answer Report conn octets = fails conn CorruptData (quoted_of octets)
other_session_answer Reset conn octets = answers conn Cache_reset

-- a Serial Query where no version is offered: error 2; else by its session
abbrev pub serial_query : Shared → Bool → Conn → List ℕ → ℕ → ℕ → List Version → Conn
serial_query shared refused conn octets session serial [] = answers conn (Error_report (number_of NoDataAvailable) (quoted_of octets))
serial_query shared refused conn octets session serial (newest ∷ older) =
    if session == shared.session then serial_answer shared refused conn newest (version_of (newest ∷ older) serial)
    else other_session_answer shared.other_session conn octets

-- a Reset Query where no version is offered: error 2; else a response, with all payloads
abbrev pub reset_query : Shared → Bool → Conn → List ℕ → List Version → Conn
reset_query shared refused conn octets [] = answers conn (Error_report (number_of NoDataAvailable) (quoted_of octets))
reset_query shared refused conn octets (newest ∷ older) = begins refused conn (response shared.session shared.intervals newest [])

-- a query while a response isn't wholly queued is busy, else idle
abbrev pub unless_busy : List Content → Conn → Conn → Conn
unless_busy [] busy idle = idle
unless_busy (content ∷ contents) busy idle = busy

-- a whole PDU: an Error Report closes without an answer; a query goes by the rows above, or is error 3 where a response is in progress; any other is error 3
abbrev pub hears_pdu : Shared → Bool → Conn → List ℕ → Content → Conn
hears_pdu shared refused conn octets (Error_report code quoted) = closed conn
hears_pdu shared refused conn octets (Serial_query session serial) =
    unless_busy conn.left (fails conn InvalidRequest (quoted_of octets)) (serial_query shared refused conn octets session serial (offered shared))
hears_pdu shared refused conn octets Reset_query =
    unless_busy conn.left (fails conn InvalidRequest (quoted_of octets)) (reset_query shared refused conn octets (offered shared))
hears_pdu shared refused conn octets (Serial_notify session serial) = fails conn InvalidRequest (quoted_of octets)
hears_pdu shared refused conn octets (Cache_response session) = fails conn InvalidRequest (quoted_of octets)
hears_pdu shared refused conn octets (Announce payload) = fails conn InvalidRequest (quoted_of octets)
hears_pdu shared refused conn octets (Withdraw payload) = fails conn InvalidRequest (quoted_of octets)
hears_pdu shared refused conn octets (Ipv6_prefix body) = fails conn InvalidRequest (quoted_of octets)
hears_pdu shared refused conn octets (End_of_data session serial intervals) = fails conn InvalidRequest (quoted_of octets)
hears_pdu shared refused conn octets Cache_reset = fails conn InvalidRequest (quoted_of octets)
hears_pdu shared refused conn octets (Router_key body) = fails conn InvalidRequest (quoted_of octets)

-- a fault: its Error Report, closed; a faulty Error Report isn't answered
abbrev pub hears_fault : Conn → List ℕ → PduFault → Conn
hears_fault conn octets Unanswered = closed conn
hears_fault conn octets (Header code) = fails conn code (quoted_of octets)
hears_fault conn octets Payload = fails conn CorruptData (quoted_of octets)

abbrev pub hears_item : Shared → Bool → Conn → Item → Conn
hears_item shared refused conn (WholePdu content octets) = hears_pdu shared refused conn octets content
hears_item shared refused conn (FaultyPdu fault octets) = hears_fault conn octets fault

-- one PDU or its fault is one row; what comes on a closed connection is dropped
abbrev pub hears : Shared → Bool → Conn → Item → Conn
hears shared refused conn item = if conn.is_open then hears_item shared refused (record conn { is_first = false }) item else conn

-- whether memory refused what the first of some PDUs needs, and the same of those behind it; none where the list has ended
abbrev pub first_refused : List Bool → Bool
first_refused [] = false
first_refused (refused ∷ more) = refused

-- PDUs one after another
abbrev pub hears_all : Shared → List Bool → Conn → List Item → Conn
hears_all shared refused conn [] = conn
hears_all shared refused conn (item ∷ items) = hears_all shared (drop 1 refused) (hears shared (first_refused refused) conn item) items

-- what octets that come behind some unread ones make of an open connection: the PDUs that they complete are heard, the rest of them stays unread
abbrev pub hears_from : Shared → List Bool → Conn → Place → List ℕ → List ℕ → Conn
hears_from shared refused conn place part octets =
    hears_all shared refused (record conn { unread = unread_from place part octets }) (pdus_from place part octets)

-- what octets that come make of an open connection
abbrev pub hears_open : Shared → List Bool → Conn → List ℕ → Conn
hears_open shared refused conn octets = hears_from shared refused conn (place_of conn) conn.unread octets

-- what octets that come make of a connection
abbrev pub hears_octets : Shared → List Bool → Conn → List ℕ → Conn
hears_octets shared refused conn octets = if conn.is_open then hears_open shared refused conn octets else conn

-- the serial that a client was told, once a PDU is queued
abbrev pub told_by : Content → Option ℕ → Option ℕ
told_by (End_of_data session serial intervals) told = Some serial
told_by (Serial_notify session serial) told = Some serial
told_by (Serial_query session serial) told = told
told_by Reset_query told = told
told_by (Cache_response session) told = told
told_by (Announce payload) told = told
told_by (Withdraw payload) told = told
told_by (Ipv6_prefix body) told = told
told_by Cache_reset told = told
told_by (Router_key body) told = told
told_by (Error_report code quoted) told = told

-- a PDU of a response is queued
abbrev pub queued : Conn → Content → Conn
queued conn content = record conn { ring = conn.ring ++ spelling content; told = told_by content conn.told }

-- the end of each step and take: what is left of a response is queued while there is room
abbrev pub queues : Conn → List Content → Conn
queues conn [] = record conn { left = [] }
queues conn (content ∷ contents) =
    if has_room conn.ring then queues (queued conn content) contents else record conn { left = content ∷ contents }

abbrev pub pumped : Conn → Conn
pumped conn = queues conn conn.left

-- the first octets of the ring are handed out
abbrev pub hands_out : ℕ → Conn → Conn
hands_out count conn = record conn { ring = drop count conn.ring; handed = handing (take count conn.ring) conn.handed }

-- the newest serial isn't the one that the client was told; a client that was told none waits for its first response
abbrev pub is_news : List Version → Option ℕ → Bool
is_news kept None = false
is_news kept (Some serial) = not (newest_serial kept == serial)

-- no Notify went too lately (RFC 8210 section 5.2)
abbrev pub is_due : ℕ → Option ℕ → Bool
is_due now None = true
is_due now (Some moment) = nat_le (moment + seconds_between_notifies) now

-- no response is in progress
abbrev pub is_idle : List Content → Bool
is_idle [] = true
is_idle (content ∷ contents) = false

-- whether the client gets a Notify: none while the set is withdrawn
abbrev pub wants_notify : Shared → Conn → Bool
wants_notify shared conn =
    conn.is_open && (not shared.withdrawn && (is_news shared.kept conn.told && (is_idle conn.left && (is_due shared.now conn.notified && has_room conn.ring))))

-- at a Load and at a Tick: a Serial Notify, where the client is to get one
abbrev pub notified : Shared → Conn → Conn
notified shared conn =
    if wants_notify shared conn
    then record (queued conn (Serial_notify shared.session (newest_serial shared.kept))) { notified = Some shared.now }
    else conn
