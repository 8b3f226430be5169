-- The client's table: what an input makes of a router's end of its session with a cache (RFC 8210 sections 5 to 8 and 12, in this profile). Asked stands after a Serial and after a Reset Query.
--   Off: the reopen timer ends: Opening; where the last connection is still closing the timer begins anew. Fail: the last connection is closed
--   Opening: Up: with a base a Serial Query, else a Reset Query; Asked. Fail: Off
--   Asked, after a Serial Query: Cache Response of the base's session: Loading from the base's payloads; of another: error 0, flush. Cache Reset: Reset Query, Asked
--   Asked, after a Reset Query: Cache Response: Loading from no payloads, its session is taken
--   Asked: Error Report 2: Waiting, query timer
--   Waiting: the query timer ends: a query as at Up
--   Loading: IPv4 Prefix: put in (error 7 if there) or taken out (error 6 if not there). IPv6 Prefix, Router Key: ignored. End of Data of another session: error 0, flush; unlawful intervals: error 0; else commit, refresh and expire timers, Synced
--   Synced: Serial Notify of another session: error 0, flush; of the base's serial: ignored; else Serial Query, Asked. The refresh timer ends: Serial Query, Asked
--   connected: Serial Notify otherwise: ignored. Error Report otherwise: closed without an answer, code 0 also flushes. Any other PDU: error 0
--   connected: a fault: its Error Report; a faulty Error Report: closed without an answer. Refused memory: error 1. A query without room: closed without an answer. Fail: Off
--   the expire timer ends: flush. Asked or Loading after a Serial Query: closed without a report. Synced: Reset Query, Asked
-- An error is an Error Report, after which the session is closing. A session that goes to Off or is closing starts the reopen timer.
-- A timer that ends where no row speaks of it just ends, and any other input leaves all as it is.
use Rattle.std.specs.Prelude.{◌==◌, ◌||◌, ℕ, Bool, true, false, List, [], Option, Some, None, if◌then◌else◌, take}
use Rattle.moments.specs.Moments.{from_now, has_come}
use Rattle.net_prefix.specs.declared.payload.Vrp.{Vrp}
use Rattle.net_prefix.specs.PayloadSets.{has, out, put}
use Rattle.rtr_codec.specs.declared.fault.ErrorCode.{ErrorCode}
use Rattle.rtr_codec.specs.declared.fault.ErrorCode.TheVariants.{CorruptData, InternalError, NoDataAvailable, WithdrawalOfUnknownRecord, DuplicateAnnouncement}
use Rattle.rtr_codec.specs.declared.fault.PduFault.{PduFault}
use Rattle.rtr_codec.specs.declared.fault.PduFault.TheVariants.{Unanswered, Header, Payload}
use Rattle.rtr_codec.specs.declared.intervals.Intervals.{Intervals}
use Rattle.rtr_codec.specs.Intervals.{are_lawful}
use Rattle.rtr_codec.specs.PduFaults.{number_of}
use Rattle.rtr_codec.specs.PduSpelling.{Content, Serial_notify, Serial_query, Reset_query, Cache_response, Announce, Withdraw, Ipv6_prefix, End_of_data, Cache_reset, Router_key, Error_report}
pub use Rattle.rtr_codec.specs.ClientState.{Base, Client, Input, Reply, Stage, in_force, initial, is_connected, payloads_of, transport_at, transport_of}
pub use Rattle.rtr_codec.specs.ClientState.{Off, Opening, Asked_serial, Asked_reset, Waiting, Loading, Synced}
pub use Rattle.rtr_codec.specs.ClientState.{Up, Fail, Heard, Faulty, Tick, No_room, Starved}

-- the most octets of a PDU that a report quotes (own choice)
abbrev pub quoted_octets : ℕ
quoted_octets = 32

abbrev pub quoted_of : List ℕ → List ℕ
quoted_of octets = take quoted_octets octets

-- What rows do.

-- nothing but this change of the client
abbrev pub becomes : Client → Reply
becomes client = record { client = client; said = None; opened = false }

-- this change, and a PDU is said
abbrev pub says : Client → Content → Reply
says client content = record { client = client; said = Some content; opened = false }

-- only the stage changes
abbrev pub goes : Client → Stage → Reply
goes client stage = becomes (record client { stage = stage })

-- the base is forgotten, and no payload is left that could expire
abbrev pub flushed : Client → Client
flushed client = record client { base = None; expire = None }

-- the session goes to Off, and the reopen timer begins. A load in progress is dropped
abbrev pub ended : ℕ → Bool → Client → Client
ended now closing client = record client { stage = Off; closing = closing; reopen = from_now now client.intervals.retry }

-- the session closes, without a word or with an Error Report
abbrev pub closes : ℕ → Client → Reply
closes now client = becomes (ended now true client)

abbrev pub reports : ℕ → Client → ErrorCode → List ℕ → Reply
reports now client code quoted = says (ended now true client) (Error_report (number_of code) quoted)

-- error 0
abbrev pub corrupts : ℕ → Client → List ℕ → Reply
corrupts now client octets = reports now client CorruptData (quoted_of octets)

-- a query: a Serial Query of the base, and where there is none a Reset Query
abbrev pub asks_reset : Client → Reply
asks_reset client = says (record client { stage = Asked_reset }) Reset_query

abbrev pub asks_from : Client → Option Base → Reply
asks_from client None = asks_reset client
asks_from client (Some base) = says (record client { stage = Asked_serial }) (Serial_query base.session base.serial)

abbrev pub asks : Client → Reply
asks client = asks_from client client.base

-- whether a session is that of the base, and a serial that of the base
abbrev pub is_session : Option Base → ℕ → Bool
is_session None session = false
is_session (Some base) session = session == base.session

abbrev pub is_serial : Option Base → ℕ → Bool
is_serial None serial = false
is_serial (Some base) serial = serial == base.serial

-- a load is completed: its payloads are in force, and the refresh and expire timers begin anew
abbrev pub committed : ℕ → Client → ℕ → ℕ → Intervals → List Vrp → Client
committed now client session serial intervals set =
    record client { stage = Synced; base = Some (record { session = session; serial = serial; payloads = set }); intervals = intervals; expire = from_now now intervals.expire; refresh = from_now now intervals.refresh }

-- PDUs that are heard, by the stage.

-- an Error Report is never answered; corrupt data also flushes
abbrev pub hears_report : ℕ → Client → ℕ → Reply
hears_report now client code = closes now (if code == number_of CorruptData then flushed client else client)

-- in Asked: no data is available yet
abbrev pub asked_hears_report : ℕ → Client → ℕ → Reply
asked_hears_report now client code =
    if code == number_of NoDataAvailable then becomes (record client { stage = Waiting; query = from_now now client.intervals.retry })
    else hears_report now client code

abbrev pub hears_asked_serial : ℕ → Client → List ℕ → Content → Reply
hears_asked_serial now client octets (Cache_response session) =
    if is_session client.base session then goes client (Loading true session (payloads_of client.base))
    else corrupts now (flushed client) octets
hears_asked_serial now client octets Cache_reset = asks_reset client
hears_asked_serial now client octets (Error_report code quoted) = asked_hears_report now client code
hears_asked_serial now client octets (Serial_notify session serial) = becomes client
hears_asked_serial now client octets other = corrupts now client octets

abbrev pub hears_asked_reset : ℕ → Client → List ℕ → Content → Reply
hears_asked_reset now client octets (Cache_response session) = goes client (Loading false session [])
hears_asked_reset now client octets (Error_report code quoted) = asked_hears_report now client code
hears_asked_reset now client octets (Serial_notify session serial) = becomes client
hears_asked_reset now client octets other = corrupts now client octets

abbrev pub hears_waiting : ℕ → Client → List ℕ → Content → Reply
hears_waiting now client octets (Error_report code quoted) = hears_report now client code
hears_waiting now client octets (Serial_notify session serial) = becomes client
hears_waiting now client octets other = corrupts now client octets

-- the end of a load of this session (RFC 8210 section 5.8)
abbrev pub ends_load : ℕ → Client → List ℕ → ℕ → List Vrp → ℕ → ℕ → Intervals → Reply
ends_load now client octets own set session serial intervals =
    if session == own
    then (if are_lawful intervals then becomes (committed now client session serial intervals set) else corrupts now client octets)
    else corrupts now (flushed client) octets

abbrev pub hears_loading : ℕ → Client → List ℕ → Bool → ℕ → List Vrp → Content → Reply
hears_loading now client octets serially own set (Announce payload) =
    if has set payload then reports now client DuplicateAnnouncement (quoted_of octets)
    else goes client (Loading serially own (put payload set))
hears_loading now client octets serially own set (Withdraw payload) =
    if has set payload then goes client (Loading serially own (out payload set))
    else reports now client WithdrawalOfUnknownRecord (quoted_of octets)
hears_loading now client octets serially own set (Ipv6_prefix body) = becomes client
hears_loading now client octets serially own set (Router_key body) = becomes client
hears_loading now client octets serially own set (End_of_data session serial intervals) = ends_load now client octets own set session serial intervals
hears_loading now client octets serially own set (Error_report code quoted) = hears_report now client code
hears_loading now client octets serially own set (Serial_notify session serial) = becomes client
hears_loading now client octets serially own set other = corrupts now client octets

abbrev pub hears_notify : ℕ → Client → List ℕ → ℕ → ℕ → Reply
hears_notify now client octets session serial =
    if is_session client.base session then (if is_serial client.base serial then becomes client else asks client)
    else corrupts now (flushed client) octets

abbrev pub hears_synced : ℕ → Client → List ℕ → Content → Reply
hears_synced now client octets (Serial_notify session serial) = hears_notify now client octets session serial
hears_synced now client octets (Error_report code quoted) = hears_report now client code
hears_synced now client octets other = corrupts now client octets

abbrev pub hears_at : Stage → ℕ → Client → List ℕ → Content → Reply
hears_at Off now client octets content = becomes client
hears_at Opening now client octets content = becomes client
hears_at Asked_serial now client octets content = hears_asked_serial now client octets content
hears_at Asked_reset now client octets content = hears_asked_reset now client octets content
hears_at Waiting now client octets content = hears_waiting now client octets content
hears_at (Loading serially own set) now client octets content = hears_loading now client octets serially own set content
hears_at Synced now client octets content = hears_synced now client octets content

-- a fault on a connection
abbrev pub hears_fault : ℕ → Client → List ℕ → PduFault → Reply
hears_fault now client octets Unanswered = closes now client
hears_fault now client octets (Header code) = reports now client code (quoted_of octets)
hears_fault now client octets Payload = corrupts now client octets

-- The connection.

-- the connection stands
abbrev pub comes_up : Stage → Client → Reply
comes_up Opening client = asks client
comes_up other client = becomes client

-- the connection, or the attempt, has failed. In Off no timer begins
abbrev pub fails : Stage → ℕ → Client → Reply
fails Off now client = becomes (record client { closing = false })
fails other now client = becomes (ended now false client)

-- The ends of timers.

-- the expire timer: the base is flushed already
abbrev pub expires : Stage → ℕ → Client → Reply
expires Asked_serial now client = closes now client
expires (Loading true own set) now client = closes now client
expires Synced now client = asks_reset client
expires other now client = becomes client

-- the refresh timer
abbrev pub refreshes : Stage → Client → Reply
refreshes Synced client = asks client
refreshes other client = becomes client

-- the query timer
abbrev pub asks_again : Stage → Client → Reply
asks_again Waiting client = asks client
asks_again other client = becomes client

-- the reopen timer
abbrev pub reopens_off : Bool → ℕ → Client → Reply
reopens_off true now client = becomes (record client { reopen = from_now now client.intervals.retry })
reopens_off false now client = record { client = record client { stage = Opening }; said = None; opened = true }

abbrev pub reopens : Stage → ℕ → Client → Reply
reopens Off now client = reopens_off client.closing now client
reopens other now client = becomes client

-- each of them, if it has ended
abbrev pub expire_ends : ℕ → Client → Reply
expire_ends now client = if has_come client.expire now then expires client.stage now (flushed client) else becomes client

abbrev pub refresh_ends : ℕ → Client → Reply
refresh_ends now client = if has_come client.refresh now then refreshes client.stage (record client { refresh = None }) else becomes client

abbrev pub query_ends : ℕ → Client → Reply
query_ends now client = if has_come client.query now then asks_again client.stage (record client { query = None }) else becomes client

abbrev pub reopen_ends : ℕ → Client → Reply
reopen_ends now client = if has_come client.reopen now then reopens client.stage now (record client { reopen = None }) else becomes client

-- one row and then another, with the PDU of the first that says one
abbrev pub first_said : Option Content → Option Content → Option Content
first_said None later = later
first_said (Some content) later = Some content

abbrev pub along : Reply → Reply → Reply
along first second = record { client = second.client; said = first_said first.said second.said; opened = first.opened || second.opened }

abbrev pub then_row : Reply → (Client → Reply) → Reply
then_row reply next = along reply (next reply.client)

-- a tick is the rows of the timers that it ends, each once, in this order
abbrev pub ticks : ℕ → Client → Reply
ticks now client = then_row (then_row (then_row (expire_ends now client) (refresh_ends now)) (query_ends now)) (reopen_ends now)

-- one input is one row, at this moment in seconds
unfoldable pub row : ℕ → Client → Input → Reply
row now client Up = comes_up client.stage client
row now client Fail = fails client.stage now client
row now client (Heard content octets) = hears_at client.stage now client octets content
row now client (Faulty fault octets) = if is_connected client.stage then hears_fault now client octets fault else becomes client
row now client Tick = ticks now client
row now client No_room = if is_connected client.stage then closes now client else becomes client
row now client Starved = if is_connected client.stage then reports now client InternalError [] else becomes client
