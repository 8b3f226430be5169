-- What the rows of the client's table say, and behind which of them the connection stands.
use Rattle.std.proofs.Common.{◌≡◌, ◌≢◌, ◌≤◌, ◌⊎◌, inl, inr, ◌==◌, ℕ, Bool, true, false, List, [], length, Option, Some, None, if◌then◌else◌, refl, arith}
use Rattle.std.proofs.lemmas.List.{length-take}
use Rattle.moments.specs.Moments.{from_now, has_come}
use Rattle.net_prefix.specs.PayloadSets.{has, out, put}
use Rattle.net_prefix.specs.declared.payload.Vrp.{Vrp}
use Rattle.net_prefix.specs.declared.transport.Transport.TheVariants.{Open as Connected}
use Rattle.rtr_codec.specs.declared.fault.ErrorCode.{ErrorCode}
use Rattle.rtr_codec.specs.declared.fault.ErrorCode.TheVariants.{CorruptData, InternalError, NoDataAvailable, WithdrawalOfUnknownRecord, DuplicateAnnouncement}
use Rattle.rtr_codec.specs.declared.fault.PduFault.{PduFault}
use Rattle.rtr_codec.specs.declared.fault.PduFault.TheVariants.{Unanswered, Header, Payload}
use Rattle.rtr_codec.specs.Intervals.{are_lawful}
use Rattle.rtr_codec.specs.ClientTable.{Base, Client, Input, Reply, Stage, Off, Opening, Asked_serial, Asked_reset, Waiting, Loading, Synced, Up, Fail, Heard, Faulty, Tick, No_room, Starved, in_force, is_connected, payloads_of, row, transport_at, transport_of, asks, asks_from, becomes, closes, corrupts, goes, reports, flushed, is_session, is_serial, expires, expire_ends, fails, refresh_ends, refreshes, query_ends, asks_again, reopen_ends, reopens, reopens_off, ticks, then_row, first_said, comes_up, hears_at, hears_fault, hears_asked_serial, hears_asked_reset, hears_waiting, hears_loading, hears_synced, hears_report, asked_hears_report, committed, quoted_of}
use Rattle.rtr_codec.specs.PduFaults.{number_of}
use Rattle.rtr_codec.specs.PduSpelling.{Content, Serial_notify, Cache_response, Announce, Withdraw, Ipv6_prefix, End_of_data, Cache_reset, Router_key, Error_report, length_of}
use Rattle.rtr_session.specs.SessionState.{is_query}

-- one of two replies
pub either : (P : Reply → Type 0) (test : Bool) (x y : Reply) → P x → P y → P (if test then x else y)
either P true x y h k = h
either P false x y h k = k

-- a client in this stage
abbrev pub at_stage : Stage → Client → Client
at_stage stage c = record c { stage = stage }

-- What rows say.

-- what a row says is a query, or an Error Report with which a connection that stood is closed
abbrev pub Says : Option Content → Client → Client → Type 0
Says None before after = Unit {0}
Says (Some content) before after =
    ((is_query content ≡ true) × (length_of content ≤ 12))
    ⊎ ((length_of content ≤ 48) × (transport_of before ≡ Connected) × (transport_of after ≢ Connected))

abbrev Fits : Client → Reply → Type 0
Fits before reply = Says reply.said before reply.client

-- it says a query or nothing
abbrev SaysQuery : Option Content → Type 0
SaysQuery None = Unit {0}
SaysQuery (Some content) = (is_query content ≡ true) × (length_of content ≤ 12)

query_says : (said : Option Content) (before after : Client) → SaysQuery said → Says said before after
query_says None before after h = tt
query_says (Some content) before after h = inl h

quoted_short : (octets : List ℕ) → length (quoted_of octets) ≤ 32
quoted_short octets = omega (arith, length-take 32 octets)

asks_from_says : (base : Option Base) (c : Client) → SaysQuery (asks_from c base).said
asks_from_says None c = (refl, omega arith)
asks_from_says (Some base) c = (refl, omega arith)

asks_fits : (before c : Client) → Fits before (asks c)
asks_fits before c = query_says (asks c).said before (asks c).client (asks_from_says c.base c)

reports_fits : (now : ℕ) (before c : Client) (code : ErrorCode) (quoted : List ℕ) → transport_of before ≡ Connected → length quoted ≤ 32 → Fits before (reports now c code quoted)
reports_fits now before c code quoted connected short = inr (omega arith, connected, λ e. cc)

corrupts_fits : (now : ℕ) (before c : Client) (octets : List ℕ) → transport_of before ≡ Connected → Fits before (corrupts now c octets)
corrupts_fits now before c octets connected = reports_fits now before c CorruptData (quoted_of octets) connected (quoted_short octets)

report_fits : (now : ℕ) (before c : Client) (code : ℕ) → Fits before (hears_report now c code)
report_fits now before c code = tt

asked_report_fits : (now : ℕ) (before c : Client) (code : ℕ) → Fits before (asked_hears_report now c code)
asked_report_fits now before c code =
    either (Fits before) (code == number_of NoDataAvailable) (becomes (record c { stage = Waiting; query = from_now now c.intervals.retry })) (hears_report now c code) tt tt

asked_serial_fits : (now : ℕ) (before c : Client) (octets : List ℕ) (content : Content) → transport_of before ≡ Connected → Fits before (hears_asked_serial now c octets content)
asked_serial_fits now before c octets (Cache_response session) connected =
    either (Fits before) (is_session c.base session) (goes c (Loading true session (payloads_of c.base))) (corrupts now (flushed c) octets) tt (corrupts_fits now before (flushed c) octets connected)
asked_serial_fits now before c octets Cache_reset connected = inl (refl, omega arith)
asked_serial_fits now before c octets (Error_report code quoted) connected = asked_report_fits now before c code
asked_serial_fits now before c octets (Serial_notify session serial) connected = tt
asked_serial_fits now before c octets other connected = corrupts_fits now before c octets connected

asked_reset_fits : (now : ℕ) (before c : Client) (octets : List ℕ) (content : Content) → transport_of before ≡ Connected → Fits before (hears_asked_reset now c octets content)
asked_reset_fits now before c octets (Cache_response session) connected = tt
asked_reset_fits now before c octets (Error_report code quoted) connected = asked_report_fits now before c code
asked_reset_fits now before c octets (Serial_notify session serial) connected = tt
asked_reset_fits now before c octets other connected = corrupts_fits now before c octets connected

waiting_fits : (now : ℕ) (before c : Client) (octets : List ℕ) (content : Content) → transport_of before ≡ Connected → Fits before (hears_waiting now c octets content)
waiting_fits now before c octets (Error_report code quoted) connected = tt
waiting_fits now before c octets (Serial_notify session serial) connected = tt
waiting_fits now before c octets other connected = corrupts_fits now before c octets connected

loading_fits :
    (now : ℕ) (before c : Client) (octets : List ℕ) (serially : Bool) (own : ℕ) (set : List Vrp) (content : Content) → transport_of before ≡ Connected
    → Fits before (hears_loading now c octets serially own set content)
loading_fits now before c octets serially own set (Announce payload) connected =
    either (Fits before) (has set payload) (reports now c DuplicateAnnouncement (quoted_of octets)) (goes c (Loading serially own (put payload set)))
    (reports_fits now before c DuplicateAnnouncement (quoted_of octets) connected (quoted_short octets)) tt
loading_fits now before c octets serially own set (Withdraw payload) connected =
    either (Fits before) (has set payload) (goes c (Loading serially own (out payload set))) (reports now c WithdrawalOfUnknownRecord (quoted_of octets)) tt
    (reports_fits now before c WithdrawalOfUnknownRecord (quoted_of octets) connected (quoted_short octets))
loading_fits now before c octets serially own set (Ipv6_prefix body) connected = tt
loading_fits now before c octets serially own set (Router_key body) connected = tt
loading_fits now before c octets serially own set (End_of_data session serial intervals) connected =
    either (Fits before) (session == own) (if are_lawful intervals then becomes (committed now c session serial intervals set) else corrupts now c octets) (corrupts now (flushed c) octets)
    (either (Fits before) (are_lawful intervals) (becomes (committed now c session serial intervals set)) (corrupts now c octets) tt (corrupts_fits now before c octets connected))
    (corrupts_fits now before (flushed c) octets connected)
loading_fits now before c octets serially own set (Error_report code quoted) connected = tt
loading_fits now before c octets serially own set (Serial_notify session serial) connected = tt
loading_fits now before c octets serially own set other connected = corrupts_fits now before c octets connected

synced_fits : (now : ℕ) (before c : Client) (octets : List ℕ) (content : Content) → transport_of before ≡ Connected → Fits before (hears_synced now c octets content)
synced_fits now before c octets (Serial_notify session serial) connected =
    either (Fits before) (is_session c.base session) (if is_serial c.base serial then becomes c else asks c) (corrupts now (flushed c) octets)
    (either (Fits before) (is_serial c.base serial) (becomes c) (asks c) tt (asks_fits before c)) (corrupts_fits now before (flushed c) octets connected)
synced_fits now before c octets (Error_report code quoted) connected = tt
synced_fits now before c octets other connected = corrupts_fits now before c octets connected

heard_fits : (now : ℕ) (stage : Stage) (c : Client) (octets : List ℕ) (content : Content) → Fits (at_stage stage c) (hears_at stage now (at_stage stage c) octets content)
heard_fits now Off c octets content = tt
heard_fits now Opening c octets content = tt
heard_fits now Asked_serial c octets content = asked_serial_fits now (at_stage Asked_serial c) (at_stage Asked_serial c) octets content refl
heard_fits now Asked_reset c octets content = asked_reset_fits now (at_stage Asked_reset c) (at_stage Asked_reset c) octets content refl
heard_fits now Waiting c octets content = waiting_fits now (at_stage Waiting c) (at_stage Waiting c) octets content refl
heard_fits now (Loading serially own set) c octets content = loading_fits now (at_stage (Loading serially own set) c) (at_stage (Loading serially own set) c) octets serially own set content refl
heard_fits now Synced c octets content = synced_fits now (at_stage Synced c) (at_stage Synced c) octets content refl

fault_fits : (now : ℕ) (before c : Client) (octets : List ℕ) (fault : PduFault) → transport_of before ≡ Connected → Fits before (hears_fault now c octets fault)
fault_fits now before c octets Unanswered connected = tt
fault_fits now before c octets (Header code) connected = reports_fits now before c code (quoted_of octets) connected (quoted_short octets)
fault_fits now before c octets Payload connected = corrupts_fits now before c octets connected

-- timers
expire_says : (now : ℕ) (stage : Stage) (c : Client) → SaysQuery (expires stage now c).said
expire_says now Asked_serial c = tt
expire_says now (Loading true own set) c = tt
expire_says now Synced c = (refl, omega arith)
expire_says now other c = tt

refresh_says : (stage : Stage) (c : Client) → SaysQuery (refreshes stage c).said
refresh_says Synced c = asks_from_says c.base c
refresh_says other c = tt

query_timer_says : (stage : Stage) (c : Client) → SaysQuery (asks_again stage c).said
query_timer_says Waiting c = asks_from_says c.base c
query_timer_says other c = tt

reopen_says : (now : ℕ) (stage : Stage) (c : Client) → SaysQuery (reopens stage now c).said
reopen_says now Off c = off_says c.closing
  where
    off_says : (closing : Bool) → SaysQuery (reopens_off closing now c).said
    off_says true = tt
    off_says false = tt
reopen_says now other c = tt

first_says : (first later : Option Content) → SaysQuery first → SaysQuery later → SaysQuery (first_said first later)
first_says None later h k = k
first_says (Some content) later h k = h

abbrev AsksAtMost : Reply → Type 0
AsksAtMost reply = SaysQuery reply.said

then_says : (first : Reply) (next : Client → Reply) → AsksAtMost first → ((c : Client) → AsksAtMost (next c)) → AsksAtMost (then_row first next)
then_says first next h k = first_says first.said (next first.client).said h (k first.client)

expire_end_says : (now : ℕ) (c : Client) → AsksAtMost (expire_ends now c)
expire_end_says now c = either AsksAtMost (has_come c.expire now) (expires c.stage now (flushed c)) (becomes c) (expire_says now c.stage (flushed c)) tt

refresh_end_says : (now : ℕ) (c : Client) → AsksAtMost (refresh_ends now c)
refresh_end_says now c = either AsksAtMost (has_come c.refresh now) (refreshes c.stage (record c { refresh = None })) (becomes c) (refresh_says c.stage (record c { refresh = None })) tt

query_end_says : (now : ℕ) (c : Client) → AsksAtMost (query_ends now c)
query_end_says now c = either AsksAtMost (has_come c.query now) (asks_again c.stage (record c { query = None })) (becomes c) (query_timer_says c.stage (record c { query = None })) tt

reopen_end_says : (now : ℕ) (c : Client) → AsksAtMost (reopen_ends now c)
reopen_end_says now c = either AsksAtMost (has_come c.reopen now) (reopens c.stage now (record c { reopen = None })) (becomes c) (reopen_says now c.stage (record c { reopen = None })) tt

-- behind the expire timer, the refresh timer, and the query timer
abbrev pub expired : ℕ → Client → Reply
expired now c = expire_ends now c

abbrev pub refreshed : ℕ → Client → Reply
refreshed now c = then_row (expired now c) (refresh_ends now)

abbrev pub queried : ℕ → Client → Reply
queried now c = then_row (refreshed now c) (query_ends now)

tick_says : (now : ℕ) (c : Client) → AsksAtMost (ticks now c)
tick_says now c =
    then_says (queried now c) (reopen_ends now)
    (then_says (refreshed now c) (query_ends now)
    (then_says (expired now c) (refresh_ends now) (expire_end_says now c) (refresh_end_says now)) (query_end_says now)) (reopen_end_says now)

up_fits : (stage : Stage) (before c : Client) → Fits before (comes_up stage c)
up_fits Opening before c = asks_fits before c
up_fits other before c = tt

fail_fits : (now : ℕ) (stage : Stage) (before c : Client) → Fits before (fails stage now c)
fail_fits now Off before c = tt
fail_fits now other before c = tt

faulty_fits : (now : ℕ) (stage : Stage) (c : Client) (octets : List ℕ) (fault : PduFault) → Fits (at_stage stage c) (if is_connected stage then hears_fault now (at_stage stage c) octets fault else becomes (at_stage stage c))
faulty_fits now Off c octets fault = tt
faulty_fits now Opening c octets fault = tt
faulty_fits now Asked_serial c octets fault = fault_fits now (at_stage Asked_serial c) (at_stage Asked_serial c) octets fault refl
faulty_fits now Asked_reset c octets fault = fault_fits now (at_stage Asked_reset c) (at_stage Asked_reset c) octets fault refl
faulty_fits now Waiting c octets fault = fault_fits now (at_stage Waiting c) (at_stage Waiting c) octets fault refl
faulty_fits now (Loading serially own set) c octets fault = fault_fits now (at_stage (Loading serially own set) c) (at_stage (Loading serially own set) c) octets fault refl
faulty_fits now Synced c octets fault = fault_fits now (at_stage Synced c) (at_stage Synced c) octets fault refl

starved_fits : (now : ℕ) (stage : Stage) (c : Client) → Fits (at_stage stage c) (if is_connected stage then reports now (at_stage stage c) InternalError [] else becomes (at_stage stage c))
starved_fits now Off c = tt
starved_fits now Opening c = tt
starved_fits now Asked_serial c = reports_fits now (at_stage Asked_serial c) (at_stage Asked_serial c) InternalError [] refl (omega arith)
starved_fits now Asked_reset c = reports_fits now (at_stage Asked_reset c) (at_stage Asked_reset c) InternalError [] refl (omega arith)
starved_fits now Waiting c = reports_fits now (at_stage Waiting c) (at_stage Waiting c) InternalError [] refl (omega arith)
starved_fits now (Loading serially own set) c = reports_fits now (at_stage (Loading serially own set) c) (at_stage (Loading serially own set) c) InternalError [] refl (omega arith)
starved_fits now Synced c = reports_fits now (at_stage Synced c) (at_stage Synced c) InternalError [] refl (omega arith)

pub says : (now : ℕ) (c : Client) (input : Input) → Says (row now c input).said c (row now c input).client
unfolding row
says now c Up = up_fits c.stage c c
says now c Fail = fail_fits now c.stage c c
says now c (Heard content octets) = heard_fits now c.stage c octets content
says now c (Faulty fault octets) = faulty_fits now c.stage c octets fault
says now c Tick = query_says (ticks now c).said c (ticks now c).client (tick_says now c)
says now c No_room = either (Fits c) (is_connected c.stage) (closes now c) (becomes c) tt tt
says now c Starved = starved_fits now c.stage c

-- Behind which rows the connection stands.

-- no connection stands
abbrev pub IsShut : Client → Type 0
IsShut c = is_connected c.stage ≡ false

abbrev pub Shuts : Reply → Type 0
Shuts reply = IsShut reply.client

pub shut_is : (stage : Stage) (closing : Bool) → is_connected stage ≡ false → transport_at stage closing ≢ Connected
shut_is Off true shut e = cc
shut_is Off false shut e = cc
shut_is Opening closing shut e = cc
shut_is Asked_serial closing shut e = cc
shut_is Asked_reset closing shut e = cc
shut_is Waiting closing shut e = cc
shut_is (Loading serially own set) closing shut e = cc
shut_is Synced closing shut e = cc

pub stands_or_shut : (stage : Stage) (closing : Bool) → (transport_at stage closing ≡ Connected) ⊎ (is_connected stage ≡ false)
stands_or_shut Off closing = inr refl
stands_or_shut Opening closing = inr refl
stands_or_shut Asked_serial closing = inl refl
stands_or_shut Asked_reset closing = inl refl
stands_or_shut Waiting closing = inl refl
stands_or_shut (Loading serially own set) closing = inl refl
stands_or_shut Synced closing = inl refl

-- where none stands, none stands behind a row but that of Up
shut_heard : (now : ℕ) (stage : Stage) (c : Client) (octets : List ℕ) (content : Content) → is_connected stage ≡ false → Shuts (hears_at stage now (at_stage stage c) octets content)
shut_heard now Off c octets content shut = refl
shut_heard now Opening c octets content shut = refl
shut_heard now Asked_serial c octets content shut = absurd cc
shut_heard now Asked_reset c octets content shut = absurd cc
shut_heard now Waiting c octets content shut = absurd cc
shut_heard now (Loading serially own set) c octets content shut = absurd cc
shut_heard now Synced c octets content shut = absurd cc

shut_expire : (now : ℕ) (stage : Stage) (c : Client) → is_connected stage ≡ false → Shuts (expires stage now (at_stage stage c))
shut_expire now Off c shut = refl
shut_expire now Opening c shut = refl
shut_expire now Asked_serial c shut = refl
shut_expire now Asked_reset c shut = absurd cc
shut_expire now Waiting c shut = absurd cc
shut_expire now (Loading true own set) c shut = refl
shut_expire now (Loading false own set) c shut = absurd cc
shut_expire now Synced c shut = absurd cc

shut_refresh : (stage : Stage) (c : Client) → is_connected stage ≡ false → Shuts (refreshes stage (at_stage stage c))
shut_refresh Synced c shut = absurd cc
shut_refresh other c shut = shut

shut_query : (stage : Stage) (c : Client) → is_connected stage ≡ false → Shuts (asks_again stage (at_stage stage c))
shut_query Waiting c shut = absurd cc
shut_query other c shut = shut

shut_reopen : (now : ℕ) (stage : Stage) (c : Client) → is_connected stage ≡ false → Shuts (reopens stage now (at_stage stage c))
shut_reopen now Off c shut = off_shut c.closing
  where
    off_shut : (closing : Bool) → Shuts (reopens_off closing now (at_stage Off c))
    off_shut true = refl
    off_shut false = refl
shut_reopen now other c shut = shut

pub shut_expired : (now : ℕ) (c : Client) → IsShut c → Shuts (expire_ends now c)
shut_expired now c shut = either Shuts (has_come c.expire now) (expires c.stage now (flushed c)) (becomes c) (shut_expire now c.stage (flushed c) shut) shut

pub shut_refreshed : (now : ℕ) (c : Client) → IsShut c → Shuts (refresh_ends now c)
shut_refreshed now c shut = either Shuts (has_come c.refresh now) (refreshes c.stage (record c { refresh = None })) (becomes c) (shut_refresh c.stage (record c { refresh = None }) shut) shut

pub shut_queried : (now : ℕ) (c : Client) → IsShut c → Shuts (query_ends now c)
shut_queried now c shut = either Shuts (has_come c.query now) (asks_again c.stage (record c { query = None })) (becomes c) (shut_query c.stage (record c { query = None }) shut) shut

pub shut_reopened : (now : ℕ) (c : Client) → IsShut c → Shuts (reopen_ends now c)
shut_reopened now c shut = either Shuts (has_come c.reopen now) (reopens c.stage now (record c { reopen = None })) (becomes c) (shut_reopen now c.stage (record c { reopen = None }) shut) shut

shut_tick : (now : ℕ) (c : Client) → IsShut c → Shuts (ticks now c)
shut_tick now c shut =
    shut_reopened now (queried now c).client
    (shut_queried now (refreshed now c).client
    (shut_refreshed now (expired now c).client (shut_expired now c shut)))

shut_fail : (now : ℕ) (stage : Stage) (c : Client) → Shuts (fails stage now (at_stage stage c))
shut_fail now Off c = refl
shut_fail now other c = refl

unless_connected : (c : Client) (x : Reply) → IsShut c → Shuts (if is_connected c.stage then x else becomes c)
unless_connected c x shut = rw shut shut

shut_row : (now : ℕ) (c : Client) (input : Input) → input ≢ Up → IsShut c → Shuts (row now c input)
unfolding row
shut_row now c Up other shut = absurd (other refl)
shut_row now c Fail other shut = shut_fail now c.stage c
shut_row now c (Heard content octets) other shut = shut_heard now c.stage c octets content shut
shut_row now c (Faulty fault octets) other shut = unless_connected c (hears_fault now c octets fault) shut
shut_row now c Tick other shut = shut_tick now c shut
shut_row now c No_room other shut = unless_connected c (closes now c) shut
shut_row now c Starved other shut = unless_connected c (reports now c InternalError []) shut

stood_by : (now : ℕ) (c : Client) (input : Input) → input ≢ Up → transport_of (row now c input).client ≡ Connected → (transport_of c ≡ Connected) ⊎ IsShut c → transport_of c ≡ Connected
stood_by now c input other stands (inl connected) = connected
stood_by now c input other stands (inr shut) = absurd (shut_is (row now c input).client.stage (row now c input).client.closing (shut_row now c input other shut) stands)

-- a connection that stands stood before, or has just come up
pub stood_before : (now : ℕ) (c : Client) (input : Input) → input ≢ Up → transport_of (row now c input).client ≡ Connected → transport_of c ≡ Connected
stood_before now c input other stands = stood_by now c input other stands (stands_or_shut c.stage c.closing)

-- none stands behind a fault, a refused growth, and a query that found no room
unless_shut : (test : Bool) (c : Client) (x : Reply) → is_connected c.stage ≡ test → Shuts x → Shuts (if test then x else becomes c)
unless_shut true c x is h = h
unless_shut false c x is h = is

shut_fault : (now : ℕ) (c : Client) (octets : List ℕ) (fault : PduFault) → Shuts (hears_fault now c octets fault)
shut_fault now c octets Unanswered = refl
shut_fault now c octets (Header code) = refl
shut_fault now c octets Payload = refl

pub fault_closes : (now : ℕ) (c : Client) (fault : PduFault) (octets : List ℕ) → transport_of (row now c (Faulty fault octets)).client ≢ Connected
unfolding row
fault_closes now c fault octets = shut_is _ _ (unless_shut (is_connected c.stage) c (hears_fault now c octets fault) refl (shut_fault now c octets fault))

pub starved_closes : (now : ℕ) (c : Client) → transport_of (row now c Starved).client ≢ Connected
unfolding row
starved_closes now c = shut_is _ _ (unless_shut (is_connected c.stage) c (reports now c InternalError []) refl refl)

pub no_room_closes : (now : ℕ) (c : Client) → transport_of (row now c No_room).client ≢ Connected
unfolding row
no_room_closes now c = shut_is _ _ (unless_shut (is_connected c.stage) c (closes now c) refl refl)

-- without room for a query the payloads in force stay
pub no_room_keeps : (now : ℕ) (c : Client) → in_force (row now c No_room).client ≡ in_force c
unfolding row
no_room_keeps now c = either (λ reply. in_force reply.client ≡ in_force c) (is_connected c.stage) (closes now c) (becomes c) refl refl
