-- What the rows of the client's table make of a load.
use Rattle.std.proofs.Common.{◌≡◌, ◌⊎◌, inl, inr, ◌==◌, ℕ, Bool, true, false, not, List, [], Option, Some, None, if◌then◌else◌, refl, ap, sym, ◌∙◌}
use Rattle.moments.specs.Moments.{from_now, has_come}
use Rattle.net_prefix.specs.PayloadSets.{has, out, put}
use Rattle.net_prefix.specs.declared.payload.Vrp.{Vrp}
use Rattle.net_prefix.specs.declared.transport.Transport.TheVariants.{Open as Connected}
use Rattle.rtr_codec.specs.declared.fault.ErrorCode.TheVariants.{NoDataAvailable, WithdrawalOfUnknownRecord, DuplicateAnnouncement}
use Rattle.rtr_codec.specs.Intervals.{are_lawful}
use Rattle.rtr_codec.specs.ClientTable.{Base, Client, Reply, Stage, Off, Opening, Asked_serial, Asked_reset, Waiting, Loading, Synced, in_force, payloads_of, row, transport_of, Up, Fail, Heard, Tick, asks, asks_again, asks_from, asked_hears_report, becomes, comes_up, committed, corrupts, expire_ends, expires, fails, flushed, goes, hears_asked_reset, hears_asked_serial, hears_at, hears_loading, hears_report, hears_synced, hears_waiting, is_serial, is_session, query_ends, quoted_of, refresh_ends, refreshes, reopen_ends, reopens, reopens_off, reports, ticks}
use Rattle.rtr_codec.specs.PduFaults.{number_of}
use Rattle.rtr_codec.specs.PduSpelling.{Content, Serial_notify, Cache_response, Announce, Withdraw, Ipv6_prefix, End_of_data, Router_key, Error_report}
use Rattle.rtr_codec.specs.Responses.{changed, is_change}
use Rattle.rtr_session.specs.Loads.{StartsFrom, is_awaited, is_of_load}
use Rattle.rtr_session.proofs.ClientRows.{IsShut, Shuts, at_stage, either, expired, queried, refreshed, shut_queried, shut_refreshed, shut_reopened}

-- one of two replies, by the test that decides
pub either_by : (P : Reply → Type 0) (test : Bool) (x y : Reply) → (test ≡ true → P x) → (test ≡ false → P y) → P (if test then x else y)
either_by P true x y h k = h refl
either_by P false x y h k = k refl

-- Into a load, and along it.

-- a PDU begins a load, or goes on with one
abbrev pub LoadStep : Client → Content → ℕ → List Vrp → Type 0
LoadStep c content session set =
    ((content ≡ Cache_response session) × StartsFrom c.stage (in_force c) set)
    ⊎ ((serially : Bool) × (before : List Vrp) × (c.stage ≡ Loading serially session before) × (is_of_load content ≡ true) × (is_change before content ≡ true) × (set ≡ changed before content))

abbrev LeadsIn : Client → Content → Reply → Type 0
LeadsIn c content reply = (serially : Bool) (session : ℕ) (set : List Vrp) → reply.client.stage ≡ Loading serially session set → LoadStep c content session set

asks_no_load : (base : Option Base) (c : Client) (serially : Bool) (session : ℕ) (set : List Vrp) → (asks_from c base).client.stage ≡ Loading serially session set → ⊥
asks_no_load None c serially session set e = cc
asks_no_load (Some base) c serially session set e = cc

asked_report_leads : (now : ℕ) (before c : Client) (content : Content) (code : ℕ) → LeadsIn before content (asked_hears_report now c code)
asked_report_leads now before c content code =
    either (LeadsIn before content) (code == number_of NoDataAvailable) (becomes (record c { stage = Waiting; query = from_now now c.intervals.retry })) (hears_report now c code)
    (λ serially session set e. absurd cc) (λ serially session set e. absurd cc)

asked_serial_leads : (now : ℕ) (c : Client) (octets : List ℕ) (content : Content) → LeadsIn (at_stage Asked_serial c) content (hears_asked_serial now (at_stage Asked_serial c) octets content)
asked_serial_leads now c octets (Cache_response n) =
    either (LeadsIn (at_stage Asked_serial c) (Cache_response n)) (is_session c.base n) (goes (at_stage Asked_serial c) (Loading true n (payloads_of c.base))) (corrupts now (flushed (at_stage Asked_serial c)) octets)
    (λ serially session set e. let same : n ≡ session = cc in let all : set ≡ payloads_of c.base = cc in inl (ap Cache_response same, all))
    (λ serially session set e. absurd cc)
asked_serial_leads now c octets (Error_report code quoted) = asked_report_leads now (at_stage Asked_serial c) (at_stage Asked_serial c) (Error_report code quoted) code
asked_serial_leads now c octets other = λ serially session set e. absurd cc

asked_reset_leads : (now : ℕ) (c : Client) (octets : List ℕ) (content : Content) → LeadsIn (at_stage Asked_reset c) content (hears_asked_reset now (at_stage Asked_reset c) octets content)
asked_reset_leads now c octets (Cache_response n) = λ serially session set e. let same : n ≡ session = cc in let none : set ≡ [] = cc in inl (ap Cache_response same, none)
asked_reset_leads now c octets (Error_report code quoted) = asked_report_leads now (at_stage Asked_reset c) (at_stage Asked_reset c) (Error_report code quoted) code
asked_reset_leads now c octets other = λ serially session set e. absurd cc

waiting_leads : (now : ℕ) (c : Client) (octets : List ℕ) (content : Content) → LeadsIn (at_stage Waiting c) content (hears_waiting now (at_stage Waiting c) octets content)
waiting_leads now c octets (Error_report code quoted) = λ serially session set e. absurd cc
waiting_leads now c octets (Serial_notify n serial) = λ serially session set e. absurd cc
waiting_leads now c octets other = λ serially session set e. absurd cc

-- a load that a PDU leaves as it is
stays_load :
    (c : Client) (serially : Bool) (own : ℕ) (set : List Vrp) (content : Content) → is_of_load content ≡ true → is_change set content ≡ true → set ≡ changed set content
    → LeadsIn (at_stage (Loading serially own set) c) content (becomes (at_stage (Loading serially own set) c))
stays_load c serially own set content is lawful same = λ more session after e.
    let all : set ≡ after = cc in let of : own ≡ session = cc in
    inr (serially, set, ap (λ (n : ℕ). Loading serially n set) of, is, lawful, sym all ∙ same)

changes_load :
    (c : Client) (serially : Bool) (own : ℕ) (set after : List Vrp) (content : Content) → is_of_load content ≡ true → is_change set content ≡ true → after ≡ changed set content
    → LeadsIn (at_stage (Loading serially own set) c) content (goes (at_stage (Loading serially own set) c) (Loading serially own after))
changes_load c serially own set after content is lawful same = λ more session found e.
    let all : after ≡ found = cc in let of : own ≡ session = cc in
    inr (serially, set, ap (λ (n : ℕ). Loading serially n set) of, is, lawful, sym all ∙ same)

loading_leads :
    (now : ℕ) (c : Client) (octets : List ℕ) (serially : Bool) (own : ℕ) (set : List Vrp) (content : Content)
    → LeadsIn (at_stage (Loading serially own set) c) content (hears_loading now (at_stage (Loading serially own set) c) octets serially own set content)
loading_leads now c octets serially own set (Announce payload) =
    either_by (LeadsIn (at_stage (Loading serially own set) c) (Announce payload)) (has set payload) (reports now (at_stage (Loading serially own set) c) DuplicateAnnouncement (quoted_of octets))
    (goes (at_stage (Loading serially own set) c) (Loading serially own (put payload set)))
    (λ known serially session set e. absurd cc) (λ known. changes_load c serially own set (put payload set) (Announce payload) refl (ap not known) refl)
loading_leads now c octets serially own set (Withdraw payload) =
    either_by (LeadsIn (at_stage (Loading serially own set) c) (Withdraw payload)) (has set payload) (goes (at_stage (Loading serially own set) c) (Loading serially own (out payload set)))
    (reports now (at_stage (Loading serially own set) c) WithdrawalOfUnknownRecord (quoted_of octets))
    (λ known. changes_load c serially own set (out payload set) (Withdraw payload) refl known refl) (λ known serially session set e. absurd cc)
loading_leads now c octets serially own set (Ipv6_prefix body) = stays_load c serially own set (Ipv6_prefix body) refl refl refl
loading_leads now c octets serially own set (Router_key body) = stays_load c serially own set (Router_key body) refl refl refl
loading_leads now c octets serially own set (Serial_notify session serial) = stays_load c serially own set (Serial_notify session serial) refl refl refl
loading_leads now c octets serially own set (End_of_data session serial intervals) =
    either (LeadsIn (at_stage (Loading serially own set) c) (End_of_data session serial intervals)) (session == own)
    (if are_lawful intervals then becomes (committed now (at_stage (Loading serially own set) c) session serial intervals set) else corrupts now (at_stage (Loading serially own set) c) octets)
    (corrupts now (flushed (at_stage (Loading serially own set) c)) octets)
    (either (LeadsIn (at_stage (Loading serially own set) c) (End_of_data session serial intervals)) (are_lawful intervals) (becomes (committed now (at_stage (Loading serially own set) c) session serial intervals set))
    (corrupts now (at_stage (Loading serially own set) c) octets) (λ serially session set e. absurd cc) (λ serially session set e. absurd cc))
    (λ serially session set e. absurd cc)
loading_leads now c octets serially own set other = λ serially session set e. absurd cc

synced_leads : (now : ℕ) (c : Client) (octets : List ℕ) (content : Content) → LeadsIn (at_stage Synced c) content (hears_synced now (at_stage Synced c) octets content)
synced_leads now c octets (Serial_notify n serial) =
    either (LeadsIn (at_stage Synced c) (Serial_notify n serial)) (is_session c.base n) (if is_serial c.base serial then becomes (at_stage Synced c) else asks (at_stage Synced c)) (corrupts now (flushed (at_stage Synced c)) octets)
    (either (LeadsIn (at_stage Synced c) (Serial_notify n serial)) (is_serial c.base serial) (becomes (at_stage Synced c)) (asks (at_stage Synced c))
    (λ serially session set e. absurd cc) (λ serially session set e. absurd (asks_no_load c.base (at_stage Synced c) serially session set e)))
    (λ serially session set e. absurd cc)
synced_leads now c octets other = λ serially session set e. absurd cc

pub heard_leads : (now : ℕ) (stage : Stage) (c : Client) (octets : List ℕ) (content : Content) → LeadsIn (at_stage stage c) content (hears_at stage now (at_stage stage c) octets content)
heard_leads now Off c octets content = λ serially session set e. absurd cc
heard_leads now Opening c octets content = λ serially session set e. absurd cc
heard_leads now Asked_serial c octets content = asked_serial_leads now c octets content
heard_leads now Asked_reset c octets content = asked_reset_leads now c octets content
heard_leads now Waiting c octets content = waiting_leads now c octets content
heard_leads now (Loading serially own set) c octets content = loading_leads now c octets serially own set content
heard_leads now Synced c octets content = synced_leads now c octets content

-- a Cache Response that was read in Asked begins a load, if the connection stands behind it
abbrev Begins : ℕ → List Vrp → Reply → Type 0
Begins session start reply = transport_of reply.client ≡ Connected → (serially : Bool) × (reply.client.stage ≡ Loading serially session start)

pub response_begins :
    (now : ℕ) (stage : Stage) (c : Client) (octets : List ℕ) (session : ℕ) (start : List Vrp) → StartsFrom stage (in_force c) start
    → Begins session start (hears_at stage now (at_stage stage c) octets (Cache_response session))
response_begins now Off c octets session start from = absurd from
response_begins now Opening c octets session start from = absurd from
response_begins now Asked_serial c octets session start from =
    either (Begins session start) (is_session c.base session) (goes (at_stage Asked_serial c) (Loading true session (payloads_of c.base))) (corrupts now (flushed (at_stage Asked_serial c)) octets)
    (λ stands. (true, ap (λ (set : List Vrp). Loading true session set) (sym from))) (λ stands. absurd cc)
response_begins now Asked_reset c octets session start from = λ stands. (false, ap (λ (set : List Vrp). Loading false session set) (sym from))
response_begins now Waiting c octets session start from = absurd from
response_begins now (Loading serially own set) c octets session start from = absurd from
response_begins now Synced c octets session start from = absurd from

-- a PDU that may stand within a load goes on with it
abbrev GoesTo : Stage → Reply → Type 0
GoesTo stage reply = reply.client.stage ≡ stage

pub load_goes_on :
    (now : ℕ) (c : Client) (octets : List ℕ) (serially : Bool) (own : ℕ) (set : List Vrp) (content : Content) → is_of_load content ≡ true → is_change set content ≡ true
    → GoesTo (Loading serially own (changed set content)) (hears_loading now (at_stage (Loading serially own set) c) octets serially own set content)
load_goes_on now c octets serially own set (Announce payload) is lawful =
    either_by (GoesTo (Loading serially own (put payload set))) (has set payload) (reports now (at_stage (Loading serially own set) c) DuplicateAnnouncement (quoted_of octets))
    (goes (at_stage (Loading serially own set) c) (Loading serially own (put payload set))) (λ known. let never : false ≡ true = ap not (sym known) ∙ lawful in absurd cc) (λ known. refl)
load_goes_on now c octets serially own set (Withdraw payload) is lawful =
    either_by (GoesTo (Loading serially own (out payload set))) (has set payload) (goes (at_stage (Loading serially own set) c) (Loading serially own (out payload set)))
    (reports now (at_stage (Loading serially own set) c) WithdrawalOfUnknownRecord (quoted_of octets)) (λ known. refl) (λ known. let never : false ≡ true = sym known ∙ lawful in absurd cc)
load_goes_on now c octets serially own set (Ipv6_prefix body) is lawful = refl
load_goes_on now c octets serially own set (Router_key body) is lawful = refl
load_goes_on now c octets serially own set (Serial_notify session serial) is lawful = refl
load_goes_on now c octets serially own set other is lawful = absurd cc

-- Timers.

abbrev pub Keeps : Client → Reply → Type 0
Keeps c reply = (serially : Bool) (session : ℕ) (set : List Vrp) → reply.client.stage ≡ Loading serially session set → c.stage ≡ Loading serially session set

expires_keep : (now : ℕ) (stage : Stage) (c : Client) → Keeps (at_stage stage c) (expires stage now (at_stage stage c))
expires_keep now Asked_serial c serially session set e = absurd cc
expires_keep now (Loading true own all) c serially session set e = absurd cc
expires_keep now Synced c serially session set e = absurd cc
expires_keep now other c serially session set e = e

refreshes_keep : (stage : Stage) (c : Client) → Keeps (at_stage stage c) (refreshes stage (at_stage stage c))
refreshes_keep Synced c serially session set e = absurd (asks_no_load c.base (at_stage Synced c) serially session set e)
refreshes_keep other c serially session set e = e

asks_again_keep : (stage : Stage) (c : Client) → Keeps (at_stage stage c) (asks_again stage (at_stage stage c))
asks_again_keep Waiting c serially session set e = absurd (asks_no_load c.base (at_stage Waiting c) serially session set e)
asks_again_keep other c serially session set e = e

reopens_keep : (now : ℕ) (stage : Stage) (c : Client) → Keeps (at_stage stage c) (reopens stage now (at_stage stage c))
reopens_keep now Off c = off_keep c.closing
  where
    off_keep : (closing : Bool) → Keeps (at_stage Off c) (reopens_off closing now (at_stage Off c))
    off_keep true serially session set e = absurd cc
    off_keep false serially session set e = absurd cc
reopens_keep now other c = λ serially session set e. e

expired_keeps : (now : ℕ) (c : Client) → Keeps c (expire_ends now c)
expired_keeps now c = either (Keeps c) (has_come c.expire now) (expires c.stage now (flushed c)) (becomes c) (expires_keep now c.stage (flushed c)) (λ serially session set e. e)

refreshed_keeps : (now : ℕ) (c : Client) → Keeps c (refresh_ends now c)
refreshed_keeps now c = either (Keeps c) (has_come c.refresh now) (refreshes c.stage (record c { refresh = None })) (becomes c) (refreshes_keep c.stage (record c { refresh = None })) (λ serially session set e. e)

queried_keeps : (now : ℕ) (c : Client) → Keeps c (query_ends now c)
queried_keeps now c = either (Keeps c) (has_come c.query now) (asks_again c.stage (record c { query = None })) (becomes c) (asks_again_keep c.stage (record c { query = None })) (λ serially session set e. e)

reopened_keeps : (now : ℕ) (c : Client) → Keeps c (reopen_ends now c)
reopened_keeps now c = either (Keeps c) (has_come c.reopen now) (reopens c.stage now (record c { reopen = None })) (becomes c) (reopens_keep now c.stage (record c { reopen = None })) (λ serially session set e. e)

-- a tick begins no load
pub tick_begins_none : (now : ℕ) (c : Client) → Keeps c (ticks now c)
tick_begins_none now c serially session set e =
    expired_keeps now c serially session set
    (refreshed_keeps now (expired now c).client serially session set
    (queried_keeps now (refreshed now c).client serially session set (reopened_keeps now (queried now c).client serially session set e)))

-- and leaves a load as it is, or closes
abbrev pub Leaves : Bool → ℕ → List Vrp → Reply → Type 0
Leaves serially session set reply = (reply.client.stage ≡ Loading serially session set) ⊎ Shuts reply

expires_leave : (now : ℕ) (stage : Stage) (c : Client) (serially : Bool) (session : ℕ) (set : List Vrp) → stage ≡ Loading serially session set → Leaves serially session set (expires stage now (at_stage stage c))
expires_leave now (Loading true own all) c serially session set e = inr refl
expires_leave now (Loading false own all) c serially session set e = inl e
expires_leave now other c serially session set e = absurd cc

refreshes_leave : (stage : Stage) (c : Client) (serially : Bool) (session : ℕ) (set : List Vrp) → stage ≡ Loading serially session set → Leaves serially session set (refreshes stage (at_stage stage c))
refreshes_leave Synced c serially session set e = absurd cc
refreshes_leave other c serially session set e = inl e

asks_again_leave : (stage : Stage) (c : Client) (serially : Bool) (session : ℕ) (set : List Vrp) → stage ≡ Loading serially session set → Leaves serially session set (asks_again stage (at_stage stage c))
asks_again_leave Waiting c serially session set e = absurd cc
asks_again_leave other c serially session set e = inl e

reopens_leave : (now : ℕ) (stage : Stage) (c : Client) (serially : Bool) (session : ℕ) (set : List Vrp) → stage ≡ Loading serially session set → Leaves serially session set (reopens stage now (at_stage stage c))
reopens_leave now Off c serially session set e = absurd cc
reopens_leave now other c serially session set e = inl e

expired_leaves : (now : ℕ) (c : Client) (serially : Bool) (session : ℕ) (set : List Vrp) → c.stage ≡ Loading serially session set → Leaves serially session set (expire_ends now c)
expired_leaves now c serially session set e =
    either (Leaves serially session set) (has_come c.expire now) (expires c.stage now (flushed c)) (becomes c) (expires_leave now c.stage (flushed c) serially session set e) (inl e)

refreshed_leaves : (now : ℕ) (c : Client) (serially : Bool) (session : ℕ) (set : List Vrp) → (c.stage ≡ Loading serially session set) ⊎ IsShut c → Leaves serially session set (refresh_ends now c)
refreshed_leaves now c serially session set (inl e) =
    either (Leaves serially session set) (has_come c.refresh now) (refreshes c.stage (record c { refresh = None })) (becomes c) (refreshes_leave c.stage (record c { refresh = None }) serially session set e) (inl e)
refreshed_leaves now c serially session set (inr shut) = inr (shut_refreshed now c shut)

queried_leaves : (now : ℕ) (c : Client) (serially : Bool) (session : ℕ) (set : List Vrp) → (c.stage ≡ Loading serially session set) ⊎ IsShut c → Leaves serially session set (query_ends now c)
queried_leaves now c serially session set (inl e) =
    either (Leaves serially session set) (has_come c.query now) (asks_again c.stage (record c { query = None })) (becomes c) (asks_again_leave c.stage (record c { query = None }) serially session set e) (inl e)
queried_leaves now c serially session set (inr shut) = inr (shut_queried now c shut)

reopened_leaves : (now : ℕ) (c : Client) (serially : Bool) (session : ℕ) (set : List Vrp) → (c.stage ≡ Loading serially session set) ⊎ IsShut c → Leaves serially session set (reopen_ends now c)
reopened_leaves now c serially session set (inl e) =
    either (Leaves serially session set) (has_come c.reopen now) (reopens c.stage now (record c { reopen = None })) (becomes c) (reopens_leave now c.stage (record c { reopen = None }) serially session set e) (inl e)
reopened_leaves now c serially session set (inr shut) = inr (shut_reopened now c shut)

pub tick_leaves : (now : ℕ) (c : Client) (serially : Bool) (session : ℕ) (set : List Vrp) → c.stage ≡ Loading serially session set → Leaves serially session set (ticks now c)
tick_leaves now c serially session set e =
    reopened_leaves now (queried now c).client serially session set
    (queried_leaves now (refreshed now c).client serially session set (refreshed_leaves now (expired now c).client serially session set (expired_leaves now c serially session set e)))

-- The same of rows.

pub row_leads : (now : ℕ) (c : Client) (octets : List ℕ) (content : Content) → LeadsIn c content (row now c (Heard content octets))
unfolding row
row_leads now c octets content = heard_leads now c.stage c octets content

pub row_begins :
    (now : ℕ) (c : Client) (octets : List ℕ) (session : ℕ) (start : List Vrp) → StartsFrom c.stage (in_force c) start
    → transport_of (row now c (Heard (Cache_response session) octets)).client ≡ Connected
    → (serially : Bool) × ((row now c (Heard (Cache_response session) octets)).client.stage ≡ Loading serially session start)
unfolding row
row_begins now c octets session start from = response_begins now c.stage c octets session start from

goes_on_at :
    (now : ℕ) (stage : Stage) (c : Client) (octets : List ℕ) (serially : Bool) (own : ℕ) (set : List Vrp) (content : Content) → stage ≡ Loading serially own set
    → is_of_load content ≡ true → is_change set content ≡ true → GoesTo (Loading serially own (changed set content)) (hears_at stage now (at_stage stage c) octets content)
goes_on_at now stage c octets serially own set content e is lawful = rw e (load_goes_on now c octets serially own set content is lawful)

pub row_goes_on :
    (now : ℕ) (c : Client) (octets : List ℕ) (serially : Bool) (own : ℕ) (set : List Vrp) (content : Content) → c.stage ≡ Loading serially own set
    → is_of_load content ≡ true → is_change set content ≡ true → (row now c (Heard content octets)).client.stage ≡ Loading serially own (changed set content)
unfolding row
row_goes_on now c octets serially own set content e is lawful = goes_on_at now c.stage c octets serially own set content e is lawful

pub row_ticks : (now : ℕ) (c : Client) → Keeps c (row now c Tick)
unfolding row
row_ticks now c = tick_begins_none now c

pub row_tick_leaves : (now : ℕ) (c : Client) (serially : Bool) (session : ℕ) (set : List Vrp) → c.stage ≡ Loading serially session set → Leaves serially session set (row now c Tick)
unfolding row
row_tick_leaves now c serially session set e = tick_leaves now c serially session set e

comes_up_keeps : (stage : Stage) (c : Client) → Keeps (at_stage stage c) (comes_up stage (at_stage stage c))
comes_up_keeps Opening c serially session set e = absurd (asks_no_load c.base (at_stage Opening c) serially session set e)
comes_up_keeps other c serially session set e = e

pub row_up : (now : ℕ) (c : Client) → Keeps c (row now c Up)
unfolding row
row_up now c = comes_up_keeps c.stage c

-- a connection that comes up unawaited changes nothing
pub row_up_unawaited : (now : ℕ) (c : Client) → is_awaited c.stage ≡ false → (row now c Up).client ≡ c
unfolding row
row_up_unawaited now c other = unawaited c.stage other
  where
    unawaited : (stage : Stage) → is_awaited stage ≡ false → (comes_up stage c).client ≡ c
    unawaited Opening other = absurd cc
    unawaited stage other = refl

fails_no_load : (now : ℕ) (stage : Stage) (c : Client) (serially : Bool) (session : ℕ) (set : List Vrp) → (fails stage now (at_stage stage c)).client.stage ≡ Loading serially session set → ⊥
fails_no_load now Off c serially session set e = cc
fails_no_load now other c serially session set e = cc

pub row_fail : (now : ℕ) (c : Client) (serially : Bool) (session : ℕ) (set : List Vrp) → (row now c Fail).client.stage ≡ Loading serially session set → ⊥
unfolding row
row_fail now c serially session set e = fails_no_load now c.stage c serially session set e
