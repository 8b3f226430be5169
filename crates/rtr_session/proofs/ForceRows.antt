-- What the rows of the client's table make of the payloads in force.
use Rattle.std.proofs.Common.{◌≡◌, ◌⊎◌, inl, inr, ◌==◌, ℕ, Bool, true, false, not, List, [], Option, Some, None, if◌then◌else◌, refl, ap, sym, ◌∙◌}
use Rattle.std.proofs.lemmas.Bool.{eqb-true}
use Rattle.moments.specs.Moments.{from_now, has_come}
use Rattle.net_prefix.specs.PayloadSets.{has, out, put}
use Rattle.net_prefix.specs.declared.payload.Vrp.{Vrp}
use Rattle.rtr_codec.specs.declared.fault.ErrorCode.TheVariants.{CorruptData, InternalError, NoDataAvailable, WithdrawalOfUnknownRecord, DuplicateAnnouncement}
use Rattle.rtr_codec.specs.declared.fault.PduFault.{PduFault}
use Rattle.rtr_codec.specs.declared.fault.PduFault.TheVariants.{Unanswered, Header, Payload}
use Rattle.rtr_codec.specs.declared.intervals.Intervals.{Intervals}
use Rattle.rtr_codec.specs.Intervals.{are_lawful}
use Rattle.rtr_codec.specs.ClientTable.{Base, Client, Reply, Stage, Off, Opening, Asked_serial, Asked_reset, Waiting, Loading, Synced, Up, Fail, Heard, Faulty, Tick, Starved, in_force, is_connected, payloads_of, row, asks, asks_again, asks_from, asked_hears_report, becomes, comes_up, committed, corrupts, ended, expires, fails, flushed, goes, hears_asked_reset, hears_asked_serial, hears_at, hears_fault, hears_loading, hears_report, hears_synced, hears_waiting, is_serial, is_session, query_ends, quoted_of, refresh_ends, refreshes, reopen_ends, reopens, reopens_off, reports, ticks}
use Rattle.rtr_codec.specs.PduFaults.{number_of}
use Rattle.rtr_codec.specs.PduSpelling.{Content, Serial_notify, Cache_response, Announce, Withdraw, End_of_data, Error_report}
use Rattle.rtr_session.specs.PayloadsInForce.{flushes, is_of_another}
use Rattle.rtr_session.proofs.ClientRows.{at_stage, either, expired, queried, refreshed}
use Rattle.rtr_session.proofs.LoadRows.{either_by}

-- Timers.

abbrev Stays : Client → Reply → Type 0
Stays c reply = in_force reply.client ≡ in_force c

asks_stays : (base : Option Base) (before c : Client) → in_force c ≡ in_force before → Stays before (asks_from c base)
asks_stays None before c same = same
asks_stays (Some base) before c same = same

expires_none : (now : ℕ) (stage : Stage) (c : Client) → in_force (expires stage now (flushed c)).client ≡ []
expires_none now Off c = refl
expires_none now Opening c = refl
expires_none now Asked_serial c = refl
expires_none now Asked_reset c = refl
expires_none now Waiting c = refl
expires_none now (Loading true own set) c = refl
expires_none now (Loading false own set) c = refl
expires_none now Synced c = refl

refreshes_stay : (stage : Stage) (c : Client) → Stays c (refreshes stage c)
refreshes_stay Synced c = asks_stays c.base c c refl
refreshes_stay other c = refl

asks_again_stay : (stage : Stage) (c : Client) → Stays c (asks_again stage c)
asks_again_stay Waiting c = asks_stays c.base c c refl
asks_again_stay other c = refl

reopens_stay : (now : ℕ) (stage : Stage) (c : Client) → Stays c (reopens stage now c)
reopens_stay now Off c = off_stay c.closing
  where
    off_stay : (closing : Bool) → Stays c (reopens_off closing now c)
    off_stay true = refl
    off_stay false = refl
reopens_stay now other c = refl

refreshed_stays : (now : ℕ) (c : Client) → Stays c (refresh_ends now c)
refreshed_stays now c = either (Stays c) (has_come c.refresh now) (refreshes c.stage (record c { refresh = None })) (becomes c) (refreshes_stay c.stage (record c { refresh = None })) refl

queried_stays : (now : ℕ) (c : Client) → Stays c (query_ends now c)
queried_stays now c = either (Stays c) (has_come c.query now) (asks_again c.stage (record c { query = None })) (becomes c) (asks_again_stay c.stage (record c { query = None })) refl

reopened_stays : (now : ℕ) (c : Client) → Stays c (reopen_ends now c)
reopened_stays now c = either (Stays c) (has_come c.reopen now) (reopens c.stage now (record c { reopen = None })) (becomes c) (reopens_stay now c.stage (record c { reopen = None })) refl

-- the other timers leave what the expire timer leaves
tick_force : (now : ℕ) (c : Client) → in_force (ticks now c).client ≡ in_force (expired now c).client
tick_force now c = reopened_stays now (queried now c).client ∙ queried_stays now (refreshed now c).client ∙ refreshed_stays now (expired now c).client

pub tick_expires : (now : ℕ) (c : Client) → has_come c.expire now ≡ true → in_force (row now c Tick).client ≡ []
unfolding row
tick_expires now c come = tick_force now c ∙ rw come (expires_none now c.stage c)

pub tick_stays : (now : ℕ) (c : Client) → has_come c.expire now ≡ false → in_force (row now c Tick).client ≡ in_force c
unfolding row
tick_stays now c coming = tick_force now c ∙ rw coming refl

-- Inputs that no octet brings, and faults.

up_stays : (stage : Stage) (c : Client) → Stays c (comes_up stage c)
up_stays Opening c = asks_stays c.base c c refl
up_stays other c = refl

fail_stays : (now : ℕ) (stage : Stage) (c : Client) → Stays c (fails stage now c)
fail_stays now Off c = refl
fail_stays now other c = refl

fault_stays : (now : ℕ) (c : Client) (octets : List ℕ) (fault : PduFault) → Stays c (hears_fault now c octets fault)
fault_stays now c octets Unanswered = refl
fault_stays now c octets (Header code) = refl
fault_stays now c octets Payload = refl

pub force_up : (now : ℕ) (c : Client) → in_force (row now c Up).client ≡ in_force c
unfolding row
force_up now c = up_stays c.stage c

pub force_fail : (now : ℕ) (c : Client) → in_force (row now c Fail).client ≡ in_force c
unfolding row
force_fail now c = fail_stays now c.stage c

pub force_starved : (now : ℕ) (c : Client) → in_force (row now c Starved).client ≡ in_force c
unfolding row
force_starved now c = either (Stays c) (is_connected c.stage) (reports now c InternalError []) (becomes c) refl refl

pub force_fault : (now : ℕ) (c : Client) (fault : PduFault) (octets : List ℕ) → in_force (row now c (Faulty fault octets)).client ≡ in_force c
unfolding row
force_fault now c fault octets = either (Stays c) (is_connected c.stage) (hears_fault now c octets fault) (becomes c) (fault_stays now c octets fault) refl

-- PDUs.

-- the PDU ends a load in progress: its payloads are in force
pub record Commits (c : Client) (content : Content) (after : Client) : Type 0 where
  pub serially : Bool
  pub session : ℕ
  pub set : List Vrp
  pub serial : ℕ
  pub intervals : Intervals
  pub stage_is : c.stage ≡ Loading serially session set
  pub content_is : content ≡ End_of_data session serial intervals
  pub lawful : are_lawful intervals ≡ true
  pub force_is : in_force after ≡ set

-- it ends none
abbrev pub CommitsNone : Client → Content → Type 0
CommitsNone c content =
    (serially : Bool) (session : ℕ) (set : List Vrp) (serial : ℕ) (intervals : Intervals) → c.stage ≡ Loading serially session set
    → content ≡ End_of_data session serial intervals → are_lawful intervals ≡ true → ⊥

-- a PDU ends a load, or flushes, or leaves the payloads in force as they are
abbrev pub ForceStep : Client → Content → Client → Type 0
ForceStep c content after =
    Commits c content after
    ⊎ (((flushes c content ≡ true) × (in_force after ≡ []))
    ⊎ ((flushes c content ≡ false) × (in_force after ≡ in_force c) × CommitsNone c content))

abbrev Steps : Client → Content → Reply → Type 0
Steps c content reply = ForceStep c content reply.client

another_is : (base : Option Base) (session : ℕ) → is_of_another base session ≡ not (is_session base session)
another_is None session = refl
another_is (Some base) session = refl

-- a report, by whether it tells corrupt data
report_by : (now : ℕ) (before c : Client) (code : ℕ) (quoted : List ℕ) (test : Bool) → in_force c ≡ in_force before → (code == number_of CorruptData) ≡ test
    → ForceStep before (Error_report code quoted) (ended now true (if test then flushed c else c))
report_by now before c code quoted true same is = inr (inl (is, refl))
report_by now before c code quoted false same is = inr (inr (is, same, λ serially session set serial intervals e k l. cc))

report_steps : (now : ℕ) (before c : Client) (code : ℕ) (quoted : List ℕ) → in_force c ≡ in_force before → Steps before (Error_report code quoted) (hears_report now c code)
report_steps now before c code quoted same = report_by now before c code quoted (code == number_of CorruptData) same refl

asked_report_steps : (now : ℕ) (c : Client) (code : ℕ) (quoted : List ℕ) → Steps c (Error_report code quoted) (asked_hears_report now c code)
asked_report_steps now c code quoted =
    either_by (Steps c (Error_report code quoted)) (code == number_of NoDataAvailable) (becomes (record c { stage = Waiting; query = from_now now c.intervals.retry })) (hears_report now c code)
    (λ none. let is : code ≡ 2 = eqb-true code 2 none in inr (inr (rw is refl, refl, λ serially session set serial intervals e k l. cc)))
    (λ some. report_steps now c c code quoted refl)

asked_serial_steps : (now : ℕ) (c : Client) (octets : List ℕ) (content : Content) → Steps (at_stage Asked_serial c) content (hears_asked_serial now (at_stage Asked_serial c) octets content)
asked_serial_steps now c octets (Cache_response n) =
    either_by (Steps (at_stage Asked_serial c) (Cache_response n)) (is_session c.base n) (goes (at_stage Asked_serial c) (Loading true n (payloads_of c.base))) (corrupts now (flushed (at_stage Asked_serial c)) octets)
    (λ own. inr (inr (another_is c.base n ∙ ap not own, refl, λ serially session set serial intervals e k l. cc)))
    (λ other. inr (inl (another_is c.base n ∙ ap not other, refl)))
asked_serial_steps now c octets (Error_report code quoted) = asked_report_steps now (at_stage Asked_serial c) code quoted
asked_serial_steps now c octets other = inr (inr (refl, refl, λ serially session set serial intervals e k l. cc))

asked_reset_steps : (now : ℕ) (c : Client) (octets : List ℕ) (content : Content) → Steps (at_stage Asked_reset c) content (hears_asked_reset now (at_stage Asked_reset c) octets content)
asked_reset_steps now c octets (Error_report code quoted) = asked_report_steps now (at_stage Asked_reset c) code quoted
asked_reset_steps now c octets other = inr (inr (refl, refl, λ serially session set serial intervals e k l. cc))

waiting_steps : (now : ℕ) (c : Client) (octets : List ℕ) (content : Content) → Steps (at_stage Waiting c) content (hears_waiting now (at_stage Waiting c) octets content)
waiting_steps now c octets (Error_report code quoted) = report_steps now (at_stage Waiting c) (at_stage Waiting c) code quoted refl
waiting_steps now c octets other = inr (inr (refl, refl, λ serially session set serial intervals e k l. cc))

-- the end of a load, by its session and its intervals
end_steps :
    (now : ℕ) (c : Client) (octets : List ℕ) (serially : Bool) (own : ℕ) (set : List Vrp) (session serial : ℕ) (intervals : Intervals)
    → Steps (at_stage (Loading serially own set) c) (End_of_data session serial intervals) (hears_loading now (at_stage (Loading serially own set) c) octets serially own set (End_of_data session serial intervals))
end_steps now c octets serially own set session serial intervals =
    either_by (Steps (at_stage (Loading serially own set) c) (End_of_data session serial intervals)) (session == own)
    (if are_lawful intervals then becomes (committed now (at_stage (Loading serially own set) c) session serial intervals set) else corrupts now (at_stage (Loading serially own set) c) octets)
    (corrupts now (flushed (at_stage (Loading serially own set) c)) octets)
    (λ same. either_by (Steps (at_stage (Loading serially own set) c) (End_of_data session serial intervals)) (are_lawful intervals) (becomes (committed now (at_stage (Loading serially own set) c) session serial intervals set))
    (corrupts now (at_stage (Loading serially own set) c) octets)
    (λ lawful. inl (record {
      serially = serially;
      session = own;
      set = set;
      serial = serial;
      intervals = intervals;
      stage_is = refl;
      content_is = ap (λ (n : ℕ). End_of_data n serial intervals) (eqb-true session own same);
      lawful = lawful;
      force_is = refl;
    }))
    (λ unlawful. inr (inr (ap not same, refl, λ more n all k i e is lawful. let these : intervals ≡ i = cc in let never : true ≡ false = sym lawful ∙ ap are_lawful (sym these) ∙ unlawful in cc))))
    (λ other. inr (inl (ap not other, refl)))

loading_steps :
    (now : ℕ) (c : Client) (octets : List ℕ) (serially : Bool) (own : ℕ) (set : List Vrp) (content : Content)
    → Steps (at_stage (Loading serially own set) c) content (hears_loading now (at_stage (Loading serially own set) c) octets serially own set content)
loading_steps now c octets serially own set (Announce payload) =
    either (Steps (at_stage (Loading serially own set) c) (Announce payload)) (has set payload) (reports now (at_stage (Loading serially own set) c) DuplicateAnnouncement (quoted_of octets))
    (goes (at_stage (Loading serially own set) c) (Loading serially own (put payload set)))
    (inr (inr (refl, refl, λ more n all k i e is l. cc))) (inr (inr (refl, refl, λ more n all k i e is l. cc)))
loading_steps now c octets serially own set (Withdraw payload) =
    either (Steps (at_stage (Loading serially own set) c) (Withdraw payload)) (has set payload) (goes (at_stage (Loading serially own set) c) (Loading serially own (out payload set)))
    (reports now (at_stage (Loading serially own set) c) WithdrawalOfUnknownRecord (quoted_of octets))
    (inr (inr (refl, refl, λ more n all k i e is l. cc))) (inr (inr (refl, refl, λ more n all k i e is l. cc)))
loading_steps now c octets serially own set (End_of_data session serial intervals) = end_steps now c octets serially own set session serial intervals
loading_steps now c octets serially own set (Error_report code quoted) = report_steps now (at_stage (Loading serially own set) c) (at_stage (Loading serially own set) c) code quoted refl
loading_steps now c octets serially own set other = inr (inr (refl, refl, λ more n all k i e is l. cc))

synced_steps : (now : ℕ) (c : Client) (octets : List ℕ) (content : Content) → Steps (at_stage Synced c) content (hears_synced now (at_stage Synced c) octets content)
synced_steps now c octets (Serial_notify n serial) =
    either_by (Steps (at_stage Synced c) (Serial_notify n serial)) (is_session c.base n) (if is_serial c.base serial then becomes (at_stage Synced c) else asks (at_stage Synced c)) (corrupts now (flushed (at_stage Synced c)) octets)
    (λ own. either (Steps (at_stage Synced c) (Serial_notify n serial)) (is_serial c.base serial) (becomes (at_stage Synced c)) (asks (at_stage Synced c))
    (inr (inr (another_is c.base n ∙ ap not own, refl, λ more m all k i e is l. cc)))
    (inr (inr (another_is c.base n ∙ ap not own, asks_stays c.base (at_stage Synced c) (at_stage Synced c) refl, λ more m all k i e is l. cc))))
    (λ other. inr (inl (another_is c.base n ∙ ap not other, refl)))
synced_steps now c octets (Error_report code quoted) = report_steps now (at_stage Synced c) (at_stage Synced c) code quoted refl
synced_steps now c octets other = inr (inr (refl, refl, λ more n all k i e is l. cc))

heard_steps : (now : ℕ) (stage : Stage) (c : Client) (octets : List ℕ) (content : Content) → is_connected stage ≡ true → Steps (at_stage stage c) content (hears_at stage now (at_stage stage c) octets content)
heard_steps now Off c octets content connected = absurd cc
heard_steps now Opening c octets content connected = absurd cc
heard_steps now Asked_serial c octets content connected = asked_serial_steps now c octets content
heard_steps now Asked_reset c octets content connected = asked_reset_steps now c octets content
heard_steps now Waiting c octets content connected = waiting_steps now c octets content
heard_steps now (Loading serially own set) c octets content connected = loading_steps now c octets serially own set content
heard_steps now Synced c octets content connected = synced_steps now c octets content

pub force_heard : (now : ℕ) (c : Client) (octets : List ℕ) (content : Content) → is_connected c.stage ≡ true → ForceStep c content (row now c (Heard content octets)).client
unfolding row
force_heard now c octets content connected = heard_steps now c.stage c octets content connected
