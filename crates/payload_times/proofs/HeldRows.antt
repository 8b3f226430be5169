-- What the rows of the client's table make of the base and of the moment at which it expires.
use Rattle.std.proofs.Common.{◌≡◌, ◌⊎◌, inl, inr, ◌==◌, ℕ, Bool, true, false, not, List, [], Option, Some, None, if◌then◌else◌, refl, ap, sym, ◌∙◌}
use Rattle.std.proofs.lemmas.Bool.{eqb-true}
use Rattle.moments.specs.Moments.{from_now, has_come}
use Rattle.net_prefix.specs.PayloadSets.{has, out, put}
use Rattle.net_prefix.specs.declared.payload.Vrp.{Vrp}
use Rattle.rtr_codec.specs.declared.fault.ErrorCode.TheVariants.{CorruptData, InternalError, NoDataAvailable, WithdrawalOfUnknownRecord, DuplicateAnnouncement}
use Rattle.rtr_codec.specs.declared.fault.PduFault.{PduFault}
use Rattle.rtr_codec.specs.declared.fault.PduFault.TheVariants.{Unanswered, Header, Payload}
use Rattle.rtr_codec.specs.declared.intervals.Intervals.{Intervals}
use Rattle.rtr_codec.specs.Intervals.{are_lawful}
use Rattle.rtr_codec.specs.ClientTable.{Base, Client, Input, Reply, Stage, Off, Opening, Asked_serial, Asked_reset, Waiting, Loading, Synced, Up, Fail, Heard, Faulty, Tick, No_room, Starved, is_connected, payloads_of, row, asks, asks_again, asks_from, asked_hears_report, becomes, closes, comes_up, committed, corrupts, ended, expires, fails, flushed, goes, hears_asked_reset, hears_asked_serial, hears_at, hears_fault, hears_loading, hears_report, hears_synced, hears_waiting, is_serial, is_session, query_ends, quoted_of, refresh_ends, refreshes, reopen_ends, reopens, reopens_off, reports, ticks}
use Rattle.rtr_codec.specs.PduFaults.{number_of}
use Rattle.rtr_codec.specs.PduSpelling.{Content, Serial_notify, Cache_response, Announce, Withdraw, End_of_data, Error_report}
use Rattle.rtr_session.specs.PayloadsInForce.{flushes, is_of_another}
use Rattle.rtr_session.specs.SessionState.{client_after, finds_room, settled}
use Rattle.rtr_session.proofs.ClientRows.{at_stage, either, expired, queried, refreshed}
use Rattle.rtr_session.proofs.LoadRows.{either_by}

-- Timers.

-- the base, and the moment at which it expires
abbrev pub held : Client → (Option Base) × (Option ℕ)
held c = (c.base, c.expire)

abbrev pub nothing : (Option Base) × (Option ℕ)
nothing = (None, None)

-- those behind the end of a load
abbrev pub ending : ℕ → ℕ → ℕ → List Vrp → Intervals → (Option Base) × (Option ℕ)
ending now session serial set intervals = (Some (record { session = session; serial = serial; payloads = set }), from_now now intervals.expire)

abbrev Stays : Client → Reply → Type 0
Stays c reply = held reply.client ≡ held c

asks_stays : (base : Option Base) (before c : Client) → held c ≡ held before → Stays before (asks_from c base)
asks_stays None before c same = same
asks_stays (Some base) before c same = same

expires_none : (now : ℕ) (stage : Stage) (c : Client) → held (expires stage now (flushed c)).client ≡ nothing
expires_none now Off c = refl
expires_none now Opening c = refl
expires_none now Asked_serial c = refl
expires_none now Asked_reset c = refl
expires_none now Waiting c = refl
expires_none now (Loading true own set) c = refl
expires_none now (Loading false own set) c = refl
expires_none now Synced c = refl

refreshes_stay : (stage : Stage) (c : Client) → Stays c (refreshes stage c)
refreshes_stay Synced c = asks_stays c.base c c refl
refreshes_stay other c = refl

asks_again_stay : (stage : Stage) (c : Client) → Stays c (asks_again stage c)
asks_again_stay Waiting c = asks_stays c.base c c refl
asks_again_stay other c = refl

reopens_stay : (now : ℕ) (stage : Stage) (c : Client) → Stays c (reopens stage now c)
reopens_stay now Off c = off_stay c.closing
  where
    off_stay : (closing : Bool) → Stays c (reopens_off closing now c)
    off_stay true = refl
    off_stay false = refl
reopens_stay now other c = refl

refreshed_stays : (now : ℕ) (c : Client) → Stays c (refresh_ends now c)
refreshed_stays now c = either (Stays c) (has_come c.refresh now) (refreshes c.stage (record c { refresh = None })) (becomes c) (refreshes_stay c.stage (record c { refresh = None })) refl

queried_stays : (now : ℕ) (c : Client) → Stays c (query_ends now c)
queried_stays now c = either (Stays c) (has_come c.query now) (asks_again c.stage (record c { query = None })) (becomes c) (asks_again_stay c.stage (record c { query = None })) refl

reopened_stays : (now : ℕ) (c : Client) → Stays c (reopen_ends now c)
reopened_stays now c = either (Stays c) (has_come c.reopen now) (reopens c.stage now (record c { reopen = None })) (becomes c) (reopens_stay now c.stage (record c { reopen = None })) refl

-- the other timers leave what the expire timer leaves
tick_held : (now : ℕ) (c : Client) → held (ticks now c).client ≡ held (expired now c).client
tick_held now c = reopened_stays now (queried now c).client ∙ queried_stays now (refreshed now c).client ∙ refreshed_stays now (expired now c).client

pub tick_expires : (now : ℕ) (c : Client) → has_come c.expire now ≡ true → held (row now c Tick).client ≡ nothing
unfolding row
tick_expires now c come = tick_held now c ∙ rw come (expires_none now c.stage c)

pub tick_stays : (now : ℕ) (c : Client) → has_come c.expire now ≡ false → held (row now c Tick).client ≡ held c
unfolding row
tick_stays now c coming = tick_held now c ∙ rw coming refl

-- Inputs that no octet brings, and faults.

up_stays : (stage : Stage) (c : Client) → Stays c (comes_up stage c)
up_stays Opening c = asks_stays c.base c c refl
up_stays other c = refl

fail_stays : (now : ℕ) (stage : Stage) (c : Client) → Stays c (fails stage now c)
fail_stays now Off c = refl
fail_stays now other c = refl

fault_stays : (now : ℕ) (c : Client) (octets : List ℕ) (fault : PduFault) → Stays c (hears_fault now c octets fault)
fault_stays now c octets Unanswered = refl
fault_stays now c octets (Header code) = refl
fault_stays now c octets Payload = refl

pub held_up : (now : ℕ) (c : Client) → held (row now c Up).client ≡ held c
unfolding row
held_up now c = up_stays c.stage c

pub held_fail : (now : ℕ) (c : Client) → held (row now c Fail).client ≡ held c
unfolding row
held_fail now c = fail_stays now c.stage c

pub held_starved : (now : ℕ) (c : Client) → held (row now c Starved).client ≡ held c
unfolding row
held_starved now c = either (Stays c) (is_connected c.stage) (reports now c InternalError []) (becomes c) refl refl

pub held_fault : (now : ℕ) (c : Client) (fault : PduFault) (octets : List ℕ) → held (row now c (Faulty fault octets)).client ≡ held c
unfolding row
held_fault now c fault octets = either (Stays c) (is_connected c.stage) (hears_fault now c octets fault) (becomes c) (fault_stays now c octets fault) refl

-- PDUs.

-- the PDU ends a load in progress: it is the base, and expires its interval from now
pub record Commits (now : ℕ) (c : Client) (content : Content) (after : Client) : Type 0 where
  pub serially : Bool
  pub session : ℕ
  pub set : List Vrp
  pub serial : ℕ
  pub intervals : Intervals
  pub stage_is : c.stage ≡ Loading serially session set
  pub content_is : content ≡ End_of_data session serial intervals
  pub lawful : are_lawful intervals ≡ true
  pub held_is : held after ≡ ending now session serial set intervals

-- it ends none
abbrev pub CommitsNone : Client → Content → Type 0
CommitsNone c content =
    (serially : Bool) (session : ℕ) (set : List Vrp) (serial : ℕ) (intervals : Intervals) → c.stage ≡ Loading serially session set
    → content ≡ End_of_data session serial intervals → are_lawful intervals ≡ true → ⊥

-- a PDU ends a load, or flushes, or leaves the base and its moment as they are
abbrev pub HeldStep : ℕ → Client → Content → Client → Type 0
HeldStep now c content after =
    Commits now c content after
    ⊎ (((flushes c content ≡ true) × (held after ≡ nothing))
    ⊎ ((flushes c content ≡ false) × (held after ≡ held c) × CommitsNone c content))

abbrev Steps : ℕ → Client → Content → Reply → Type 0
Steps now c content reply = HeldStep now c content reply.client

another_is : (base : Option Base) (session : ℕ) → is_of_another base session ≡ not (is_session base session)
another_is None session = refl
another_is (Some base) session = refl

-- a report, by whether it tells corrupt data
report_by : (now : ℕ) (before c : Client) (code : ℕ) (quoted : List ℕ) (test : Bool) → held c ≡ held before → (code == number_of CorruptData) ≡ test
    → HeldStep now before (Error_report code quoted) (ended now true (if test then flushed c else c))
report_by now before c code quoted true same is = inr (inl (is, refl))
report_by now before c code quoted false same is = inr (inr (is, same, λ serially session set serial intervals e k l. cc))

report_steps : (now : ℕ) (before c : Client) (code : ℕ) (quoted : List ℕ) → held c ≡ held before → Steps now before (Error_report code quoted) (hears_report now c code)
report_steps now before c code quoted same = report_by now before c code quoted (code == number_of CorruptData) same refl

asked_report_steps : (now : ℕ) (c : Client) (code : ℕ) (quoted : List ℕ) → Steps now c (Error_report code quoted) (asked_hears_report now c code)
asked_report_steps now c code quoted =
    either_by (Steps now c (Error_report code quoted)) (code == number_of NoDataAvailable) (becomes (record c { stage = Waiting; query = from_now now c.intervals.retry })) (hears_report now c code)
    (λ none. let is : code ≡ 2 = eqb-true code 2 none in inr (inr (rw is refl, refl, λ serially session set serial intervals e k l. cc)))
    (λ some. report_steps now c c code quoted refl)

asked_serial_steps : (now : ℕ) (c : Client) (octets : List ℕ) (content : Content) → Steps now (at_stage Asked_serial c) content (hears_asked_serial now (at_stage Asked_serial c) octets content)
asked_serial_steps now c octets (Cache_response n) =
    either_by (Steps now (at_stage Asked_serial c) (Cache_response n)) (is_session c.base n) (goes (at_stage Asked_serial c) (Loading true n (payloads_of c.base))) (corrupts now (flushed (at_stage Asked_serial c)) octets)
    (λ own. inr (inr (another_is c.base n ∙ ap not own, refl, λ serially session set serial intervals e k l. cc)))
    (λ other. inr (inl (another_is c.base n ∙ ap not other, refl)))
asked_serial_steps now c octets (Error_report code quoted) = asked_report_steps now (at_stage Asked_serial c) code quoted
asked_serial_steps now c octets other = inr (inr (refl, refl, λ serially session set serial intervals e k l. cc))

asked_reset_steps : (now : ℕ) (c : Client) (octets : List ℕ) (content : Content) → Steps now (at_stage Asked_reset c) content (hears_asked_reset now (at_stage Asked_reset c) octets content)
asked_reset_steps now c octets (Error_report code quoted) = asked_report_steps now (at_stage Asked_reset c) code quoted
asked_reset_steps now c octets other = inr (inr (refl, refl, λ serially session set serial intervals e k l. cc))

waiting_steps : (now : ℕ) (c : Client) (octets : List ℕ) (content : Content) → Steps now (at_stage Waiting c) content (hears_waiting now (at_stage Waiting c) octets content)
waiting_steps now c octets (Error_report code quoted) = report_steps now (at_stage Waiting c) (at_stage Waiting c) code quoted refl
waiting_steps now c octets other = inr (inr (refl, refl, λ serially session set serial intervals e k l. cc))

-- the end of a load, by its session and its intervals
end_steps :
    (now : ℕ) (c : Client) (octets : List ℕ) (serially : Bool) (own : ℕ) (set : List Vrp) (session serial : ℕ) (intervals : Intervals)
    → Steps now (at_stage (Loading serially own set) c) (End_of_data session serial intervals) (hears_loading now (at_stage (Loading serially own set) c) octets serially own set (End_of_data session serial intervals))
end_steps now c octets serially own set session serial intervals =
    either_by (Steps now (at_stage (Loading serially own set) c) (End_of_data session serial intervals)) (session == own)
    (if are_lawful intervals then becomes (committed now (at_stage (Loading serially own set) c) session serial intervals set) else corrupts now (at_stage (Loading serially own set) c) octets)
    (corrupts now (flushed (at_stage (Loading serially own set) c)) octets)
    (λ same. either_by (Steps now (at_stage (Loading serially own set) c) (End_of_data session serial intervals)) (are_lawful intervals) (becomes (committed now (at_stage (Loading serially own set) c) session serial intervals set))
    (corrupts now (at_stage (Loading serially own set) c) octets)
    (λ lawful. inl (record {
      serially = serially;
      session = own;
      set = set;
      serial = serial;
      intervals = intervals;
      stage_is = refl;
      content_is = ap (λ (n : ℕ). End_of_data n serial intervals) (eqb-true session own same);
      lawful = lawful;
      held_is = ap (λ (n : ℕ). ending now n serial set intervals) (eqb-true session own same);
    }))
    (λ unlawful. inr (inr (ap not same, refl, λ more n all k i e is lawful. let these : intervals ≡ i = cc in let never : true ≡ false = sym lawful ∙ ap are_lawful (sym these) ∙ unlawful in cc))))
    (λ other. inr (inl (ap not other, refl)))

loading_steps :
    (now : ℕ) (c : Client) (octets : List ℕ) (serially : Bool) (own : ℕ) (set : List Vrp) (content : Content)
    → Steps now (at_stage (Loading serially own set) c) content (hears_loading now (at_stage (Loading serially own set) c) octets serially own set content)
loading_steps now c octets serially own set (Announce payload) =
    either (Steps now (at_stage (Loading serially own set) c) (Announce payload)) (has set payload) (reports now (at_stage (Loading serially own set) c) DuplicateAnnouncement (quoted_of octets))
    (goes (at_stage (Loading serially own set) c) (Loading serially own (put payload set)))
    (inr (inr (refl, refl, λ more n all k i e is l. cc))) (inr (inr (refl, refl, λ more n all k i e is l. cc)))
loading_steps now c octets serially own set (Withdraw payload) =
    either (Steps now (at_stage (Loading serially own set) c) (Withdraw payload)) (has set payload) (goes (at_stage (Loading serially own set) c) (Loading serially own (out payload set)))
    (reports now (at_stage (Loading serially own set) c) WithdrawalOfUnknownRecord (quoted_of octets))
    (inr (inr (refl, refl, λ more n all k i e is l. cc))) (inr (inr (refl, refl, λ more n all k i e is l. cc)))
loading_steps now c octets serially own set (End_of_data session serial intervals) = end_steps now c octets serially own set session serial intervals
loading_steps now c octets serially own set (Error_report code quoted) = report_steps now (at_stage (Loading serially own set) c) (at_stage (Loading serially own set) c) code quoted refl
loading_steps now c octets serially own set other = inr (inr (refl, refl, λ more n all k i e is l. cc))

synced_steps : (now : ℕ) (c : Client) (octets : List ℕ) (content : Content) → Steps now (at_stage Synced c) content (hears_synced now (at_stage Synced c) octets content)
synced_steps now c octets (Serial_notify n serial) =
    either_by (Steps now (at_stage Synced c) (Serial_notify n serial)) (is_session c.base n) (if is_serial c.base serial then becomes (at_stage Synced c) else asks (at_stage Synced c)) (corrupts now (flushed (at_stage Synced c)) octets)
    (λ own. either (Steps now (at_stage Synced c) (Serial_notify n serial)) (is_serial c.base serial) (becomes (at_stage Synced c)) (asks (at_stage Synced c))
    (inr (inr (another_is c.base n ∙ ap not own, refl, λ more m all k i e is l. cc)))
    (inr (inr (another_is c.base n ∙ ap not own, asks_stays c.base (at_stage Synced c) (at_stage Synced c) refl, λ more m all k i e is l. cc))))
    (λ other. inr (inl (another_is c.base n ∙ ap not other, refl)))
synced_steps now c octets (Error_report code quoted) = report_steps now (at_stage Synced c) (at_stage Synced c) code quoted refl
synced_steps now c octets other = inr (inr (refl, refl, λ more n all k i e is l. cc))

heard_steps : (now : ℕ) (stage : Stage) (c : Client) (octets : List ℕ) (content : Content) → is_connected stage ≡ true → Steps now (at_stage stage c) content (hears_at stage now (at_stage stage c) octets content)
heard_steps now Off c octets content connected = absurd cc
heard_steps now Opening c octets content connected = absurd cc
heard_steps now Asked_serial c octets content connected = asked_serial_steps now c octets content
heard_steps now Asked_reset c octets content connected = asked_reset_steps now c octets content
heard_steps now Waiting c octets content connected = waiting_steps now c octets content
heard_steps now (Loading serially own set) c octets content connected = loading_steps now c octets serially own set content
heard_steps now Synced c octets content connected = synced_steps now c octets content

pub held_heard : (now : ℕ) (c : Client) (octets : List ℕ) (content : Content) → is_connected c.stage ≡ true → HeldStep now c content (row now c (Heard content octets)).client
unfolding row
held_heard now c octets content connected = heard_steps now c.stage c octets content connected

-- Behind a row that says something.

no_room_stays : (now : ℕ) (c : Client) → held (row now c No_room).client ≡ held c
unfolding row
no_room_stays now c = either (Stays c) (is_connected c.stage) (closes now c) (becomes c) refl refl

settled_by : (now : ℕ) (room : Bool) (c : Client) → held (if room then c else (row now c No_room).client) ≡ held c
settled_by now true c = refl
settled_by now false c = no_room_stays now c

settled_stays : (now : ℕ) (told : Option Content) (ring : List ℕ) (c : Client) → held (settled now told ring c) ≡ held c
settled_stays now None ring c = refl
settled_stays now (Some content) ring c = settled_by now (finds_room content ring) c

pub held_after : (now : ℕ) (input : Input) (ring : List ℕ) (c : Client) → held (client_after now input ring c) ≡ held (row now c input).client
held_after now input ring c = settled_stays now (row now c input).said ring (row now c input).client

-- a PDU and what its row says
stepped : (now : ℕ) (input : Input) (ring : List ℕ) (c : Client) (content : Content) → HeldStep now c content (row now c input).client → HeldStep now c content (client_after now input ring c)
stepped now input ring c content (inl k) = inl (record {
  serially = k.serially;
  session = k.session;
  set = k.set;
  serial = k.serial;
  intervals = k.intervals;
  stage_is = k.stage_is;
  content_is = k.content_is;
  lawful = k.lawful;
  held_is = held_after now input ring c ∙ k.held_is;
})
stepped now input ring c content (inr (inl (flushed, none))) = inr (inl (flushed, held_after now input ring c ∙ none))
stepped now input ring c content (inr (inr (kept, same, none))) = inr (inr (kept, held_after now input ring c ∙ same, none))

pub held_pdu : (now : ℕ) (ring : List ℕ) (c : Client) (octets : List ℕ) (content : Content) → is_connected c.stage ≡ true → HeldStep now c content (client_after now (Heard content octets) ring c)
held_pdu now ring c octets content connected = stepped now (Heard content octets) ring c content (held_heard now c octets content connected)
