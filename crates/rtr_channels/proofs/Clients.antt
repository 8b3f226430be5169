-- What a client's row makes of its payloads in force and of what is on the way.
use Rattle.std.proofs.Common.{◌≡◌, ◌≢◌, ◌⊎◌, ℕ, List, [], ◌∷◌, ◌++◌, Bool, true, false, not, ◌==◌, cond, Option, Some, None, inl, inr, refl, ap, sym, subst, ◌∙◌}
use Rattle.std.proofs.lemmas.Bool.{eqb-true}
use Rattle.moments.specs.Moments.{from_now, has_come}
use Rattle.net_prefix.specs.declared.payload.Vrp.{Vrp}
use Rattle.net_prefix.specs.PayloadSets.{has, out, put}
use Rattle.rtr_codec.specs.Intervals.{are_lawful}
use Rattle.rtr_codec.specs.PduFaults.{number_of}
use Rattle.rtr_codec.specs.declared.fault.ErrorCode.TheVariants.{CorruptData, DuplicateAnnouncement, InternalError, NoDataAvailable, WithdrawalOfUnknownRecord}
use Rattle.rtr_codec.specs.declared.intervals.Intervals.{Intervals}
use Rattle.rtr_codec.specs.ClientTable.{Base, Client, Fail, Faulty, Input, No_room, Reply, Stage, Starved, Tick, Up, Heard, Off, Opening, Asked_serial, Asked_reset, Waiting, Loading, Synced, along, asked_hears_report, asks, asks_again, asks_from, becomes, closes, comes_up, committed, corrupts, expire_ends, expires, fails, flushed, goes, hears_asked_reset, hears_asked_serial, hears_at, hears_fault, hears_loading, hears_report, hears_synced, hears_waiting, is_connected, is_serial, is_session, payloads_of, query_ends, quoted_of, refresh_ends, refreshes, reopen_ends, reopens, reopens_off, reports, row, then_row, ticks}
use Rattle.rtr_codec.specs.PduSpelling.{Content, Serial_notify, Serial_query, Reset_query, Cache_response, Announce, Withdraw, Ipv6_prefix, End_of_data, Cache_reset, Router_key, Error_report}
use Rattle.rtr_channels.specs.Channels.{Publication}
use Rattle.rtr_client.specs.Following.{served}
use Rattle.rtr_codec.specs.PduStream.{Item, FaultyPdu, WholePdu}
use Rattle.rtr_session.specs.SessionState.{input_of}
use Rattle.rtr_channels.specs.ChannelEvents.{IsOwn, client_after, settled}
use Rattle.rtr_channels.proofs.Flights.{Fits, IsBase, IsVersion, Loads, Quiet}

-- what a client has said and the cache has not read
abbrev pub with_said : List Content → Option Content → List Content
with_said asked None = asked
with_said asked (Some content) = asked ++ content ∷ []

-- a client that closes its connection reads nothing more of it
abbrev pub is_live_at : Stage → Bool → Bool
is_live_at Off closing = not closing
is_live_at Opening closing = true
is_live_at Asked_serial closing = true
is_live_at Asked_reset closing = true
is_live_at Waiting closing = true
is_live_at (Loading serially session set) closing = true
is_live_at Synced closing = true

abbrev pub is_live : Client → Bool
is_live client = is_live_at client.stage client.closing

-- behind this row the payloads in force are a version, and what is on the way fits the stage
abbrev pub Keeps : List Publication → List Content → List Content → Reply → Type 0
Keeps vs asked f r = IsBase vs r.client.base × (is_live r.client ≡ true → Fits vs r.client.base (with_said asked r.said) f r.client.stage)

-- ---- rows that ask and rows that end

pub asks_keep : (vs : List Publication) (client : Client) (base : Option Base) (asked f : List Content) → client.base ≡ base → IsBase vs base → asked ≡ [] → Quiet f → Keeps vs asked f (asks_from client base)
asks_keep vs client None asked f is h e q = (rw is tt, λ live. inl (ap (λ u. u ++ Reset_query ∷ []) e, q))
asks_keep vs client (Some b) asked f is h e q = (rw is h, λ live. rw is (inl (ap (λ u. u ++ Serial_query b.session b.serial ∷ []) e, q)))

report_case : (vs : List Publication) (now : ℕ) (client : Client) (asked f : List Content) (t : Bool) → IsBase vs client.base → Keeps vs asked f (closes now (cond t (flushed client) client))
report_case vs now client asked f true h = (tt, λ live. cc)
report_case vs now client asked f false h = (h, λ live. cc)

report_keeps : (vs : List Publication) (now : ℕ) (client : Client) (asked f : List Content) (code : ℕ) → IsBase vs client.base → Keeps vs asked f (hears_report now client code)
report_keeps vs now client asked f code h = report_case vs now client asked f (code == number_of CorruptData) h

asked_report_case : (vs : List Publication) (now : ℕ) (client : Client) (asked f : List Content) (code : ℕ) (t : Bool) → IsBase vs client.base → asked ≡ [] → Quiet f
    → Keeps vs asked f (cond t (becomes (record client { stage = Waiting; query = from_now now client.intervals.retry })) (hears_report now client code))
asked_report_case vs now client asked f code true h e q = (h, λ live. (e, q))
asked_report_case vs now client asked f code false h e q = report_keeps vs now client asked f code h

asked_report_keeps : (vs : List Publication) (now : ℕ) (client : Client) (asked f : List Content) (code : ℕ) → IsBase vs client.base → asked ≡ [] → Quiet f → Keeps vs asked f (asked_hears_report now client code)
asked_report_keeps vs now client asked f code h e q = asked_report_case vs now client asked f code (code == number_of NoDataAvailable) h e q

-- ---- PDUs in each stage

loading_case : (vs : List Publication) (now : ℕ) (client : Client) (b : Base) (octets : List ℕ) (asked f : List Content) (n : ℕ) (t : Bool) → client.base ≡ Some b → IsBase vs (Some b) → asked ≡ [] → Loads vs n b.payloads f
    → Keeps vs asked f (cond t (goes client (Loading true n (payloads_of client.base))) (corrupts now (flushed client) octets))
loading_case vs now client b octets asked f n true is h e l = (rw is h, λ live. (e, rw is l))
loading_case vs now client b octets asked f n false is h e l = (tt, λ live. cc)

asked_serial_keeps : (vs : List Publication) (now : ℕ) (client : Client) (b : Base) (octets : List ℕ) (asked f : List Content) (p : Content) → client.stage ≡ Asked_serial → client.base ≡ Some b → IsBase vs (Some b)
    → Fits vs (Some b) asked (p ∷ f) Asked_serial → Keeps vs asked f (hears_asked_serial now client octets p)
asked_serial_keeps vs now client b octets asked f (Cache_response n) stage is h (inl w) = absurd w.1.0
asked_serial_keeps vs now client b octets asked f (Cache_response n) stage is h (inr w) = loading_case vs now client b octets asked f n (is_session client.base n) is h w.0 w.1
asked_serial_keeps vs now client b octets asked f Cache_reset stage is h (inl w) = absurd w.1.0
asked_serial_keeps vs now client b octets asked f Cache_reset stage is h (inr w) = (rw is h, λ live. inl (ap (λ u. u ++ Reset_query ∷ []) w.0, w.1))
asked_serial_keeps vs now client b octets asked f (Error_report code quoted) stage is h (inl w) = absurd w.1.0
asked_serial_keeps vs now client b octets asked f (Error_report code quoted) stage is h (inr w) = asked_report_keeps vs now client asked f code (rw is h) w.0 w.1
asked_serial_keeps vs now client b octets asked f (Serial_notify n k) stage is h (inl w) = (rw is h, λ live. rw (stage, is) (inl (w.0, w.1.1)))
asked_serial_keeps vs now client b octets asked f (Serial_notify n k) stage is h (inr w) = (rw is h, λ live. rw (stage, is) (inr w))
asked_serial_keeps vs now client b octets asked f _ stage is h w = (rw is h, λ live. cc)

asked_reset_keeps : (vs : List Publication) (now : ℕ) (client : Client) (octets : List ℕ) (asked f : List Content) (p : Content) → client.stage ≡ Asked_reset → IsBase vs client.base
    → Fits vs client.base asked (p ∷ f) Asked_reset → Keeps vs asked f (hears_asked_reset now client octets p)
asked_reset_keeps vs now client octets asked f (Cache_response n) stage h (inl w) = absurd w.1.0
asked_reset_keeps vs now client octets asked f (Cache_response n) stage h (inr w) = (h, λ live. w)
asked_reset_keeps vs now client octets asked f (Error_report code quoted) stage h (inl w) = absurd w.1.0
asked_reset_keeps vs now client octets asked f (Error_report code quoted) stage h (inr w) = asked_report_keeps vs now client asked f code h w.0 w.1
asked_reset_keeps vs now client octets asked f (Serial_notify n k) stage h (inl w) = (h, λ live. rw stage (inl (w.0, w.1.1)))
asked_reset_keeps vs now client octets asked f (Serial_notify n k) stage h (inr w) = (h, λ live. rw stage (inr w))
asked_reset_keeps vs now client octets asked f _ stage h w = (h, λ live. cc)

waiting_keeps : (vs : List Publication) (now : ℕ) (client : Client) (octets : List ℕ) (asked f : List Content) (p : Content) → client.stage ≡ Waiting → IsBase vs client.base
    → Fits vs client.base asked (p ∷ f) Waiting → Keeps vs asked f (hears_waiting now client octets p)
waiting_keeps vs now client octets asked f (Error_report code quoted) stage h w = report_keeps vs now client asked f code h
waiting_keeps vs now client octets asked f (Serial_notify n k) stage h w = (h, λ live. rw stage (w.0, w.1.1))
waiting_keeps vs now client octets asked f _ stage h w = (h, λ live. cc)

notify_case : (vs : List Publication) (now : ℕ) (client : Client) (octets : List ℕ) (asked f : List Content) (t u : Bool) → client.stage ≡ Synced → IsBase vs client.base → asked ≡ [] → Quiet f
    → Keeps vs asked f (cond t (cond u (becomes client) (asks client)) (corrupts now (flushed client) octets))
notify_case vs now client octets asked f true true stage h e q = (h, λ live. rw stage (e, q))
notify_case vs now client octets asked f true false stage h e q = asks_keep vs client client.base asked f refl h e q
notify_case vs now client octets asked f false u stage h e q = (tt, λ live. cc)

synced_keeps : (vs : List Publication) (now : ℕ) (client : Client) (octets : List ℕ) (asked f : List Content) (p : Content) → client.stage ≡ Synced → IsBase vs client.base
    → Fits vs client.base asked (p ∷ f) Synced → Keeps vs asked f (hears_synced now client octets p)
synced_keeps vs now client octets asked f (Error_report code quoted) stage h w = report_keeps vs now client asked f code h
synced_keeps vs now client octets asked f (Serial_notify n k) stage h w = notify_case vs now client octets asked f (is_session client.base n) (is_serial client.base k) stage h w.0 w.1.1
synced_keeps vs now client octets asked f _ stage h w = (h, λ live. cc)

announced_case : (vs : List Publication) (now : ℕ) (client : Client) (d : Bool) (n : ℕ) (s : List Vrp) (octets : List ℕ) (asked f : List Content) (p : Vrp) (t : Bool) → IsBase vs client.base → asked ≡ [] → Loads vs n (put p s) f
    → Keeps vs asked f (cond t (reports now client DuplicateAnnouncement (quoted_of octets)) (goes client (Loading d n (put p s))))
announced_case vs now client d n s octets asked f p true h e l = (h, λ live. cc)
announced_case vs now client d n s octets asked f p false h e l = (h, λ live. (e, l))

withdrawn_case : (vs : List Publication) (now : ℕ) (client : Client) (d : Bool) (n : ℕ) (s : List Vrp) (octets : List ℕ) (asked f : List Content) (p : Vrp) (t : Bool) → IsBase vs client.base → asked ≡ [] → Loads vs n (out p s) f
    → Keeps vs asked f (cond t (goes client (Loading d n (out p s))) (reports now client WithdrawalOfUnknownRecord (quoted_of octets)))
withdrawn_case vs now client d n s octets asked f p true h e l = (h, λ live. (e, l))
withdrawn_case vs now client d n s octets asked f p false h e l = (h, λ live. cc)

end_case : (vs : List Publication) (now : ℕ) (client : Client) (n m k : ℕ) (intervals : Intervals) (s : List Vrp) (octets : List ℕ) (asked f : List Content) (t lawful : Bool) → (m == n) ≡ t → IsBase vs client.base → asked ≡ []
    → (m ≡ n → IsVersion vs n k s) → Quiet f
    → Keeps vs asked f (cond t (cond lawful (becomes (committed now client m k intervals s)) (corrupts now client octets)) (corrupts now (flushed client) octets))
end_case vs now client n m k intervals s octets asked f true true at h e v q = let same = eqb-true m n at in (rw same (v same), λ live. (e, q))
end_case vs now client n m k intervals s octets asked f true false at h e v q = (h, λ live. cc)
end_case vs now client n m k intervals s octets asked f false lawful at h e v q = (tt, λ live. cc)

loading_keeps : (vs : List Publication) (now : ℕ) (client : Client) (d : Bool) (n : ℕ) (s : List Vrp) (octets : List ℕ) (asked f : List Content) (p : Content) → client.stage ≡ Loading d n s → IsBase vs client.base
    → Fits vs client.base asked (p ∷ f) (Loading d n s) → Keeps vs asked f (hears_loading now client octets d n s p)
loading_keeps vs now client d n s octets asked f (Announce p) stage h w = announced_case vs now client d n s octets asked f p (has s p) h w.0 w.1
loading_keeps vs now client d n s octets asked f (Withdraw p) stage h w = withdrawn_case vs now client d n s octets asked f p (has s p) h w.0 w.1
loading_keeps vs now client d n s octets asked f (Ipv6_prefix body) stage h w = (h, λ live. rw stage w)
loading_keeps vs now client d n s octets asked f (Router_key body) stage h w = (h, λ live. rw stage w)
loading_keeps vs now client d n s octets asked f (Serial_notify m k) stage h w = (h, λ live. rw stage w)
loading_keeps vs now client d n s octets asked f (End_of_data m k i) stage h w = end_case vs now client n m k i s octets asked f (m == n) (are_lawful i) refl h w.0 w.1.0 w.1.1
loading_keeps vs now client d n s octets asked f (Error_report code quoted) stage h w = report_keeps vs now client asked f code h
loading_keeps vs now client d n s octets asked f _ stage h w = (h, λ live. cc)

heard_serially : (vs : List Publication) (now : ℕ) (client : Client) (base : Option Base) (octets : List ℕ) (asked f : List Content) (p : Content) → client.stage ≡ Asked_serial → client.base ≡ base → IsBase vs base
    → Fits vs base asked (p ∷ f) Asked_serial → Keeps vs asked f (hears_asked_serial now client octets p)
heard_serially vs now client None octets asked f p stage is h w = absurd w
heard_serially vs now client (Some b) octets asked f p stage is h w = asked_serial_keeps vs now client b octets asked f p stage is h w

-- a PDU that comes next
pub heard_keeps : (vs : List Publication) (now : ℕ) (client : Client) (stage : Stage) (octets : List ℕ) (asked f : List Content) (p : Content) → client.stage ≡ stage → IsBase vs client.base
    → Fits vs client.base asked (p ∷ f) stage → Keeps vs asked f (hears_at stage now client octets p)
heard_keeps vs now client Off octets asked f p stage h w = (h, λ live. rw stage (w.0, w.1.1))
heard_keeps vs now client Opening octets asked f p stage h w = (h, λ live. rw stage (w.0, w.1.1))
heard_keeps vs now client Asked_serial octets asked f p stage h w = heard_serially vs now client client.base octets asked f p stage refl h w
heard_keeps vs now client Asked_reset octets asked f p stage h w = asked_reset_keeps vs now client octets asked f p stage h w
heard_keeps vs now client Waiting octets asked f p stage h w = waiting_keeps vs now client octets asked f p stage h w
heard_keeps vs now client (Loading d n s) octets asked f p stage h w = loading_keeps vs now client d n s octets asked f p stage h w
heard_keeps vs now client Synced octets asked f p stage h w = synced_keeps vs now client octets asked f p stage h w

-- ---- where no connection stands

pushed_some : (asked : List Content) (content : Content) → asked ++ content ∷ [] ≢ []
pushed_some [] content e = cc
pushed_some (first ∷ more) content e = cc

fits_dropped : (vs : List Publication) (base : Option Base) (asked f : List Content) (p : Content) (stage : Stage) → is_connected stage ≡ false → Fits vs base asked (p ∷ f) stage → Fits vs base asked f stage
fits_dropped vs base asked f p Off h w = (w.0, w.1.1)
fits_dropped vs base asked f p Opening h w = (w.0, w.1.1)
fits_dropped vs base asked f p Asked_serial h w = cc
fits_dropped vs base asked f p Asked_reset h w = cc
fits_dropped vs base asked f p Waiting h w = cc
fits_dropped vs base asked f p (Loading d n s) h w = cc
fits_dropped vs base asked f p Synced h w = cc

fits_unsaid : (vs : List Publication) (base : Option Base) (asked f : List Content) (content : Content) (stage : Stage) → is_connected stage ≡ false → Fits vs base (asked ++ content ∷ []) f stage → Fits vs base asked f stage
fits_unsaid vs base asked f content Off h w = absurd (pushed_some asked content w.0)
fits_unsaid vs base asked f content Opening h w = absurd (pushed_some asked content w.0)
fits_unsaid vs base asked f content Asked_serial h w = cc
fits_unsaid vs base asked f content Asked_reset h w = cc
fits_unsaid vs base asked f content Waiting h w = cc
fits_unsaid vs base asked f content (Loading d n s) h w = cc
fits_unsaid vs base asked f content Synced h w = cc

-- ---- memory and room

-- memory was refused
starved_case : (vs : List Publication) (now : ℕ) (client : Client) (asked f : List Content) (p : Content) (t : Bool) → is_connected client.stage ≡ t → IsBase vs client.base → Fits vs client.base asked (p ∷ f) client.stage
    → Keeps vs asked f (cond t (reports now client InternalError []) (becomes client))
starved_case vs now client asked f p true at h w = (h, λ live. cc)
starved_case vs now client asked f p false at h w = (h, λ live. fits_dropped vs client.base asked f p client.stage at w)

pub starved_keeps : (vs : List Publication) (now : ℕ) (client : Client) (asked f : List Content) (p : Content) → IsBase vs client.base → Fits vs client.base asked (p ∷ f) client.stage → Keeps vs asked f (row now client Starved)
unfolding row
starved_keeps vs now client asked f p h w = starved_case vs now client asked f p (is_connected client.stage) refl h w

-- a query found no room
unsaid_case : (vs : List Publication) (now : ℕ) (client : Client) (asked f : List Content) (content : Content) (t : Bool) → is_connected client.stage ≡ t → IsBase vs client.base
    → (is_live client ≡ true → Fits vs client.base (asked ++ content ∷ []) f client.stage) → Keeps vs asked f (cond t (closes now client) (becomes client))
unsaid_case vs now client asked f content true at h w = (h, λ live. cc)
unsaid_case vs now client asked f content false at h w = (h, λ live. fits_unsaid vs client.base asked f content client.stage at (w live))

-- what the client has said once a row has found room or not
abbrev pub asked_after : List Content → Bool → Option Content → List Content
asked_after asked has_room None = asked
asked_after asked true (Some content) = asked ++ content ∷ []
asked_after asked false (Some content) = asked

-- the same of what is left of the client behind it
abbrev pub KeepsClient : List Publication → List Content → List Content → Client → Type 0
KeepsClient vs asked f client = IsBase vs client.base × (is_live client ≡ true → Fits vs client.base asked f client.stage)

unsaid_keeps : (vs : List Publication) (asked f : List Content) (now : ℕ) (client : Client) (t : Bool) → Keeps vs asked f (cond t (closes now client) (becomes client)) → KeepsClient vs asked f (cond t (closes now client) (becomes client)).client
unsaid_keeps vs asked f now client true k = k
unsaid_keeps vs asked f now client false k = k

settled_case : (vs : List Publication) (now : ℕ) (has_room : Bool) (client : Client) (said : Option Content) (asked f : List Content) → IsBase vs client.base → (is_live client ≡ true → Fits vs client.base (with_said asked said) f client.stage)
    → KeepsClient vs (asked_after asked has_room said) f (settled now has_room said client)
unfolding row
settled_case vs now true client None asked f h w = (h, w)
settled_case vs now true client (Some content) asked f h w = (h, w)
settled_case vs now false client None asked f h w = (h, w)
settled_case vs now false client (Some content) asked f h w =
    unsaid_keeps vs asked f now client (is_connected client.stage) (unsaid_case vs now client asked f content (is_connected client.stage) refl h w)

pub settled_keeps : (vs : List Publication) (now : ℕ) (has_room : Bool) (r : Reply) (asked f : List Content) → Keeps vs asked f r → KeepsClient vs (asked_after asked has_room r.said) f (client_after now has_room r)
settled_keeps vs now has_room r asked f k = settled_case vs now has_room r.client r.said asked f k.0 k.1

-- ---- the ends of timers

-- the same, and a PDU is said only where nothing waits to be read
abbrev pub KeepsAlone : List Publication → List Content → List Content → Reply → Type 0
KeepsAlone vs asked f r = Keeps vs asked f r × ((r.said ≡ None) ⊎ (asked ≡ []))

-- what fits a client that is live
abbrev FitsLive : List Publication → List Content → List Content → Client → Stage → Type 0
FitsLive vs asked f client stage = is_live client ≡ true → Fits vs client.base asked f stage

asks_alone : (vs : List Publication) (client : Client) (asked f : List Content) → IsBase vs client.base → asked ≡ [] → Quiet f → KeepsAlone vs asked f (asks client)
asks_alone vs client asked f h e q = (asks_keep vs client client.base asked f refl h e q, inr e)

stays_alone : (vs : List Publication) (client : Client) (asked f : List Content) → IsBase vs client.base → FitsLive vs asked f client client.stage → KeepsAlone vs asked f (becomes client)
stays_alone vs client asked f h w = ((h, w), inl refl)

expires_keep : (vs : List Publication) (now : ℕ) (client : Client) (stage : Stage) (asked f : List Content) → client.stage ≡ stage → FitsLive vs asked f client stage → KeepsAlone vs asked f (expires stage now (flushed client))
expires_keep vs now client Off asked f stage w = ((tt, λ live. rw stage (w live)), inl refl)
expires_keep vs now client Opening asked f stage w = ((tt, λ live. rw stage (w live)), inl refl)
expires_keep vs now client Asked_serial asked f stage w = ((tt, λ live. cc), inl refl)
expires_keep vs now client Asked_reset asked f stage w = ((tt, λ live. rw stage (w live)), inl refl)
expires_keep vs now client Waiting asked f stage w = ((tt, λ live. rw stage (w live)), inl refl)
expires_keep vs now client (Loading true n s) asked f stage w = ((tt, λ live. cc), inl refl)
expires_keep vs now client (Loading false n s) asked f stage w = ((tt, λ live. rw stage (w live)), inl refl)
expires_keep vs now client Synced asked f stage w =
    let up : is_live client ≡ true = rw stage refl in
    ((tt, λ live. inl (ap (λ u. u ++ Reset_query ∷ []) (w up).0, (w up).1)), inr (w up).0)

refreshes_keep : (vs : List Publication) (client : Client) (stage : Stage) (asked f : List Content) → client.stage ≡ stage → IsBase vs client.base → FitsLive vs asked f client stage → KeepsAlone vs asked f (refreshes stage (record client { refresh = None }))
refreshes_keep vs client Synced asked f stage h w =
    let up : is_live client ≡ true = rw stage refl in
    asks_alone vs (record client { refresh = None }) asked f h (w up).0 (w up).1
refreshes_keep vs client _ asked f stage h w = ((h, λ live. rw stage (w live)), inl refl)

asks_again_keep : (vs : List Publication) (client : Client) (stage : Stage) (asked f : List Content) → client.stage ≡ stage → IsBase vs client.base → FitsLive vs asked f client stage → KeepsAlone vs asked f (asks_again stage (record client { query = None }))
asks_again_keep vs client Waiting asked f stage h w =
    let up : is_live client ≡ true = rw stage refl in
    asks_alone vs (record client { query = None }) asked f h (w up).0 (w up).1
asks_again_keep vs client _ asked f stage h w = ((h, λ live. rw stage (w live)), inl refl)

reopens_off_keep : (vs : List Publication) (now : ℕ) (client : Client) (closing : Bool) (asked f : List Content) → client.stage ≡ Off → client.closing ≡ closing → IsBase vs client.base → FitsLive vs asked f client Off
    → KeepsAlone vs asked f (reopens_off closing now (record client { reopen = None }))
reopens_off_keep vs now client true asked f stage closing h w = ((h, λ live. rw stage (w live)), inl refl)
reopens_off_keep vs now client false asked f stage closing h w = ((h, λ live. w (rw (stage, closing) refl)), inl refl)

reopens_keep : (vs : List Publication) (now : ℕ) (client : Client) (stage : Stage) (asked f : List Content) → client.stage ≡ stage → IsBase vs client.base → FitsLive vs asked f client stage → KeepsAlone vs asked f (reopens stage now (record client { reopen = None }))
reopens_keep vs now client Off asked f stage h w = reopens_off_keep vs now client client.closing asked f stage refl h w
reopens_keep vs now client _ asked f stage h w = ((h, λ live. rw stage (w live)), inl refl)

-- a timer that has not ended leaves the client as it is
timer_case : (vs : List Publication) (client : Client) (asked f : List Content) (r : Reply) (t : Bool) → IsBase vs client.base → FitsLive vs asked f client client.stage → KeepsAlone vs asked f r → KeepsAlone vs asked f (cond t r (becomes client))
timer_case vs client asked f r true h w k = k
timer_case vs client asked f r false h w k = stays_alone vs client asked f h w

-- one row and then another
along_keeps : (vs : List Publication) (asked f : List Content) (first second : Reply) (s : Option Content) → first.said ≡ s → KeepsAlone vs asked f first → KeepsAlone vs (with_said asked s) f second → KeepsAlone vs asked f (along first second)
along_keeps vs asked f first second None is k m = ((m.0.0, rw is m.0.1), rw is m.1)
along_keeps vs asked f first second (Some content) is k (m, inr none) = absurd (pushed_some asked content none)
along_keeps vs asked f first second (Some content) is (k, inl none) (m, inl silent) = cc
along_keeps vs asked f first second (Some content) is (k, inr none) (m, inl silent) =
    ((m.0, λ live. rw is (subst (λ s. Fits vs second.client.base (with_said (asked ++ content ∷ []) s) f second.client.stage) silent (m.1 live))), inr none)

then_keeps : (vs : List Publication) (asked f : List Content) (first : Reply) (next : Client → Reply) → KeepsAlone vs asked f first
    → ((more : List Content) (client : Client) → IsBase vs client.base → FitsLive vs more f client client.stage → KeepsAlone vs more f (next client)) → KeepsAlone vs asked f (then_row first next)
then_keeps vs asked f first next k row_keeps = along_keeps vs asked f first (next first.client) first.said refl k (row_keeps (with_said asked first.said) first.client k.0.0 k.0.1)

ticks_alone : (vs : List Publication) (now : ℕ) (client : Client) (asked f : List Content) → IsBase vs client.base → FitsLive vs asked f client client.stage → KeepsAlone vs asked f (ticks now client)
ticks_alone vs now client asked f h w =
    then_keeps vs asked f (then_row (then_row (expire_ends now client) (refresh_ends now)) (query_ends now)) (reopen_ends now)
    (then_keeps vs asked f (then_row (expire_ends now client) (refresh_ends now)) (query_ends now)
    (then_keeps vs asked f (expire_ends now client) (refresh_ends now)
    (timer_case vs client asked f (expires client.stage now (flushed client)) (has_come client.expire now) h w (expires_keep vs now client client.stage asked f refl w))
    (λ more c base fits. timer_case vs c more f (refreshes c.stage (record c { refresh = None })) (has_come c.refresh now) base fits (refreshes_keep vs c c.stage more f refl base fits)))
    (λ more c base fits. timer_case vs c more f (asks_again c.stage (record c { query = None })) (has_come c.query now) base fits (asks_again_keep vs c c.stage more f refl base fits)))
    (λ more c base fits. timer_case vs c more f (reopens c.stage now (record c { reopen = None })) (has_come c.reopen now) base fits (reopens_keep vs now c c.stage more f refl base fits))

-- ---- other inputs

-- a connection stands that was awaited: a query goes
comes_up_at : (vs : List Publication) (client : Client) (stage : Stage) (asked f : List Content) → client.stage ≡ stage → IsBase vs client.base → FitsLive vs asked f client stage → Keeps vs asked f (comes_up stage client)
comes_up_at vs client Opening asked f stage h w =
    let up : is_live client ≡ true = rw stage refl in
    asks_keep vs client client.base asked f refl h (w up).0 (w up).1
comes_up_at vs client _ asked f stage h w = (h, λ live. rw stage (w live))

no_room_case : (vs : List Publication) (now : ℕ) (client : Client) (asked f : List Content) (t : Bool) → IsBase vs client.base → FitsLive vs asked f client client.stage → Keeps vs asked f (cond t (closes now client) (becomes client))
no_room_case vs now client asked f true h w = (h, λ live. cc)
no_room_case vs now client asked f false h w = (h, w)

-- its connection stands, a moment comes, or a query has found no room
pub own_keeps : (vs : List Publication) (now : ℕ) (client : Client) (input : Input) (asked f : List Content) → IsOwn input → IsBase vs client.base → (is_live client ≡ true → Fits vs client.base asked f client.stage) → Keeps vs asked f (row now client input)
unfolding row
own_keeps vs now client Up asked f own h w = comes_up_at vs client client.stage asked f refl h w
own_keeps vs now client Fail asked f own h w = absurd own
own_keeps vs now client (Heard content octets) asked f own h w = absurd own
own_keeps vs now client (Faulty fault octets) asked f own h w = absurd own
own_keeps vs now client Tick asked f own h w = (ticks_alone vs now client asked f h w).0
own_keeps vs now client No_room asked f own h w = no_room_case vs now client asked f (is_connected client.stage) h w
own_keeps vs now client Starved asked f own h w = absurd own

fails_at : (vs : List Publication) (now : ℕ) (client : Client) (stage : Stage) → client.stage ≡ stage → IsBase vs client.base
    → IsBase vs (fails stage now client).client.base × ((fails stage now client).client.stage ≡ Off)
fails_at vs now client Off stage h = (h, stage)
fails_at vs now client _ stage h = (h, refl)

-- it has failed: the payloads in force stay, and there is none
pub fails_keep : (vs : List Publication) (now : ℕ) (client : Client) → IsBase vs client.base → IsBase vs (row now client Fail).client.base × ((row now client Fail).client.stage ≡ Off)
unfolding row
fails_keep vs now client h = fails_at vs now client client.stage refl h

-- ---- a client that closes its connection

-- it has said its last word, and waits for the end
abbrev pub IsDead : Client → Type 0
IsDead client = (client.stage ≡ Off) × (client.closing ≡ true)

not_true : (t : Bool) → not t ≡ false → t ≡ true
not_true true h = refl
not_true false h = cc

dead_at : (stage : Stage) (closing : Bool) → is_live_at stage closing ≡ false → (stage ≡ Off) × (closing ≡ true)
dead_at Off closing h = (refl, not_true closing h)
dead_at Opening closing h = cc
dead_at Asked_serial closing h = cc
dead_at Asked_reset closing h = cc
dead_at Waiting closing h = cc
dead_at (Loading d n s) closing h = cc
dead_at Synced closing h = cc

pub dead : (client : Client) → is_live client ≡ false → IsDead client
dead client h = dead_at client.stage client.closing h

pub dead_is : (client : Client) → IsDead client → is_live client ≡ false
dead_is client h = ap (λ s. is_live_at s client.closing) h.0 ∙ ap not h.1

read_at_off : (now : ℕ) (client : Client) (stage : Stage) (octets : List ℕ) (content : Content) → stage ≡ Off → hears_at stage now client octets content ≡ becomes client
read_at_off now client stage octets content h = ap (λ s. hears_at s now client octets content) h

if_false : (t : Bool) (a b : Reply) → t ≡ false → cond t a b ≡ b
if_false true a b h = cc
if_false false a b h = refl

off_apart : (client : Client) → client.stage ≡ Off → is_connected client.stage ≡ false
off_apart client h = ap is_connected h

-- it drops what comes
read_dead : (now : ℕ) (client : Client) (starved : Bool) (item : Item) → client.stage ≡ Off → row now client (served starved (input_of item)) ≡ becomes client
unfolding row
read_dead now client true item h = if_false (is_connected client.stage) (reports now client InternalError []) (becomes client) (off_apart client h)
read_dead now client false (WholePdu content octets) h = read_at_off now client client.stage octets content h
read_dead now client false (FaultyPdu fault octets) h = if_false (is_connected client.stage) (hears_fault now client octets fault) (becomes client) (off_apart client h)

stays_so : (now : ℕ) (has_room : Bool) (client : Client) → client_after now has_room (becomes client) ≡ client
stays_so now true client = refl
stays_so now false client = refl

pub read_stays : (now : ℕ) (has_room : Bool) (client : Client) (starved : Bool) (item : Item) → is_live client ≡ false → client_after now has_room (row now client (served starved (input_of item))) ≡ client
read_stays now has_room client starved item h = ap (client_after now has_room) (read_dead now client starved item (dead client h).0) ∙ stays_so now has_room client

timer_dead : (t : Bool) (client : Client) (r : Reply) → IsDead client → IsDead r.client → IsDead (cond t r (becomes client)).client
timer_dead true client r h k = k
timer_dead false client r h k = h

expires_dead : (now : ℕ) (client : Client) → IsDead client → IsDead (expires client.stage now (flushed client)).client
expires_dead now client h = subst (λ s. IsDead (expires s now (flushed client)).client) (sym h.0) (h.0, h.1)

refreshes_dead : (client : Client) → IsDead client → IsDead (refreshes client.stage (record client { refresh = None })).client
refreshes_dead client h = subst (λ s. IsDead (refreshes s (record client { refresh = None })).client) (sym h.0) (h.0, h.1)

asks_again_dead : (client : Client) → IsDead client → IsDead (asks_again client.stage (record client { query = None })).client
asks_again_dead client h = subst (λ s. IsDead (asks_again s (record client { query = None })).client) (sym h.0) (h.0, h.1)

reopens_dead : (now : ℕ) (client : Client) → IsDead client → IsDead (reopens client.stage now (record client { reopen = None })).client
reopens_dead now client h =
    subst (λ s. IsDead (reopens s now (record client { reopen = None })).client) (sym h.0)
    (subst (λ c. IsDead (reopens_off c now (record client { reopen = None })).client) (sym h.1) (h.0, h.1))

ticks_dead : (now : ℕ) (client : Client) → IsDead client → IsDead (ticks now client).client
ticks_dead now client h =
    let a = timer_dead (has_come client.expire now) client (expires client.stage now (flushed client)) h (expires_dead now client h) in
    let one = (expire_ends now client).client in
    let b = timer_dead (has_come one.refresh now) one (refreshes one.stage (record one { refresh = None })) a (refreshes_dead one a) in
    let two = (refresh_ends now one).client in
    let c = timer_dead (has_come two.query now) two (asks_again two.stage (record two { query = None })) b (asks_again_dead two b) in
    let three = (query_ends now two).client in
    timer_dead (has_come three.reopen now) three (reopens three.stage now (record three { reopen = None })) c (reopens_dead now three c)

closes_dead : (now : ℕ) (t : Bool) (client : Client) → IsDead client → IsDead (cond t (closes now client) (becomes client)).client
closes_dead now true client h = (refl, refl)
closes_dead now false client h = h

settled_dead : (now : ℕ) (has_room : Bool) (said : Option Content) (client : Client) → IsDead client → IsDead (settled now has_room said client)
unfolding row
settled_dead now true said client h = h
settled_dead now false None client h = h
settled_dead now false (Some content) client h = closes_dead now (is_connected client.stage) client h

comes_up_dead : (client : Client) → IsDead client → IsDead (comes_up client.stage client).client
comes_up_dead client h = subst (λ s. IsDead (comes_up s client).client) (sym h.0) (h.0, h.1)

own_row_dead : (now : ℕ) (client : Client) (input : Input) → IsOwn input → IsDead client → IsDead (row now client input).client
unfolding row
own_row_dead now client Up own h = comes_up_dead client h
own_row_dead now client Fail own h = absurd own
own_row_dead now client (Heard content octets) own h = absurd own
own_row_dead now client (Faulty fault octets) own h = absurd own
own_row_dead now client Tick own h = ticks_dead now client h
own_row_dead now client No_room own h = closes_dead now (is_connected client.stage) client h
own_row_dead now client Starved own h = absurd own

-- and stays so
pub own_dead : (now : ℕ) (has_room : Bool) (client : Client) (input : Input) → IsOwn input → is_live client ≡ false → is_live (client_after now has_room (row now client input)) ≡ false
own_dead now has_room client input own h =
    dead_is (client_after now has_room (row now client input)) (settled_dead now has_room (row now client input).said (row now client input).client (own_row_dead now client input own (dead client h)))
