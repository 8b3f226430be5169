-- The connection between a cache and a client: what is on the way, as octets, fits the client's stage, and each end keeps it so.
use Rattle.std.proofs.Common.{◌≡◌, ◌≢◌, ◌≤◌, ℕ, List, [], ◌∷◌, ◌++◌, length, take, drop, Bool, true, false, ◌&&◌, not, cond, Option, Some, None, inl, inr, refl, ap, sym, subst, ◌∙◌, append_assoc, append-nil, arith}
use Rattle.std.proofs.lemmas.Bool.{and_parts}
use Rattle.std.proofs.lemmas.List.{take-append-drop}
use Rattle.net_prefix.specs.declared.payload.Vrp.{Vrp}
use Rattle.rtr_cache.specs.CacheTable.{Conn, Shared, first_refused, hands_out, has_room, hears_all, hears_octets, hears_open, hears_pdu, is_due, is_idle, is_news, notified, place_of, pumped, queued, queues, wants_notify}
use Rattle.rtr_cache.proofs.CacheSteps.{hears_octets-closed, hears_octets-nil}
use Rattle.rtr_cache.proofs.QueueingLaws.{same-queues}
use Rattle.rtr_client.specs.Following.{served}
use Rattle.rtr_codec.specs.ClientTable.{Base, Client, Reply, Stage, Off, Opening, Asked_serial, Asked_reset, Waiting, Loading, Synced, row}
use Rattle.rtr_codec.specs.PduSpelling.{Content, IsLawful, Serial_notify, Serial_query, Reset_query, Cache_response, Announce, Withdraw, Ipv6_prefix, End_of_data, Cache_reset, Router_key, Error_report, length_of, spelling}
use Rattle.rtr_codec.specs.PduStream.{Item, WholePdu, meaning, pdus_from, unread_from}
use Rattle.rtr_codec.specs.Responses.{spellings}
use Rattle.rtr_codec.specs.declared.place.Place.{Place}
use Rattle.rtr_codec.proofs.Spellings.{length-spelling}
use Rattle.rtr_session.specs.SessionState.{input_of}
use Rattle.vrp_delta.specs.Versions.{newest_serial}
use Rattle.rtr_channels.specs.ChannelEvents.{IsSession, client_after, said, up_after}
use Rattle.rtr_channels.specs.Channels.{Publication}
use Rattle.rtr_channels.proofs.Flights.{Asked, Fits, IsBase, Quiet, Waits, asked_after, fits_append, quiet_front}
use Rattle.rtr_channels.proofs.Clients.{Keeps, heard_keeps, is_live, settled_keeps, starved_keeps, asked_after as now_asked}
use Rattle.rtr_channels.proofs.Answering.{Answers, AreKept, AreLawful, AreTellable, IsOnly, hears_reset, hears_serial, lawful_append, lawful_front}
use Rattle.rtr_channels.proofs.Wire.{first_read, read_end, read_part, spellings_behind}

-- while the cache reads, what it has of the client's query and what of it is on the way: nothing, or all of one query with its end still on the way
abbrev pub CarriesUp : List Content → List ℕ → List ℕ → Type 0
CarriesUp [] part up = part ++ up ≡ []
CarriesUp (q ∷ more) part up = (more ≡ []) × IsLawful q × (part ++ up ≡ spelling q) × (up ≢ [])

pub record JoinedTo (vs : List Publication) (conn : Conn) (client : Client) (up down : List ℕ) : Type 0 where
  pub asked : List Content
  pub sent : List Content
  pub down_is : down ++ conn.ring ≡ spellings sent
  pub lawful : AreLawful (sent ++ conn.left)
  pub up_is : conn.is_open ≡ true → CarriesUp asked conn.unread up
  pub fits : Fits vs client.base asked (sent ++ conn.left) client.stage

one_behind : (down : List ℕ) (sent : List Content) (ring : List ℕ) (content : Content) → down ++ ring ≡ spellings sent → down ++ (ring ++ spelling content) ≡ spellings (sent ++ content ∷ [])
one_behind down sent ring content e =
    sym (append_assoc down ring (spelling content)) ∙ ap (λ l. l ++ spelling content) e ∙ ap (λ l. spellings sent ++ l) (sym (append-nil (spelling content))) ∙ sym (spellings_behind sent (content ∷ []))

-- ---- the end of a step of the cache

-- what is queued and what is left are what was to be said
abbrev pub AreSaid : List ℕ → Conn → List Content → Type 0
AreSaid down conn all = (sent : List Content) × (down ++ conn.ring ≡ spellings sent) × (all ≡ sent ++ conn.left)

said_case : (down : List ℕ) (all : List Content) (then_ else_ : Conn) (t : Bool) → AreSaid down then_ all → AreSaid down else_ all → AreSaid down (cond t then_ else_) all
said_case down all then_ else_ true h k = h
said_case down all then_ else_ false h k = k

queues_said : (conn : Conn) (contents : List Content) (down : List ℕ) (sent : List Content) → down ++ conn.ring ≡ spellings sent → AreSaid down (queues conn contents) (sent ++ contents)
queues_said conn [] down sent e = (sent, e, refl)
queues_said conn (content ∷ contents) down sent e =
    let more = queues_said (queued conn content) contents down (sent ++ content ∷ []) (one_behind down sent conn.ring content e) in
    said_case down (sent ++ content ∷ contents) (queues (queued conn content) contents) (record conn { left = content ∷ contents }) (has_room conn.ring)
    (more.0, more.1, sym (append_assoc sent (content ∷ []) contents) ∙ more.2)
    (sent, e, refl)

pub pumped_joined : (vs : List Publication) (conn : Conn) (client : Client) (up down : List ℕ) → JoinedTo vs conn client up down → JoinedTo vs (pumped conn) client up down
pumped_joined vs conn client up down j =
    let q = queues_said conn conn.left down j.sent j.down_is in
    let same = same-queues conn conn.left in
    record {
      asked = j.asked;
      sent = q.0;
      down_is = q.1;
      lawful = subst AreLawful q.2 j.lawful;
      up_is = λ e. subst (λ part. CarriesUp j.asked part up) (sym same.2) (j.up_is (sym same.0 ∙ e));
      fits = subst (λ f. Fits vs client.base j.asked f client.stage) q.2 j.fits;
    }

-- ---- a Notify

idle_is : (left : List Content) → is_idle left ≡ true → left ≡ []
idle_is [] h = refl
idle_is (content ∷ contents) h = cc

notified_case : (vs : List Publication) (shared : Shared) (conn : Conn) (client : Client) (up down : List ℕ) (t : Bool) → (t ≡ true → is_idle conn.left ≡ true) → IsLawful (Serial_notify shared.session (newest_serial shared.kept))
    → JoinedTo vs conn client up down
    → JoinedTo vs (cond t (record (queued conn (Serial_notify shared.session (newest_serial shared.kept))) { notified = Some shared.now }) conn) client up down
notified_case vs shared conn client up down false idle fits j = j
notified_case vs shared conn client up down true idle fits j =
    let none : conn.left ≡ [] = idle_is conn.left (idle refl) in
    let notify = Serial_notify shared.session (newest_serial shared.kept) in
    let all : (j.sent ++ conn.left) ++ notify ∷ [] ≡ (j.sent ++ notify ∷ []) ++ conn.left =
    ap (λ l. (j.sent ++ l) ++ notify ∷ []) none ∙ ap (λ l. l ++ notify ∷ []) (append-nil j.sent) ∙ sym (append-nil (j.sent ++ notify ∷ [])) ∙ ap (λ l. (j.sent ++ notify ∷ []) ++ l) (sym none) in
    record {
      asked = j.asked;
      sent = j.sent ++ notify ∷ [];
      down_is = one_behind down j.sent conn.ring notify j.down_is;
      lawful = subst AreLawful all (lawful_append (j.sent ++ conn.left) (notify ∷ []) j.lawful (fits, tt));
      up_is = j.up_is;
      fits = subst (λ f. Fits vs client.base j.asked f client.stage) all (fits_append vs client.base j.asked (j.sent ++ conn.left) (notify ∷ []) client.stage j.fits (tt, tt));
    }

wants_idle : (a w b c d e : Bool) → (a && (w && (b && (c && (d && e))))) ≡ true → c ≡ true
wants_idle a w b c d e h = (and_parts c (d && e) (and_parts b (c && (d && e)) (and_parts w (b && (c && (d && e))) (and_parts a (w && (b && (c && (d && e)))) h).1).1).1).0

pub notified_joined : (vs : List Publication) (shared : Shared) (conn : Conn) (client : Client) (up down : List ℕ) → IsLawful (Serial_notify shared.session (newest_serial shared.kept))
    → JoinedTo vs conn client up down → JoinedTo vs (notified shared conn) client up down
notified_joined vs shared conn client up down fits j =
    notified_case vs shared conn client up down (wants_notify shared conn)
    (λ h. wants_idle conn.is_open (not shared.withdrawn) (is_news shared.kept conn.told) (is_idle conn.left) (is_due shared.now conn.notified) (has_room conn.ring) h) fits j

-- ---- octets are handed out

pub taken_joined : (vs : List Publication) (conn : Conn) (client : Client) (up down : List ℕ) (count : ℕ) → JoinedTo vs conn client up down → JoinedTo vs (hands_out count conn) client up (down ++ take count conn.ring)
taken_joined vs conn client up down count j = record {
  asked = j.asked;
  sent = j.sent;
  down_is = append_assoc down (take count conn.ring) (drop count conn.ring) ∙ ap (λ l. down ++ l) (take-append-drop count conn.ring) ∙ j.down_is;
  lawful = j.lawful;
  up_is = j.up_is;
  fits = j.fits;
}

-- ---- octets come to the cache

-- an answer goes behind what is on the way
answered_joined : (vs : List Publication) (s : List Vrp) (c d : Conn) (down : List ℕ) (sent : List Content) → down ++ c.ring ≡ spellings sent → Quiet (sent ++ c.left) → AreLawful sent → Answers vs s c d
    → (more : List Content) × (down ++ d.ring ≡ spellings more) × AreLawful (more ++ d.left) × Asked vs s (more ++ d.left)
answered_joined vs s c d down sent e quiet fits a =
    let all : sent ++ (a.queued_now ++ d.left) ≡ (sent ++ a.queued_now) ++ d.left = sym (append_assoc sent a.queued_now d.left) in (
      sent ++ a.queued_now,
      ap (λ l. down ++ l) a.ring_is ∙ sym (append_assoc down c.ring (spellings a.queued_now)) ∙ ap (λ l. l ++ spellings a.queued_now) e ∙ sym (spellings_behind sent a.queued_now),
      subst AreLawful all (lawful_append sent (a.queued_now ++ d.left) fits a.lawful),
      subst (Asked vs s) all (asked_after vs s sent (a.queued_now ++ d.left) (quiet_front sent c.left quiet) a.asked),
    )

-- the cache's end once a whole query was read
abbrev pub behind_query : Shared → Bool → Conn → Content → Conn
behind_query shared refused conn q = hears_pdu shared refused (record conn { unread = []; is_first = false }) (spelling q) q

-- what the client waits for, once its query was read
waits_answered : (vs : List Publication) (s : List Vrp) (q : Content) (conn d : Conn) (client : Client) (down : List ℕ) (sent : List Content) → down ++ conn.ring ≡ spellings sent → AreLawful (sent ++ conn.left)
    → Quiet (sent ++ conn.left) → Answers vs s (record conn { unread = []; is_first = false }) d
    → ((more : List Content) → Waits vs q s [] (more ++ d.left) → Fits vs client.base [] (more ++ d.left) client.stage)
    → JoinedTo vs d client [] down
waits_answered vs s q conn d client down sent e fits quiet a back =
    let j = answered_joined vs s (record conn { unread = []; is_first = false }) d down sent e quiet (lawful_front sent conn.left fits) a in
    record {
      asked = [];
      sent = j.0;
      down_is = j.1;
      lawful = j.2;
      up_is = λ o. ap (λ l. l ++ []) (a.reads o);
      fits = back j.0 (inr (refl, j.3));
    }

-- what a cache tells in answer: its session, and its kept versions
pub record Tells (vs : List Publication) (shared : Shared) (base : Option Base) : Type 0 where
  pub session : IsSession shared.session shared.intervals
  pub tellable : AreTellable vs
  pub kept : AreKept vs shared.session shared.kept
  pub only : (b : Base) → base ≡ Some b → IsOnly vs b.session b.serial b.payloads

no_query : (q : Content) → q ∷ [] ≡ [] → ⊥
no_query q e = cc

same_query : (q p : Content) → q ∷ [] ≡ p ∷ [] → q ≡ p
same_query q p e = cc

serially_read : (vs : List Publication) (shared : Shared) (refused : Bool) (conn : Conn) (client : Client) (base : Option Base) (q : Content) (down : List ℕ) (sent : List Content) → client.base ≡ base → client.stage ≡ Asked_serial
    → Tells vs shared base → down ++ conn.ring ≡ spellings sent → AreLawful (sent ++ conn.left) → Fits vs base (q ∷ []) (sent ++ conn.left) Asked_serial
    → JoinedTo vs (behind_query shared refused conn q) client [] down
serially_read vs shared refused conn client None q down sent is stage t e fits w = absurd w
serially_read vs shared refused conn client (Some b) q down sent is stage t e fits (inr w) = absurd (no_query q w.0)
serially_read vs shared refused conn client (Some b) q down sent is stage t e fits (inl w) =
    let here : q ≡ Serial_query b.session b.serial = same_query q (Serial_query b.session b.serial) w.0 in
    subst (λ p. JoinedTo vs (behind_query shared refused conn p) client [] down) (sym here)
    (waits_answered vs b.payloads (Serial_query b.session b.serial) conn _ client down sent e fits w.1
    (hears_serial vs b.payloads shared (record conn { unread = []; is_first = false }) (spelling (Serial_query b.session b.serial)) b.session b.serial refused t.session t.tellable t.kept (t.only b refl))
    (λ more k. rw (is, stage) k))

reset_read : (vs : List Publication) (shared : Shared) (refused : Bool) (conn : Conn) (client : Client) (q : Content) (down : List ℕ) (sent : List Content) → client.stage ≡ Asked_reset
    → Tells vs shared client.base → down ++ conn.ring ≡ spellings sent → AreLawful (sent ++ conn.left) → Fits vs client.base (q ∷ []) (sent ++ conn.left) Asked_reset
    → JoinedTo vs (behind_query shared refused conn q) client [] down
reset_read vs shared refused conn client q down sent stage t e fits (inr w) = absurd (no_query q w.0)
reset_read vs shared refused conn client q down sent stage t e fits (inl w) =
    subst (λ p. JoinedTo vs (behind_query shared refused conn p) client [] down) (sym (same_query q Reset_query w.0))
    (waits_answered vs [] Reset_query conn _ client down sent e fits w.1
    (hears_reset vs shared (record conn { unread = []; is_first = false }) (spelling Reset_query) refused t.session t.tellable t.kept)
    (λ more k. rw stage k))

query_read : (vs : List Publication) (shared : Shared) (refused : Bool) (conn : Conn) (client : Client) (stage : Stage) (q : Content) (down : List ℕ) (sent : List Content) → client.stage ≡ stage
    → Tells vs shared client.base → down ++ conn.ring ≡ spellings sent → AreLawful (sent ++ conn.left) → Fits vs client.base (q ∷ []) (sent ++ conn.left) stage
    → JoinedTo vs (behind_query shared refused conn q) client [] down
query_read vs shared refused conn client Off q down sent stage t e fits w = absurd (no_query q w.0)
query_read vs shared refused conn client Opening q down sent stage t e fits w = absurd (no_query q w.0)
query_read vs shared refused conn client Asked_serial q down sent stage t e fits w = serially_read vs shared refused conn client client.base q down sent refl stage t e fits w
query_read vs shared refused conn client Asked_reset q down sent stage t e fits w = reset_read vs shared refused conn client q down sent stage t e fits w
query_read vs shared refused conn client Waiting q down sent stage t e fits w = absurd (no_query q w.0)
query_read vs shared refused conn client (Loading d n s) q down sent stage t e fits w = absurd (no_query q w.0)
query_read vs shared refused conn client Synced q down sent stage t e fits w = absurd (no_query q w.0)

pub if_true : {X : Type 0} (t : Bool) (a b : X) → t ≡ true → cond t a b ≡ a
if_true true a b h = refl
if_true false a b h = cc

-- where all of a query has come, its row is taken
heard_whole : (shared : Shared) (refused : List Bool) (conn : Conn) (octets : List ℕ) (q : Content) → conn.is_open ≡ true
    → pdus_from (place_of conn) conn.unread octets ≡ WholePdu q (spelling q) ∷ [] → unread_from (place_of conn) conn.unread octets ≡ []
    → hears_octets shared refused conn octets ≡ behind_query shared (first_refused refused) conn q
heard_whole shared refused conn octets q opened items rest =
    if_true conn.is_open (hears_open shared refused conn octets) conn opened
    ∙ ap (λ l. hears_all shared refused (record conn { unread = unread_from (place_of conn) conn.unread octets }) l) items
    ∙ ap (λ part. hears_all shared refused (record conn { unread = part }) (WholePdu q (spelling q) ∷ [])) rest
    ∙ if_true conn.is_open (behind_query shared (first_refused refused) conn q) (record conn { unread = [] }) opened

-- and else it is kept
heard_part : (shared : Shared) (refused : List Bool) (conn : Conn) (octets : List ℕ) → conn.is_open ≡ true
    → pdus_from (place_of conn) conn.unread octets ≡ [] → unread_from (place_of conn) conn.unread octets ≡ conn.unread ++ octets
    → hears_octets shared refused conn octets ≡ record conn { unread = conn.unread ++ octets }
heard_part shared refused conn octets opened items rest =
    if_true conn.is_open (hears_open shared refused conn octets) conn opened
    ∙ ap (λ l. hears_all shared refused (record conn { unread = unread_from (place_of conn) conn.unread octets }) l) items
    ∙ ap (λ part. record conn { unread = part }) rest

some_behind : (part : List ℕ) (o : ℕ) (os : List ℕ) → part ++ o ∷ os ≡ [] → ⊥
some_behind [] o os e = cc
some_behind (x ∷ part) o os e = cc

query_heard : (vs : List Publication) (shared : Shared) (refused : List Bool) (conn : Conn) (client : Client) (q : Content) (o : ℕ) (os rest down : List ℕ) (sent : List Content) → conn.is_open ≡ true
    → Tells vs shared client.base → IsLawful q → conn.unread ++ (o ∷ os ++ rest) ≡ spelling q → down ++ conn.ring ≡ spellings sent → AreLawful (sent ++ conn.left) → Fits vs client.base (q ∷ []) (sent ++ conn.left) client.stage
    → JoinedTo vs (hears_octets shared refused conn (o ∷ os)) client rest down
query_heard vs shared refused conn client q o os [] down sent opened t small all e fits w =
    let r = read_end (place_of conn) conn.unread (o ∷ os) q small (ap (λ l. conn.unread ++ l) (sym (append-nil (o ∷ os))) ∙ all) (λ none. cc) in
    subst (λ c. JoinedTo vs c client [] down) (sym (heard_whole shared refused conn (o ∷ os) q opened r.0 r.1))
    (query_read vs shared (first_refused refused) conn client client.stage q down sent refl t e fits w)
query_heard vs shared refused conn client q o os (x ∷ xs) down sent opened t small all e fits w =
    let r = read_part (place_of conn) conn.unread (o ∷ os) (x ∷ xs) q small all (λ none. cc) in
    subst (λ c. JoinedTo vs c client (x ∷ xs) down) (sym (heard_part shared refused conn (o ∷ os) opened r.0 r.1))
    (record {
      asked = q ∷ [];
      sent = sent;
      down_is = e;
      lawful = fits;
      up_is = λ h. (refl, small, append_assoc conn.unread (o ∷ os) (x ∷ xs) ∙ all, λ none. cc);
      fits = w;
    })

open_heard : (vs : List Publication) (shared : Shared) (refused : List Bool) (conn : Conn) (client : Client) (asked : List Content) (octets rest down : List ℕ) (sent : List Content) → conn.is_open ≡ true
    → Tells vs shared client.base → CarriesUp asked conn.unread (octets ++ rest) → down ++ conn.ring ≡ spellings sent → AreLawful (sent ++ conn.left) → Fits vs client.base asked (sent ++ conn.left) client.stage
    → JoinedTo vs (hears_octets shared refused conn octets) client rest down
open_heard vs shared refused conn client asked [] rest down sent opened t carries e fits w =
    subst (λ c. JoinedTo vs c client rest down) (sym (hears_octets-nil shared refused conn))
    (record { asked = asked; sent = sent; down_is = e; lawful = fits; up_is = λ h. carries; fits = w })
open_heard vs shared refused conn client [] (o ∷ os) rest down sent opened t carries e fits w = absurd (some_behind conn.unread o (os ++ rest) carries)
open_heard vs shared refused conn client (q ∷ more) (o ∷ os) rest down sent opened t carries e fits w =
    query_heard vs shared refused conn client q o os rest down sent opened t carries.1 carries.2 e fits (subst (λ l. Fits vs client.base (q ∷ l) (sent ++ conn.left) client.stage) carries.0 w)

heard_case : (vs : List Publication) (shared : Shared) (refused : List Bool) (conn : Conn) (client : Client) (up octets rest down : List ℕ) (t : Bool) → conn.is_open ≡ t → Tells vs shared client.base → up ≡ octets ++ rest
    → JoinedTo vs conn client up down → JoinedTo vs (hears_octets shared refused conn octets) client rest down
heard_case vs shared refused conn client up octets rest down false opened t is j =
    subst (λ c. JoinedTo vs c client rest down) (sym (hears_octets-closed shared refused conn octets opened))
    (record { asked = j.asked; sent = j.sent; down_is = j.down_is; lawful = j.lawful; up_is = λ h. cc; fits = j.fits })
heard_case vs shared refused conn client up octets rest down true opened t is j =
    open_heard vs shared refused conn client j.asked octets rest down j.sent opened t (subst (CarriesUp j.asked conn.unread) is (j.up_is opened)) j.down_is j.lawful j.fits

pub hears_joined : (vs : List Publication) (shared : Shared) (refused : List Bool) (conn : Conn) (client : Client) (up octets rest down : List ℕ) → Tells vs shared client.base → up ≡ octets ++ rest
    → JoinedTo vs conn client up down → JoinedTo vs (hears_octets shared refused conn octets) client rest down
hears_joined vs shared refused conn client up octets rest down t is j = heard_case vs shared refused conn client up octets rest down conn.is_open refl t is j

-- ---- the client goes on

least_length : (content : Content) → 8 ≤ length_of content
least_length (Serial_notify session serial) = omega arith
least_length (Serial_query session serial) = omega arith
least_length Reset_query = omega arith
least_length (Cache_response session) = omega arith
least_length (Announce payload) = omega arith
least_length (Withdraw payload) = omega arith
least_length (Ipv6_prefix body) = omega arith
least_length (End_of_data session serial intervals) = omega arith
least_length Cache_reset = omega arith
least_length (Router_key body) = omega arith
least_length (Error_report code quoted) = omega arith

spelling_some : (content : Content) → spelling content ≢ []
spelling_some content none =
    let same : length (spelling content) ≡ length_of content = length-spelling content in
    let zero : length (spelling content) ≡ 0 = ap length none in
    let least = least_length content in
    omega (arith, same, zero, least)

pushed_last : (asked : List Content) (content q : Content) → asked ++ content ∷ [] ≡ q ∷ [] → (asked ≡ []) × (content ≡ q)
pushed_last [] content q e = (refl, cc e)
pushed_last (a ∷ []) content q e = cc
pushed_last (a ∷ b ∷ asked) content q e = cc

pushed_none : (asked : List Content) (content : Content) → asked ++ content ∷ [] ≡ [] → ⊥
pushed_none [] content e = cc
pushed_none (a ∷ asked) content e = cc

waits_said : (vs : List Publication) (q : Content) (s : List Vrp) (asked f : List Content) (content : Content) → IsLawful q → Waits vs q s (asked ++ content ∷ []) f → (asked ≡ []) × IsLawful content
waits_said vs q s asked f content fits (inl w) = let p = pushed_last asked content q w.0 in (p.0, subst IsLawful (sym p.1) fits)
waits_said vs q s asked f content fits (inr w) = absurd (pushed_none asked content w.0)

serially_said : (vs : List Publication) (base : Option Base) (asked f : List Content) (content : Content) → AreTellable vs → IsBase vs base → Fits vs base (asked ++ content ∷ []) f Asked_serial → (asked ≡ []) × IsLawful content
serially_said vs None asked f content t h w = absurd w
serially_said vs (Some b) asked f content t h w = let told = t _ h in waits_said vs (Serial_query b.session b.serial) b.payloads asked f content (told.0, told.1) w

-- what a live client says is a query, and it asks where no query waits
query_said : (vs : List Publication) (base : Option Base) (asked f : List Content) (stage : Stage) (content : Content) → AreTellable vs → IsBase vs base → Fits vs base (asked ++ content ∷ []) f stage
    → (asked ≡ []) × IsLawful content
query_said vs base asked f Off content t h w = absurd (pushed_none asked content w.0)
query_said vs base asked f Opening content t h w = absurd (pushed_none asked content w.0)
query_said vs base asked f Asked_serial content t h w = serially_said vs base asked f content t h w
query_said vs base asked f Asked_reset content t h w = waits_said vs Reset_query [] asked f content tt w
query_said vs base asked f Waiting content t h w = absurd (pushed_none asked content w.0)
query_said vs base asked f (Loading d n s) content t h w = absurd (pushed_none asked content w.0)
query_said vs base asked f Synced content t h w = absurd (pushed_none asked content w.0)

carries_query : (asked : List Content) (part up : List ℕ) (content : Content) → asked ≡ [] → IsLawful content → CarriesUp asked part up → CarriesUp (asked ++ content ∷ []) part (up ++ spelling content)
carries_query [] [] [] content none fits h = (refl, fits, refl, spelling_some content)
carries_query [] [] (u ∷ us) content none fits h = cc
carries_query [] (p ∷ ps) up content none fits h = cc
carries_query (a ∷ asked) part up content none fits h = cc

carries_said : (vs : List Publication) (client : Client) (asked f : List Content) (part up : List ℕ) (has_room : Bool) (s : Option Content) → AreTellable vs → IsBase vs client.base
    → Fits vs client.base (now_asked asked has_room s) f client.stage → CarriesUp asked part up → CarriesUp (now_asked asked has_room s) part (up ++ said has_room s)
carries_said vs client asked f part up has_room None t h w c = subst (CarriesUp asked part) (sym (append-nil up)) c
carries_said vs client asked f part up true (Some content) t h w c =
    let q = query_said vs client.base asked f client.stage content t h w in
    carries_query asked part up content q.0 q.1 c
carries_said vs client asked f part up false (Some content) t h w c = subst (CarriesUp asked part) (sym (append-nil up)) c

-- behind a row of the client, where it is still live
pub row_joined : (vs : List Publication) (conn : Conn) (now : ℕ) (has_room : Bool) (r : Reply) (asked sent : List Content) (up down : List ℕ) → AreTellable vs → Keeps vs asked (sent ++ conn.left) r → down ++ conn.ring ≡ spellings sent → AreLawful (sent ++ conn.left)
    → (conn.is_open ≡ true → CarriesUp asked conn.unread up) → is_live (client_after now has_room r) ≡ true
    → JoinedTo vs conn (client_after now has_room r) (up_after has_room r up) down
row_joined vs conn now has_room r asked sent up down t k e fits carries live =
    let s = settled_keeps vs now has_room r asked (sent ++ conn.left) k in
    record {
      asked = now_asked asked has_room r.said;
      sent = sent;
      down_is = e;
      lawful = fits;
      up_is = λ opened. carries_said vs (client_after now has_room r) asked (sent ++ conn.left) conn.unread up has_room r.said t s.0 (s.1 live) (carries opened);
      fits = s.1 live;
    }

-- the row of a PDU that was read
unfolding_row : (vs : List Publication) (now : ℕ) (client : Client) (octets : List ℕ) (content : Content) (asked f : List Content) (starved : Bool) → IsBase vs client.base → Fits vs client.base asked (content ∷ f) client.stage
    → Keeps vs asked f (row now client (served starved (input_of (WholePdu content octets))))
unfolding row
unfolding_row vs now client octets content asked f true h w = starved_keeps vs now client asked f content h w
unfolding_row vs now client octets content asked f false h w = heard_keeps vs now client client.stage octets asked f content refl h w

-- what is read leaves PDUs on the way, and its row keeps what fits
pub record Reads (vs : List Publication) (conn : Conn) (client : Client) (asked : List Content) (now : ℕ) (starved : Bool) (item : Item) (rest : List ℕ) : Type 0 where
  pub more : List Content
  pub keeps : Keeps vs asked (more ++ conn.left) (row now client (served starved (input_of item)))
  pub rest_is : rest ++ conn.ring ≡ spellings more
  pub lawful : AreLawful (more ++ conn.left)

pub reads : (vs : List Publication) (conn : Conn) (client : Client) (place : Place) (octets rest up down : List ℕ) (item : Item) (now : ℕ) (starved : Bool) → IsBase vs client.base → down ≡ octets ++ rest → meaning place octets ≡ Some item
    → (j : JoinedTo vs conn client up down) → Reads vs conn client j.asked now starved item rest
reads vs conn client place octets rest up down item now starved h is found j =
    let all : octets ++ (rest ++ conn.ring) ≡ spellings j.sent = sym (append_assoc octets rest conn.ring) ∙ ap (λ l. l ++ conn.ring) (sym is) ∙ j.down_is in
    let front = first_read place octets (rest ++ conn.ring) item j.sent all (lawful_front j.sent conn.left j.lawful) found in
    let fits : AreLawful (front.content ∷ front.more ++ conn.left) = subst (λ s. AreLawful (s ++ conn.left)) front.sent_is j.lawful in
    let flies : Fits vs client.base j.asked (front.content ∷ front.more ++ conn.left) client.stage = subst (λ s. Fits vs client.base j.asked (s ++ conn.left) client.stage) front.sent_is j.fits in
    record {
      more = front.more;
      keeps = subst (λ i. Keeps vs j.asked (front.more ++ conn.left) (row now client (served starved (input_of i)))) (sym front.item_is)
          (unfolding_row vs now client octets front.content j.asked (front.more ++ conn.left) starved h flies);
      rest_is = front.rest_is;
      lawful = fits.1;
    }
