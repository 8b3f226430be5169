-- What the cache's rows put in front of a client that has asked: one answer, and nothing else.
use Rattle.std.proofs.Common.{◌≡◌, ◌<◌, ◌≤◌, ◌⊎◌, ℕ, min, List, [], ◌∷◌, ◌++◌, map, length, Bool, true, false, not, ◌==◌, cond, Option, Some, None, inl, inr, refl, ap, sym, subst, ◌∙◌, append_assoc, append-nil, arith}
use Rattle.std.specs.List.{AllByRecursion}
use Rattle.std.specs.List.{filter}
use Rattle.std.specs.Prelude.{nat_le, ◌^◌}
use Rattle.std.proofs.lemmas.Bool.{eqb-true, and_parts, leb-true}
use Rattle.std.specs.List.Sorted.{IsStrictlySortedBy}
use Rattle.std.proofs.lemmas.List.{length-take}
use Rattle.net_prefix.specs.declared.payload.Vrp.{Vrp}
use Rattle.net_prefix.specs.PayloadSets.{IsPayloadSet, has}
use Rattle.rtr_cache.specs.CacheTable.{Conn, Shared, answers, begins, closed, fails, has_room, hears_pdu, offered, other_session_answer, quoted_of, reset_query, serial_answer, serial_query, unless_busy}
use Rattle.rtr_cache.specs.declared.other_session.OtherSession.{OtherSession}
use Rattle.rtr_cache.specs.declared.other_session.OtherSession.TheVariants.{Report, Reset}
use Rattle.rtr_codec.specs.Intervals.{are_lawful}
use Rattle.rtr_codec.specs.PduFaults.{number_of}
use Rattle.rtr_codec.specs.declared.fault.ErrorCode.{ErrorCode}
use Rattle.rtr_codec.specs.declared.fault.ErrorCode.TheVariants.{CorruptData, InternalError, NoDataAvailable, InvalidRequest, UnsupportedVersion, UnsupportedType, WithdrawalOfUnknownRecord, DuplicateAnnouncement, UnexpectedVersion}
use Rattle.rtr_codec.specs.declared.intervals.Intervals.{Intervals}
use Rattle.rtr_codec.specs.PduSpelling.{Content, IsLawful, Serial_query, Reset_query, Announce, Withdraw, End_of_data, Cache_reset, Error_report, spelling}
use Rattle.rtr_codec.specs.Responses.{changed, changed_by, changes_between, response, spellings}
use Rattle.rtr_codec.proofs.ReadResponses.{response-gives}
use Rattle.vrp_delta.specs.Delta.{lacked}
use Rattle.vrp_delta.specs.Versions.{Version, version_of}
use Rattle.rtr_channels.specs.ChannelEvents.{FitsPdu, IsPublishable, IsSession}
use Rattle.rtr_channels.specs.Channels.{Publication}
use Rattle.rtr_channels.proofs.Flights.{Asked, In, IsVersion, loads_announced, loads_withdrawn}

-- ---- what PDUs can carry

abbrev pub AreLawful : List Content → Type 0
AreLawful [] = Unit {0}
AreLawful (content ∷ more) = IsLawful content × AreLawful more

pub lawful_append : (f g : List Content) → AreLawful f → AreLawful g → AreLawful (f ++ g)
lawful_append [] g h k = k
lawful_append (p ∷ f) g h k = (h.0, lawful_append f g h.1 k)

pub lawful_front : (f g : List Content) → AreLawful (f ++ g) → AreLawful f
lawful_front [] g h = tt
lawful_front (p ∷ f) g h = (h.0, lawful_front f g h.1)

pub lawful_back : (f g : List Content) → AreLawful (f ++ g) → AreLawful g
lawful_back [] g h = h
lawful_back (p ∷ f) g h = lawful_back f g h.1

small_code : (code : ErrorCode) → number_of code < 2 ^ 16
small_code CorruptData = omega arith
small_code InternalError = omega arith
small_code NoDataAvailable = omega arith
small_code InvalidRequest = omega arith
small_code UnsupportedVersion = omega arith
small_code UnsupportedType = omega arith
small_code WithdrawalOfUnknownRecord = omega arith
small_code DuplicateAnnouncement = omega arith
small_code UnexpectedVersion = omega arith

min_least : (a b : ℕ) → min a b ≤ a
min_least a b = omega arith

pub lawful_report : (code : ErrorCode) (octets : List ℕ) → IsLawful (Error_report (number_of code) (quoted_of octets))
lawful_report code octets =
    let short : length (quoted_of octets) ≡ min 32 (length octets) = length-take 32 octets in
    let least = min_least 32 (length octets) in
    (small_code code, omega (arith, short, least))

lawful_empty_report : (code : ErrorCode) → IsLawful (Error_report (number_of code) [])
lawful_empty_report code = (small_code code, omega arith)

-- ---- what was published and can be told

-- a publication fits the fields of PDUs
abbrev pub IsTellable : Publication → Type 0
IsTellable one = (one.session < 2 ^ 16) × (one.serial < 2 ^ 32) × IsPublishable one.set

abbrev pub AreTellable : List Publication → Type 0
AreTellable vs = (one : Publication) → In one vs → IsTellable one

abbrev pub InVersions : Version → List Version → Type 0
InVersions v [] = ⊥
InVersions v (first ∷ more) = (v ≡ first) ⊎ InVersions v more

-- the kept versions were published in this session
abbrev pub AreKept : List Publication → ℕ → List Version → Type 0
AreKept vs session kept = (v : Version) → InVersions v kept → IsVersion vs session v.serial v.set

-- what is published under this session and serial is this set
abbrev pub IsOnly : List Publication → ℕ → ℕ → List Vrp → Type 0
IsOnly vs n k s = (one : Publication) → In one vs → one.session ≡ n → one.serial ≡ k → one.set ≡ s

abbrev pub IfFound : List Version → ℕ → Option Version → Type 0
IfFound kept k None = Unit {0}
IfFound kept k (Some old) = InVersions old kept × (old.serial ≡ k)

found_later : (v : Version) (kept : List Version) (k : ℕ) (o : Option Version) → IfFound kept k o → IfFound (v ∷ kept) k o
found_later v kept k None h = tt
found_later v kept k (Some old) h = (inr h.0, h.1)

found_here : (v : Version) (kept : List Version) (k : ℕ) (t : Bool) → (v.serial == k) ≡ t → IfFound kept k (version_of kept k) → IfFound (v ∷ kept) k (cond t (Some v) (version_of kept k))
found_here v kept k true e h = (inl refl, eqb-true v.serial k e)
found_here v kept k false e h = found_later v kept k (version_of kept k) h

version_found : (kept : List Version) (k : ℕ) → IfFound kept k (version_of kept k)
version_found [] k = tt
version_found (v ∷ kept) k = found_here v kept k (v.serial == k) refl (version_found kept k)

-- ---- a response

changed_by_behind : (set : List Vrp) (front back : List Content) → changed_by set (front ++ back) ≡ changed_by (changed_by set front) back
changed_by_behind set [] back = refl
changed_by_behind set (content ∷ front) back = changed_by_behind (changed set content) front back

response_loads : (old new : List Vrp) (session : ℕ) (intervals : Intervals) (version : Version) → version.set ≡ new → IsPayloadSet old → IsPayloadSet new
    → changed_by (changed_by old (map Withdraw (lacked old new))) (map Announce (lacked new old)) ≡ new
response_loads old new session intervals version is rose rises =
    sym (changed_by_behind (changed_by old (map Withdraw (lacked old new))) (map Announce (lacked new old)) (End_of_data session version.serial intervals ∷ []))
    ∙ sym (changed_by_behind old (map Withdraw (lacked old new)) (map Announce (lacked new old) ++ End_of_data session version.serial intervals ∷ []))
    ∙ ap (λ l. changed_by old l) (sym (append_assoc (map Withdraw (lacked old new)) (map Announce (lacked new old)) (End_of_data session version.serial intervals ∷ [])))
    ∙ response-gives session intervals (record { serial = version.serial; set = new }) old rose rises

-- a whole response, to a client that starts from the old set, is one version
response_asked : (vs : List Publication) (session : ℕ) (intervals : Intervals) (version : Version) (old : List Vrp) → IsVersion vs session version.serial version.set → IsPayloadSet old → IsPayloadSet version.set
    → Asked vs old (response session intervals version old)
response_asked vs session intervals version old there rose rises =
    let new = version.set in
    let gone = map Withdraw (lacked old new) in
    let come = map Announce (lacked new old) in
    let end = End_of_data session version.serial intervals in
    rw (append_assoc gone come (end ∷ []))
    (loads_withdrawn vs session old (lacked old new) (come ++ end ∷ [])
    (loads_announced vs session (changed_by old gone) (lacked new old) (end ∷ [])
    (λ e. rw (response_loads old new session intervals version refl rose rises) there, tt)))

filtered_case : (x : Vrp) (xs : List Vrp) (t : Bool) → FitsPdu x → AllByRecursion FitsPdu xs → AllByRecursion FitsPdu (cond t (x ∷ xs) xs)
filtered_case x xs true h k = (h, k)
filtered_case x xs false h k = k

lawful_filtered : (test : Vrp → Bool) (set : List Vrp) → AllByRecursion FitsPdu set → AllByRecursion FitsPdu (filter test set)
lawful_filtered test [] h = tt
lawful_filtered test (x ∷ xs) h = filtered_case x (filter test xs) (test x) h.0 (lawful_filtered test xs h.1)

lawful_withdrawals : (set : List Vrp) → AllByRecursion FitsPdu set → AreLawful (map Withdraw set)
lawful_withdrawals [] h = tt
lawful_withdrawals (x ∷ xs) h = (h.0, lawful_withdrawals xs h.1)

lawful_announcements : (set : List Vrp) → AllByRecursion FitsPdu set → AreLawful (map Announce set)
lawful_announcements [] h = tt
lawful_announcements (x ∷ xs) h = (h.0, lawful_announcements xs h.1)

small_intervals : (i : Intervals) → are_lawful i ≡ true → (i.refresh < 2 ^ 32) × (i.retry < 2 ^ 32) × (i.expire < 2 ^ 32)
small_intervals i h =
    let a = and_parts (nat_le 1 i.refresh) _ h in
    let b = and_parts (nat_le i.refresh 86400) _ a.1 in
    let c = and_parts (nat_le 1 i.retry) _ b.1 in
    let d = and_parts (nat_le i.retry 7200) _ c.1 in
    let e = and_parts (nat_le 600 i.expire) _ d.1 in
    let f = and_parts (nat_le i.expire 172800) _ e.1 in
    let refresh = leb-true i.refresh 86400 b.0 in
    let retry = leb-true i.retry 7200 d.0 in
    let expire = leb-true i.expire 172800 f.0 in
    (omega (arith, refresh), omega (arith, retry), omega (arith, expire))

response_lawful : (session : ℕ) (intervals : Intervals) (version : Version) (old : List Vrp) → IsSession session intervals → version.serial < 2 ^ 32 → AllByRecursion FitsPdu version.set → AllByRecursion FitsPdu old
    → AreLawful (response session intervals version old)
response_lawful session intervals version old fits serial new_fits old_fits = (
  fits.0,
  lawful_append (changes_between old version.set) (End_of_data session version.serial intervals ∷ [])
      (lawful_append (map Withdraw (lacked old version.set)) (map Announce (lacked version.set old))
      (lawful_withdrawals (lacked old version.set) (lawful_filtered (λ p. not (has version.set p)) old old_fits))
      (lawful_announcements (lacked version.set old) (lawful_filtered (λ p. not (has old p)) version.set new_fits)))
      (let small = small_intervals intervals fits.1 in (fits.0, serial, small.0, small.1, small.2), tt),
)

-- ---- one answer

-- behind a row there is in the ring what was there and what the row queued; that and what is still to be said is an answer for a client that starts from these payloads
pub record Answers (vs : List Publication) (s : List Vrp) (c d : Conn) : Type 0 where
  pub queued_now : List Content
  pub ring_is : d.ring ≡ c.ring ++ spellings queued_now
  pub asked : Asked vs s (queued_now ++ d.left)
  pub lawful : AreLawful (queued_now ++ d.left)
  pub reads : d.is_open ≡ true → d.unread ≡ c.unread

one_spelled : (ring : List ℕ) (content : Content) → ring ++ spelling content ≡ ring ++ spellings (content ∷ [])
one_spelled ring content = ap (λ l. ring ++ l) (sym (append-nil (spelling content)))

fails_answers : (vs : List Publication) (s : List Vrp) (c : Conn) (code : ErrorCode) (octets : List ℕ) → Answers vs s c (fails c code (quoted_of octets))
fails_answers vs s c code octets = record {
  queued_now = Error_report (number_of code) (quoted_of octets) ∷ [];
  ring_is = one_spelled c.ring (Error_report (number_of code) (quoted_of octets));
  asked = tt;
  lawful = (lawful_report code octets, tt);
  reads = λ e. cc;
}

starved_answers : (vs : List Publication) (s : List Vrp) (c : Conn) (code : ErrorCode) → Answers vs s c (fails c code [])
starved_answers vs s c code = record {
  queued_now = Error_report (number_of code) [] ∷ [];
  ring_is = one_spelled c.ring (Error_report (number_of code) []);
  asked = tt;
  lawful = (lawful_empty_report code, tt);
  reads = λ e. cc;
}

closed_answers : (vs : List Publication) (s : List Vrp) (c : Conn) → Answers vs s c (closed c)
closed_answers vs s c = record { queued_now = []; ring_is = sym (append-nil c.ring); asked = tt; lawful = tt; reads = λ e. cc }

-- an answer of one PDU
answers_case : (vs : List Publication) (s : List Vrp) (c : Conn) (p : Content) (t : Bool) → c.left ≡ [] → IsLawful p → Asked vs s (p ∷ []) → Answers vs s c (cond t (record c { ring = c.ring ++ spelling p }) (closed c))
answers_case vs s c p true idle fits h = record {
  queued_now = p ∷ [];
  ring_is = one_spelled c.ring p;
  asked = rw idle h;
  lawful = (fits, rw idle tt);
  reads = λ e. refl;
}
answers_case vs s c p false idle fits h = closed_answers vs s c

answers_alone : (vs : List Publication) (s : List Vrp) (c : Conn) (p : Content) → c.left ≡ [] → IsLawful p → Asked vs s (p ∷ []) → Answers vs s c (answers c p)
answers_alone vs s c p idle fits h = answers_case vs s c p (has_room c.ring) idle fits h

begins_answers : (vs : List Publication) (s : List Vrp) (refused : Bool) (c : Conn) (ps : List Content) → Asked vs s ps → AreLawful ps → Answers vs s c (begins refused c ps)
begins_answers vs s true c ps h fits = starved_answers vs s c InternalError
begins_answers vs s false c ps h fits = record { queued_now = []; ring_is = sym (append-nil c.ring); asked = h; lawful = fits; reads = λ e. refl }

no_data : (vs : List Publication) (s : List Vrp) (c : Conn) (octets : List ℕ) → c.left ≡ [] → Answers vs s c (answers c (Error_report (number_of NoDataAvailable) (quoted_of octets)))
no_data vs s c octets idle = answers_alone vs s c (Error_report (number_of NoDataAvailable) (quoted_of octets)) idle (lawful_report NoDataAvailable octets) tt

other_session_answers : (vs : List Publication) (s : List Vrp) (other : OtherSession) (c : Conn) (octets : List ℕ) → c.left ≡ [] → Answers vs s c (other_session_answer other c octets)
other_session_answers vs s Report c octets idle = fails_answers vs s c CorruptData octets
other_session_answers vs s Reset c octets idle = answers_alone vs s c Cache_reset idle tt tt

serial_found : (vs : List Publication) (kept : List Version) (s : List Vrp) (shared : Shared) (c : Conn) (k : ℕ) (refused : Bool) (v : Version) (o : Option Version)
    → IsSession shared.session shared.intervals → AreTellable vs → AreKept vs shared.session kept → IsOnly vs shared.session k s → c.left ≡ [] → InVersions v kept → IfFound kept k o
    → Answers vs s c (serial_answer shared refused c v o)
serial_found vs kept s shared c k refused v None fits tell is_kept only idle there f = answers_alone vs s c Cache_reset idle tt tt
serial_found vs kept s shared c k refused v (Some old) fits tell is_kept only idle there f =
    let new = tell _ (is_kept v there) in
    let from = tell _ (is_kept old f.0) in
    let same : old.set ≡ s = only _ (is_kept old f.0) refl f.1 in
    begins_answers vs s refused c (response shared.session shared.intervals v old.set)
    (subst (λ set. Asked vs set (response shared.session shared.intervals v old.set)) same (response_asked vs shared.session shared.intervals v old.set (is_kept v there) from.2.0 new.2.0))
    (response_lawful shared.session shared.intervals v old.set fits new.1 new.2.1 from.2.1)

serial_case : (vs : List Publication) (kept : List Version) (s : List Vrp) (shared : Shared) (c : Conn) (octets : List ℕ) (n k : ℕ) (refused : Bool) (v : Version) (t : Bool) → (n == shared.session) ≡ t
    → IsSession shared.session shared.intervals → AreTellable vs → AreKept vs shared.session kept → IsOnly vs n k s → c.left ≡ [] → InVersions v kept
    → Answers vs s c (cond t (serial_answer shared refused c v (version_of kept k)) (other_session_answer shared.other_session c octets))
serial_case vs kept s shared c octets n k refused v true e fits tell is_kept only idle there =
    serial_found vs kept s shared c k refused v (version_of kept k) fits tell is_kept (λ one h a b. only one h (a ∙ sym (eqb-true n shared.session e)) b) idle there (version_found kept k)
serial_case vs kept s shared c octets n k refused v false e fits tell is_kept only idle there = other_session_answers vs s shared.other_session c octets idle

serial_answers : (vs : List Publication) (kept : List Version) (s : List Vrp) (shared : Shared) (c : Conn) (octets : List ℕ) (n k : ℕ) (refused : Bool)
    → IsSession shared.session shared.intervals → AreTellable vs → AreKept vs shared.session kept → IsOnly vs n k s → c.left ≡ [] → Answers vs s c (serial_query shared refused c octets n k kept)
serial_answers vs [] s shared c octets n k refused fits tell is_kept only idle = no_data vs s c octets idle
serial_answers vs (v ∷ kept) s shared c octets n k refused fits tell is_kept only idle =
    serial_case vs (v ∷ kept) s shared c octets n k refused v (n == shared.session) refl fits tell is_kept only idle (inl refl)

empty_rises : IsPayloadSet []
unfolding IsStrictlySortedBy
empty_rises = tt

reset_answers : (vs : List Publication) (kept : List Version) (shared : Shared) (c : Conn) (octets : List ℕ) (refused : Bool)
    → IsSession shared.session shared.intervals → AreTellable vs → AreKept vs shared.session kept → c.left ≡ [] → Answers vs [] c (reset_query shared refused c octets kept)
reset_answers vs [] shared c octets refused fits tell is_kept idle = no_data vs [] c octets idle
reset_answers vs (v ∷ kept) shared c octets refused fits tell is_kept idle =
    let there = is_kept v (inl refl) in
    let new = tell _ there in
    begins_answers vs [] refused c (response shared.session shared.intervals v [])
    (response_asked vs shared.session shared.intervals v [] there empty_rises new.2.0)
    (response_lawful shared.session shared.intervals v [] fits new.1 new.2.1 tt)

idle_answers : (vs : List Publication) (s : List Vrp) (c d : Conn) (octets : List ℕ) (left : List Content) → c.left ≡ left → (c.left ≡ [] → Answers vs s c d)
    → Answers vs s c (unless_busy left (fails c InvalidRequest (quoted_of octets)) d)
idle_answers vs s c d octets [] is h = h is
idle_answers vs s c d octets (p ∷ ps) is h = fails_answers vs s c InvalidRequest octets

-- those that are offered too
kept_if : (vs : List Publication) (session : ℕ) (withdrawn : Bool) (kept : List Version) → AreKept vs session kept → AreKept vs session (cond withdrawn [] kept)
kept_if vs session true kept is_kept = λ v h. absurd h
kept_if vs session false kept is_kept = is_kept

pub hears_serial : (vs : List Publication) (s : List Vrp) (shared : Shared) (c : Conn) (octets : List ℕ) (n k : ℕ) (refused : Bool)
    → IsSession shared.session shared.intervals → AreTellable vs → AreKept vs shared.session shared.kept → IsOnly vs n k s → Answers vs s c (hears_pdu shared refused c octets (Serial_query n k))
hears_serial vs s shared c octets n k refused fits tell is_kept only =
    idle_answers vs s c (serial_query shared refused c octets n k (offered shared)) octets c.left refl (λ idle. serial_answers vs (offered shared) s shared c octets n k refused fits tell (kept_if vs shared.session shared.withdrawn shared.kept is_kept) only idle)

pub hears_reset : (vs : List Publication) (shared : Shared) (c : Conn) (octets : List ℕ) (refused : Bool)
    → IsSession shared.session shared.intervals → AreTellable vs → AreKept vs shared.session shared.kept → Answers vs [] c (hears_pdu shared refused c octets Reset_query)
hears_reset vs shared c octets refused fits tell is_kept =
    idle_answers vs [] c (reset_query shared refused c octets (offered shared)) octets c.left refl (λ idle. reset_answers vs (offered shared) shared c octets refused fits tell (kept_if vs shared.session shared.withdrawn shared.kept is_kept) idle)
