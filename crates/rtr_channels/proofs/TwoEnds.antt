-- What holds after any events.
use Rattle.std.proofs.Common.{◌≡◌, ◌<◌, ◌≤◌, ◌+◌, ◌%◌, ℕ, zero, suc, min, List, [], ◌∷◌, ◌++◌, length, take, drop, Bool, true, false, ◌==◌, cond, Option, Some, None, Result, Ok, Err, inl, inr, refl, ap, sym, subst, ◌∙◌, append-nil, arith}
use Rattle.std.specs.Prelude.{◌^◌, slice_index_or}
use Rattle.std.specs.Option.{option_map}
use Rattle.std.specs.List.{Contains}
use Rattle.std.proofs.lemmas.Bool.{eqb-false, eqb-true, eq-eqb, false≢true}
use Rattle.net_prefix.specs.declared.payload.Vrp.{Vrp}
use Rattle.rtr_cache.specs.CacheState.{AllAreNotified, CacheState, client_at, empty_cache, tells_client}
use Rattle.rtr_cache.specs.CacheTable.{Conn, Shared, fresh_conn, hands_out, hears_octets, notified, pumped}
use Rattle.rtr_cache.specs.ClientHistory.{Call, Makes, handed_by}
use Rattle.rtr_cache.specs.ClientHistory as calls
use Rattle.rtr_cache.specs.declared.event.CacheReport.{CacheReport}
use Rattle.rtr_cache.specs.declared.other_session.OtherSession.{OtherSession}
use Rattle.rtr_cache.specs.declared.refusal.CacheRefusal.{CacheRefusal}
use Rattle.rtr_client.specs.FirstClient.{first_client}
use Rattle.rtr_client.specs.Following.{served}
use Rattle.rtr_codec.specs.ClientTable.{Base, Client, Fail, Input, Reply, row}
use Rattle.rtr_codec.specs.PduSpelling.{IsLawful, Serial_notify}
use Rattle.rtr_codec.specs.PduStream.{Item, meaning}
use Rattle.rtr_codec.specs.declared.intervals.Intervals.{Intervals}
use Rattle.rtr_codec.specs.declared.place.Place.{Place}
use Rattle.rtr_session.specs.SessionState.{input_of}
use Rattle.vrp_delta.specs.Versions.{Version, is_newest_set, kept_versions, newest_serial, next_version}
use Rattle.rtr_channels.specs.ChannelEvents.{Event, Happens, IsOwn, IsPublishable, IsSession, LeadsTo, LoadsPublishable, accepted, brought, brought_by, called, client_after, failed, handed, hears_loss, link_after, link_lost, published_by, read, restarted, stepped, up_after, Accepts, Calls, Reads, Steps, Fails, Restarts}
use Rattle.rtr_channels.specs.VersionsAgree.{AreFew, HoldsPublished}
use Rattle.rtr_channels.specs.Channels.{Awaited, Gone, Link, Publication, TwoEnds, Under, is_new_session, publication, published_after, published_in, start}
use Rattle.rtr_channels.proofs.Flights.{Fits, In, IsBase, IsVersion, base_more, fits_more}
use Rattle.rtr_channels.proofs.Clients.{fails_keep, is_live, own_dead, own_keeps, read_stays, settled_keeps}
use Rattle.rtr_channels.proofs.Answering.{AreKept, AreTellable, InVersions, IsOnly}
use Rattle.rtr_channels.proofs.Joining.{JoinedTo, Tells, hears_joined, notified_joined, pumped_joined, reads, row_joined, taken_joined}

-- ---- what was published

-- what is kept was published in the session and can be told, its newest serial is that of the last publication, and a session and a serial name one set
pub record IsTold (vs : List Publication) (shared : Shared) : Type 0 where
  pub session : IsSession shared.session shared.intervals
  pub tellable : AreTellable vs
  pub kept : AreKept vs shared.session shared.kept
  pub numbered : (one : Publication) → In one vs → one.session ≡ shared.session → one.serial ≤ newest_serial shared.kept
  pub counted : newest_serial shared.kept ≤ published_in shared.session vs
  pub unique : (a b : Publication) → In a vs → In b vs → a.session ≡ b.session → a.serial ≡ b.serial → a.set ≡ b.set

newest_small : (vs : List Publication) (session : ℕ) (kept : List Version) → AreTellable vs → AreKept vs session kept → newest_serial kept < 2 ^ 32
newest_small vs session [] t k = omega arith
newest_small vs session (v ∷ kept) t k = (t _ (k v (inl refl))).1

notify_lawful : (vs : List Publication) (shared : Shared) → IsTold vs shared → IsLawful (Serial_notify shared.session (newest_serial shared.kept))
notify_lawful vs shared t = (t.session.0, newest_small vs shared.session shared.kept t.tellable t.kept)

only_base : (vs : List Publication) (b : Base) → ((a c : Publication) → In a vs → In c vs → a.session ≡ c.session → a.serial ≡ c.serial → a.set ≡ c.set) → IsVersion vs b.session b.serial b.payloads → IsOnly vs b.session b.serial b.payloads
only_base vs b unique h one there n k = unique one _ there h n k

tells : (vs : List Publication) (shared : Shared) (client : Client) → IsTold vs shared → IsBase vs client.base → Tells vs shared client.base
tells vs shared client t h = record {
  session = t.session;
  tellable = t.tellable;
  kept = t.kept;
  only = λ b is. only_base vs b t.unique (subst (IsBase vs) is h);
}

in_take : (n : ℕ) (v : Version) (vs : List Version) → InVersions v (take n vs) → InVersions v vs
in_take zero v vs h = absurd h
in_take (suc n) v [] h = absurd h
in_take (suc n) v (u ∷ vs) (inl e) = inl e
in_take (suc n) v (u ∷ vs) (inr h) = inr (in_take n v vs h)

-- one publication more
published_more : (vs : List Publication) (shared : Shared) (set : List Vrp) → IsPublishable set → AreFew (publication shared set ∷ vs) → IsTold vs shared
    → IsTold (publication shared set ∷ vs) (record shared { kept = take kept_versions (next_version shared.kept set ∷ shared.kept) })
published_more vs shared set can few t =
    let one_more : published_in shared.session (publication shared set ∷ vs) ≡ published_in shared.session vs + 1 = rw (eq-eqb shared.session shared.session refl) refl in
    let fewer : published_in shared.session (publication shared set ∷ vs) < 2 ^ 32 = few shared.session in
    let some : newest_serial shared.kept ≤ published_in shared.session vs = t.counted in
    let serial : (newest_serial shared.kept + 1) % 2 ^ 32 ≡ newest_serial shared.kept + 1 = omega (arith, one_more, fewer, some) in
    let above : (one : Publication) → In one vs → one.session ≡ shared.session → one.serial < (newest_serial shared.kept + 1) % 2 ^ 32 = λ one there e. let n = t.numbered one there e in omega (arith, serial, n) in
    record {
      session = t.session;
      tellable = λ one. tellable_in one;
      kept = λ v h. kept_in v (in_take kept_versions v (next_version shared.kept set ∷ shared.kept) h);
      numbered = λ one. numbered_in above one;
      counted = omega (arith, one_more, serial, some);
      unique = unique_in above;
    }
  where
    tellable_in : (one : Publication) → In one (publication shared set ∷ vs) → (one.session < 2 ^ 16) × (one.serial < 2 ^ 32) × IsPublishable one.set
    tellable_in one (inl e) = subst (λ (p : Publication). (p.session < 2 ^ 16) × (p.serial < 2 ^ 32) × IsPublishable p.set) (sym e) (t.session.0, omega arith, can)
    tellable_in one (inr h) = t.tellable one h

    kept_in : (v : Version) → InVersions v (next_version shared.kept set ∷ shared.kept) → IsVersion (publication shared set ∷ vs) shared.session v.serial v.set
    kept_in v (inl e) = inl (ap (λ (u : Version). record { session = shared.session; serial = u.serial; set = u.set }) e)
    kept_in v (inr h) = inr (t.kept v h)

    numbered_in : ((one : Publication) → In one vs → one.session ≡ shared.session → one.serial < (newest_serial shared.kept + 1) % 2 ^ 32)
        → (one : Publication) → In one (publication shared set ∷ vs) → one.session ≡ shared.session → one.serial ≤ (newest_serial shared.kept + 1) % 2 ^ 32
    numbered_in above one (inl e) n = let same : one.serial ≡ (newest_serial shared.kept + 1) % 2 ^ 32 = ap (λ (p : Publication). p.serial) e in omega (arith, same)
    numbered_in above one (inr k) n = let less = above one k n in omega (arith, less)

    unique_in : ((one : Publication) → In one vs → one.session ≡ shared.session → one.serial < (newest_serial shared.kept + 1) % 2 ^ 32)
        → (a b : Publication) → In a (publication shared set ∷ vs) → In b (publication shared set ∷ vs) → a.session ≡ b.session → a.serial ≡ b.serial → a.set ≡ b.set
    unique_in above a b (inl e) (inl f) n k = ap (λ (p : Publication). p.set) (e ∙ sym f)
    unique_in above a b (inl e) (inr j) n k =
        let less = above b j (sym n ∙ ap (λ (p : Publication). p.session) e) in
        let same : b.serial ≡ (newest_serial shared.kept + 1) % 2 ^ 32 = sym k ∙ ap (λ (p : Publication). p.serial) e in
        absurd (omega (arith, less, same))
    unique_in above a b (inr i) (inl f) n k =
        let less = above a i (n ∙ ap (λ (p : Publication). p.session) f) in
        let same : a.serial ≡ (newest_serial shared.kept + 1) % 2 ^ 32 = k ∙ ap (λ (p : Publication). p.serial) f in
        absurd (omega (arith, less, same))
    unique_in above a b (inr i) (inr j) n k = t.unique a b i j n k

load_case : (vs : List Publication) (shared : Shared) (set : List Vrp) (t : Bool) → IsPublishable set → AreFew (cond t vs (publication shared set ∷ vs)) → IsTold vs shared
    → IsTold (cond t vs (publication shared set ∷ vs)) (record shared { kept = cond t shared.kept (take kept_versions (next_version shared.kept set ∷ shared.kept)) })
load_case vs shared set true can few t = t
load_case vs shared set false can few t = published_more vs shared set can few t

not_new_case : (n : ℕ) (u : Publication) (vs : List Publication) (one : Publication) (t : Bool) → (u.session == n) ≡ t → (is_new_session n vs ≡ true → In one vs → ⊥)
    → cond t false (is_new_session n vs) ≡ true → In one (u ∷ vs) → one.session ≡ n → ⊥
not_new_case n u vs one true at later f h e = false≢true f
not_new_case n u vs one false at later f (inl i) e = eqb-false u.session n at (ap (λ (p : Publication). p.session) (sym i) ∙ e)
not_new_case n u vs one false at later f (inr k) e = later f k

not_new : (n : ℕ) (vs : List Publication) (one : Publication) → is_new_session n vs ≡ true → In one vs → one.session ≡ n → ⊥
not_new n [] one f h e = h
not_new n (u ∷ vs) one f h e = not_new_case n u vs one (u.session == n) refl (λ g k. not_new n vs one g k e) f h e

-- a session in which nothing was published
told_anew : (vs : List Publication) (shared : Shared) (session : ℕ) (intervals : Intervals) (other_session : OtherSession) → IsSession session intervals → is_new_session session vs ≡ true → IsTold vs shared
    → IsTold vs (empty_cache session intervals other_session).shared
told_anew vs shared session intervals other_session fits fresh t = record {
  session = fits;
  tellable = t.tellable;
  kept = λ v h. absurd h;
  numbered = λ one there e. absurd (not_new session vs one fresh there e);
  counted = omega arith;
  unique = t.unique;
}

told_start : (session : ℕ) (intervals : Intervals) (other_session : OtherSession) → IsSession session intervals → IsTold [] (empty_cache session intervals other_session).shared
told_start session intervals other_session fits = record {
  session = fits;
  tellable = λ one h. absurd h;
  kept = λ v h. absurd h;
  numbered = λ one h e. absurd h;
  counted = omega arith;
  unique = λ a b h k e f. absurd h;
}

-- ---- what holds

-- the connection under this key fits the client
abbrev pub JoinedAt : List Publication → CacheState → ℕ → Client → List ℕ → List ℕ → Type 0
JoinedAt vs cache key client up down = (conn : Conn) × (client_at cache key ≡ Some conn) × JoinedTo vs conn client up down

-- so does what is still on the way from one that the cache has no more
abbrev pub IsLeft : List Publication → Client → List ℕ → List ℕ → Type 0
IsLeft vs client up down = (conn : Conn) × (conn.is_open ≡ false) × JoinedTo vs conn client up down

-- and what is on the way to a cache that has it not yet
abbrev pub IsLinked : List Publication → CacheState → Link → Client → List ℕ → List ℕ → Type 0
IsLinked vs cache Awaited client up down = JoinedTo vs fresh_conn client up down
IsLinked vs cache (Under key) client up down = JoinedAt vs cache key client up down
IsLinked vs cache Gone client up down = IsLeft vs client up down

-- while the client is live
abbrev pub IsJoined : List Publication → CacheState → Link → Client → List ℕ → List ℕ → Type 0
IsJoined vs cache link client up down = is_live client ≡ true → IsLinked vs cache link client up down

pub record Holds (w : TwoEnds) : Type 0 where
  pub told : IsTold w.published w.cache.shared
  pub base : IsBase w.published w.client.base
  pub joined : IsJoined w.published w.cache w.link w.client w.up w.down

-- nothing is on the way of a connection that has not begun
new_joined : (vs : List Publication) (client : Client) → Fits vs client.base [] [] client.stage → JoinedTo vs fresh_conn client [] []
new_joined vs client fits = record { asked = []; sent = []; down_is = refl; lawful = tt; up_is = λ h. refl; fits = fits }

pub holds_start : (retry session : ℕ) (intervals : Intervals) (other_session : OtherSession) → IsSession session intervals → Holds (start retry session intervals other_session)
holds_start retry session intervals other_session fits = record { told = told_start session intervals other_session fits; base = tt; joined = λ live. new_joined [] (first_client retry) (refl, tt) }

-- ---- calls of the cache

some_is : (a b : Conn) → Some a ≡ Some b → a ≡ b
some_is a b e = cc e

some_none : (c : Conn) → Some c ≡ None → ⊥
some_none c e = cc e

-- nothing comes or goes for this client
at_rest : (vs : List Publication) (new : CacheState) (key : ℕ) (client : Client) (up rest down : List ℕ) → up ≡ rest → JoinedAt vs new key client up down → JoinedAt vs new key client rest (down ++ [])
at_rest vs new key client up rest down is j = (j.0, j.1, subst (λ d. JoinedTo vs j.0 client rest d) (sym (append-nil down)) (subst (λ u. JoinedTo vs j.0 client u down) is j.2))

-- another client's call
apart : (vs : List Publication) (old new : CacheState) (key : ℕ) (client : Client) (up rest down : List ℕ) → up ≡ rest → client_at new key ≡ client_at old key → JoinedAt vs old key client up down → JoinedAt vs new key client rest (down ++ [])
apart vs old new key client up rest down is same j = at_rest vs new key client up rest down is (j.0, same ∙ j.1, j.2)

-- each client is notified
all_notified : (vs : List Publication) (old new : CacheState) (key : ℕ) (client : Client) (up down : List ℕ) → IsLawful (Serial_notify new.shared.session (newest_serial new.shared.kept)) → AllAreNotified old new
    → JoinedAt vs old key client up down → JoinedAt vs new key client up down
all_notified vs old new key client up down fits all j = (
  pumped (notified new.shared j.0),
  all key ∙ ap (option_map (λ conn. pumped (notified new.shared conn))) j.1,
  pumped_joined vs (notified new.shared j.0) client up down (notified_joined vs new.shared j.0 client up down fits j.2),
)

-- octets come
heard_here : (vs : List Publication) (old new : CacheState) (key heard : ℕ) (octets : List ℕ) (client : Client) (up rest down : List ℕ) (report : CacheReport) (t : Bool) → (heard == key) ≡ t → IsTold vs old.shared → IsBase vs client.base
    → Makes old (calls.Heard heard octets (Ok report)) new → up ≡ cond t octets [] ++ rest → JoinedAt vs old key client up down → JoinedAt vs new key client rest (down ++ [])
heard_here vs old new key heard octets client up rest down report true at told base m is j =
    let here : heard ≡ key = eqb-true heard key at in
    let same : j.0 ≡ m.0.0 = some_is j.0 m.0.0 (sym j.1 ∙ ap (λ k. client_at old k) (sym here) ∙ m.0.1) in
    let refused = m.0.2.0 in
    let after : JoinedTo vs (pumped (hears_octets old.shared refused j.0 octets)) client rest down =
    pumped_joined vs (hears_octets old.shared refused j.0 octets) client rest down (hears_joined vs old.shared refused j.0 client up octets rest down (tells vs old.shared client told base) is j.2) in
    at_rest vs new key client rest rest down refl
    (pumped (hears_octets old.shared refused j.0 octets), ap (λ k. client_at new k) (sym here) ∙ m.0.2.1 ∙ ap (λ c. Some (pumped (hears_octets old.shared refused c octets))) (sym same), after)
heard_here vs old new key heard octets client up rest down report false at told base m is j =
    apart vs old new key client up rest down is (m.0.3 key (λ e. eqb-false heard key at (sym e))) j

take_again : (count : ℕ) (ring back : List ℕ) → count ≤ length ring → take count (take count ring ++ back) ≡ take count ring
take_again zero ring back fits = refl
take_again (suc n) [] back fits = absurd (omega (arith, fits))
take_again (suc n) (x ∷ ring) back fits = ap (λ l. x ∷ l) (take_again n ring back (omega (arith, fits)))

min_length : (a b : ℕ) → min a b ≤ b
min_length a b = omega arith

taken_here : (vs : List Publication) (old new : CacheState) (key taken : ℕ) (buf handed : List ℕ) (count : ℕ) (client : Client) (up rest down : List ℕ) (t : Bool) → (taken == key) ≡ t
    → Makes old (calls.Took taken buf (Ok count) handed) new → up ≡ rest → JoinedAt vs old key client up down → JoinedAt vs new key client rest (down ++ cond t (take count handed) [])
taken_here vs old new key taken buf handed count client up rest down true at m is j =
    let here : taken ≡ key = eqb-true taken key at in
    let same : m.0.0 ≡ j.0 = sym (some_is j.0 m.0.0 (sym j.1 ∙ ap (λ k. client_at old k) (sym here) ∙ m.0.1)) in
    let most = min_length (length buf) (length m.0.0.ring) in
    let count_is : count ≡ min (length buf) (length m.0.0.ring) = m.0.2 in
    let out : take count handed ≡ take count j.0.ring =
    ap (take count) m.0.3 ∙ take_again count m.0.0.ring (drop count buf) (omega (arith, count_is, most)) ∙ ap (λ (c : Conn). take count c.ring) same in (
      pumped (hands_out count j.0),
      ap (λ k. client_at new k) (sym here) ∙ m.0.4 ∙ ap (λ c. Some (pumped (hands_out count c))) same,
      pumped_joined vs (hands_out count j.0) client rest (down ++ take count handed)
          (subst (λ o. JoinedTo vs (hands_out count j.0) client rest (down ++ o)) (sym out)
          (taken_joined vs j.0 client rest down count (subst (λ u. JoinedTo vs j.0 client u down) is j.2))),
    )
taken_here vs old new key taken buf handed count client up rest down false at m is j = apart vs old new key client up rest down is (m.0.5 key (λ e. eqb-false taken key at (sym e))) j

-- the cache has the connection no more
left_behind : (vs : List Publication) (conn : Conn) (client : Client) (up rest down : List ℕ) → up ≡ rest → JoinedTo vs conn client up down → IsLeft vs client rest (down ++ [])
left_behind vs conn client up rest down is j = (
  record conn { is_open = false },
  refl,
  record {
    asked = j.asked;
    sent = j.sent;
    down_is = ap (λ d. d ++ conn.ring) (append-nil down) ∙ j.down_is;
    lawful = j.lawful;
    up_is = λ h. cc;
    fits = j.fits;
  },
)

abbrev pub IsNoLoad : Call → Type 0
IsNoLoad (calls.Loaded set result) = ⊥
IsNoLoad call = Unit {0}

-- the call isn't that its connection is lost
abbrev pub KeepsKey : ℕ → Call → Type 0
KeepsKey key call = hears_loss key call ≡ false

-- a refused call changes nothing
refused_same : (vs : List Publication) (old new : CacheState) (key : ℕ) (client : Client) (up rest down : List ℕ) → new ≡ old → up ≡ rest → JoinedAt vs old key client up down → JoinedAt vs new key client rest (down ++ [])
refused_same vs old new key client up rest down same is j = apart vs old new key client up rest down is (ap (λ c. client_at c key) same) j

called_joined : (vs : List Publication) (old new : CacheState) (key : ℕ) (call : Call) (client : Client) (up rest down : List ℕ) → IsTold vs old.shared → IsBase vs client.base → Makes old call new → IsNoLoad call → KeepsKey key call
    → up ≡ brought_by key call ++ rest → JoinedAt vs old key client up down → JoinedAt vs new key client rest (down ++ handed_by key call)
called_joined vs old new key (calls.Loaded set result) client up rest down told base m free keeps is j = absurd free
called_joined vs old new key (calls.Withdrew (Ok report)) client up rest down told base m free keeps is j =
    apart vs old new key client up rest down is (ap (λ (c : CacheState). client_at c key) m.0.0) j
called_joined vs old new key (calls.Withdrew (Err why)) client up rest down told base m free keeps is j = refused_same vs old new key client up rest down m.1 is j
called_joined vs old new key (calls.CameUp (Ok report)) client up rest down told base m free keeps is j =
    apart vs old new key client up rest down is (m.0.6 key (λ e. some_none j.0 (sym j.1 ∙ ap (λ k. client_at old k) e ∙ m.0.4))) j
called_joined vs old new key (calls.CameUp (Err why)) client up rest down told base m free keeps is j = refused_same vs old new key client up rest down m.1 is j
called_joined vs old new key (calls.Heard heard octets (Ok report)) client up rest down told base m free keeps is j = heard_here vs old new key heard octets client up rest down report (heard == key) refl told base m is j
called_joined vs old new key (calls.Heard heard octets (Err why)) client up rest down told base m free keeps is j = refused_same vs old new key client up rest down m.1 is j
called_joined vs old new key (calls.WentDown lost (Ok report)) client up rest down told base m free keeps is j = apart vs old new key client up rest down is (m.0.2 key (λ e. eqb-false lost key keeps (sym e))) j
called_joined vs old new key (calls.WentDown lost (Err why)) client up rest down told base m free keeps is j = refused_same vs old new key client up rest down m.1 is j
called_joined vs old new key (calls.Ticked now (Ok report)) client up rest down told base m free keeps is j =
    at_rest vs new key client up rest down is
    (all_notified vs old new key client up down (subst (λ (s : Shared). IsLawful (Serial_notify s.session (newest_serial s.kept))) (sym m.0.1) (notify_lawful vs old.shared told)) m.0.2 j)
called_joined vs old new key (calls.Ticked now (Err why)) client up rest down told base m free keeps is j = refused_same vs old new key client up rest down m.1 is j
called_joined vs old new key (calls.Took taken buf (Ok count) handed) client up rest down told base m free keeps is j = taken_here vs old new key taken buf handed count client up rest down (taken == key) refl m is j
called_joined vs old new key (calls.Took taken buf (Err why) handed) client up rest down told base m free keeps is j = refused_same vs old new key client up rest down m.1 is j

told_same : (vs : List Publication) (a b : Shared) → b ≡ a → IsTold vs a → IsTold vs b
told_same vs a b e t = subst (IsTold vs) (sym e) t

told_later : (vs : List Publication) (a : Shared) (now : ℕ) → IsTold vs a → IsTold vs (record a { now = now })
told_later vs a now t = record { session = t.session; tellable = t.tellable; kept = t.kept; numbered = t.numbered; counted = t.counted; unique = t.unique }

told_marked : (vs : List Publication) (a : Shared) (withdrawn : Bool) → IsTold vs a → IsTold vs (record a { withdrawn = withdrawn })
told_marked vs a withdrawn t = record { session = t.session; tellable = t.tellable; kept = t.kept; numbered = t.numbered; counted = t.counted; unique = t.unique }

-- what a call other than a load leaves of what all clients share
called_told : (vs : List Publication) (old new : CacheState) (call : Call) → IsNoLoad call → Makes old call new → IsTold vs old.shared → IsTold vs new.shared
called_told vs old new (calls.Loaded set result) free m t = absurd free
called_told vs old new (calls.Withdrew (Ok report)) free m t = told_same vs (record old.shared { withdrawn = true }) new.shared (ap (λ (c : CacheState). c.shared) m.0.0) (told_marked vs old.shared true t)
called_told vs old new (calls.Withdrew (Err why)) free m t = told_same vs old.shared new.shared (ap (λ (c : CacheState). c.shared) m.1) t
called_told vs old new (calls.CameUp (Ok report)) free m t = told_same vs old.shared new.shared m.0.7 t
called_told vs old new (calls.CameUp (Err why)) free m t = told_same vs old.shared new.shared (ap (λ (c : CacheState). c.shared) m.1) t
called_told vs old new (calls.Heard heard octets (Ok report)) free m t = told_same vs old.shared new.shared m.0.4 t
called_told vs old new (calls.Heard heard octets (Err why)) free m t = told_same vs old.shared new.shared (ap (λ (c : CacheState). c.shared) m.1) t
called_told vs old new (calls.WentDown lost (Ok report)) free m t = told_same vs old.shared new.shared m.0.3 t
called_told vs old new (calls.WentDown lost (Err why)) free m t = told_same vs old.shared new.shared (ap (λ (c : CacheState). c.shared) m.1) t
called_told vs old new (calls.Ticked now (Ok report)) free m t = told_same vs (record old.shared { now = now }) new.shared m.0.1 (told_later vs old.shared now t)
called_told vs old new (calls.Ticked now (Err why)) free m t = told_same vs old.shared new.shared (ap (λ (c : CacheState). c.shared) m.1) t
called_told vs old new (calls.Took taken buf (Ok count) handed) free m t = told_same vs old.shared new.shared m.0.6 t
called_told vs old new (calls.Took taken buf (Err why) handed) free m t = told_same vs old.shared new.shared (ap (λ (c : CacheState). c.shared) m.1) t

-- the connection behind a call
loss_linked : (vs : List Publication) (old new : CacheState) (key : ℕ) (call : Call) (t : Bool) → hears_loss key call ≡ t → (client : Client) (up rest down : List ℕ) → IsTold vs old.shared → IsBase vs client.base → Makes old call new → IsNoLoad call
    → up ≡ brought_by key call ++ rest → JoinedAt vs old key client up down → IsLinked vs new (cond t Gone (Under key)) client rest (down ++ handed_by key call)
loss_linked vs old new key call false at client up rest down told base m free is j = called_joined vs old new key call client up rest down told base m free at is j
loss_linked vs old new key (calls.WentDown lost (Ok report)) true at client up rest down told base m free is j = left_behind vs j.0 client up rest down is j.2
loss_linked vs old new key (calls.WentDown lost (Err why)) true at client up rest down told base m free is j = cc
loss_linked vs old new key (calls.Loaded set result) true at client up rest down told base m free is j = cc
loss_linked vs old new key (calls.Withdrew result) true at client up rest down told base m free is j = cc
loss_linked vs old new key (calls.CameUp result) true at client up rest down told base m free is j = cc
loss_linked vs old new key (calls.Heard heard octets result) true at client up rest down told base m free is j = cc
loss_linked vs old new key (calls.Ticked now result) true at client up rest down told base m free is j = cc
loss_linked vs old new key (calls.Took taken buf result out) true at client up rest down told base m free is j = cc

-- what is on the way stays
stays_joined : (vs : List Publication) (conn : Conn) (client : Client) (up rest down : List ℕ) → up ≡ rest → JoinedTo vs conn client up down → JoinedTo vs conn client rest (down ++ [])
stays_joined vs conn client up rest down is j = subst (λ d. JoinedTo vs conn client rest d) (sym (append-nil down)) (subst (λ u. JoinedTo vs conn client u down) is j)

still_left : (vs : List Publication) (client : Client) (up rest down : List ℕ) → up ≡ rest → IsLeft vs client up down → IsLeft vs client rest (down ++ [])
still_left vs client up rest down is l = (l.0, l.1, stays_joined vs l.0 client up rest down is l.2)

called_is_linked : (vs : List Publication) (old new : CacheState) (link : Link) (call : Call) (client : Client) (up rest down : List ℕ) → IsTold vs old.shared → IsBase vs client.base → Makes old call new → IsNoLoad call
    → up ≡ brought link call ++ rest → IsLinked vs old link client up down → IsLinked vs new (link_after link call) client rest (down ++ handed link call)
called_is_linked vs old new Awaited call client up rest down told base m free is j = stays_joined vs fresh_conn client up rest down is j
called_is_linked vs old new (Under key) call client up rest down told base m free is j = loss_linked vs old new key call (hears_loss key call) refl client up rest down told base m free is j
called_is_linked vs old new Gone call client up rest down told base m free is j = still_left vs client up rest down is j

unloaded : (old : TwoEnds) (call : Call) (cache : CacheState) (rest : List ℕ) → IsNoLoad call → published_by old call ≡ old.published → Makes old.cache call cache → old.up ≡ brought old.link call ++ rest → Holds old → Holds (called old call cache rest)
unloaded old call cache rest free same m brings h = record {
  told = rw same (called_told old.published old.cache cache call free m h.told);
  base = rw same h.base;
  joined = rw same (λ live. called_is_linked old.published old.cache cache old.link call old.client old.up rest old.down h.told h.base m free brings (h.joined live));
}

-- a set is loaded
joined_more : (vs : List Publication) (one : Publication) (conn : Conn) (client : Client) (up down : List ℕ) (t : Bool) → JoinedTo vs conn client up down → JoinedTo (cond t vs (one ∷ vs)) conn client up down
joined_more vs one conn client up down true j = j
joined_more vs one conn client up down false j = record {
  asked = j.asked;
  sent = j.sent;
  down_is = j.down_is;
  lawful = j.lawful;
  up_is = j.up_is;
  fits = fits_more one vs client.base j.asked (j.sent ++ conn.left) client.stage j.fits;
}

base_after : (vs : List Publication) (one : Publication) (base : Option Base) (t : Bool) → IsBase vs base → IsBase (cond t vs (one ∷ vs)) base
base_after vs one base true h = h
base_after vs one base false h = base_more one vs base h

loaded_linked : (vs : List Publication) (one : Publication) (t : Bool) (old new : CacheState) (link : Link) (client : Client) (up rest down : List ℕ) → IsLawful (Serial_notify new.shared.session (newest_serial new.shared.kept)) → AllAreNotified old new → up ≡ rest
    → IsLinked vs old link client up down → IsLinked (cond t vs (one ∷ vs)) new link client rest (down ++ [])
loaded_linked vs one t old new Awaited client up rest down fits all is j = stays_joined (cond t vs (one ∷ vs)) fresh_conn client up rest down is (joined_more vs one fresh_conn client up down t j)
loaded_linked vs one t old new Gone client up rest down fits all is l = still_left (cond t vs (one ∷ vs)) client up rest down is (l.0, l.1, joined_more vs one l.0 client up down t l.2)
loaded_linked vs one t old new (Under key) client up rest down fits all is j =
    at_rest (cond t vs (one ∷ vs)) new key client up rest down is
    (all_notified (cond t vs (one ∷ vs)) old new key client up down fits all (j.0, j.1, joined_more vs one j.0 client up down t j.2))

pub handed_none : (link : Link) (set : List Vrp) (result : Result CacheReport CacheRefusal) → handed link (calls.Loaded set result) ≡ []
handed_none Awaited set result = refl
handed_none (Under key) set result = refl
handed_none Gone set result = refl

pub brought_none : (link : Link) (set : List Vrp) (result : Result CacheReport CacheRefusal) → brought link (calls.Loaded set result) ≡ []
brought_none Awaited set result = refl
brought_none (Under key) set result = refl
brought_none Gone set result = refl

pub link_stays : (link : Link) (set : List Vrp) (result : Result CacheReport CacheRefusal) → link_after link (calls.Loaded set result) ≡ link
link_stays Awaited set result = refl
link_stays (Under key) set result = refl
link_stays Gone set result = refl

loaded : (old : TwoEnds) (set : List Vrp) (report : CacheReport) (cache : CacheState) (rest : List ℕ) → AreFew (published_after old.cache.shared set old.published) → IsPublishable set → Makes old.cache (calls.Loaded set (Ok report)) cache
    → old.up ≡ brought old.link (calls.Loaded set (Ok report)) ++ rest → Holds old → Holds (called old (calls.Loaded set (Ok report)) cache rest)
loaded old set report cache rest few can m brings h =
    let shared = old.cache.shared in
    let t = is_newest_set shared.kept set in
    let vs = published_after shared set old.published in
    let told : IsTold vs cache.shared = subst (IsTold vs) (sym m.0.0) (told_marked vs _ false (load_case old.published shared set t can few h.told)) in
    record {
      told = told;
      base = base_after old.published (publication shared set) old.client.base t h.base;
      joined = rw (link_stays old.link set (Ok report), handed_none old.link set (Ok report))
          (λ live. loaded_linked old.published (publication shared set) t old.cache cache old.link old.client old.up rest old.down (notify_lawful vs cache.shared told) m.0.1
          (brings ∙ ap (λ l. l ++ rest) (brought_none old.link set (Ok report))) (h.joined live));
    }

refused_linked : (vs : List Publication) (old new : CacheState) (link : Link) (client : Client) (up rest down : List ℕ) → new ≡ old → up ≡ rest → IsLinked vs old link client up down → IsLinked vs new link client rest (down ++ [])
refused_linked vs old new Awaited client up rest down same is j = stays_joined vs fresh_conn client up rest down is j
refused_linked vs old new Gone client up rest down same is j = still_left vs client up rest down is j
refused_linked vs old new (Under key) client up rest down same is j = refused_same vs old new key client up rest down same is j

load_refused : (old : TwoEnds) (set : List Vrp) (why : CacheRefusal) (cache : CacheState) (rest : List ℕ) → Makes old.cache (calls.Loaded set (Err why)) cache → old.up ≡ brought old.link (calls.Loaded set (Err why)) ++ rest
    → Holds old → Holds (called old (calls.Loaded set (Err why)) cache rest)
load_refused old set why cache rest m brings h = record {
  told = told_same old.published old.cache.shared cache.shared (ap (λ (s : CacheState). s.shared) m.1) h.told;
  base = h.base;
  joined = rw (link_stays old.link set (Err why), handed_none old.link set (Err why))
      (λ live. refused_linked old.published old.cache cache old.link old.client old.up rest old.down m.1 (brings ∙ ap (λ l. l ++ rest) (brought_none old.link set (Err why))) (h.joined live));
}

call_holds : (old : TwoEnds) (call : Call) (cache : CacheState) (rest : List ℕ) → AreFew (published_by old call) → LoadsPublishable call → Makes old.cache call cache → old.up ≡ brought old.link call ++ rest → Holds old → Holds (called old call cache rest)
call_holds old (calls.Loaded set (Ok report)) cache rest few can m brings h = loaded old set report cache rest few can m brings h
call_holds old (calls.Loaded set (Err why)) cache rest few can m brings h = load_refused old set why cache rest m brings h
call_holds old (calls.Withdrew result) cache rest few can m brings h = unloaded old (calls.Withdrew result) cache rest tt refl m brings h
call_holds old (calls.CameUp result) cache rest few can m brings h = unloaded old (calls.CameUp result) cache rest tt refl m brings h
call_holds old (calls.Heard key octets result) cache rest few can m brings h = unloaded old (calls.Heard key octets result) cache rest tt refl m brings h
call_holds old (calls.WentDown key result) cache rest few can m brings h = unloaded old (calls.WentDown key result) cache rest tt refl m brings h
call_holds old (calls.Ticked now result) cache rest few can m brings h = unloaded old (calls.Ticked now result) cache rest tt refl m brings h
call_holds old (calls.Took key buf result out) cache rest few can m brings h = unloaded old (calls.Took key buf result out) cache rest tt refl m brings h

-- ---- events of the client

some_key : (a b : ℕ) → Some a ≡ Some b → a ≡ b
some_key a b e = cc e

accepted_holds : (old : TwoEnds) (key : ℕ) (cache : CacheState) → old.link ≡ Awaited → Makes old.cache (calls.CameUp (Ok (tells_client key))) cache → Holds old → Holds (accepted old key cache)
accepted_holds old key cache awaited m h =
    let under : m.0.0 ≡ key = some_key m.0.0 key (ap (λ (r : CacheReport). r.client) (sym m.0.1)) in
    record {
      told = told_same old.published old.cache.shared cache.shared m.0.7 h.told;
      base = h.base;
      joined = λ live. (fresh_conn, ap (λ k. client_at cache k) (sym under) ∙ m.0.5, subst (λ l. IsLinked old.published old.cache l old.client old.up old.down) awaited (h.joined live));
    }

-- the client behind a row, with the connection where one stands
abbrev pub RowHolds : List Publication → CacheState → Link → ℕ → Bool → Reply → List ℕ → List ℕ → Type 0
RowHolds vs cache link now has_room r up down = IsBase vs (client_after now has_room r).base × IsJoined vs cache link (client_after now has_room r) (up_after has_room r up) down

dead_joined : (vs : List Publication) (cache : CacheState) (link : Link) (client : Client) (up down : List ℕ) → is_live client ≡ false → IsJoined vs cache link client up down
dead_joined vs cache link client up down h = λ live. absurd (false≢true (sym h ∙ live))

-- the same on one connection
abbrev pub RowJoined : List Publication → Conn → ℕ → Bool → Reply → List ℕ → List ℕ → Type 0
RowJoined vs conn now has_room r up down =
    IsBase vs (client_after now has_room r).base × (is_live (client_after now has_room r) ≡ true → JoinedTo vs conn (client_after now has_room r) (up_after has_room r up) down)

-- each connection that was joined stays so
linked_holds : (vs : List Publication) (cache : CacheState) (link : Link) (client : Client) (now : ℕ) (has_room : Bool) (r : Reply) (up down rest : List ℕ)
    → ((conn : Conn) → JoinedTo vs conn client up down → RowJoined vs conn now has_room r up rest) → IsLinked vs cache link client up down → RowHolds vs cache link now has_room r up rest
linked_holds vs cache Awaited client now has_room r up down rest row_keeps j = row_keeps fresh_conn j
linked_holds vs cache Gone client now has_room r up down rest row_keeps l =
    let k = row_keeps l.0 l.2 in
    (k.0, λ live. (l.0, l.1, k.1 live))
linked_holds vs cache (Under key) client now has_room r up down rest row_keeps l =
    let k = row_keeps l.0 l.2 in
    (k.0, λ live. (l.0, l.1, k.1 live))

read_joined : (vs : List Publication) (conn : Conn) (client : Client) (place : Place) (octets rest up down : List ℕ) (item : Item) (now : ℕ) (starved has_room : Bool) → AreTellable vs → IsBase vs client.base → down ≡ octets ++ rest
    → meaning place octets ≡ Some item → JoinedTo vs conn client up down → RowJoined vs conn now has_room (row now client (served starved (input_of item))) up rest
read_joined vs conn client place octets rest up down item now starved has_room t h is found j =
    let r = row now client (served starved (input_of item)) in
    let g = reads vs conn client place octets rest up down item now starved h is found j in (
      (settled_keeps vs now has_room r j.asked (g.more ++ conn.left) g.keeps).0,
      λ live. row_joined vs conn now has_room r j.asked g.more up rest t g.keeps g.rest_is g.lawful j.up_is live,
    )

read_case : (vs : List Publication) (cache : CacheState) (link : Link) (client : Client) (place : Place) (octets rest up down : List ℕ) (item : Item) (now : ℕ) (starved has_room : Bool) (t : Bool) → is_live client ≡ t → AreTellable vs
    → IsBase vs client.base → down ≡ octets ++ rest → meaning place octets ≡ Some item → IsJoined vs cache link client up down → RowHolds vs cache link now has_room (row now client (served starved (input_of item))) up rest
read_case vs cache link client place octets rest up down item now starved has_room false at t h is found j =
    let stays = read_stays now has_room client starved item at in (
      subst (λ (c : Client). IsBase vs c.base) (sym stays) h,
      dead_joined vs cache link (client_after now has_room (row now client (served starved (input_of item)))) _ rest (ap is_live stays ∙ at),
    )
read_case vs cache link client place octets rest up down item now starved has_room true at t h is found j =
    linked_holds vs cache link client now has_room (row now client (served starved (input_of item))) up down rest
    (λ conn k. read_joined vs conn client place octets rest up down item now starved has_room t h is found k) (j at)

read_holds : (old : TwoEnds) (now : ℕ) (starved has_room : Bool) (octets rest : List ℕ) (item : Item) → old.down ≡ octets ++ rest → meaning old.place octets ≡ Some item → Holds old → Holds (read old now starved has_room item rest)
read_holds old now starved has_room octets rest item front is h =
    let k = read_case old.published old.cache old.link old.client old.place octets rest old.up old.down item now starved has_room (is_live old.client) refl h.told.tellable h.base front is h.joined in
    record { told = h.told; base = k.0; joined = k.1 }

step_joined : (vs : List Publication) (conn : Conn) (client : Client) (input : Input) (up down : List ℕ) (now : ℕ) (has_room : Bool) → IsOwn input → AreTellable vs → IsBase vs client.base → JoinedTo vs conn client up down
    → RowJoined vs conn now has_room (row now client input) up down
step_joined vs conn client input up down now has_room own t h j =
    let r = row now client input in
    let keeps = own_keeps vs now client input j.asked (j.sent ++ conn.left) own h (λ live. j.fits) in (
      (settled_keeps vs now has_room r j.asked (j.sent ++ conn.left) keeps).0,
      λ live. row_joined vs conn now has_room r j.asked j.sent up down t keeps j.down_is j.lawful j.up_is live,
    )

step_case : (vs : List Publication) (cache : CacheState) (link : Link) (client : Client) (input : Input) (up down : List ℕ) (now : ℕ) (has_room : Bool) (t : Bool) → is_live client ≡ t → IsOwn input → AreTellable vs → IsBase vs client.base
    → IsJoined vs cache link client up down → RowHolds vs cache link now has_room (row now client input) up down
step_case vs cache link client input up down now has_room false at own t h j = (
  (settled_keeps vs now has_room (row now client input) [] [] (own_keeps vs now client input [] [] own h (λ live. absurd (false≢true (sym at ∙ live))))).0,
  dead_joined vs cache link (client_after now has_room (row now client input)) _ down (own_dead now has_room client input own at),
)
step_case vs cache link client input up down now has_room true at own t h j =
    linked_holds vs cache link client now has_room (row now client input) up down down (λ conn k. step_joined vs conn client input up down now has_room own t h k) (j at)

stepped_holds : (old : TwoEnds) (now : ℕ) (input : Input) (has_room : Bool) → IsOwn input → Holds old → Holds (stepped old now input has_room)
stepped_holds old now input has_room own h =
    let k = step_case old.published old.cache old.link old.client input old.up old.down now has_room (is_live old.client) refl own h.told.tellable h.base h.joined in
    record { told = h.told; base = k.0; joined = k.1 }

failed_holds : (old : TwoEnds) (now : ℕ) → Holds old → Holds (failed old now)
failed_holds old now h =
    let k = fails_keep old.published now old.client h.base in
    let after = (row now old.client Fail).client in
    record { told = h.told; base = k.0; joined = λ live. new_joined old.published after (subst (λ s. Fits old.published after.base [] [] s) (sym k.1) (refl, tt)) }

-- ---- a restart

restart_linked : (vs : List Publication) (old new : CacheState) (link : Link) (client : Client) (up down : List ℕ) → IsLinked vs old link client up down → IsLinked vs new (link_lost link) client up down
restart_linked vs old new Awaited client up down j = j
restart_linked vs old new Gone client up down j = j
restart_linked vs old new (Under key) client up down j =
    let l = left_behind vs j.0 client up up down refl j.2 in
    (l.0, l.1, subst (λ d. JoinedTo vs l.0 client up d) (append-nil down) l.2)

restarted_holds : (old : TwoEnds) (session : ℕ) (intervals : Intervals) (other_session : OtherSession) → is_new_session session old.published ≡ true → IsSession session intervals → Holds old → Holds (restarted old session intervals other_session)
restarted_holds old session intervals other_session fresh fits h = record {
  told = told_anew old.published old.cache.shared session intervals other_session fits fresh h.told;
  base = h.base;
  joined = λ live. restart_linked old.published old.cache (empty_cache session intervals other_session) old.link old.client old.up old.down (h.joined live);
}

holds_after : (old new : TwoEnds) (event : Event) → AreFew new.published → Happens old event new → Holds old → Holds new
holds_after old new (Accepts key) few m h = subst Holds (sym m.leaves) (accepted_holds old key new.cache m.awaited m.comes_up h)
holds_after old new (Calls call) few m h =
    subst Holds (sym m.leaves) (call_holds old call new.cache new.up (subst (λ (w : TwoEnds). AreFew w.published) m.leaves few) m.publishable m.makes m.brings h)
holds_after old new (Reads now starved has_room) few m h = subst Holds (sym m.leaves) (read_holds old now starved has_room m.octets new.down m.item m.front m.is h)
holds_after old new (Steps now input has_room) few m h = subst Holds (sym m.1) (stepped_holds old now input has_room m.0 h)
holds_after old new (Fails now) few m h = subst Holds (sym m) (failed_holds old now h)
holds_after old new (Restarts session intervals other_session) few m h = subst Holds (sym m.leaves) (restarted_holds old session intervals other_session m.fresh m.lawful h)

-- ---- what was published before was fewer

fewer_case : (n k : ℕ) (vs : List Publication) (t : Bool) → cond t (published_in n vs + 1) (published_in n vs) < k → published_in n vs < k
fewer_case n k vs true h = omega (arith, h)
fewer_case n k vs false h = h

few_tail : (one : Publication) (vs : List Publication) → AreFew (one ∷ vs) → AreFew vs
few_tail one vs h n = fewer_case n (2 ^ 32) vs (one.session == n) (h n)

few_load : (one : Publication) (vs : List Publication) (t : Bool) → AreFew (cond t vs (one ∷ vs)) → AreFew vs
few_load one vs true h = h
few_load one vs false h = few_tail one vs h

few_called : (old : TwoEnds) (call : Call) → AreFew (published_by old call) → AreFew old.published
few_called old (calls.Loaded set (Ok report)) h = few_load (publication old.cache.shared set) old.published (is_newest_set old.cache.shared.kept set) h
few_called old (calls.Loaded set (Err why)) h = h
few_called old (calls.Withdrew result) h = h
few_called old (calls.CameUp result) h = h
few_called old (calls.Heard key octets result) h = h
few_called old (calls.WentDown key result) h = h
few_called old (calls.Ticked now result) h = h
few_called old (calls.Took key buf result out) h = h

few_in : (new other : TwoEnds) → new ≡ other → AreFew new.published → AreFew other.published
few_in new other is h = subst (λ (w : TwoEnds). AreFew w.published) is h

few_before : (old new : TwoEnds) (event : Event) → Happens old event new → AreFew new.published → AreFew old.published
few_before old new (Accepts key) m h = few_in new (accepted old key new.cache) m.leaves h
few_before old new (Calls call) m h = few_called old call (few_in new (called old call new.cache new.up) m.leaves h)
few_before old new (Reads now starved has_room) m h = few_in new (read old now starved has_room m.item new.down) m.leaves h
few_before old new (Steps now input has_room) m h = few_in new (stepped old now input has_room) m.1 h
few_before old new (Fails now) m h = few_in new (failed old now) m h
few_before old new (Restarts session intervals other_session) m h = few_in new (restarted old session intervals other_session) m.leaves h

-- ---- after any events

pub holds : (first : TwoEnds) (events : List Event) (last : TwoEnds) → Holds first → LeadsTo first events last → AreFew last.published → Holds last
holds first [] last h is few = subst Holds (sym is) h
holds first (event ∷ earlier) last h run few =
    holds_after run.0 last event few run.2 (holds first earlier run.0 h run.1 (few_before run.0 last event run.2 few))

contains_later : (one first : Publication) (vs : List Publication) → Contains vs one → Contains (first ∷ vs) one
contains_later one first vs c = (suc c.0, omega (arith, c.1), c.2)

pub contains : (one : Publication) (vs : List Publication) → In one vs → Contains vs one
contains one [] h = absurd h
contains one (first ∷ vs) (inl e) = (0, omega arith, sym e)
contains one (first ∷ vs) (inr h) = contains_later one first vs (contains one vs h)

found_at : (one : Publication) (vs : List Publication) (k : ℕ) → k < length vs → slice_index_or vs k one ≡ one → In one vs
found_at one [] k fits is = absurd (omega (arith, fits))
found_at one (first ∷ vs) zero fits is = inl (sym is)
found_at one (first ∷ vs) (suc k) fits is = inr (found_at one vs k (omega (arith, fits)) is)

pub published_holds : (w : TwoEnds) → Holds w → HoldsPublished w
published_holds w h base is =
    let there : IsVersion w.published base.session base.serial base.payloads = subst (IsBase w.published) is h.base in (
      contains _ w.published there,
      λ one found n k. only_base w.published base h.told.unique there one (found_at one w.published found.0 found.1 found.2) n k,
    )
