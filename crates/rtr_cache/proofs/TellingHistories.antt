-- Over all calls of a cache a client is told what is said whole.
use Rattle.std.proofs.Common.{◌≡◌, ◌≢◌, ◌≤◌, ℕ, Bool, true, false, ◌==◌, if◌then◌else◌, List, [], ◌∷◌, ◌++◌, drop, take, length, min, Option, Some, None, Result, Ok, Err, ◌⊎◌, inl, inr, refl, ap, sym, subst, ◌∙◌, append-nil, arith}
use Rattle.std.specs.Option.{option_map}
use Rattle.std.proofs.lemmas.Bool.{cases_eq, eq-eqb, ne_eqb}
use Rattle.std.proofs.lemmas.List.{take_at, length-take-le}
use Rattle.std.proofs.lemmas.Option.{same_Some}
use Rattle.net_prefix.specs.declared.payload.Vrp.{Vrp}
use Rattle.rtr_codec.specs.declared.intervals.Intervals.{Intervals}
use Rattle.rtr_cache.specs.CacheState.{CacheState, AllAreNotified, HandsOut, HearsOctets, client_at, empty_cache, held_serial}
use Rattle.rtr_cache.specs.CacheTable.{Conn, Shared, fresh_conn, hands_out, hears_octets, notified, pumped}
use Rattle.rtr_cache.specs.ClientHistory.{AnswersOctets, Call, CameUp, Heard, IsRun, IsToldBy, IsToldWhole, KeepsClient, Loaded, Makes, StaysUp, Ticked, Took, Turn, WentDown, Withdrew, handed_by, handed_out}
use Rattle.rtr_cache.specs.HandedOut.{Handed, serial_in}
use Rattle.rtr_cache.specs.Telling.{IsNotified, SaysWhole, Told}
use Rattle.rtr_cache.specs.declared.event.CacheReport.{CacheReport}
use Rattle.rtr_cache.specs.declared.other_session.OtherSession.{OtherSession}
use Rattle.rtr_cache.specs.declared.refusal.CacheRefusal.{CacheRefusal}
use Rattle.rtr_cache.proofs.Leading.{AreOfSets, leads-append, leads-call, sets-run}
use Rattle.rtr_cache.proofs.Telling.{Tells, nothing_more, says_fresh, says_pumped, says_taken, tells_notify, tells_octets}

-- the client behind a call, and what was told by it
pub record Goes (key : ℕ) (found : CacheState) (call : Call) (gone : List ℕ) (told : List Told) (after : CacheState) : Type 0 where
  pub conn : Conn
  pub is : client_at after key ≡ Some conn
  pub now : List Told
  pub by_call : IsToldBy key found call now
  pub says : SaysWhole (gone ++ handed_by key call) (told ++ now) conn

-- the client stays as it is, and nothing is told or handed out
stays :
    (key : ℕ) (found : CacheState) (call : Call) (gone : List ℕ) (told : List Told) (after : CacheState) (conn : Conn) → client_at found key ≡ Some conn → client_at after key ≡ client_at found key
    → handed_by key call ≡ [] → IsToldBy key found call [] → SaysWhole gone told conn → Goes key found call gone told after
stays key found call gone told after conn there same none nothing h = record {
  conn = conn;
  is = same ∙ there;
  now = [];
  by_call = nothing;
  says = nothing_more (gone ++ handed_by key call) told conn (subst (λ (x : List ℕ). SaysWhole x told conn) (sym (ap (λ (x : List ℕ). gone ++ x) none ∙ append-nil gone)) h);
}

-- a refused call
refused_stays :
    (key : ℕ) (found : CacheState) (call : Call) (gone : List ℕ) (told : List Told) (after : CacheState) (conn : Conn) → client_at found key ≡ Some conn → after ≡ found
    → handed_by key call ≡ [] → IsToldBy key found call [] → SaysWhole gone told conn → Goes key found call gone told after
refused_stays key found call gone told after conn there same none nothing h =
    stays key found call gone told after conn there (ap (λ (cache : CacheState). client_at cache key) same) none nothing h

-- what a call tells, with nothing handed out
goes_told :
    (key : ℕ) (found : CacheState) (call : Call) (gone : List ℕ) (told : List Told) (after : CacheState) (conn : Conn) → client_at after key ≡ Some conn
    → handed_by key call ≡ [] → Tells (IsToldBy key found call) gone told conn → Goes key found call gone told after
goes_told key found call gone told after conn there none t = record {
  conn = conn;
  is = there;
  now = t.now;
  by_call = t.is_allowed;
  says = subst (λ (x : List ℕ). SaysWhole x (told ++ t.now) conn) (sym (ap (λ (x : List ℕ). gone ++ x) none ∙ append-nil gone)) t.says;
}

notified_client :
    (key : ℕ) (found after : CacheState) (conn : Conn) → client_at found key ≡ Some conn → AllAreNotified found after → client_at after key ≡ Some (pumped (notified after.shared conn))
notified_client key found after conn there all = all key ∙ ap (option_map (λ (c : Conn). pumped (notified after.shared c))) there

goes_loaded :
    (key : ℕ) (found : CacheState) (set : List Vrp) (result : Result CacheReport CacheRefusal) (gone : List ℕ) (told : List Told) (after : CacheState) (conn : Conn)
    → client_at found key ≡ Some conn → Makes found (Loaded set result) after → SaysWhole gone told conn → Goes key found (Loaded set result) gone told after
goes_loaded key found set (Ok report) gone told after conn there made h =
    goes_told key found (Loaded set (Ok report)) gone told after (pumped (notified after.shared conn)) (notified_client key found after conn there made.0.1) refl
    (subst (λ (shared : Shared). Tells (IsNotified shared) gone told (pumped (notified after.shared conn))) made.0.0 (tells_notify after.shared gone told conn h))
goes_loaded key found set (Err why) gone told after conn there made h =
    refused_stays key found (Loaded set (Err why)) gone told after conn there made.1 refl refl h

goes_ticked :
    (key : ℕ) (found : CacheState) (now : ℕ) (result : Result CacheReport CacheRefusal) (gone : List ℕ) (told : List Told) (after : CacheState) (conn : Conn)
    → client_at found key ≡ Some conn → Makes found (Ticked now result) after → SaysWhole gone told conn → Goes key found (Ticked now result) gone told after
goes_ticked key found now (Ok report) gone told after conn there made h =
    goes_told key found (Ticked now (Ok report)) gone told after (pumped (notified after.shared conn)) (notified_client key found after conn there made.0.2) refl
    (subst (λ (shared : Shared). Tells (IsNotified shared) gone told (pumped (notified after.shared conn))) made.0.1 (tells_notify after.shared gone told conn h))
goes_ticked key found now (Err why) gone told after conn there made h =
    refused_stays key found (Ticked now (Err why)) gone told after conn there made.1 refl refl h

goes_withdrawn :
    (key : ℕ) (found : CacheState) (result : Result CacheReport CacheRefusal) (gone : List ℕ) (told : List Told) (after : CacheState) (conn : Conn)
    → client_at found key ≡ Some conn → Makes found (Withdrew result) after → SaysWhole gone told conn → Goes key found (Withdrew result) gone told after
goes_withdrawn key found (Ok report) gone told after conn there made h =
    stays key found (Withdrew (Ok report)) gone told after conn there (ap (λ (cache : CacheState). client_at cache key) made.0.0) refl refl h
goes_withdrawn key found (Err why) gone told after conn there made h =
    refused_stays key found (Withdrew (Err why)) gone told after conn there made.1 refl refl h

goes_up :
    (key : ℕ) (found : CacheState) (result : Result CacheReport CacheRefusal) (gone : List ℕ) (told : List Told) (after : CacheState) (conn : Conn)
    → client_at found key ≡ Some conn → Makes found (CameUp result) after → SaysWhole gone told conn → Goes key found (CameUp result) gone told after
goes_up key found (Ok report) gone told after conn there made h =
    let up = made.0 in
    let other : key ≢ up.0 = λ same. some_none (client_at found key) conn there (ap (client_at found) same ∙ up.4) in
    stays key found (CameUp (Ok report)) gone told after conn there (up.6 key other) refl refl h
  where
    some_none : (c : Option Conn) (conn : Conn) → c ≡ Some conn → c ≡ None → ⊥
    some_none c conn e f = cc
goes_up key found (Err why) gone told after conn there made h =
    refused_stays key found (CameUp (Err why)) gone told after conn there made.1 refl refl h

goes_down :
    (key : ℕ) (found : CacheState) (lost : ℕ) (result : Result CacheReport CacheRefusal) (gone : List ℕ) (told : List Told) (after : CacheState) (conn : Conn) → lost ≢ key
    → client_at found key ≡ Some conn → Makes found (WentDown lost result) after → SaysWhole gone told conn → Goes key found (WentDown lost result) gone told after
goes_down key found lost (Ok report) gone told after conn other there made h =
    stays key found (WentDown lost (Ok report)) gone told after conn there (made.0.2 key (λ same. other (sym same))) refl refl h
goes_down key found lost (Err why) gone told after conn other there made h =
    refused_stays key found (WentDown lost (Err why)) gone told after conn there made.1 refl refl h

heard_by :
    (key : ℕ) (found : CacheState) (heard : ℕ) (octets : List ℕ) (report : CacheReport) (gone : List ℕ) (told : List Told) (after : CacheState) (conn : Conn)
    → client_at found key ≡ Some conn → HearsOctets found heard octets (Ok report) after → SaysWhole gone told conn → (heard ≡ key) ⊎ (heard ≡ key → ⊥) → Goes key found (Heard heard octets (Ok report)) gone told after
heard_by key found heard octets report gone told after conn there made h (inr other) =
    stays key found (Heard heard octets (Ok report)) gone told after conn there (made.3 key (λ same. other (sym same))) refl (inr (other, refl)) h
heard_by key found heard octets report gone told after conn there made h (inl same) =
    let is : made.0 ≡ conn = same_Some made.0 conn (sym made.1 ∙ (ap (client_at found) same ∙ there)) in
    let refused = made.2.0 in
    let then_ : client_at after key ≡ Some (pumped (hears_octets found.shared refused conn octets)) =
    sym (ap (client_at after) same) ∙ (made.2.1 ∙ ap (λ (c : Conn). Some (pumped (hears_octets found.shared refused c octets))) is) in
    let t = tells_octets found.shared refused gone told conn octets h in
    goes_told key found (Heard heard octets (Ok report)) gone told after (pumped (hears_octets found.shared refused conn octets)) then_ refl
    (record { now = t.now; is_allowed = inl (same, subst (λ (client : Option Conn). AnswersOctets found.shared client octets t.now) (sym there) t.is_allowed); says = t.says })

goes_heard :
    (key : ℕ) (found : CacheState) (heard : ℕ) (octets : List ℕ) (result : Result CacheReport CacheRefusal) (gone : List ℕ) (told : List Told) (after : CacheState) (conn : Conn)
    → client_at found key ≡ Some conn → Makes found (Heard heard octets result) after → SaysWhole gone told conn → Goes key found (Heard heard octets result) gone told after
goes_heard key found heard octets (Ok report) gone told after conn there made h = heard_by key found heard octets report gone told after conn there made.0 h (cases_eq heard key)
goes_heard key found heard octets (Err why) gone told after conn there made h =
    refused_stays key found (Heard heard octets (Err why)) gone told after conn there made.1 refl refl h

-- the octets that a take hands out
if_false : {X : Type 0} (b : Bool) (x y : X) → b ≡ false → (if b then x else y) ≡ y
if_false true x y h = absurd cc
if_false false x y h = refl

if_true : {X : Type 0} (b : Bool) (x y : X) → b ≡ true → (if b then x else y) ≡ x
if_true true x y h = refl
if_true false x y h = absurd cc

handed_is : (count : ℕ) (ring buf handed : List ℕ) → count ≤ length ring → handed ≡ take count ring ++ drop count buf → take count handed ≡ take count ring
handed_is count ring buf handed fits is = ap (take count) is ∙ take_at (take count ring) (drop count buf) count (length-take-le count ring fits)

taken_by :
    (key : ℕ) (found : CacheState) (taken : ℕ) (buf : List ℕ) (count : ℕ) (handed : List ℕ) (gone : List ℕ) (told : List Told) (after : CacheState) (conn : Conn)
    → client_at found key ≡ Some conn → HandsOut found taken buf (Ok count) handed after → SaysWhole gone told conn → (taken ≡ key) ⊎ (taken ≡ key → ⊥) → Goes key found (Took taken buf (Ok count) handed) gone told after
taken_by key found taken buf count handed gone told after conn there made h (inr other) =
    stays key found (Took taken buf (Ok count) handed) gone told after conn there (made.5 key (λ same. other (sym same))) (if_false (taken == key) (take count handed) [] (ne_eqb taken key other)) refl h
taken_by key found taken buf count handed gone told after conn there made h (inl same) =
    let is : made.0 ≡ conn = same_Some made.0 conn (sym made.1 ∙ (ap (client_at found) same ∙ there)) in
    let least : count ≡ min (length buf) (length made.0.ring) = made.2 in
    let fits : count ≤ length made.0.ring = omega (arith, least) in
    let octets : take count handed ≡ take count conn.ring = handed_is count made.0.ring buf handed fits made.3 ∙ ap (λ (c : Conn). take count c.ring) is in
    let by : handed_by key (Took taken buf (Ok count) handed) ≡ take count conn.ring = if_true (taken == key) (take count handed) [] (eq-eqb taken key same) ∙ octets in
    let rest = pumped (hands_out count conn) in
    record {
      conn = rest;
      is = sym (ap (client_at after) same) ∙ (made.4 ∙ ap (λ (c : Conn). Some (pumped (hands_out count c))) is);
      now = [];
      by_call = refl;
      says = nothing_more (gone ++ handed_by key (Took taken buf (Ok count) handed)) told rest (subst (λ (x : List ℕ). SaysWhole (gone ++ x) told rest) (sym by) (says_pumped (gone ++ take count conn.ring) told (hands_out count conn) (says_taken gone told conn count h)));
    }

goes_taken :
    (key : ℕ) (found : CacheState) (taken : ℕ) (buf : List ℕ) (result : Result ℕ CacheRefusal) (handed : List ℕ) (gone : List ℕ) (told : List Told) (after : CacheState) (conn : Conn)
    → client_at found key ≡ Some conn → Makes found (Took taken buf result handed) after → SaysWhole gone told conn → Goes key found (Took taken buf result handed) gone told after
goes_taken key found taken buf (Ok count) handed gone told after conn there made h = taken_by key found taken buf count handed gone told after conn there made.0 h (cases_eq taken key)
goes_taken key found taken buf (Err why) handed gone told after conn there made h =
    refused_stays key found (Took taken buf (Err why) handed) gone told after conn there made.1 refl refl h

-- one call
goes :
    (key : ℕ) (found : CacheState) (call : Call) (gone : List ℕ) (told : List Told) (after : CacheState) (conn : Conn) → KeepsClient key call
    → client_at found key ≡ Some conn → Makes found call after → SaysWhole gone told conn → Goes key found call gone told after
goes key found (Loaded set result) gone told after conn keeps there made h = goes_loaded key found set result gone told after conn there made h
goes key found (Withdrew result) gone told after conn keeps there made h = goes_withdrawn key found result gone told after conn there made h
goes key found (CameUp result) gone told after conn keeps there made h = goes_up key found result gone told after conn there made h
goes key found (Heard heard octets result) gone told after conn keeps there made h = goes_heard key found heard octets result gone told after conn there made h
goes key found (WentDown lost result) gone told after conn keeps there made h = goes_down key found lost result gone told after conn keeps there made h
goes key found (Ticked now result) gone told after conn keeps there made h = goes_ticked key found now result gone told after conn there made h
goes key found (Took taken buf result handed) gone told after conn keeps there made h = goes_taken key found taken buf result handed gone told after conn there made h

-- all calls
told_whole :
    (start end : CacheState) (key : ℕ) (history : List Turn) → AreOfSets start.shared.kept → client_at start key ≡ Some fresh_conn → IsRun start history end → StaysUp key history → IsToldWhole key history (client_at end key)
told_whole start end key [] sets fresh run up =
    record { conn = fresh_conn; is = ap (λ (cache : CacheState). client_at cache key) run ∙ fresh; told = []; by_calls = refl; leads = tt; says = says_fresh }
told_whole start end key (turn ∷ earlier) sets fresh run up =
    let before = told_whole start turn.found key earlier sets fresh run.0 up.1 in
    let next = goes key turn.found turn.call (handed_out key earlier) before.told end before.conn up.0 before.is run.1 before.says in
    record {
      conn = next.conn;
      is = next.is;
      told = before.told ++ next.now;
      by_calls = (before.told, next.now, refl, before.by_calls, next.by_call);
      leads = leads-append before.told next.now before.leads (leads-call key turn.found turn.call next.now (sets-run start turn.found earlier sets run.0) next.by_call);
      says = next.says;
    }

-- and all calls of a cache from its beginning on
pub told_from_empty :
    (session : ℕ) (intervals : Intervals) (other_session : OtherSession) (before : List Turn) (start end : CacheState) (key : ℕ) (history : List Turn) → IsRun (empty_cache session intervals other_session) before start
    → client_at start key ≡ Some fresh_conn → IsRun start history end → StaysUp key history → IsToldWhole key history (client_at end key)
told_from_empty session intervals other_session before start end key history made fresh run up =
    told_whole start end key history (sets-run (empty_cache session intervals other_session) start before tt made) fresh run up

-- what a client holds is what a router reads in what was handed out
pub held_from_empty :
    (session : ℕ) (intervals : Intervals) (other_session : OtherSession) (before : List Turn) (start end : CacheState) (key : ℕ) (history : List Turn) → IsRun (empty_cache session intervals other_session) before start
    → client_at start key ≡ Some fresh_conn → IsRun start history end → StaysUp key history → held_serial (client_at end key) ≡ serial_in (handed_out key history)
held_from_empty session intervals other_session before start end key history made fresh run up =
    let told = told_from_empty session intervals other_session before start end key history made fresh run up in
    ap held_serial told.is ∙ ap (λ (h : Handed). h.serial) told.says.read
