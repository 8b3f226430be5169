-- The payloads in force are an unexpired load, and an unexpired load is in force.
use Rattle.std.proofs.Common.{◌≡◌, ◌≢◌, ◌⊎◌, ◌+◌, ◌≤◌, inl, inr, ℕ, nat_le, Bool, true, false, not, List, [], ◌∷◌, ◌++◌, Option, Some, None, if◌then◌else◌, refl, ap, sym, subst, ◌∙◌, eq-eqb, arith}
use Rattle.std.proofs.lemmas.Bool.Decides.{nat_tests}
use Rattle.moments.specs.Moments.{from_now, has_come, last_moment}
use Rattle.net_prefix.specs.declared.payload.Vrp.{Vrp}
use Rattle.net_prefix.specs.declared.transport.Transport.{Transport}
use Rattle.net_prefix.specs.declared.transport.Transport.TheVariants.{None as NoConnection, Opening as Connecting, Listening, Open as Connected, Closing}
use Rattle.rtr_codec.specs.declared.intervals.Intervals.{Intervals}
use Rattle.rtr_codec.specs.ClientTable.{Base, Client, Loading, Up, Fail, Faulty, Tick, Starved, in_force, is_connected, payloads_of, transport_of}
use Rattle.rtr_codec.specs.PduSpelling.{Content, End_of_data}
use Rattle.rtr_codec.specs.PduStream.{Item, WholePdu, FaultyPdu}
use Rattle.rtr_session.specs.PayloadsInForce.{EndsForce, EndsLoad, flushes}
use Rattle.rtr_session.specs.SessionHistory.{Event, Came_up, Failed, Octet, Refused, Handed, Ticked, Course, anew, client, completed_in, course, hearing, item_at, item_on, longer, moment_of, octet_on, waiting}
use Rattle.rtr_session.specs.SessionState.{client_after, input_of}
use Rattle.rtr_session.proofs.ClientRows.{shut_is}
use Rattle.rtr_session.proofs.LastLoad.{has_read, loads, no_others_are_in_force}
use Rattle.payload_times.proofs.HeldRows.{HeldStep, held, held_after, held_fail, held_fault, held_pdu, held_starved, held_up, nothing, tick_expires, tick_stays}
use Rattle.payload_times.specs.PayloadTimes.{AreUnexpired, CompletesNone, FlushesNone, HasLapsed, HasPassed, NoneCompletes, NoneFlushes}

-- What an octet does.

-- it completes nothing, and the client stays; or an item, which the client hears
abbrev pub OctetStep : Transport → ℕ → ℕ → Course → Type 0
OctetStep transport now octet c =
    ((item_on transport c octet ≡ None) × ((octet_on transport now octet c).client ≡ c.client))
    ⊎ ((item : Item) × (item_on transport c octet ≡ Some item) × (transport ≡ Connected) × ((octet_on transport now octet c).client ≡ client_after now (input_of item) (waiting c) c.client))

step_by : (now octet : ℕ) (c : Course) (found : Option Item) → completed_in c octet ≡ found → OctetStep Connected now octet c
step_by now octet c None is = inl (is, ap (λ (x : Option Item). (hearing now x (longer octet c)).client) is)
step_by now octet c (Some item) is = inr (item, is, refl, ap (λ (x : Option Item). (hearing now x (longer octet c)).client) is)

octet_step : (transport : Transport) (now octet : ℕ) (c : Course) → OctetStep transport now octet c
octet_step NoConnection now octet c = inl (refl, refl)
octet_step Connecting now octet c = inl (refl, refl)
octet_step Listening now octet c = inl (refl, refl)
octet_step Connected now octet c = step_by now octet c (completed_in c octet) refl
octet_step Closing now octet c = inl (refl, refl)

-- of a session that has begun with this Retry Interval
module _ (retry : ℕ) where
  abbrev pub StepOf : List Event → ℕ → Type 0
  StepOf h octet = OctetStep (transport_of (client retry h)) (moment_of h) octet (course retry h)

  pub step_of : (h : List Event) (octet : ℕ) → StepOf h octet
  step_of h octet = octet_step (transport_of (client retry h)) (moment_of h) octet (course retry h)

  connected_is : (c : Client) → transport_of c ≡ Connected → is_connected c.stage ≡ true
  connected_is c stands = by_test (is_connected c.stage) refl
    where
      by_test : (test : Bool) → is_connected c.stage ≡ test → is_connected c.stage ≡ true
      by_test true e = e
      by_test false e = absurd (shut_is c.stage c.closing e stands)

  -- What each event does to the base and to the moment at which it expires.

  -- it completes a load, which is the base, and expires its interval from now
  abbrev Completes : List Event → Event → Type 0
  Completes h Came_up = ⊥
  Completes h Failed = ⊥
  Completes h (Octet octet) = (b : Base) × (load : EndsLoad retry h octet b.payloads) × (held (client retry (Octet octet ∷ h)) ≡ (Some b, from_now (moment_of h) load.intervals.expire))
  Completes h Refused = ⊥
  Completes h (Handed octets) = ⊥
  Completes h (Ticked now) = ⊥

  -- or ends what is in force, or leaves it
  abbrev Turn : List Event → Event → Type 0
  Turn h e =
      Completes h e
      ⊎ ((EndsForce retry h e × (held (client retry (e ∷ h)) ≡ nothing) × CompletesNone retry h e)
      ⊎ ((EndsForce retry h e → ⊥) × (held (client retry (e ∷ h)) ≡ held (client retry h)) × CompletesNone retry h e))

  -- the end of a load of its session flushes nothing
  ends_no_flush : (c : Client) (serially : Bool) (session : ℕ) (set : List Vrp) (serial : ℕ) (intervals : Intervals) → c.stage ≡ Loading serially session set → flushes c (End_of_data session serial intervals) ≡ false
  ends_no_flush c serially session set serial intervals e = rw e (ap not (eq-eqb session session refl))

  -- a load that an octet completes is the one in progress
  completes_loading :
      (h : List Event) (octet : ℕ) (set : List Vrp) (content : Content) (octets : List ℕ) → item_at retry h octet ≡ Some (WholePdu content octets) → transport_of (client retry h) ≡ Connected
      → (k : EndsLoad retry h octet set) → (content ≡ End_of_data k.session k.serial k.intervals) × ((serially : Bool) × ((client retry h).stage ≡ Loading serially k.session set))
  completes_loading h octet set content octets some connected k =
      let e = k.ends in
      (let same : Some (WholePdu content octets) ≡ Some (WholePdu (End_of_data k.session k.serial k.intervals) k.octets) = sym some ∙ k.ends in cc, loads retry h k.session set k.load connected)

  turn_pdu :
      (h : List Event) (octet : ℕ) (content : Content) (octets : List ℕ) → item_at retry h octet ≡ Some (WholePdu content octets) → transport_of (client retry h) ≡ Connected
      → HeldStep (moment_of h) (client retry h) content (client retry (Octet octet ∷ h)) → Turn h (Octet octet)
  turn_pdu h octet content octets some connected (inl k) = inl (
    record { session = k.session; serial = k.serial; payloads = k.set },
    record {
      session = k.session;
      serial = k.serial;
      intervals = k.intervals;
      octets = octets;
      ends = some ∙ ap (λ (x : Content). Some (WholePdu x octets)) k.content_is;
      lawful = k.lawful;
      load = has_read retry h k.serially k.session k.set k.stage_is;
    },
    k.held_is,
  )
  turn_pdu h octet content octets some connected (inr (inl (flushed, none))) = inr (inl (
    record { content = content; octets = octets; completes = some; flushes_it = flushed },
    none,
    λ other k.
        let here = completes_loading h octet other content octets some connected k in
        let never : true ≡ false = sym flushed ∙ ap (flushes (client retry h)) here.0 ∙ ends_no_flush (client retry h) here.1.0 k.session other k.serial k.intervals here.1.1 in cc,
  ))
  turn_pdu h octet content octets some connected (inr (inr (kept, same, commits_none))) = inr (inr (
    λ f.
        let is : f.content ≡ content = (let both : Some (WholePdu f.content f.octets) ≡ Some (WholePdu content octets) = sym f.completes ∙ some in cc) in
        let never : true ≡ false = sym f.flushes_it ∙ ap (flushes (client retry h)) is ∙ kept in cc,
    same,
    λ other k.
        let here = completes_loading h octet other content octets some connected k in
        commits_none here.1.0 k.session other k.serial k.intervals here.1.1 here.0 k.lawful,
  ))

  turn_octet : (h : List Event) (octet : ℕ) → StepOf h octet → Turn h (Octet octet)
  turn_octet h octet (inl (none, same)) = inr (inr (
    λ f. let some = f.completes in cc,
    ap held same,
    λ other k. let some = k.ends in cc,
  ))
  turn_octet h octet (inr (WholePdu content octets, some, connected, after)) =
      turn_pdu h octet content octets some connected
      (rw after (held_pdu (moment_of h) (waiting (course retry h)) (client retry h) octets content (connected_is (client retry h) connected)))
  turn_octet h octet (inr (FaultyPdu fault octets, some, connected, after)) = inr (inr (
    λ f. let e : Some (FaultyPdu fault octets) ≡ Some (WholePdu f.content f.octets) = sym some ∙ f.completes in cc,
    ap held after ∙ held_after (moment_of h) (Faulty fault octets) (waiting (course retry h)) (client retry h) ∙ held_fault (moment_of h) (client retry h) fault octets,
    λ other k. let e : Some (FaultyPdu fault octets) ≡ Some (WholePdu (End_of_data k.session k.serial k.intervals) k.octets) = sym some ∙ k.ends in cc,
  ))

  turn_tick : (h : List Event) (now : ℕ) (come : Bool) → has_come (client retry h).expire now ≡ come → Turn h (Ticked now)
  turn_tick h now true is = inr (inl (is, held_after now Tick (waiting (course retry h)) (client retry h) ∙ tick_expires now (client retry h) is, λ other k. k))
  turn_tick h now false is = inr (inr (
    λ e. let never : true ≡ false = sym e ∙ is in cc,
    held_after now Tick (waiting (course retry h)) (client retry h) ∙ tick_stays now (client retry h) is,
    λ other k. k,
  ))

  turn : (h : List Event) (e : Event) → Turn h e
  turn h Came_up = inr (inr (λ k. k, held_after (moment_of h) Up (waiting (anew (course retry h))) (client retry h) ∙ held_up (moment_of h) (client retry h), λ other k. k))
  turn h Failed = inr (inr (λ k. k, held_after (moment_of h) Fail (waiting (anew (course retry h))) (client retry h) ∙ held_fail (moment_of h) (client retry h), λ other k. k))
  turn h (Octet octet) = turn_octet h octet (step_of h octet)
  turn h Refused = inr (inr (λ k. k, held_after (moment_of h) Starved (waiting (course retry h)) (client retry h) ∙ held_starved (moment_of h) (client retry h), λ other k. k))
  turn h (Handed octets) = inr (inr (λ k. k, refl, λ other k. k))
  turn h (Ticked now) = turn_tick h now (has_come (client retry h).expire now) refl

  -- an event that completes no load completes none
  completes_not : (h : List Event) (e : Event) → Completes h e → CompletesNone retry h e → ⊥
  completes_not h Came_up k none = k
  completes_not h Failed k none = k
  completes_not h (Octet octet) (b, load, is) none = none b.payloads load
  completes_not h Refused k none = k
  completes_not h (Handed octets) k none = k
  completes_not h (Ticked now) k none = k

  -- Moments.

  le_to : (a b : ℕ) → nat_le a b ≡ true → a ≤ b
  le_to a b h = grind (arith, nat_tests)

  le_from : (a b : ℕ) → a ≤ b → nat_le a b ≡ true
  le_from a b h = grind (arith, nat_tests)

  lapsed_by : (due now most : ℕ) (test : Bool) → nat_le due most ≡ test → has_come (if test then Some due else None) now ≡ true → (due ≤ now) × (due ≤ most)
  lapsed_by due now most true at come = (le_to due now come, le_to due most at)
  lapsed_by due now most false at come = absurd cc

  -- the timer of a load ends at just the moments at which its interval has passed
  lapsed_to : (came seconds now : ℕ) → has_come (from_now came seconds) now ≡ true → HasLapsed came seconds now
  lapsed_to came seconds now come = lapsed_by (came + seconds) now last_moment (nat_le (came + seconds) last_moment) refl come

  lapsed_from : (came seconds now : ℕ) → HasLapsed came seconds now → has_come (from_now came seconds) now ≡ true
  lapsed_from came seconds now lapsed = rw (le_from (came + seconds) last_moment lapsed.1) (le_from (came + seconds) now lapsed.0)

  -- the client has this base, which expires so many seconds behind this moment
  abbrev Has : List Event → Base → ℕ → ℕ → Type 0
  Has h b came seconds = held (client retry h) ≡ (Some b, from_now came seconds)

  due_is : (h : List Event) (b : Base) (came seconds now : ℕ) → Has h b came seconds → has_come (client retry h).expire now ≡ has_come (from_now came seconds) now
  due_is h b came seconds now is = ap (λ (x : (Option Base) × (Option ℕ)). has_come x.1 now) is

  -- an event that neither flushes nor is such a moment ends nothing
  ends_nothing : (h : List Event) (e : Event) (later : List Event) (b : Base) (came seconds : ℕ) → Has h b came seconds → FlushesNone retry h e → (HasPassed came seconds (e ∷ later) → ⊥) → EndsForce retry h e → ⊥
  ends_nothing h Came_up later b came seconds is kept fresh ends = ends
  ends_nothing h Failed later b came seconds is kept fresh ends = ends
  ends_nothing h (Octet octet) later b came seconds is kept fresh ends = kept ends
  ends_nothing h Refused later b came seconds is kept fresh ends = ends
  ends_nothing h (Handed octets) later b came seconds is kept fresh ends = ends
  ends_nothing h (Ticked now) later b came seconds is kept fresh ends = fresh (inl (lapsed_to came seconds now (sym (due_is h b came seconds now is) ∙ ends)))

  -- one that ends nothing is neither
  flushes_not : (h : List Event) (e : Event) → (EndsForce retry h e → ⊥) → FlushesNone retry h e
  flushes_not h Came_up lasting = tt
  flushes_not h Failed lasting = tt
  flushes_not h (Octet octet) lasting = lasting
  flushes_not h Refused lasting = tt
  flushes_not h (Handed octets) lasting = tt
  flushes_not h (Ticked now) lasting = tt

  passes_not : (h : List Event) (e : Event) (later : List Event) (b : Base) (came seconds : ℕ) → Has h b came seconds → (EndsForce retry h e → ⊥) → (HasPassed came seconds later → ⊥) → HasPassed came seconds (e ∷ later) → ⊥
  passes_not h Came_up later b came seconds is lasting fresh passed = fresh passed
  passes_not h Failed later b came seconds is lasting fresh passed = fresh passed
  passes_not h (Octet octet) later b came seconds is lasting fresh passed = fresh passed
  passes_not h Refused later b came seconds is lasting fresh passed = fresh passed
  passes_not h (Handed octets) later b came seconds is lasting fresh passed = fresh passed
  passes_not h (Ticked now) later b came seconds is lasting fresh (inl lapsed) = lasting (due_is h b came seconds now is ∙ lapsed_from came seconds now lapsed)
  passes_not h (Ticked now) later b came seconds is lasting fresh (inr passed) = fresh passed

  -- with one moment less none has passed
  less : (e : Event) (later : List Event) (came seconds : ℕ) → (HasPassed came seconds (e ∷ later) → ⊥) → HasPassed came seconds later → ⊥
  less Came_up later came seconds fresh passed = fresh passed
  less Failed later came seconds fresh passed = fresh passed
  less (Octet octet) later came seconds fresh passed = fresh passed
  less Refused later came seconds fresh passed = fresh passed
  less (Handed octets) later came seconds fresh passed = fresh passed
  less (Ticked now) later came seconds fresh passed = fresh (inr passed)

  -- What is in force is an unexpired load.

  abbrev Holding : List Event → Type 0
  Holding h = (held (client retry h) ≡ nothing) ⊎ ((b : Base) × (k : AreUnexpired retry h b.payloads) × Has h b (moment_of k.before) k.load.intervals.expire)

  longer_by :
      (h : List Event) (e : Event) (b : Base) (k : AreUnexpired retry h b.payloads) → Has h b (moment_of k.before) k.load.intervals.expire → (EndsForce retry h e → ⊥) → CompletesNone retry h e → AreUnexpired retry (e ∷ h) b.payloads
  longer_by h e b k is lasting no_load = record {
    later = e ∷ k.later;
    octet = k.octet;
    before = k.before;
    all_are = ap (λ (x : List Event). e ∷ x) k.all_are;
    load = k.load;
    newest = (subst (λ (x : List Event). CompletesNone retry x e) k.all_are no_load, k.newest);
    unflushed = (subst (λ (x : List Event). FlushesNone retry x e) k.all_are (flushes_not h e lasting), k.unflushed);
    unexpired = passes_not h e k.later b (moment_of k.before) k.load.intervals.expire is lasting k.unexpired;
  }

  begins : (h : List Event) (e : Event) → Completes h e → Holding (e ∷ h)
  begins h Came_up k = absurd k
  begins h Failed k = absurd k
  begins h (Octet octet) (b, load, is) = inr (b, record { later = []; octet = octet; before = h; all_are = refl; load = load; newest = tt; unflushed = tt; unexpired = λ k. k }, is)
  begins h Refused k = absurd k
  begins h (Handed octets) k = absurd k
  begins h (Ticked now) k = absurd k

  holding_by : (h : List Event) (e : Event) → Turn h e → Holding h → Holding (e ∷ h)
  unfolding longer_by
  holding_by h e (inl k) before = begins h e k
  holding_by h e (inr (inl (ends, none, no_load))) before = inl none
  holding_by h e (inr (inr (lasting, same, no_load))) (inl none) = inl (same ∙ none)
  holding_by h e (inr (inr (lasting, same, no_load))) (inr (b, k, is)) = inr (b, longer_by h e b k is lasting no_load, same ∙ is)

  holding : (h : List Event) → Holding h
  holding [] = inl refl
  holding (e ∷ h) = holding_by h e (turn h e) (holding h)

  unexpired_by : (h : List Event) → Holding h → in_force (client retry h) ≢ [] → AreUnexpired retry h (in_force (client retry h))
  unexpired_by h (inl none) some = absurd (some (ap (λ (x : (Option Base) × (Option ℕ)). payloads_of x.0) none))
  unexpired_by h (inr (b, k, is)) some = subst (λ (x : List Vrp). AreUnexpired retry h x) (sym (ap (λ (x : (Option Base) × (Option ℕ)). payloads_of x.0) is)) k

  pub payloads_are_unexpired : (h : List Event) → in_force (client retry h) ≢ [] → AreUnexpired retry h (in_force (client retry h))
  payloads_are_unexpired h some = unexpired_by h (holding h) some

  -- An unexpired load is in force.

  -- the base behind the octet that completes a load
  abbrev Held : (h : List Event) (octet : ℕ) (set : List Vrp) → EndsLoad retry h octet set → Type 0
  Held h octet set load = (b : Base) × (b.payloads ≡ set) × Has (Octet octet ∷ h) b (moment_of h) load.intervals.expire

  -- what an octet completes is held
  held_by : (h : List Event) (octet : ℕ) (set : List Vrp) (load : EndsLoad retry h octet set) → Turn h (Octet octet) → Held h octet set load
  held_by h octet set load (inl (b, found, is)) =
      let ends : Some (WholePdu (End_of_data found.session found.serial found.intervals) found.octets) ≡ Some (WholePdu (End_of_data load.session load.serial load.intervals) load.octets) = sym found.ends ∙ load.ends in
      let same : found.intervals ≡ load.intervals = cc in
      let force : set ≡ in_force (client retry (Octet octet ∷ h)) = no_others_are_in_force retry (Octet octet ∷ h) set (inl load) in
      (b, sym (force ∙ ap (λ (x : (Option Base) × (Option ℕ)). payloads_of x.0) is), is ∙ ap (λ (i : Intervals). (Some b, from_now (moment_of h) i.expire)) same)
  held_by h octet set load (inr (inl (ends, none, no_load))) = absurd (no_load set load)
  held_by h octet set load (inr (inr (lasting, same, no_load))) = absurd (no_load set load)

  has_by :
      (h : List Event) (e : Event) (later : List Event) (b : Base) (came seconds : ℕ) → Turn h e → CompletesNone retry h e → FlushesNone retry h e → (HasPassed came seconds (e ∷ later) → ⊥)
      → Has h b came seconds → Has (e ∷ h) b came seconds
  has_by h e later b came seconds (inl k) no_load kept fresh is = absurd (completes_not h e k no_load)
  has_by h e later b came seconds (inr (inl (ends, none, never))) no_load kept fresh is = absurd (ends_nothing h e later b came seconds is kept fresh ends)
  has_by h e later b came seconds (inr (inr (lasting, same, never))) no_load kept fresh is = same ∙ is

  has_still :
      (h later : List Event) (b : Base) (came seconds : ℕ) → NoneCompletes retry h later → NoneFlushes retry h later → (HasPassed came seconds later → ⊥) → Has h b came seconds → Has (later ++ h) b came seconds
  has_still h [] b came seconds newest unflushed fresh is = is
  has_still h (e ∷ later) b came seconds newest unflushed fresh is =
      has_by (later ++ h) e later b came seconds (turn (later ++ h) e) newest.0 unflushed.0 fresh (has_still h later b came seconds newest.1 unflushed.1 (less e later came seconds fresh) is)

  in_force_by : (h : List Event) (set : List Vrp) (k : AreUnexpired retry h set) → Held k.before k.octet set k.load → in_force (client retry h) ≡ set
  in_force_by h set k (b, same, is) =
      let still = has_still (Octet k.octet ∷ k.before) k.later b (moment_of k.before) k.load.intervals.expire k.newest k.unflushed k.unexpired is in
      ap (λ (x : List Event). in_force (client retry x)) k.all_are ∙ ap (λ (x : (Option Base) × (Option ℕ)). payloads_of x.0) still ∙ same

  pub unexpired_are_in_force : (h : List Event) (set : List Vrp) → AreUnexpired retry h set → in_force (client retry h) ≡ set
  unexpired_are_in_force h set k = in_force_by h set k (held_by k.before k.octet set k.load (turn k.before (Octet k.octet)))

  -- An expired load is gone.

  -- nothing is in force, or the load is and no moment has passed its interval
  abbrev Going : List Event → List Event → Base → ℕ → ℕ → Type 0
  Going h later b came seconds = (held (client retry (later ++ h)) ≡ nothing) ⊎ (Has (later ++ h) b came seconds × (HasPassed came seconds later → ⊥))

  going_by : (h : List Event) (e : Event) (later : List Event) (b : Base) (came seconds : ℕ) → Turn (later ++ h) e → CompletesNone retry (later ++ h) e → Going h later b came seconds → Going h (e ∷ later) b came seconds
  going_by h e later b came seconds (inl k) no_load before = absurd (completes_not (later ++ h) e k no_load)
  going_by h e later b came seconds (inr (inl (ends, none, never))) no_load before = inl none
  going_by h e later b came seconds (inr (inr (lasting, same, never))) no_load (inl none) = inl (same ∙ none)
  going_by h e later b came seconds (inr (inr (lasting, same, never))) no_load (inr (is, fresh)) = inr (same ∙ is, passes_not (later ++ h) e later b came seconds is lasting fresh)

  going : (h later : List Event) (b : Base) (came seconds : ℕ) → NoneCompletes retry h later → Has h b came seconds → Going h later b came seconds
  going h [] b came seconds newest is = inr (is, λ k. k)
  going h (e ∷ later) b came seconds newest is = going_by h e later b came seconds (turn (later ++ h) e) newest.0 (going h later b came seconds newest.1 is)

  gone_by : (h later : List Event) (b : Base) (came seconds : ℕ) → Going h later b came seconds → HasPassed came seconds later → in_force (client retry (later ++ h)) ≡ []
  gone_by h later b came seconds (inl none) passed = ap (λ (x : (Option Base) × (Option ℕ)). payloads_of x.0) none
  gone_by h later b came seconds (inr (is, fresh)) passed = absurd (fresh passed)

  going_from :
      (later : List Event) (octet : ℕ) (before : List Event) (set : List Vrp) (load : EndsLoad retry before octet set) → Held before octet set load → NoneCompletes retry (Octet octet ∷ before) later
      → HasPassed (moment_of before) load.intervals.expire later → in_force (client retry (later ++ Octet octet ∷ before)) ≡ []
  going_from later octet before set load (b, same, is) newest passed =
      gone_by (Octet octet ∷ before) later b (moment_of before) load.intervals.expire (going (Octet octet ∷ before) later b (moment_of before) load.intervals.expire newest is) passed

  pub expired_are_gone :
      (later : List Event) (octet : ℕ) (before : List Event) (set : List Vrp) (load : EndsLoad retry before octet set)
      → NoneCompletes retry (Octet octet ∷ before) later → HasPassed (moment_of before) load.intervals.expire later → in_force (client retry (later ++ Octet octet ∷ before)) ≡ []
  expired_are_gone later octet before set load newest passed = going_from later octet before set load (held_by before octet set load (turn before (Octet octet))) newest passed
