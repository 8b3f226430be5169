-- The payloads in force after a history are those of the last completed load behind which there was neither a flush nor an expiry.
use Rattle.std.proofs.Common.{◌≡◌, ◌⊎◌, inl, inr, ℕ, Bool, true, false, not, List, [], ◌∷◌, ◌++◌, Option, Some, None, if◌then◌else◌, refl, ap, sym, subst, ◌∙◌, eq-eqb}
use Rattle.moments.specs.Moments.{has_come}
use Rattle.net_prefix.specs.declared.payload.Vrp.{Vrp}
use Rattle.net_prefix.specs.declared.transport.Transport.{Transport}
use Rattle.net_prefix.specs.declared.transport.Transport.TheVariants.{None as NoConnection, Opening as Connecting, Listening, Open as Connected, Closing}
use Rattle.rtr_codec.specs.declared.intervals.Intervals.{Intervals}
use Rattle.rtr_codec.specs.ClientTable.{Client, Input, Loading, Up, Fail, Heard, Faulty, Tick, No_room, Starved, in_force, is_connected, row, transport_of}
use Rattle.rtr_codec.specs.PduSpelling.{Content, Cache_response, End_of_data}
use Rattle.rtr_codec.specs.PduStream.{Item, WholePdu, FaultyPdu}
use Rattle.rtr_codec.specs.Responses.{changed, is_change}
use Rattle.rtr_session.specs.Loads.{AreOfLoad, IsLoad, Reading, StartsFrom, is_awaited, is_of_load, loaded, readings}
use Rattle.rtr_session.specs.PayloadsInForce.{AreInForce, CompletesLoad, EndsForce, EndsLoad, flushes}
use Rattle.rtr_session.specs.SessionHistory.{Event, Came_up, Failed, Octet, Refused, Handed, Ticked, Course, anew, client, completed_in, course, hearing, item_at, item_on, longer, moment_of, octet_on, waiting}
use Rattle.rtr_session.specs.SessionState.{client_after, finds_room, input_of, settled}
use Rattle.rtr_session.proofs.Agreeing.{stood_after}
use Rattle.rtr_session.proofs.ClientRows.{fault_closes, no_room_closes, shut_is, starved_closes, stood_before}
use Rattle.rtr_session.proofs.ForceRows.{ForceStep, force_fail, force_fault, force_heard, force_starved, force_up, tick_expires, tick_stays}
use Rattle.rtr_session.proofs.LoadRows.{LoadStep, row_begins, row_fail, row_goes_on, row_leads, row_tick_leaves, row_ticks, row_up, row_up_unawaited}
use Rattle.rtr_session.proofs.Saying.{settled_keeps}

-- The client behind an input.

settled_by : (now : ℕ) (room : Bool) (c : Client) → transport_of (if room then c else (row now c No_room).client) ≡ Connected → (if room then c else (row now c No_room).client) ≡ c
settled_by now true c stands = refl
settled_by now false c stands = absurd (no_room_closes now c stands)

settled_stands : (now : ℕ) (told : Option Content) (ring : List ℕ) (c : Client) → transport_of (settled now told ring c) ≡ Connected → settled now told ring c ≡ c
settled_stands now None ring c stands = refl
settled_stands now (Some content) ring c stands = settled_by now (finds_room content ring) c stands

-- where a connection stands behind an input, the client is that of the row
after_stands : (now : ℕ) (input : Input) (ring : List ℕ) (c : Client) → transport_of (client_after now input ring c) ≡ Connected → client_after now input ring c ≡ (row now c input).client
after_stands now input ring c stands = settled_stands now (row now c input).said ring (row now c input).client stands

after_keeps : (now : ℕ) (input : Input) (ring : List ℕ) (c : Client) → in_force (client_after now input ring c) ≡ in_force (row now c input).client
after_keeps now input ring c = settled_keeps now (row now c input).said ring (row now c input).client

loading_stands : (c : Client) (serially : Bool) (session : ℕ) (set : List Vrp) → c.stage ≡ Loading serially session set → transport_of c ≡ Connected
loading_stands c serially session set e = rw e refl

-- a load behind an input is one behind its row
loading_after :
    (now : ℕ) (input : Input) (ring : List ℕ) (c : Client) (serially : Bool) (session : ℕ) (set : List Vrp) → (client_after now input ring c).stage ≡ Loading serially session set
    → (row now c input).client.stage ≡ Loading serially session set
loading_after now input ring c serially session set e =
    ap (λ (x : Client). x.stage) (sym (after_stands now input ring c (loading_stands (client_after now input ring c) serially session set e))) ∙ e

-- What an octet does.

-- it completes nothing, and the client stays; or an item, which the client hears
abbrev OctetStep : Transport → ℕ → ℕ → Course → Type 0
OctetStep transport now octet c =
    ((item_on transport c octet ≡ None) × ((octet_on transport now octet c).client ≡ c.client))
    ⊎ ((item : Item) × (item_on transport c octet ≡ Some item) × (transport ≡ Connected) × ((octet_on transport now octet c).client ≡ client_after now (input_of item) (waiting c) c.client))

step_by : (now octet : ℕ) (c : Course) (found : Option Item) → completed_in c octet ≡ found → OctetStep Connected now octet c
step_by now octet c None is = inl (is, ap (λ (x : Option Item). (hearing now x (longer octet c)).client) is)
step_by now octet c (Some item) is = inr (item, is, refl, ap (λ (x : Option Item). (hearing now x (longer octet c)).client) is)

octet_step : (transport : Transport) (now octet : ℕ) (c : Course) → OctetStep transport now octet c
octet_step NoConnection now octet c = inl (refl, refl)
octet_step Connecting now octet c = inl (refl, refl)
octet_step Listening now octet c = inl (refl, refl)
octet_step Connected now octet c = step_by now octet c (completed_in c octet) refl
octet_step Closing now octet c = inl (refl, refl)

-- of a session that has begun with this Retry Interval
module _ (retry : ℕ) where
  abbrev StepOf : List Event → ℕ → Type 0
  StepOf h octet = OctetStep (transport_of (client retry h)) (moment_of h) octet (course retry h)

  step_of : (h : List Event) (octet : ℕ) → StepOf h octet
  step_of h octet = octet_step (transport_of (client retry h)) (moment_of h) octet (course retry h)

  -- A client that loads has read a load.

  abbrev HasRead : List Event → Type 0
  HasRead h = (serially : Bool) (session : ℕ) (set : List Vrp) → (client retry h).stage ≡ Loading serially session set → IsLoad (readings retry h) session set

  read_step :
      (before : List Reading) (c : Client) (content : Content) (session : ℕ) (set : List Vrp)
      → ((serially : Bool) (session : ℕ) (set : List Vrp) → c.stage ≡ Loading serially session set → IsLoad before session set) → LoadStep c content session set
      → IsLoad (record { content = content; client = c } ∷ before) session set
  read_step before c content session set earlier (inl (is, from)) = record {
    within = [];
    response = record { content = content; client = c };
    before = before;
    start = set;
    all_are = refl;
    begins = is;
    starts = from;
    lawful = tt;
    set_is = refl;
  }
  read_step before c content session set earlier (inr (serially, part, stage, of, lawful, set_is)) =
      let load = earlier serially session part stage in
      record {
        within = record { content = content; client = c } ∷ load.within;
        response = load.response;
        before = load.before;
        start = load.start;
        all_are = ap (λ (rs : List Reading). record { content = content; client = c } ∷ rs) load.all_are;
        begins = load.begins;
        starts = load.starts;
        lawful = (of, subst (λ (x : List Vrp). is_change x content ≡ true) load.set_is lawful, load.lawful);
        set_is = set_is ∙ ap (λ (x : List Vrp). changed x content) load.set_is;
      }

  read_octet : (h : List Event) (octet : ℕ) → HasRead h → StepOf h octet → HasRead (Octet octet ∷ h)
  read_octet h octet earlier (inl (none, same)) = λ serially session set e.
      rw none (earlier serially session set (ap (λ (c : Client). c.stage) (sym same) ∙ e))
  read_octet h octet earlier (inr (WholePdu content octets, some, connected, after)) = λ serially session set e.
      let loading = loading_after (moment_of h) (Heard content octets) (waiting (course retry h)) (client retry h) serially session set (ap (λ (c : Client). c.stage) (sym after) ∙ e) in
      rw some (read_step (readings retry h) (client retry h) content session set earlier (row_leads (moment_of h) (client retry h) octets content serially session set loading))
  read_octet h octet earlier (inr (FaultyPdu fault octets, some, connected, after)) = λ serially session set e.
      let loading = loading_after (moment_of h) (Faulty fault octets) (waiting (course retry h)) (client retry h) serially session set (ap (λ (c : Client). c.stage) (sym after) ∙ e) in
      absurd (fault_closes (moment_of h) (client retry h) fault octets (loading_stands (row (moment_of h) (client retry h) (Faulty fault octets)).client serially session set loading))

  pub has_read : (h : List Event) → HasRead h
  has_read [] serially session set e = absurd cc
  has_read (Came_up ∷ h) serially session set e =
      let loading = row_up (moment_of h) (client retry h) serially session set (loading_after (moment_of h) Up (waiting (anew (course retry h))) (client retry h) serially session set e) in
      rw loading (has_read h serially session set loading)
  has_read (Failed ∷ h) serially session set e =
      absurd (row_fail (moment_of h) (client retry h) serially session set (loading_after (moment_of h) Fail (waiting (anew (course retry h))) (client retry h) serially session set e))
  has_read (Octet octet ∷ h) serially session set e = read_octet h octet (has_read h) (step_of h octet) serially session set e
  has_read (Refused ∷ h) serially session set e =
      absurd (starved_closes (moment_of h) (client retry h) (loading_stands (row (moment_of h) (client retry h) Starved).client serially session set (loading_after (moment_of h) Starved (waiting (course retry h)) (client retry h) serially session set e)))
  has_read (Handed octets ∷ h) serially session set e = has_read h serially session set e
  has_read (Ticked now ∷ h) serially session set e =
      has_read h serially session set (row_ticks now (client retry h) serially session set (loading_after now Tick (waiting (course retry h)) (client retry h) serially session set e))

  -- A client that has read a load is loading, while its connection stands.

  abbrev IsLoading : Client → ℕ → List Vrp → Type 0
  IsLoading c session set = (serially : Bool) × (c.stage ≡ Loading serially session set)

  abbrev Loads : List Event → Type 0
  Loads h = (session : ℕ) (set : List Vrp) → IsLoad (readings retry h) session set → transport_of (client retry h) ≡ Connected → IsLoading (client retry h) session set

  no_load : (session : ℕ) (set : List Vrp) → IsLoad [] session set → ⊥
  no_load session set load = none load.within load.response load.before load.all_are
    where
      none : (within : List Reading) (response : Reading) (before : List Reading) → [] ≡ within ++ response ∷ before → ⊥
      none [] response before e = cc
      none (reading ∷ within) response before e = cc

  -- behind a PDU, by whether that is the Cache Response of the load or stands within it
  loading_by :
      (now : ℕ) (c : Client) (octets : List ℕ) (content : Content) (before : List Reading) (session : ℕ) (within : List Reading) (response : Reading) (rest : List Reading) (start : List Vrp)
      → ((session : ℕ) (set : List Vrp) → IsLoad before session set → IsLoading c session set)
      → record { content = content; client = c } ∷ before ≡ within ++ response ∷ rest → response.content ≡ Cache_response session
      → StartsFrom response.client.stage (in_force response.client) start → AreOfLoad start within → transport_of (row now c (Heard content octets)).client ≡ Connected
      → IsLoading (row now c (Heard content octets)).client session (loaded start within)
  loading_by now c octets content before session [] response rest start earlier all begins starts lawful stands =
      let this : record { content = content; client = c } ≡ response = first_same all in
      let is : content ≡ Cache_response session = ap (λ (r : Reading). r.content) this ∙ begins in
      let from : StartsFrom c.stage (in_force c) start = subst (λ (r : Reading). StartsFrom r.client.stage (in_force r.client) start) (sym this) starts in
      rw is (row_begins now c octets session start from (rw is at stands))
    where
      first_same : record { content = content; client = c } ∷ before ≡ response ∷ rest → record { content = content; client = c } ≡ response
      first_same e = cc
  loading_by now c octets content before session (reading ∷ within) response rest start earlier all begins starts lawful stands =
      let these = both_same all in
      let load = earlier session (loaded start within) (record {
        within = within;
        response = response;
        before = rest;
        start = start;
        all_are = these.1;
        begins = begins;
        starts = starts;
        lawful = lawful.2;
        set_is = refl;
      }) in
      let is : content ≡ reading.content = ap (λ (r : Reading). r.content) these.0 in (
        load.0,
        row_goes_on now c octets load.0 session (loaded start within) content load.1 (subst (λ (x : Content). is_of_load x ≡ true) (sym is) lawful.0) (subst (λ (x : Content). is_change (loaded start within) x ≡ true) (sym is) lawful.1)
            ∙ ap (λ (x : Content). Loading load.0 session (changed (loaded start within) x)) is,
      )
    where
      both_same : record { content = content; client = c } ∷ before ≡ reading ∷ (within ++ response ∷ rest) → (record { content = content; client = c } ≡ reading) × (before ≡ within ++ response ∷ rest)
      both_same e = (cc, cc)

  loads_octet : (h : List Event) (octet : ℕ) → Loads h → StepOf h octet → Loads (Octet octet ∷ h)
  loads_octet h octet earlier (inl (none, same)) = λ session set load stands.
      rw same (earlier session set (rw none at load) (ap transport_of (sym same) ∙ stands))
  loads_octet h octet earlier (inr (WholePdu content octets, some, connected, after)) = λ session set load stands.
      let here : transport_of (client_after (moment_of h) (Heard content octets) (waiting (course retry h)) (client retry h)) ≡ Connected = ap transport_of (sym after) ∙ stands in
      let read : IsLoad (record { content = content; client = client retry h } ∷ readings retry h) session set = rw some at load in
      let is = after_stands (moment_of h) (Heard content octets) (waiting (course retry h)) (client retry h) here in
      rw (after, is, read.set_is)
      (loading_by (moment_of h) (client retry h) octets content (readings retry h) session read.within read.response read.before read.start (λ n part k. earlier n part k connected) read.all_are read.begins read.starts read.lawful
      (ap transport_of (sym is) ∙ here))
  loads_octet h octet earlier (inr (FaultyPdu fault octets, some, connected, after)) = λ session set load stands.
      absurd (fault_closes (moment_of h) (client retry h) fault octets (stood_after (moment_of h) (Faulty fault octets) (waiting (course retry h)) (client retry h) (ap transport_of (sym after) ∙ stands)))

  loads_up : (h : List Event) (awaited : Bool) → Loads h → is_awaited (client retry h).stage ≡ awaited → Loads (Came_up ∷ h)
  loads_up h true earlier is = λ session set load stands. absurd (no_load session set (rw is at load))
  loads_up h false earlier is = λ session set load stands.
      let same : (client retry (Came_up ∷ h)) ≡ client retry h = after_stands (moment_of h) Up (waiting (anew (course retry h))) (client retry h) stands ∙ row_up_unawaited (moment_of h) (client retry h) is in
      rw same (earlier session set (rw is at load) (ap transport_of (sym same) ∙ stands))

  loads_tick : (h : List Event) (now : ℕ) → Loads h → Loads (Ticked now ∷ h)
  loads_tick h now earlier = λ session set load stands.
      let is = after_stands now Tick (waiting (course retry h)) (client retry h) stands in
      let here : transport_of (row now (client retry h) Tick).client ≡ Connected = ap transport_of (sym is) ∙ stands in
      let before = earlier session set load (stood_before now (client retry h) Tick (λ e. cc) here) in
      rw is (before.0, open_leaves now (client retry h) before.0 session set here (row_tick_leaves now (client retry h) before.0 session set before.1))
    where
      open_leaves :
          (now : ℕ) (c : Client) (serially : Bool) (session : ℕ) (set : List Vrp) → transport_of (row now c Tick).client ≡ Connected
          → ((row now c Tick).client.stage ≡ Loading serially session set) ⊎ (is_connected (row now c Tick).client.stage ≡ false) → (row now c Tick).client.stage ≡ Loading serially session set
      open_leaves now c serially session set stands (inl e) = e
      open_leaves now c serially session set stands (inr shut) = absurd (shut_is (row now c Tick).client.stage (row now c Tick).client.closing shut stands)

  pub loads : (h : List Event) → Loads h
  loads [] session set load stands = absurd (no_load session set load)
  loads (Came_up ∷ h) session set load stands = loads_up h (is_awaited (client retry h).stage) (loads h) refl session set load stands
  loads (Failed ∷ h) session set load stands = absurd (no_load session set load)
  loads (Octet octet ∷ h) session set load stands = loads_octet h octet (loads h) (step_of h octet) session set load stands
  loads (Refused ∷ h) session set load stands =
      absurd (starved_closes (moment_of h) (client retry h) (stood_after (moment_of h) Starved (waiting (course retry h)) (client retry h) stands))
  loads (Handed octets ∷ h) session set load stands = loads h session set load stands
  loads (Ticked now ∷ h) session set load stands = loads_tick h now (loads h) session set load stands

  -- What each event does to the payloads in force.

  -- the end of a load of its session flushes nothing
  ends_no_flush : (c : Client) (serially : Bool) (session : ℕ) (set : List Vrp) (serial : ℕ) (intervals : Intervals) → c.stage ≡ Loading serially session set → flushes c (End_of_data session serial intervals) ≡ false
  ends_no_flush c serially session set serial intervals e = rw e (ap not (eq-eqb session session refl))

  completes_none : (h : List Event) (octet : ℕ) (set : List Vrp) → item_at retry h octet ≡ None → EndsLoad retry h octet set → ⊥
  completes_none h octet set none k = let e = k.ends in cc

  -- an event completes a load, or ends what is in force, or leaves it as it is
  abbrev Decision : List Event → Event → Type 0
  Decision h e =
      ((set : List Vrp) × CompletesLoad retry h e set × (in_force (client retry (e ∷ h)) ≡ set) × (EndsForce retry h e → ⊥))
      ⊎ ((EndsForce retry h e × (in_force (client retry (e ∷ h)) ≡ []) × ((other : List Vrp) → CompletesLoad retry h e other → ⊥))
      ⊎ (((other : List Vrp) → CompletesLoad retry h e other → ⊥) × (EndsForce retry h e → ⊥) × (in_force (client retry (e ∷ h)) ≡ in_force (client retry h))))

  connected_is : (c : Client) → transport_of c ≡ Connected → is_connected c.stage ≡ true
  connected_is c stands = by_test (is_connected c.stage) refl
    where
      by_test : (test : Bool) → is_connected c.stage ≡ test → is_connected c.stage ≡ true
      by_test true e = e
      by_test false e = absurd (shut_is c.stage c.closing e stands)

  -- a load that an octet completes is the one in progress
  completes_loading :
      (h : List Event) (octet : ℕ) (set : List Vrp) (content : Content) (octets : List ℕ) → item_at retry h octet ≡ Some (WholePdu content octets) → transport_of (client retry h) ≡ Connected
      → (k : EndsLoad retry h octet set) → (content ≡ End_of_data k.session k.serial k.intervals) × IsLoading (client retry h) k.session set
  completes_loading h octet set content octets some connected k =
      let e = k.ends in
      (let same : Some (WholePdu content octets) ≡ Some (WholePdu (End_of_data k.session k.serial k.intervals) k.octets) = sym some ∙ k.ends in cc, loads h k.session set k.load connected)

  decide_pdu :
      (h : List Event) (octet : ℕ) (content : Content) (octets : List ℕ) → item_at retry h octet ≡ Some (WholePdu content octets) → transport_of (client retry h) ≡ Connected
      → ForceStep (client retry h) content (client retry (Octet octet ∷ h)) → Decision h (Octet octet)
  decide_pdu h octet content octets some connected (inl k) = inl (
    k.set,
    record {
      session = k.session;
      serial = k.serial;
      intervals = k.intervals;
      octets = octets;
      ends = some ∙ ap (λ (x : Content). Some (WholePdu x octets)) k.content_is;
      lawful = k.lawful;
      load = has_read h k.serially k.session k.set k.stage_is;
    },
    k.force_is,
    λ f.
        let same : f.content ≡ content = (let both : Some (WholePdu f.content f.octets) ≡ Some (WholePdu content octets) = sym f.completes ∙ some in cc) in
        let flushed : flushes (client retry h) (End_of_data k.session k.serial k.intervals) ≡ true = subst (λ (x : Content). flushes (client retry h) x ≡ true) (same ∙ k.content_is) f.flushes_it in
        let never : true ≡ false = sym flushed ∙ ends_no_flush (client retry h) k.serially k.session k.set k.serial k.intervals k.stage_is in cc,
  )
  decide_pdu h octet content octets some connected (inr (inl (flushed, none))) = inr (inl (
    record { content = content; octets = octets; completes = some; flushes_it = flushed },
    none,
    λ other k.
        let here = completes_loading h octet other content octets some connected k in
        let never : true ≡ false = sym flushed ∙ ap (flushes (client retry h)) here.0 ∙ ends_no_flush (client retry h) here.1.0 k.session other k.serial k.intervals here.1.1 in cc,
  ))
  decide_pdu h octet content octets some connected (inr (inr (kept, same, commits_none))) = inr (inr (
    λ other k.
        let here = completes_loading h octet other content octets some connected k in
        commits_none here.1.0 k.session other k.serial k.intervals here.1.1 here.0 k.lawful,
    λ f.
        let is : f.content ≡ content = (let both : Some (WholePdu f.content f.octets) ≡ Some (WholePdu content octets) = sym f.completes ∙ some in cc) in
        let never : true ≡ false = sym f.flushes_it ∙ ap (flushes (client retry h)) is ∙ kept in cc,
    same,
  ))

  decide_octet : (h : List Event) (octet : ℕ) → StepOf h octet → Decision h (Octet octet)
  decide_octet h octet (inl (none, same)) = inr (inr (
    λ other k. completes_none h octet other none k,
    λ f. let some = f.completes in cc,
    ap in_force same,
  ))
  decide_octet h octet (inr (WholePdu content octets, some, connected, after)) =
      decide_pdu h octet content octets some connected
      (rw after (forced (moment_of h) (Heard content octets) (waiting (course retry h)) (client retry h) content (force_heard (moment_of h) (client retry h) octets content (connected_is (client retry h) connected))))
    where
      forced : (now : ℕ) (input : Input) (ring : List ℕ) (c : Client) (content : Content) → ForceStep c content (row now c input).client → ForceStep c content (client_after now input ring c)
      forced now input ring c content (inl k) = inl (record {
        serially = k.serially;
        session = k.session;
        set = k.set;
        serial = k.serial;
        intervals = k.intervals;
        stage_is = k.stage_is;
        content_is = k.content_is;
        lawful = k.lawful;
        force_is = after_keeps now input ring c ∙ k.force_is;
      })
      forced now input ring c content (inr (inl (flushed, none))) = inr (inl (flushed, after_keeps now input ring c ∙ none))
      forced now input ring c content (inr (inr (kept, same, none))) = inr (inr (kept, after_keeps now input ring c ∙ same, none))
  decide_octet h octet (inr (FaultyPdu fault octets, some, connected, after)) = inr (inr (
    λ other k. let e : Some (FaultyPdu fault octets) ≡ Some (WholePdu (End_of_data k.session k.serial k.intervals) k.octets) = sym some ∙ k.ends in cc,
    λ f. let e : Some (FaultyPdu fault octets) ≡ Some (WholePdu f.content f.octets) = sym some ∙ f.completes in cc,
    ap in_force after ∙ after_keeps (moment_of h) (Faulty fault octets) (waiting (course retry h)) (client retry h) ∙ force_fault (moment_of h) (client retry h) fault octets,
  ))

  decide_tick : (h : List Event) (now : ℕ) (come : Bool) → has_come (client retry h).expire now ≡ come → Decision h (Ticked now)
  decide_tick h now true is = inr (inl (is, after_keeps now Tick (waiting (course retry h)) (client retry h) ∙ tick_expires now (client retry h) is, λ other k. k))
  decide_tick h now false is = inr (inr (
    λ other k. k,
    λ e. let never : true ≡ false = sym e ∙ is in cc,
    after_keeps now Tick (waiting (course retry h)) (client retry h) ∙ tick_stays now (client retry h) is,
  ))

  decide : (h : List Event) (e : Event) → Decision h e
  decide h Came_up = inr (inr (λ other k. k, λ k. k, after_keeps (moment_of h) Up (waiting (anew (course retry h))) (client retry h) ∙ force_up (moment_of h) (client retry h)))
  decide h Failed = inr (inr (λ other k. k, λ k. k, after_keeps (moment_of h) Fail (waiting (anew (course retry h))) (client retry h) ∙ force_fail (moment_of h) (client retry h)))
  decide h (Octet octet) = decide_octet h octet (step_of h octet)
  decide h Refused = inr (inr (λ other k. k, λ k. k, after_keeps (moment_of h) Starved (waiting (course retry h)) (client retry h) ∙ force_starved (moment_of h) (client retry h)))
  decide h (Handed octets) = inr (inr (λ other k. k, λ k. k, refl))
  decide h (Ticked now) = decide_tick h now (has_come (client retry h).expire now) refl

  -- The laws.

  last_by : (h : List Event) (e : Event) → Decision h e → AreInForce retry h (in_force (client retry h)) → AreInForce retry (e ∷ h) (in_force (client retry (e ∷ h)))
  last_by h e (inl (set, completes, is, lasting)) before = inl (subst (λ (x : List Vrp). CompletesLoad retry h e x) (sym is) completes)
  last_by h e (inr (inl (ends, none, no_load))) before = inr (inl (ends, none))
  last_by h e (inr (inr (no_load, lasting, same))) before = inr (inr (no_load, lasting, subst (λ (x : List Vrp). AreInForce retry h x) (sym same) before))

  pub payloads_are_of_the_last_load : (h : List Event) → AreInForce retry h (in_force (client retry h))
  payloads_are_of_the_last_load [] = refl
  payloads_are_of_the_last_load (e ∷ h) = last_by h e (decide h e) (payloads_are_of_the_last_load h)

  -- a completed load's payloads are in force
  ends_octet : (h : List Event) (octet : ℕ) (set : List Vrp) → StepOf h octet → Decision h (Octet octet) → EndsLoad retry h octet set → set ≡ in_force (client retry (Octet octet ∷ h))
  ends_octet h octet set (inl (none, same)) d k = absurd (completes_none h octet set none k)
  ends_octet h octet set (inr (item, some, connected, after)) (inl (other, completes, is, lasting)) k =
      let here = loads h k.session set k.load connected in
      let there = loads h completes.session other completes.load connected in
      let ends : Some (WholePdu (End_of_data k.session k.serial k.intervals) k.octets) ≡ Some (WholePdu (End_of_data completes.session completes.serial completes.intervals) completes.octets) = sym k.ends ∙ completes.ends in
      let stages : Loading here.0 k.session set ≡ Loading there.0 completes.session other = sym here.1 ∙ there.1 in
      let same : set ≡ other = cc in same ∙ sym is
  ends_octet h octet set (inr (item, some, connected, after)) (inr (inl (ends, none, no_load))) k = absurd (no_load set k)
  ends_octet h octet set (inr (item, some, connected, after)) (inr (inr (no_load, lasting, same))) k = absurd (no_load set k)

  completes_force : (h : List Event) (e : Event) (set : List Vrp) → CompletesLoad retry h e set → set ≡ in_force (client retry (e ∷ h))
  completes_force h Came_up set k = absurd k
  completes_force h Failed set k = absurd k
  completes_force h (Octet octet) set k = ends_octet h octet set (step_of h octet) (decide h (Octet octet)) k
  completes_force h Refused set k = absurd k
  completes_force h (Handed octets) set k = absurd k
  completes_force h (Ticked now) set k = absurd k

  only_by :
      (h : List Event) (e : Event) (set : List Vrp) → Decision h e → (AreInForce retry h set → set ≡ in_force (client retry h)) → AreInForce retry (e ∷ h) set → set ≡ in_force (client retry (e ∷ h))
  only_by h e set d before (inl completes) = completes_force h e set completes
  only_by h e set (inl (other, completes, is, lasting)) before (inr (inl (ends, none))) = absurd (lasting ends)
  only_by h e set (inl (other, completes, is, lasting)) before (inr (inr (no_load, unended, earlier))) = absurd (no_load other completes)
  only_by h e set (inr (inl (ends, none, no_load))) before (inr (inl (again, nothing))) = nothing ∙ sym none
  only_by h e set (inr (inl (ends, none, no_load))) before (inr (inr (never, unended, earlier))) = absurd (unended ends)
  only_by h e set (inr (inr (no_load, lasting, same))) before (inr (inl (ends, none))) = absurd (lasting ends)
  only_by h e set (inr (inr (no_load, lasting, same))) before (inr (inr (never, unended, earlier))) = before earlier ∙ sym same

  pub no_others_are_in_force : (h : List Event) (set : List Vrp) → AreInForce retry h set → set ≡ in_force (client retry h)
  no_others_are_in_force [] set none = none
  no_others_are_in_force (e ∷ h) set are = only_by h e set (decide h e) (no_others_are_in_force h set) are
