-- The payloads in force, by the PDUs that came.
use Rattle.std.proofs.Common.{◌≡◌, ◌≢◌, ◌⊎◌, inl, inr, ◌++◌, ℕ, Bool, true, false, List, [], ◌∷◌, Option, Some, None, if◌then◌else◌, refl, ap, sym, subst, ◌∙◌}
use Rattle.net_prefix.specs.declared.payload.Vrp.{Vrp}
use Rattle.net_prefix.specs.declared.transport.Transport.{Transport}
use Rattle.net_prefix.specs.declared.transport.Transport.TheVariants.{Open as Connected}
use Rattle.octet_streams.specs.Streams.{with_front}
use Rattle.rtr_codec.specs.ClientTable.{Client, Faulty, Stage, Off, Opening, Asked_serial, Asked_reset, Waiting, Loading, Synced, No_room, Starved, Tick, Up, in_force, row, transport_of}
use Rattle.rtr_codec.specs.PduSpelling.{Content, End_of_data}
use Rattle.rtr_codec.specs.PduStream.{Item, WholePdu, FaultyPdu, meaning, place_from, unread}
use Rattle.rtr_codec.specs.Responses.{changed, is_change}
use Rattle.rtr_session.specs.Loads.{AreOfLoad, IsLoad, Reading, StartsFrom, is_awaited, loaded, readings}
use Rattle.rtr_session.specs.SessionHistory.{Event, Came_up, Failed, Octet, Refused, Handed, Ticked, anew, client, course, first_place, item_at, item_on, moment_of, waiting}
use Rattle.rtr_session.specs.SessionState.{finds_room, settled}
use Rattle.rtr_session.proofs.Agreeing.{stood_after}
use Rattle.rtr_session.proofs.ClientRows.{fault_closes, no_room_closes, starved_closes, stood_before}
use Rattle.rtr_session.proofs.LoadRows.{row_up_unawaited}
use Rattle.payload_times.proofs.Arrivals.{arrived_is, fresh_of, item_stands, octet_stood}
use Rattle.payload_times.proofs.Times.{StepOf, payloads_are_unexpired, step_of}
use Rattle.payload_times.specs.PayloadTimes.{AreUnexpired, HasFreshEnd}
use Rattle.payload_times.specs.ToldPayloads.{AreChanges, AreTold, completed, content_of_item, made, told}

abbrev contents : List Reading → List Content
contents [] = []
contents (reading ∷ earlier) = reading.content ∷ contents earlier

loaded_is : (start : List Vrp) (within : List Reading) → loaded start within ≡ made start (contents within)
loaded_is start [] = refl
loaded_is start (reading ∷ earlier) = ap (λ (x : List Vrp). changed x reading.content) (loaded_is start earlier)

changes_are : (start : List Vrp) (within : List Reading) → AreOfLoad start within → AreChanges start (contents within)
changes_are start [] lawful = tt
changes_are start (reading ∷ earlier) lawful =
    (lawful.0, subst (λ (x : List Vrp). is_change x reading.content ≡ true) (loaded_is start earlier) lawful.1, changes_are start earlier lawful.2)

start_is : (stage : Stage) (payloads start : List Vrp) → StartsFrom stage payloads start → (start ≡ []) ⊎ (start ≡ payloads)
start_is Off payloads start from = absurd from
start_is Opening payloads start from = absurd from
start_is Asked_serial payloads start from = inr from
start_is Asked_reset payloads start from = inl from
start_is Waiting payloads start from = absurd from
start_is (Loading serially session set) payloads start from = absurd from
start_is Synced payloads start from = absurd from

none_read : (within : List Reading) (response : Reading) (before : List Reading) → [] ≡ within ++ response ∷ before → ⊥
none_read [] response before e = cc
none_read (reading ∷ within) response before e = cc

first_same : (one : Reading) (all : List Reading) (response : Reading) (before : List Reading) → one ∷ all ≡ response ∷ before → one ≡ response
first_same one all response before e = cc

both_same : (one : Reading) (all : List Reading) (reading : Reading) (within before : List Reading) (response : Reading) → one ∷ all ≡ reading ∷ (within ++ response ∷ before) → (one ≡ reading) × (all ≡ within ++ response ∷ before)
both_same one all reading within before response e = (cc, cc)

settled_up : (now : ℕ) (room : Bool) (c : Client) → transport_of (if room then c else (row now c No_room).client) ≡ Connected → (if room then c else (row now c No_room).client) ≡ c
settled_up now true c stands = refl
settled_up now false c stands = absurd (no_room_closes now c stands)

settled_stands : (now : ℕ) (said : Option Content) (ring : List ℕ) (c : Client) → transport_of (settled now said ring c) ≡ Connected → settled now said ring c ≡ c
settled_stands now None ring c stands = refl
settled_stands now (Some content) ring c stands = settled_up now (finds_room content ring) c stands

-- of a session that has begun with this Retry Interval
module _ (retry : ℕ) where
  -- on a connection that stands an octet completes what it completes of those that arrived
  completed_is : (h : List Event) (octet : ℕ) → transport_of (client retry h) ≡ Connected → item_at retry h octet ≡ completed h octet
  completed_is h octet stands =
      ap (λ (x : Transport). item_on x (course retry h) octet) stands
      ∙ ap (λ (x : List ℕ). meaning (place_from first_place [] x) (unread first_place x ++ octet ∷ [])) (arrived_is retry h stands)

  -- a PDU that was read came when the client was so, and those behind it came since
  pub record IsRead (h : List Event) (within : List Reading) (response : Reading) : Type 0 where
    pub since : List Event
    pub begun : List Event
    pub behind : h ≡ since ++ begun
    pub told_are : told h ≡ contents within ++ response.content ∷ told begun
    pub client_is : response.client ≡ client retry begun

  abbrev ReadsAll : List Event → Type 0
  ReadsAll h = (within : List Reading) (response : Reading) (before : List Reading) → readings retry h ≡ within ++ response ∷ before → IsRead h within response

  -- an event that completes no PDU
  reads_on : (h : List Event) (e : Event) → told (e ∷ h) ≡ told h → (within : List Reading) (response : Reading) → IsRead h within response → IsRead (e ∷ h) within response
  reads_on h e same within response k = record {
    since = e ∷ k.since;
    begun = k.begun;
    behind = ap (λ (x : List Event). e ∷ x) k.behind;
    told_are = same ∙ k.told_are;
    client_is = k.client_is;
  }

  reads_one :
      (h : List Event) (octet : ℕ) (content : Content) → told (Octet octet ∷ h) ≡ content ∷ told h → ReadsAll h → (within : List Reading) (response : Reading) (before : List Reading)
      → record { content = content; client = client retry h } ∷ readings retry h ≡ within ++ response ∷ before → IsRead (Octet octet ∷ h) within response
  reads_one h octet content one earlier [] response before all =
      let this = first_same (record { content = content; client = client retry h }) (readings retry h) response before all in
      record {
        since = Octet octet ∷ [];
        begun = h;
        behind = refl;
        told_are = one ∙ ap (λ (x : Reading). x.content ∷ told h) this;
        client_is = ap (λ (x : Reading). x.client) (sym this);
      }
  reads_one h octet content one earlier (reading ∷ within) response before all =
      let these = both_same (record { content = content; client = client retry h }) (readings retry h) reading within before response all in
      let k = earlier within response before these.1 in
      record {
        since = Octet octet ∷ k.since;
        begun = k.begun;
        behind = ap (λ (x : List Event). Octet octet ∷ x) k.behind;
        told_are = one ∙ ap (λ (x : List Content). content ∷ x) k.told_are ∙ ap (λ (x : Reading). x.content ∷ (contents within ++ response.content ∷ told k.begun)) these.0;
        client_is = k.client_is;
      }

  reads_octet : (h : List Event) (octet : ℕ) → StepOf retry h octet → transport_of (client retry h) ≡ Connected → transport_of (client retry (Octet octet ∷ h)) ≡ Connected → ReadsAll h → ReadsAll (Octet octet ∷ h)
  reads_octet h octet (inl (none, same)) stood stands earlier = λ within response before all.
      let tells : completed h octet ≡ None = sym (completed_is h octet stood) ∙ none in
      reads_on h (Octet octet) (ap (λ (x : Option Item). with_front (content_of_item x) (told h)) tells) within response (earlier within response before (rw none at all))
  reads_octet h octet (inr (WholePdu content octets, some, connected, after)) stood stands earlier = λ within response before all.
      let tells : completed h octet ≡ Some (WholePdu content octets) = sym (completed_is h octet stood) ∙ some in
      reads_one h octet content (ap (λ (x : Option Item). with_front (content_of_item x) (told h)) tells) earlier within response before (rw some at all)
  reads_octet h octet (inr (FaultyPdu fault octets, some, connected, after)) stood stands earlier = λ within response before all.
      absurd (fault_closes (moment_of h) (client retry h) fault octets (stood_after (moment_of h) (Faulty fault octets) (waiting (course retry h)) (client retry h) (ap transport_of (sym after) ∙ stands)))

  reads_up : (h : List Event) (awaited : Bool) → is_awaited (client retry h).stage ≡ awaited → transport_of (client retry (Came_up ∷ h)) ≡ Connected → (transport_of (client retry h) ≡ Connected → ReadsAll h) → ReadsAll (Came_up ∷ h)
  reads_up h true is stands earlier = λ within response before all. absurd (none_read within response before (rw is at all))
  reads_up h false is stands earlier = λ within response before all.
      let same : client retry (Came_up ∷ h) ≡ client retry h = settled_stands (moment_of h) (row (moment_of h) (client retry h) Up).said (waiting (anew (course retry h))) (row (moment_of h) (client retry h) Up).client stands ∙ row_up_unawaited (moment_of h) (client retry h) is in
      reads_on h Came_up refl within response (earlier (ap transport_of (sym same) ∙ stands) within response before (rw is at all))

  reads : (h : List Event) → transport_of (client retry h) ≡ Connected → ReadsAll h
  reads [] stands within response before all = absurd (none_read within response before all)
  reads (Came_up ∷ h) stands within response before all = reads_up h (is_awaited (client retry h).stage) refl stands (reads h) within response before all
  reads (Failed ∷ h) stands within response before all = absurd (none_read within response before all)
  reads (Octet octet ∷ h) stands within response before all =
      let stood = octet_stood (transport_of (client retry h)) (moment_of h) octet (course retry h) refl stands in
      reads_octet h octet (step_of retry h octet) stood stands (reads h stood) within response before all
  reads (Refused ∷ h) stands within response before all = absurd (starved_closes (moment_of h) (client retry h) (stood_after (moment_of h) Starved (waiting (course retry h)) (client retry h) stands))
  reads (Handed octets ∷ h) stands within response before all = reads_on h (Handed octets) refl within response (reads h stands within response before all)
  reads (Ticked now ∷ h) stands within response before all =
      reads_on h (Ticked now) refl within response (reads h (stood_before now (client retry h) Tick (λ e. cc) (stood_after now Tick (waiting (course retry h)) (client retry h) stands)) within response before all)

  told_by : (h : List Event) (session : ℕ) (set : List Vrp) (load : IsLoad (readings retry h) session set) → IsRead h load.within load.response → AreTold retry h session set
  told_by h session set load k = record {
    within = contents load.within;
    since = k.since;
    begun = k.begun;
    start = load.start;
    behind = k.behind;
    told_are = k.told_are ∙ ap (λ (x : Content). contents load.within ++ x ∷ told k.begun) load.begins;
    starts = start_is load.response.client.stage (in_force (client retry k.begun)) load.start (subst (λ (x : Client). StartsFrom load.response.client.stage (in_force x) load.start) k.client_is load.starts);
    lawful = changes_are load.start load.within load.lawful;
    set_is = load.set_is ∙ loaded_is load.start load.within;
  }

  told_of : (h : List Event) (set : List Vrp) (k : AreUnexpired retry h set) → (end : HasFreshEnd h) × AreTold retry end.before end.session set
  unfolding fresh_of
  told_of h set k =
      let stood = item_stands (transport_of (client retry k.before)) (course retry k.before) k.octet (WholePdu (End_of_data k.load.session k.load.serial k.load.intervals) k.load.octets) k.load.ends in
      (fresh_of retry h set k, told_by k.before k.load.session set k.load.load (reads k.before stood k.load.load.within k.load.load.response k.load.load.before k.load.load.all_are))

  pub payloads_are_told : (h : List Event) → in_force (client retry h) ≢ [] → (end : HasFreshEnd h) × AreTold retry end.before end.session (in_force (client retry h))
  payloads_are_told h some = told_of h (in_force (client retry h)) (payloads_are_unexpired retry h some)
