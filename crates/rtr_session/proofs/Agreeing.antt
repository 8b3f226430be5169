-- Each thing that happens to a session that is as a history leaves it leaves it as the longer history does.
use Rattle.std.proofs.Common.{◌≡◌, ℕ, Bool, true, false, List, [], ◌∷◌, ◌++◌, length, drop, Option, Some, None, if◌then◌else◌, refl, ap, sym, ◌∙◌, append_assoc}
use Rattle.std.proofs.lemmas.List.{drop_at}
use Rattle.net_prefix.specs.declared.transport.Transport.{Transport}
use Rattle.net_prefix.specs.declared.transport.Transport.TheVariants.{Open as Connected}
use Rattle.rtr_codec.specs.ClientTable.{Client, Input, Tick, No_room, Starved, row, transport_of}
use Rattle.rtr_codec.specs.PduSpelling.{Content}
use Rattle.rtr_codec.specs.PduStream.{Item, WholePdu, FaultyPdu, left_over, meaning, place_after}
use Rattle.rtr_codec.specs.Receiving.{Reception, passed}
use Rattle.rtr_session.specs.Agreement.{SessionAgrees}
use Rattle.rtr_session.specs.SessionHistory.{Event, Octet, Refused, Ticked, Course, client, completed_in, course, first_place, hearing, item_at, item_on, longer, moment_of, octet_on, reading_in, taking, waiting}
use Rattle.rtr_session.specs.SessionState.{Session, after_input, client_after, finds_room, input_of, ring_after, said, settled, with_octets}
use Rattle.rtr_session.proofs.ClientRows.{fault_closes, no_room_closes, starved_closes, stood_before}
use Rattle.rtr_session.proofs.Pushing.{place-push, unread-push}

-- a session that stands behind what is said stood before
stood_by : (now : ℕ) (room : Bool) (c : Client) → transport_of (if room then c else (row now c No_room).client) ≡ Connected → transport_of c ≡ Connected
stood_by now true c stands = stands
stood_by now false c stands = absurd (no_room_closes now c stands)

pub stood_settled : (now : ℕ) (told : Option Content) (ring : List ℕ) (c : Client) → transport_of (settled now told ring c) ≡ Connected → transport_of c ≡ Connected
stood_settled now None ring c stands = stands
stood_settled now (Some content) ring c stands = stood_by now (finds_room content ring) c stands

pub stood_after : (now : ℕ) (input : Input) (ring : List ℕ) (c : Client) → transport_of (client_after now input ring c) ≡ Connected → transport_of (row now c input).client ≡ Connected
stood_after now input ring c stands = stood_settled now (row now c input).said ring (row now c input).client stands

-- what is queued and not yet handed out is the ring
pub waiting_is : (c : Course) (ring : List ℕ) → c.given ++ ring ≡ c.sent → waiting c ≡ ring
waiting_is c ring joins = ap (drop (length c.given)) (sym joins) ∙ drop_at c.given ring (length c.given) refl

-- what a row leaves of a session that agrees
client_agrees :
    (now : ℕ) (input : Input) (c : Course) (s : Session) → s.client ≡ c.client → c.given ++ s.ring ≡ c.sent
    → client_after now input s.ring s.client ≡ (taking now input c).client
client_agrees now input c s same joins = rw (same, waiting_is c s.ring joins) refl

ring_agrees :
    (now : ℕ) (input : Input) (c : Course) (s : Session) → s.client ≡ c.client → c.given ++ s.ring ≡ c.sent
    → c.given ++ ring_after now input s.ring s.client ≡ (taking now input c).sent
ring_agrees now input c s same joins =
    rw (same, waiting_is c s.ring joins)
    (sym (append_assoc c.given s.ring (said (row now c.client input).said s.ring)) ∙ ap (λ (octets : List ℕ). octets ++ said (row now c.client input).said s.ring) joins)

-- where a connection stands an octet is heard
heard_on : (transport : Transport) (now : ℕ) (octet : ℕ) (c : Course) → transport ≡ Connected → octet_on transport now octet c ≡ hearing now (completed_in c octet) (longer octet c)
heard_on transport now octet c connected = rw connected refl

item_heard : (transport : Transport) (octet : ℕ) (c : Course) → transport ≡ Connected → item_on transport c octet ≡ completed_in c octet
item_heard transport octet c connected = rw connected refl

-- what is being read behind an octet that completes this or nothing
abbrev pub behind_octet : Reception → ℕ → Option Item → Reception
behind_octet r octet found = record { place = place_after r.place found; part = left_over (r.part ++ octet ∷ []) found }

-- a fault leaves no connection, and what was read of a PDU is passed
passed_is :
    (now : ℕ) (item : Item) (s : Session) (octet : ℕ) → transport_of (client_after now (input_of item) s.ring s.client) ≡ Connected
    → passed s.reading item ≡ behind_octet s.reading octet (Some item)
passed_is now (WholePdu content whole) s octet stands = refl
passed_is now (FaultyPdu fault whole) s octet stands = absurd (fault_closes now s.client fault whole (stood_after now (input_of (FaultyPdu fault whole)) s.ring s.client stands))

-- a session that has begun with this Retry Interval
module _ (retry : ℕ) where
  -- a moment comes
  pub agrees_tick : (h : List Event) (s : Session) (now : ℕ) → SessionAgrees retry h s → SessionAgrees retry (Ticked now ∷ h) (after_input now Tick s)
  agrees_tick h s now a = record {
    client = client_agrees now Tick (course retry h) s a.client a.ring;
    reading = λ stands. a.reading (stood_before now s.client Tick (λ e. cc) (stood_after now Tick s.ring s.client stands));
    ring = ring_agrees now Tick (course retry h) s a.client a.ring;
  }

  -- memory is refused
  pub agrees_refused :
      (h : List Event) (s : Session) (now : ℕ) (item : Item) → now ≡ moment_of h → SessionAgrees retry h s
      → SessionAgrees retry (Refused ∷ h) (after_input now Starved (record { client = s.client; reading = passed s.reading item; ring = s.ring; changed = s.changed }))
  agrees_refused h s now item now_is a = rw now_is (record {
    client = client_agrees (moment_of h) Starved (course retry h) s a.client a.ring;
    reading = λ stands. absurd (starved_closes (moment_of h) s.client (stood_after (moment_of h) Starved s.ring s.client stands));
    ring = ring_agrees (moment_of h) Starved (course retry h) s a.client a.ring;
  })

  pub course-octet :
      (h : List Event) (octet : ℕ) (found : Option Item) → transport_of (client retry h) ≡ Connected → completed_in (course retry h) octet ≡ found
      → course retry (Octet octet ∷ h) ≡ hearing (moment_of h) found (longer octet (course retry h))
  course-octet h octet found connected is =
      heard_on (transport_of (client retry h)) (moment_of h) octet (course retry h) connected
      ∙ ap (λ (x : Option Item). hearing (moment_of h) x (longer octet (course retry h))) is

  -- the item that an octet completes for the session is that of the history
  pub completed_here :
      (h : List Event) (s : Session) (octet : ℕ) (found : Option Item) → transport_of s.client ≡ Connected → meaning s.reading.place (s.reading.part ++ octet ∷ []) ≡ found
      → SessionAgrees retry h s → completed_in (course retry h) octet ≡ found
  completed_here h s octet found connected is a = ap (λ (r : Reception). meaning r.place (r.part ++ octet ∷ [])) (sym (a.reading connected)) ∙ is

  pub stands_here : (h : List Event) (s : Session) → transport_of s.client ≡ Connected → SessionAgrees retry h s → transport_of (client retry h) ≡ Connected
  stands_here h s connected a = ap transport_of (sym a.client) ∙ connected

  pub item_here :
      (h : List Event) (s : Session) (octet : ℕ) (found : Option Item) → transport_of s.client ≡ Connected → meaning s.reading.place (s.reading.part ++ octet ∷ []) ≡ found
      → SessionAgrees retry h s → item_at retry h octet ≡ found
  item_here h s octet found connected is a = item_heard (transport_of (client retry h)) octet (course retry h) (stands_here h s connected a) ∙ completed_here h s octet found connected is a

  read_behind :
      (h : List Event) (s : Session) (octet : ℕ) (found : Option Item) → s.reading ≡ reading_in (course retry h)
      → completed_in (course retry h) octet ≡ found
      → behind_octet s.reading octet found ≡ reading_in (longer octet (course retry h))
  read_behind h s octet found reading_is is =
      rw (place-push first_place (course retry h).stream octet, unread-push first_place (course retry h).stream octet, is, reading_is) refl

  -- an octet comes that completes no item
  pub agrees_octet :
      (h : List Event) (s : Session) (octet : ℕ) → transport_of s.client ≡ Connected → meaning s.reading.place (s.reading.part ++ octet ∷ []) ≡ None
      → SessionAgrees retry h s → SessionAgrees retry (Octet octet ∷ h) (with_octets s (octet ∷ []))
  agrees_octet h s octet connected none a =
      let completed : completed_in (course retry h) octet ≡ None = completed_here h s octet None connected none a in
      let next : course retry (Octet octet ∷ h) ≡ longer octet (course retry h) = course-octet h octet None (stands_here h s connected a) completed in
      record {
        client = a.client ∙ ap (λ (c : Course). c.client) (sym next);
        reading = λ stands. read_behind h s octet None (a.reading connected) completed ∙ ap reading_in (sym next);
        ring = ap (λ (c : Course). c.given ++ s.ring) next ∙ a.ring ∙ ap (λ (c : Course). c.sent) (sym next);
      }

  -- an octet comes that completes this item
  pub agrees_item :
      (h : List Event) (s : Session) (now octet : ℕ) (item : Item) → now ≡ moment_of h → transport_of s.client ≡ Connected
      → meaning s.reading.place (s.reading.part ++ octet ∷ []) ≡ Some item → SessionAgrees retry h s
      → SessionAgrees retry (Octet octet ∷ h) (after_input now (input_of item) (record { client = s.client; reading = passed s.reading item; ring = s.ring; changed = s.changed }))
  agrees_item h s now octet item now_is connected some a =
      let completed : completed_in (course retry h) octet ≡ Some item = completed_here h s octet (Some item) connected some a in
      let next : course retry (Octet octet ∷ h) ≡ taking (moment_of h) (input_of item) (longer octet (course retry h)) = course-octet h octet (Some item) (stands_here h s connected a) completed in
      rw now_is (record {
        client = client_agrees (moment_of h) (input_of item) (longer octet (course retry h)) s a.client a.ring ∙ ap (λ (c : Course). c.client) (sym next);
        reading = λ stands.
            passed_is (moment_of h) item s octet stands ∙ read_behind h s octet (Some item) (a.reading connected) completed
            ∙ ap reading_in (sym next);
        ring = ap (λ (c : Course). c.given ++ ring_after (moment_of h) (input_of item) s.ring s.client) next
            ∙ ring_agrees (moment_of h) (input_of item) (longer octet (course retry h)) s a.client a.ring ∙ ap (λ (c : Course). c.sent) (sym next);
      })
