-- What octets add to a session, and how much of its ring is free.
use Rattle.std.proofs.Common.{◌≡◌, ◌≢◌, ◌≤◌, ◌+◌, inl, inr, ℕ, Bool, true, false, not, ◌||◌, List, [], ◌∷◌, ◌++◌, length, drop, Option, Some, None, if◌then◌else◌, refl, ap, sym, subst, ◌∙◌, arith, append-nil, length-append, length-drop}
use Rattle.std.proofs.lemmas.Bool.{leb-true}
use Rattle.net_prefix.specs.declared.transport.Transport.{Transport}
use Rattle.net_prefix.specs.declared.transport.Transport.TheVariants.{None as NoConnection, Opening as Connecting, Listening, Open as Connected, Closing}
use Rattle.octet_streams.specs.Streams.{with_front}
use Rattle.rtr_codec.specs.ClientTable.{Client, Input, Up, Fail, Tick, No_room, Starved, row, transport_of}
use Rattle.rtr_codec.specs.PduSpelling.{Content, length_of, spelling}
use Rattle.rtr_codec.specs.PduStream.{Item, WholePdu, FaultyPdu, pdus}
use Rattle.rtr_codec.proofs.Spellings.{length-spelling}
use Rattle.rtr_session.specs.Agreement.{SessionAgrees}
use Rattle.rtr_session.specs.Laws.{OctetsArePdus, PiecesJoin, ReportsFindRoom}
use Rattle.rtr_session.specs.SessionHistory.{Event, Came_up, Failed, Octet, Refused, Handed, Ticked, Course, anew, client, completed_in, course, first_place, hearing, item_on, longer, moment_of, octet_on, onto, taking, waiting}
use Rattle.rtr_session.specs.SessionState.{Session, finds_room, input_of, is_query, said, settled}
use Rattle.rtr_session.proofs.ClientRows.{Says, no_room_closes, says, stood_before}
use Rattle.rtr_session.proofs.Agreeing.{stood_after, waiting_is}
use Rattle.rtr_session.proofs.Pieces.{onto-append}
use Rattle.rtr_session.proofs.Pushing.{pdus-push}

pub pieces_join : PiecesJoin
pieces_join front back h = onto-append front back h

-- Octets where no connection stands.

dropped : (transport : Transport) (now octet : ℕ) (c : Course) → transport ≢ Connected → octet_on transport now octet c ≡ c
dropped NoConnection now octet c shut = refl
dropped Connecting now octet c shut = refl
dropped Listening now octet c shut = refl
dropped Connected now octet c shut = absurd (shut refl)
dropped Closing now octet c shut = refl

module _ (retry : ℕ) where
  agrees_dropped : (h : List Event) (s : Session) (octet : ℕ) → transport_of s.client ≢ Connected → SessionAgrees retry h s → SessionAgrees retry (Octet octet ∷ h) s
  agrees_dropped h s octet shut a =
      let same : course retry (Octet octet ∷ h) ≡ course retry h = dropped (transport_of (client retry h)) (moment_of h) octet (course retry h) (λ e. shut (ap transport_of a.client ∙ e)) in
      record {
        client = a.client ∙ ap (λ (c : Course). c.client) (sym same);
        reading = λ stands. absurd (shut stands);
        ring = ap (λ (c : Course). c.given ++ s.ring) same ∙ a.ring ∙ ap (λ (c : Course). c.sent) (sym same);
      }

  pub octets_are_dropped : (h : List Event) (s : Session) (octets : List ℕ) → transport_of s.client ≢ Connected → SessionAgrees retry h s → SessionAgrees retry (onto octets h) s
  octets_are_dropped h s [] shut a = a
  octets_are_dropped h s (octet ∷ octets) shut a = octets_are_dropped (Octet octet ∷ h) s octets shut (agrees_dropped h s octet shut a)

-- The PDUs of the stream.

heard_stream : (now : ℕ) (found : Option Item) (c : Course) → (hearing now found c).stream ≡ c.stream
heard_stream now None c = refl
heard_stream now (Some item) c = refl

pdus_on : (transport : Transport) (now octet : ℕ) (c : Course) → pdus first_place (octet_on transport now octet c).stream ≡ pdus first_place c.stream ++ with_front (item_on transport c octet) []
pdus_on NoConnection now octet c = sym (append-nil (pdus first_place c.stream))
pdus_on Connecting now octet c = sym (append-nil (pdus first_place c.stream))
pdus_on Listening now octet c = sym (append-nil (pdus first_place c.stream))
pdus_on Connected now octet c = ap (pdus first_place) (heard_stream now (completed_in c octet) (longer octet c)) ∙ pdus-push first_place c.stream octet
pdus_on Closing now octet c = sym (append-nil (pdus first_place c.stream))

pub octets_are_pdus : OctetsArePdus
octets_are_pdus retry h octet = pdus_on (transport_of (client retry h)) (moment_of h) octet (course retry h)

-- The room of the ring.

-- a query behind which the session stands found room
found_by : (now : ℕ) (room : Bool) (c : Client) → transport_of (if room then c else (row now c No_room).client) ≡ Connected → room ≡ true
found_by now true c stands = refl
found_by now false c stands = absurd (no_room_closes now c stands)

room_by : (query room : Bool) → query ≡ true → (not query || room) ≡ true → room ≡ true
room_by true room is h = h
room_by false room is h = absurd cc

-- what a row adds to the ring leaves room, while the connection stands
said_fits :
    (now : ℕ) (told : Option Content) (ring : List ℕ) (before c : Client) → Says told before c → transport_of (settled now told ring c) ≡ Connected → length ring + 48 ≤ 4096
    → length ring + length (said told ring) + 48 ≤ 4096
said_fits now None ring before c h stands room = omega arith
said_fits now (Some content) ring before c (inl query) stands room =
    let found : finds_room content ring ≡ true = found_by now (finds_room content ring) c stands in
    let free : length ring + 128 ≤ 4096 = leb-true (length ring + 128) 4096 (room_by (is_query content) _ query.0 found) in
    let octets : said (Some content) ring ≡ spelling content = rw found refl in
    let short : length (said (Some content) ring) ≡ length_of content = ap length octets ∙ length-spelling content in
    omega (arith, free, short, query.1)
said_fits now (Some content) ring before c (inr report) stands room =
    absurd (report.2 (subst (λ (x : Client). transport_of x ≡ Connected) (settled_is now (finds_room content ring) c stands) stands))
  where
    settled_is : (now : ℕ) (found : Bool) (c : Client) → transport_of (if found then c else (row now c No_room).client) ≡ Connected → (if found then c else (row now c No_room).client) ≡ c
    settled_is now true c stands = refl
    settled_is now false c stands = absurd (no_room_closes now c stands)

-- while the connection stands, an Error Report finds room
abbrev HasRoom : Course → Type 0
HasRoom c = transport_of c.client ≡ Connected → length (waiting c) + 48 ≤ 4096

waiting_longer : (c : Course) (octets : List ℕ) → length (drop (length c.given) (c.sent ++ octets)) ≤ length (waiting c) + length octets
waiting_longer c octets = omega (arith, length-drop (length c.given) (c.sent ++ octets), length-drop (length c.given) c.sent, length-append c.sent octets)

taking_room : (now : ℕ) (input : Input) (c : Course) → (transport_of (row now c.client input).client ≡ Connected → length (waiting c) + 48 ≤ 4096) → HasRoom (taking now input c)
taking_room now input c room stands =
    let fits = said_fits now (row now c.client input).said (waiting c) c.client (row now c.client input).client (says now c.client input) stands (room (stood_after now input (waiting c) c.client stands)) in
    omega (arith, fits, waiting_longer c (said (row now c.client input).said (waiting c)))

other_room : (now : ℕ) (input : Input) (c : Course) → input ≢ Up → HasRoom c → HasRoom (taking now input c)
other_room now input c other room = taking_room now input c (λ stands. room (stood_before now c.client input other stands))

input_not_up : (item : Item) → input_of item ≢ Up
input_not_up (WholePdu content octets) e = cc
input_not_up (FaultyPdu fault octets) e = cc

heard_room : (now : ℕ) (found : Option Item) (c : Course) → HasRoom c → HasRoom (hearing now found c)
heard_room now None c room = room
heard_room now (Some item) c room = other_room now (input_of item) c (input_not_up item) room

octet_room : (transport : Transport) (now octet : ℕ) (c : Course) → HasRoom c → HasRoom (octet_on transport now octet c)
octet_room NoConnection now octet c room = room
octet_room Connecting now octet c room = room
octet_room Listening now octet c room = room
octet_room Connected now octet c room = heard_room now (completed_in c octet) (longer octet c) room
octet_room Closing now octet c room = room

pub has_room : (retry : ℕ) (h : List Event) → HasRoom (course retry h)
has_room retry [] stands = absurd cc
has_room retry (Came_up ∷ h) stands = taking_room (moment_of h) Up (anew (course retry h)) (λ e. omega arith) stands
has_room retry (Failed ∷ h) stands = other_room (moment_of h) Fail (anew (course retry h)) (λ e. cc) (λ e. omega arith) stands
has_room retry (Octet octet ∷ h) stands = octet_room (transport_of (client retry h)) (moment_of h) octet (course retry h) (has_room retry h) stands
has_room retry (Refused ∷ h) stands = other_room (moment_of h) Starved (course retry h) (λ e. cc) (has_room retry h) stands
has_room retry (Handed octets ∷ h) stands =
    let before : length (waiting (course retry h)) + 48 ≤ 4096 = has_room retry h stands in
    omega (arith, before, length-drop (length (course retry h).given) (course retry h).sent, length-drop (length ((course retry h).given ++ octets)) (course retry h).sent, length-append (course retry h).given octets)
has_room retry (Ticked now ∷ h) stands = other_room now Tick (course retry h) (λ e. cc) (has_room retry h) stands

pub reports_find_room : ReportsFindRoom
reports_find_room retry h s a stands =
    let ring : waiting (course retry h) ≡ s.ring = waiting_is (course retry h) s.ring a.ring in
    let room : length (waiting (course retry h)) + 48 ≤ 4096 = has_room retry h (ap transport_of (sym a.client) ∙ stands) in
    subst (λ (octets : List ℕ). length octets + 48 ≤ 4096) ring room
