-- The payloads in force, by the octets as they came.
use Rattle.std.proofs.Common.{◌≡◌, ◌≢◌, ◌++◌, ℕ, List, [], ◌∷◌, Option, Some, None, refl, ap, sym, ◌∙◌}
use Rattle.net_prefix.specs.declared.payload.Vrp.{Vrp}
use Rattle.net_prefix.specs.declared.transport.Transport.{Transport}
use Rattle.net_prefix.specs.declared.transport.Transport.TheVariants.{None as NoConnection, Opening as Connecting, Listening, Open as Connected, Closing}
use Rattle.octet_streams.specs.Streams.{with_front}
use Rattle.rtr_codec.specs.ClientTable.{Starved, Tick, in_force, transport_of}
use Rattle.rtr_codec.specs.PduSpelling.{End_of_data}
use Rattle.rtr_codec.specs.PduStream.{Item, WholePdu, pdus}
use Rattle.rtr_session.specs.SessionHistory.{Event, Came_up, Failed, Octet, Refused, Handed, Ticked, Course, client, completed_in, course, first_place, hearing, item_at, item_on, longer, moment_of, octet_on, stream, waiting}
use Rattle.rtr_session.proofs.Agreeing.{stood_after}
use Rattle.rtr_session.proofs.ClientRows.{starved_closes, stood_before}
use Rattle.rtr_session.proofs.SessionLaws.{octets_are_pdus}
use Rattle.payload_times.proofs.Times.{payloads_are_unexpired}
use Rattle.payload_times.specs.PayloadTimes.{AreUnexpired, HasFreshEnd, arrived}

hearing_stream : (now : ℕ) (found : Option Item) (c : Course) → (hearing now found c).stream ≡ c.stream
hearing_stream now None c = refl
hearing_stream now (Some item) c = refl

-- an octet on a connection that stands is one more of its stream
octet_stream : (transport : Transport) (now octet : ℕ) (c : Course) → transport ≡ Connected → (octet_on transport now octet c).stream ≡ c.stream ++ octet ∷ []
octet_stream NoConnection now octet c is = absurd cc
octet_stream Connecting now octet c is = absurd cc
octet_stream Listening now octet c is = absurd cc
octet_stream Connected now octet c is = hearing_stream now (completed_in c octet) (longer octet c)
octet_stream Closing now octet c is = absurd cc

-- a connection that stands behind an octet stood before it
pub octet_stood : (transport : Transport) (now octet : ℕ) (c : Course) → transport_of c.client ≡ transport → transport_of (octet_on transport now octet c).client ≡ Connected → transport ≡ Connected
octet_stood NoConnection now octet c is stands = sym is ∙ stands
octet_stood Connecting now octet c is stands = sym is ∙ stands
octet_stood Listening now octet c is stands = sym is ∙ stands
octet_stood Connected now octet c is stands = refl
octet_stood Closing now octet c is stands = sym is ∙ stands

pub item_stands : (transport : Transport) (c : Course) (octet : ℕ) (item : Item) → item_on transport c octet ≡ Some item → transport ≡ Connected
item_stands NoConnection c octet item is = absurd cc
item_stands Connecting c octet item is = absurd cc
item_stands Listening c octet item is = absurd cc
item_stands Connected c octet item is = refl
item_stands Closing c octet item is = absurd cc

-- of a session that has begun with this Retry Interval
module _ (retry : ℕ) where
  -- while a connection stands its stream is what arrived
  pub arrived_is : (h : List Event) → transport_of (client retry h) ≡ Connected → stream retry h ≡ arrived h
  arrived_is [] stands = refl
  arrived_is (Came_up ∷ h) stands = refl
  arrived_is (Failed ∷ h) stands = refl
  arrived_is (Octet octet ∷ h) stands =
      let stood = octet_stood (transport_of (client retry h)) (moment_of h) octet (course retry h) refl stands in
      octet_stream (transport_of (client retry h)) (moment_of h) octet (course retry h) stood ∙ ap (λ (x : List ℕ). x ++ octet ∷ []) (arrived_is h stood)
  arrived_is (Refused ∷ h) stands = absurd (starved_closes (moment_of h) (client retry h) (stood_after (moment_of h) Starved (waiting (course retry h)) (client retry h) stands))
  arrived_is (Handed octets ∷ h) stands = arrived_is h stands
  arrived_is (Ticked now ∷ h) stands = arrived_is h (stood_before now (client retry h) Tick (λ e. cc) (stood_after now Tick (waiting (course retry h)) (client retry h) stands))

  -- what an octet completes on the connection it completes of what arrived
  pub item_arrives : (h : List Event) (octet : ℕ) (item : Item) → item_at retry h octet ≡ Some item → pdus first_place (arrived (Octet octet ∷ h)) ≡ pdus first_place (arrived h) ++ item ∷ []
  item_arrives h octet item is =
      let stood = item_stands (transport_of (client retry h)) (course retry h) octet item is in
      let here = arrived_is h stood in
      let one = octet_stream (transport_of (client retry h)) (moment_of h) octet (course retry h) stood in
      ap (pdus first_place) (sym (one ∙ ap (λ (x : List ℕ). x ++ octet ∷ []) here)) ∙ octets_are_pdus retry h octet
      ∙ ap (λ (x : List Item). x ++ with_front (item_at retry h octet) []) (ap (pdus first_place) here) ∙ ap (λ (x : Option Item). pdus first_place (arrived h) ++ with_front x []) is

  unfoldable pub fresh_of : (h : List Event) (set : List Vrp) → AreUnexpired retry h set → HasFreshEnd h
  fresh_of h set k = record {
    later = k.later;
    octet = k.octet;
    before = k.before;
    session = k.load.session;
    serial = k.load.serial;
    intervals = k.load.intervals;
    octets = k.load.octets;
    all_are = k.all_are;
    ends = item_arrives k.before k.octet (WholePdu (End_of_data k.load.session k.load.serial k.load.intervals) k.load.octets) k.load.ends;
    lawful = k.load.lawful;
    fresh = k.unexpired;
  }

  pub payloads_are_fresh : (h : List Event) → in_force (client retry h) ≢ [] → HasFreshEnd h
  payloads_are_fresh h some = fresh_of h (in_force (client retry h)) (payloads_are_unexpired retry h some)
