-- Each thing that happens to a slot that is as a history leaves it leaves it as the longer history does.
use Rattle.std.proofs.Common.{◌≡◌, ◌≢◌, ◌+◌, ◌≤◌, ℕ, false, List, [], ◌∷◌, ◌++◌, Option, Some, None, length, take, drop, refl, ap, sym, subst, ◌∙◌, append_assoc, append-nil}
use Rattle.std.specs.Option.{option_map}
use Rattle.std.proofs.lemmas.List.{drop_at, take-append-drop}
use Rattle.net_prefix.specs.declared.asn.Asn.{Asn}
use Rattle.net_prefix.specs.declared.transport.Transport.TheVariants.{Open as Connected}
use Rattle.bgp_attr.specs.declared.peer.Mode.{Mode}
use Rattle.bgp_msg.specs.declared.frame.MessageType.TheVariants.{Update}
use Rattle.bgp_msg.specs.declared.open_message.OwnOpen.{OwnOpen as OwnOpenMessage}
use Rattle.bgp_msg.specs.MessageStream.{Item, WholeMessage, FaultyHeader, completed, left_over, unread}
use Rattle.bgp_msg.proofs.Streams.{message-then}
use Rattle.bgp_msg.proofs.StreamPieces.{unread-push, unread-anew, unread-nil, read_alone}
use Rattle.bgp_fsm.specs.declared.state.State.TheVariants.{Established}
use Rattle.bgp_fsm.specs.declared.input.Input.{Input}
use Rattle.bgp_fsm.specs.declared.input.Input.TheVariants.{Start, Disable, Remove, Up, Fail, NoMemory, Expires}
use Rattle.bgp_fsm.specs.declared.session.Session.{Session}
use Rattle.bgp_fsm.specs.declared.session.Effects.{Effects}
use Rattle.bgp_fsm.specs.declared.timers.PeerTimers.{PeerTimers}
use Rattle.bgp_fsm.specs.SessionTable.{session_after, effects_of}
use Rattle.bgp_fsm.specs.StateTests.{is_message}
use Rattle.bgp_fsm.specs.Transports.{transport_of}
use Rattle.bgp_fsm.proofs.TableLaws.{fault_closes, no_memory_closes, stood_before}
use Rattle.bgp_peer.specs.Slot.{Slot, said, kept, rest_after, configured, pushed, taken_input, queued, handed}
use Rattle.bgp_peer.specs.SessionInputs.{Event, Configured, Signalled, Octet, Queued, Handed, Ticked, terms_of, stream, item_at, input_of, listed, after, moment_of, session, onto}
use Rattle.bgp_peer.specs.SentMessages.{given, with_said, sent, ring_of}
use Rattle.bgp_peer.specs.Agreement.{IsUpdateMessage, PeerAgrees, holding}
use Rattle.bgp_peer.proofs.Rows.{ignored, input_is_message, taken_message, kept_joins, kept_whole, said_joins, says_nothing, said_whole}

-- a peer is configured
pub agrees-new : (h : List Event) (own : OwnOpenMessage) (mode : Mode) (peer_asn : Asn) (times : PeerTimers)
    → PeerAgrees (Configured (record { own = own; mode = mode; peer_asn = peer_asn }) times ∷ h) (configured own mode times)
agrees-new h own mode peer_asn times = record {
  session = refl;
  rest = λ e. sym unread-nil;
  ring = refl;
  whole = unread-nil;
  lawful = tt;
}

-- an input leaves what is unread of the stream, while the connection stands after it
signal_rest :
    (now : ℕ) (input : Input) (s : Session) (rest octets : List ℕ) → is_message input ≡ false → (transport_of s ≡ Connected → rest ≡ unread octets)
    → transport_of (session_after now input s) ≡ Connected → rest_after input rest ≡ unread (kept input octets)
signal_rest now Start s rest octets is same stands = same (stood_before now Start s (λ e. cc) stands)
signal_rest now Disable s rest octets is same stands = same (stood_before now Disable s (λ e. cc) stands)
signal_rest now Remove s rest octets is same stands = same (stood_before now Remove s (λ e. cc) stands)
signal_rest now Up s rest octets is same stands = sym unread-nil
signal_rest now Fail s rest octets is same stands = sym unread-nil
signal_rest now NoMemory s rest octets is same stands = absurd (no_memory_closes now s stands)
signal_rest now (Expires timer) s rest octets is same stands = same (stood_before now (Expires timer) s (λ e. cc) stands)
signal_rest now input s rest octets is same stands = absurd (cc)

-- an input that is no message
pub agrees-signal : (h : List Event) (p : Slot) (input : Input) → is_message input ≡ false → PeerAgrees h p → PeerAgrees (Signalled input ∷ h) (taken_input (moment_of h) p input)
agrees-signal h p input is a = record {
  session = ap (session_after (moment_of h) input) a.session;
  rest = λ stands. signal_rest (moment_of h) input (session h) p.rest (stream h) is a.rest stands;
  ring = ap (λ (s : Session). kept input (given h) ++ (kept input p.ring ++ said (effects_of input s).message (kept input p.ring))) a.session
      ∙ said_joins (effects_of input (session h)).message (kept input (given h)) (kept input p.ring) (kept input (sent h)) (kept_joins input (given h) p.ring (sent h) a.ring);
  whole = unread-anew (kept input (sent h)) (said (effects_of input (session h)).message (drop (length (kept input (given h))) (kept input (sent h)))) (kept_whole input (sent h) a.whole)
      ∙ said_whole (effects_of input (session h)).message (drop (length (kept input (given h))) (kept input (sent h)));
  lawful = a.lawful;
}

-- the ring is what was queued and not yet handed out
pub ring-is : (h : List Event) (p : Slot) → PeerAgrees h p → ring_of h ≡ p.ring
ring-is h p a = ap (drop (length (given h))) (sym a.ring) ∙ drop_at (given h) p.ring (length (given h)) refl

-- the connection of the slot stands where that of its history does
pub stands : (h : List Event) (p : Slot) → PeerAgrees h p → transport_of p.session ≡ Connected → transport_of (session h) ≡ Connected
stands h p a connected = ap transport_of (sym a.session) ∙ connected

-- what the row of an octet's item says is whole
said_octet_whole : (h : List Event) (item : Option Item) → unread (sent h) ≡ []
    → unread (with_said (moment_of h) (listed (option_map (input_of (session h).state (terms_of h)) item)) (session h) (given h) (sent h)) ≡ []
said_octet_whole h None whole = whole
said_octet_whole h (Some item) whole =
    let message = (effects_of (input_of (session h).state (terms_of h) item) (session h)).message in
    unread-anew (sent h) (said (effects_of (input_of (session h).state (terms_of h) item) (session h)).message (ring_of h)) whole
    ∙ said_whole (effects_of (input_of (session h).state (terms_of h) item) (session h)).message (ring_of h)

-- an octet that completes no item leaves the session and what was queued
pub quiet_octet : (h : List Event) (octet : ℕ) → item_at h octet ≡ None → (session (Octet octet ∷ h) ≡ session h) × (sent (Octet octet ∷ h) ≡ sent h)
quiet_octet h octet none = (
  ap (λ item. after (moment_of h) (listed (option_map (input_of (session h).state (terms_of h)) item)) (session h)) none,
  ap (λ item. with_said (moment_of h) (listed (option_map (input_of (session h).state (terms_of h)) item)) (session h) (given h) (sent h)) none,
)

-- one that completes this item is its input
pub item_octet : (h : List Event) (octet : ℕ) (item : Item) → item_at h octet ≡ Some item
    → (session (Octet octet ∷ h) ≡ session_after (moment_of h) (input_of (session h).state (terms_of h) item) (session h))
    × (sent (Octet octet ∷ h) ≡ sent h ++ said (effects_of (input_of (session h).state (terms_of h) item) (session h)).message (ring_of h))
item_octet h octet item some = (
  ap (λ found. after (moment_of h) (listed (option_map (input_of (session h).state (terms_of h)) found)) (session h)) some,
  ap (λ found. with_said (moment_of h) (listed (option_map (input_of (session h).state (terms_of h)) found)) (session h) (given h) (sent h)) some,
)

-- the item that an octet completes, coming to an open connection
pub item_of_rest : (h : List Event) (p : Slot) (octet : ℕ) (found : Option Item) → transport_of p.session ≡ Connected → completed p.rest octet ≡ found → PeerAgrees h p → item_at h octet ≡ found
item_of_rest h p octet found connected is a = ap (λ rest. completed rest octet) (sym (a.rest (stands h p a connected))) ∙ is

-- an octet comes that completes no item
pub agrees-octet : (h : List Event) (p : Slot) (octet : ℕ) → transport_of p.session ≡ Connected → completed p.rest octet ≡ None
    → PeerAgrees h p → PeerAgrees (Octet octet ∷ h) (pushed p (octet ∷ []))
agrees-octet h p octet connected none a =
    let read : p.rest ≡ unread (stream h) = a.rest (stands h p a connected) in
    let no_item : item_at h octet ≡ None = item_of_rest h p octet None connected none a in
    let quiet = quiet_octet h octet no_item in
    record {
      session = a.session ∙ sym quiet.0;
      rest = λ e. ap (λ rest. rest ++ octet ∷ []) read ∙ ap (left_over (unread (stream h) ++ octet ∷ [])) (sym no_item) ∙ sym (unread-push (stream h) octet);
      ring = a.ring ∙ sym quiet.1;
      whole = said_octet_whole h (item_at h octet) a.whole;
      lawful = a.lawful;
    }

-- without a connection no octet changes anything
pub shut_octet : (h : List Event) (octet : ℕ) (found : Option Item) → item_at h octet ≡ found → transport_of (session h) ≢ Connected
    → (session (Octet octet ∷ h) ≡ session h) × (sent (Octet octet ∷ h) ≡ sent h)
shut_octet h octet None is shut = quiet_octet h octet is
shut_octet h octet (Some item) is shut =
    let nothing_done = ignored (session h) (terms_of h) item shut in
    let next = item_octet h octet item is in (
      next.0 ∙ ap (λ (row : (ℕ → Session) × Effects). row.0 (moment_of h)) nothing_done,
      next.1 ∙ ap (λ (row : (ℕ → Session) × Effects). sent h ++ said row.1.message (ring_of h)) nothing_done ∙ ap (λ octets. sent h ++ octets) (says_nothing (ring_of h)) ∙ append-nil (sent h),
    )

agrees-ignored : (h : List Event) (p : Slot) (octet : ℕ) → transport_of p.session ≢ Connected → PeerAgrees h p → PeerAgrees (Octet octet ∷ h) p
agrees-ignored h p octet shut a =
    let shut_after : transport_of (session h) ≢ Connected = λ e. shut (ap transport_of a.session ∙ e) in
    let same = shut_octet h octet _ refl shut_after in
    record {
      session = a.session ∙ sym same.0;
      rest = λ e. absurd (shut_after (ap transport_of (sym same.0) ∙ e));
      ring = a.ring ∙ sym same.1;
      whole = said_octet_whole h (item_at h octet) a.whole;
      lawful = a.lawful;
    }

pub agrees-shut : (h : List Event) (p : Slot) (octets : List ℕ) → transport_of p.session ≢ Connected → PeerAgrees h p → PeerAgrees (onto octets h) p
agrees-shut h p [] shut a = a
agrees-shut h p (octet ∷ octets) shut a = agrees-shut (Octet octet ∷ h) p octets shut (agrees-ignored h p octet shut a)

-- one octets after another, and then others
pub onto-append : (front back : List ℕ) (h : List Event) → onto (front ++ back) h ≡ onto back (onto front h)
onto-append [] back h = refl
onto-append (octet ∷ front) back h = onto-append front back (Octet octet ∷ h)

-- nothing is left of a message, and the header fault that leaves something closes the connection
left_if_stands :
    (h : List Event) (octet : ℕ) (item : Item) → transport_of (session_after (moment_of h) (input_of (session h).state (terms_of h) item) (session h)) ≡ Connected
    → [] ≡ left_over (unread (stream h) ++ octet ∷ []) (Some item)
left_if_stands h octet (WholeMessage kind body) e = refl
left_if_stands h octet (FaultyHeader fault) e = absurd (fault_closes (moment_of h) _ (session h) e)

-- the item that an octet completes is taken
pub agrees-input :
    (h : List Event) (p : Slot) (part : List ℕ) (octet : ℕ) (item : Item) → transport_of p.session ≡ Connected → completed part octet ≡ Some item
    → PeerAgrees h (holding part p) → PeerAgrees (Octet octet ∷ h) (taken_input (moment_of h) p (input_of p.session.state (terms_of h) item))
agrees-input h p part octet item connected some a =
    let some_item : item_at h octet ≡ Some item = item_of_rest h (holding part p) octet (Some item) connected some a in
    let next = item_octet h octet item some_item in
    let state = ap (λ (s : Session). s.state) a.session in
    rw (taken_message (moment_of h) p (input_of p.session.state (terms_of h) item) (input_is_message p.session.state (terms_of h) item)) (record {
      session = ap (λ (s : Session). session_after (moment_of h) (input_of s.state (terms_of h) item) s) a.session ∙ sym next.0;
      rest = λ e. left_if_stands h octet item (ap transport_of (sym next.0) ∙ e) ∙ ap (left_over (unread (stream h) ++ octet ∷ [])) (sym some_item) ∙ sym (unread-push (stream h) octet);
      ring = ap (λ (s : Session). given h ++ (p.ring ++ said (effects_of (input_of s.state (terms_of h) item) s).message p.ring)) a.session
          ∙ said_joins (effects_of (input_of (session h).state (terms_of h) item) (session h)).message (given h) p.ring (sent h) a.ring ∙ sym next.1;
      whole = said_octet_whole h (item_at h octet) a.whole;
      lawful = a.lawful;
    })

-- an UPDATE is a whole message
pub update_whole : (update : List ℕ) → IsUpdateMessage update → unread update ≡ []
update_whole update u = (read_alone update Update u.0 (λ more. message-then update more Update u.0 u.1)).1

-- an UPDATE is queued
pub agrees-queue :
    (h : List Event) (p : Slot) (update : List ℕ) → p.session.state ≡ Established → IsUpdateMessage update → length p.ring + 8192 ≤ 65536
    → PeerAgrees h p → PeerAgrees (Queued update ∷ h) (queued p update)
agrees-queue h p update established whole room a = record {
  session = a.session;
  rest = a.rest;
  ring = sym (append_assoc (given h) p.ring update) ∙ ap (λ octets. octets ++ update) a.ring;
  whole = unread-anew (sent h) update a.whole ∙ update_whole update whole;
  lawful = ((ap (λ (s : Session). s.state) (sym a.session) ∙ established, whole, subst (λ ring. length ring + 8192 ≤ 65536) (sym (ring-is h p a)) room), a.lawful);
}

-- a moment comes
pub agrees-tick : (h : List Event) (p : Slot) (now : ℕ) → PeerAgrees h p → PeerAgrees (Ticked now ∷ h) p
agrees-tick h p now a = record { session = a.session; rest = a.rest; ring = a.ring; whole = a.whole; lawful = a.lawful }

-- octets are handed out
pub agrees-take : (h : List Event) (p : Slot) (count : ℕ) → PeerAgrees h p → PeerAgrees (Handed (take count p.ring) ∷ h) (handed p count)
agrees-take h p count a = record {
  session = a.session;
  rest = a.rest;
  ring = append_assoc (given h) (take count p.ring) (drop count p.ring) ∙ ap (λ octets. given h ++ octets) (take-append-drop count p.ring) ∙ a.ring;
  whole = a.whole;
  lawful = a.lawful;
}
