-- What the rows of the session table leave of a connection, and what they say.
use Rattle.std.proofs.Common.{◌≡◌, ◌≢◌, ℕ, Bool, true, false, ◌+◌, List, [], ◌++◌, Option, Some, None, length, drop, nat_le, if◌then◌else◌, refl, sym, ap, ◌∙◌, append_assoc}
use Rattle.std.proofs.lemmas.List.{drop_at}
use Rattle.bgp_attr.specs.AttributeFaults.{Fault as UpdateFault}
use Rattle.net_prefix.specs.declared.transport.Transport.TheVariants.{Open as Connected}
use Rattle.bgp_msg.specs.declared.fault.OpenFault.{OpenFault}
use Rattle.bgp_msg.specs.declared.frame.MessageType.TheVariants.{Open as OpenType, Update as UpdateType, Notification as NotificationType, Keepalive as KeepaliveType, RouteRefresh as RouteRefreshType}
use Rattle.bgp_msg.specs.MessageFaults.{open_fault}
use Rattle.bgp_msg.specs.MessageStream.{Item, WholeMessage, FaultyHeader, unread}
use Rattle.bgp_msg.specs.UpdateMeaning.{update_fault}
use Rattle.bgp_msg.proofs.StreamPieces.{unread-nil, read_alone}
use Rattle.bgp_msg.proofs.WrittenMessages.{keepalive_first, notification_first, open_first}
use Rattle.bgp_fsm.specs.declared.state.State.{State}
use Rattle.bgp_fsm.specs.declared.input.Input.{Input}
use Rattle.bgp_fsm.specs.declared.input.Input.TheVariants.{Start, Disable, Remove, Up, Fail, UnexpectedOpen, Update, Expires}
use Rattle.bgp_fsm.specs.declared.session.Outgoing.{Outgoing}
use Rattle.bgp_fsm.specs.declared.session.Outgoing.TheVariants.{Open, Keepalive, Notification as Notify}
use Rattle.bgp_fsm.specs.declared.session.Session.{Session}
use Rattle.bgp_fsm.specs.SessionTable.{always, row_at, nothing, session_after, effects_of}
use Rattle.bgp_fsm.specs.StateTests.{is_established, awaits_open, is_message}
use Rattle.bgp_fsm.specs.Transports.{transport_of}
use Rattle.bgp_fsm.proofs.TableLaws.{message_ignored}
use Rattle.bgp_peer.specs.Slot.{Slot, octets_of, is_queued, said, kept, taken_input}
use Rattle.bgp_peer.specs.SessionInputs.{Terms, expected_of, kind_of, input_of, open_input, update_input}

-- an item of a stream is a message
open_is_message : (awaited : Bool) (terms : Terms) (body : List ℕ) (fault : Option OpenFault) → is_message (if awaited then open_input terms body fault else UnexpectedOpen) ≡ true
open_is_message true terms body None = refl
open_is_message true terms body (Some fault) = refl
open_is_message false terms body fault = refl

update_is_message : (read : Bool) (fault : Option UpdateFault) → is_message (if read then update_input fault else Update) ≡ true
update_is_message true None = refl
update_is_message true (Some fault) = refl
update_is_message false fault = refl

pub input_is_message : (state : State) (terms : Terms) (item : Item) → is_message (input_of state terms item) ≡ true
input_is_message state terms (FaultyHeader fault) = refl
input_is_message state terms (WholeMessage OpenType body) = open_is_message (awaits_open state) terms body (open_fault body (expected_of terms))
input_is_message state terms (WholeMessage UpdateType body) = update_is_message (is_established state) (update_fault (kind_of terms) body)
input_is_message state terms (WholeMessage NotificationType body) = refl
input_is_message state terms (WholeMessage KeepaliveType body) = refl
input_is_message state terms (WholeMessage RouteRefreshType body) = refl

-- without a connection it is nothing
pub ignored :
    (s : Session) (terms : Terms) (item : Item) → transport_of s ≢ Connected
    → row_at s.state (input_of s.state terms item) s ≡ (always s, nothing)
ignored s terms item shut = message_ignored (input_of s.state terms item) s (input_is_message s.state terms item) shut

-- a message is dropped from the rest, and leaves the connection's octets
pub taken_message :
    (now : ℕ) (p : Slot) (input : Input) → is_message input ≡ true
    → taken_input now p input ≡ record { session = session_after now input p.session; rest = []; ring = p.ring ++ said (effects_of input p.session).message p.ring }
taken_message now p Start is = absurd (cc)
taken_message now p Disable is = absurd (cc)
taken_message now p Remove is = absurd (cc)
taken_message now p Up is = absurd (cc)
taken_message now p Fail is = absurd (cc)
taken_message now p (Expires timer) is = absurd (cc)
taken_message now p input is = refl

-- an input leaves what stood behind what was handed out, or nothing of both
pub kept_joins : (input : Input) (given ring sent : List ℕ) → given ++ ring ≡ sent → kept input given ++ kept input ring ≡ kept input sent
kept_joins Start given ring sent joins = joins
kept_joins Up given ring sent joins = refl
kept_joins Fail given ring sent joins = refl
kept_joins input given ring sent joins = joins

pub kept_whole : (input : Input) (octets : List ℕ) → unread octets ≡ [] → unread (kept input octets) ≡ []
kept_whole Start octets whole = whole
kept_whole Up octets whole = unread-nil
kept_whole Fail octets whole = unread-nil
kept_whole input octets whole = whole

-- what a row says stands behind the ring
pub said_joins :
    (message : Option Outgoing) (given ring sent : List ℕ) → given ++ ring ≡ sent
    → given ++ (ring ++ said message ring) ≡ sent ++ said message (drop (length given) sent)
said_joins message given ring sent joins =
    let behind : drop (length given) sent ≡ ring = ap (drop (length given)) (sym joins) ∙ drop_at given ring (length given) refl in
    sym (append_assoc given ring (said message ring)) ∙ ap (λ octets. octets ++ said message ring) joins ∙ ap (λ octets. sent ++ said message octets) (sym behind)

-- what a row says is whole
octets_whole : (message : Option Outgoing) → unread (octets_of message) ≡ []
octets_whole None = unread-nil
octets_whole (Some (Open own)) = (read_alone _ _ _ (open_first own.multiprotocol own.asn.0 own.hold_time own.identifier)).1
octets_whole (Some Keepalive) = (read_alone _ _ _ keepalive_first).1
octets_whole (Some (Notify told)) = (read_alone _ _ _ (notification_first told)).1

whole_or_none : (room : Bool) (octets : List ℕ) → unread octets ≡ [] → unread (if room then octets else []) ≡ []
whole_or_none true octets whole = whole
whole_or_none false octets whole = unread-nil

pub said_whole : (message : Option Outgoing) (ring : List ℕ) → unread (said message ring) ≡ []
said_whole message ring = whole_or_none (is_queued message ring) (octets_of message) (octets_whole message)

-- a row without a message says nothing
either_way : (room : Bool) (octets : List ℕ) → (if room then octets else octets) ≡ octets
either_way true octets = refl
either_way false octets = refl

pub says_nothing : (ring : List ℕ) → said None ring ≡ []
says_nothing ring = either_way (nat_le (length ring + 8192) 65536) []
