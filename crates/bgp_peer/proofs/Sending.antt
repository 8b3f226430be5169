-- What is queued on a connection, read as messages.
use Rattle.std.proofs.Common.{◌≡◌, ℕ, Bool, true, false, List, [], ◌∷◌, ◌++◌, Option, Some, None, inl, inr, length, if◌then◌else◌, ap, ◌∙◌, arith}
use Rattle.bgp_msg.specs.declared.frame.MessageType.TheVariants.{Open as OpenType, Update, Notification as NotificationType, Keepalive as KeepaliveType}
use Rattle.bgp_msg.specs.MessageSpelling.{open_body, update_body}
use Rattle.bgp_msg.specs.Notifications.{notification_body}
use Rattle.bgp_msg.specs.MessageStream.{Item, WholeMessage, FaultyHeader, Splits, messages, unread}
use Rattle.bgp_msg.proofs.Streams.{message-then, none-from_wants, splits}
use Rattle.bgp_msg.proofs.StreamPieces.{messages-push, messages-anew, messages-nil, read_alone}
use Rattle.bgp_msg.proofs.WrittenMessages.{keepalive_first, notification_first, open_first, update_is_message}
use Rattle.bgp_fsm.specs.declared.session.Outgoing.{Outgoing}
use Rattle.bgp_fsm.specs.declared.session.Outgoing.TheVariants.{Open, Keepalive, Notification as Notify}
use Rattle.bgp_peer.specs.Slot.{octets_of, is_queued}
use Rattle.bgp_peer.specs.SessionInputs.{stream}
use Rattle.bgp_peer.specs.SentMessages.{sent}
use Rattle.bgp_peer.specs.Laws.{AreMessages, OctetsAreMessages, NothingIsLeftUntaken, SentAreMessages, WrittenIsUpdate, QueuedIsReadLast, SaysNoUpdate, RowsSayNoUpdate}
use Rattle.bgp_peer.proofs.Connections.{connected_wants}

pub octets_are_messages : OctetsAreMessages
octets_are_messages h octet = messages-push (stream h) octet

pub nothing_is_left_untaken : NothingIsLeftUntaken
nothing_is_left_untaken h connected = none-from_wants (unread (stream h)) (connected_wants h connected)

-- what is read to its end has no faulty header
are_messages : (octets : List ℕ) (items : List Item) (rest : List ℕ) → Splits octets items rest → rest ≡ [] → AreMessages items
are_messages octets [] rest h none = tt
are_messages octets (WholeMessage kind body ∷ items) rest h none = are_messages h.1 items rest h.4 none
are_messages octets (FaultyHeader fault ∷ items) rest h none =
    let empty : length rest ≡ 0 = ap length none in
    omega (arith, empty, h.2)

pub sent_are_messages : SentAreMessages
sent_are_messages h p a = are_messages (sent h) _ _ (splits (sent h)) a.whole

pub written_is_update : WrittenIsUpdate
written_is_update withdrawn attributes announced fits = (
  update_body withdrawn attributes announced,
  update_is_message withdrawn attributes announced fits,
)

pub queued_is_read_last : QueuedIsReadLast
queued_is_read_last h p update a whole =
    messages-anew (sent h) update a.whole
    ∙ ap (λ (items : List Item). messages (sent h) ++ items) (read_alone update Update whole.0 (λ more. message-then update more Update whole.0 whole.1)).0

-- what a row says is an OPEN, a KEEPALIVE, a NOTIFICATION or nothing
says_none : SaysNoUpdate []
says_none = inl messages-nil

octets_say_none : (message : Option Outgoing) → SaysNoUpdate (octets_of message)
octets_say_none None = says_none
octets_say_none (Some (Open own)) =
    inr (OpenType, open_body own.multiprotocol own.asn.0 own.hold_time own.identifier, (read_alone _ _ _ (open_first own.multiprotocol own.asn.0 own.hold_time own.identifier)).0, λ e. cc)
octets_say_none (Some Keepalive) = inr (KeepaliveType, [], (read_alone _ _ _ keepalive_first).0, λ e. cc)
octets_say_none (Some (Notify told)) = inr (NotificationType, notification_body told, (read_alone _ _ _ (notification_first told)).0, λ e. cc)

if_room : (room : Bool) (octets : List ℕ) → SaysNoUpdate octets → SaysNoUpdate (if room then octets else [])
if_room true octets h = h
if_room false octets h = says_none

pub rows_say_no_update : RowsSayNoUpdate
rows_say_no_update message ring = if_room (is_queued message ring) (octets_of message) (octets_say_none message)
