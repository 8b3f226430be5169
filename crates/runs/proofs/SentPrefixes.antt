use Rattle.std.proofs.Common.{◌≡◌, ℕ, Bool, true, false, List, [], ◌∷◌, ◌++◌, Option, Some, None, cond, refl, sym, ap, ◌∙◌, append-nil}
use Rattle.bgp_fsm.specs.declared.session.Outgoing.{Outgoing}
use Rattle.bgp_fsm.specs.declared.session.Outgoing.TheVariants.{Open, Keepalive, Notification as Notify}
use Rattle.bgp_msg.specs.MessageSpelling.{header_of, open_of}
use Rattle.bgp_msg.specs.Notifications.{notification_of}
use Rattle.bgp_msg.specs.MessageStream.{Item, messages, unread}
use Rattle.bgp_msg.specs.declared.frame.MessageType.TheVariants.{Keepalive as KeepaliveType}
use Rattle.bgp_msg.proofs.StreamPieces.{messages-anew, messages-nil}
use Rattle.bgp_msg.proofs.WrittenMessages.{keepalive_first, notification_first, open_first}
use Rattle.bgp_peer.specs.Slot.{octets_of, is_queued, said}
use Rattle.net_prefix.specs.declared.prefix.Prefix.{Prefix}
use Rattle.runs.specs.Held.{told, told_from, told_in}

-- What queued octets tell of prefixes.

pub told_from-append : (before : Option (List ℕ)) (items more : List Item) (p : Prefix) → told_from before (items ++ more) p ≡ told_from (told_from before items p) more p
told_from-append before [] more p = refl
told_from-append before (item ∷ items) more p = told_from-append (told item p before) items more p

-- octets behind whole messages tell what they tell by themselves
pub told_in-append : (octets more : List ℕ) (p : Prefix) → unread octets ≡ [] → told_in (octets ++ more) p ≡ told_from (told_in octets p) (messages more) p
told_in-append octets more p whole = ap (λ items. told_from None items p) (messages-anew octets more whole) ∙ told_from-append None (messages octets) (messages more) p

pub told_in-nil : (p : Prefix) → told_in [] p ≡ None
told_in-nil p = ap (λ items. told_from None items p) messages-nil

-- what the table's rows say tells nothing of any prefix
octets_tell_nothing : (message : Option Outgoing) (before : Option (List ℕ)) (p : Prefix) → told_from before (messages (octets_of message)) p ≡ before
octets_tell_nothing None before p = ap (λ items. told_from before items p) messages-nil
octets_tell_nothing (Some (Open own)) before p =
    ap (λ octets. told_from before (messages octets) p) (sym (append-nil (open_of own.multiprotocol own.asn.0 own.hold_time own.identifier)))
    ∙ ap (λ items. told_from before items p) (open_first own.multiprotocol own.asn.0 own.hold_time own.identifier []).0
    ∙ ap (λ items. told_from before items p) messages-nil
octets_tell_nothing (Some Keepalive) before p =
    ap (λ octets. told_from before (messages octets) p) (sym (append-nil (header_of KeepaliveType 19)))
    ∙ ap (λ items. told_from before items p) (keepalive_first []).0
    ∙ ap (λ items. told_from before items p) messages-nil
octets_tell_nothing (Some (Notify notice)) before p =
    ap (λ octets. told_from before (messages octets) p) (sym (append-nil (notification_of notice)))
    ∙ ap (λ items. told_from before items p) (notification_first notice []).0
    ∙ ap (λ items. told_from before items p) messages-nil

room_tells_nothing : (room : Bool) (message : Option Outgoing) (before : Option (List ℕ)) (p : Prefix) → told_from before (messages (cond room (octets_of message) [])) p ≡ before
room_tells_nothing true message before p = octets_tell_nothing message before p
room_tells_nothing false message before p = ap (λ items. told_from before items p) messages-nil

pub said_tells_nothing : (message : Option Outgoing) (ring : List ℕ) (before : Option (List ℕ)) (p : Prefix) → told_from before (messages (said message ring)) p ≡ before
said_tells_nothing message ring before p = room_tells_nothing (is_queued message ring) message before p

pub told_in-said : (octets : List ℕ) (message : Option Outgoing) (ring : List ℕ) (p : Prefix) → unread octets ≡ [] → told_in (octets ++ said message ring) p ≡ told_in octets p
told_in-said octets message ring p whole = told_in-append octets (said message ring) p whole ∙ said_tells_nothing message ring (told_in octets p) p
