-- Laws of the history of a slot: what an octet, an UPDATE and a standing connection are.
use Rattle.std.specs.Prelude.{◌≡◌, ◌≢◌, ◌≤◌, ◌+◌, ◌⊎◌, ℕ, List, [], ◌∷◌, ◌++◌, length, Option}
use Rattle.net_prefix.specs.declared.transport.Transport.TheVariants.{Open as Connected}
use Rattle.bgp_msg.specs.declared.frame.MessageType.{MessageType}
use Rattle.bgp_msg.specs.declared.frame.MessageType.TheVariants.{Update}
use Rattle.bgp_msg.specs.MessageSpelling.{update_of}
use Rattle.bgp_msg.specs.MessageStream.{Item, WholeMessage, FaultyHeader, HasNoItem, Wants, with_front, messages, unread}
use Rattle.bgp_fsm.specs.declared.session.Outgoing.{Outgoing}
use Rattle.bgp_fsm.specs.Transports.{transport_of}
use Rattle.bgp_peer.specs.Slot.{Slot, said}
use Rattle.bgp_peer.specs.SessionInputs.{Event, Octet, Queued, stream, item_at, session, onto}
use Rattle.bgp_peer.specs.SentMessages.{sent}
use Rattle.bgp_peer.specs.Agreement.{IsUpdateMessage, PeerAgrees}
use Rattle.bgp_msg.specs.MessageLimits.{max_message}

-- an octet is the message that it adds to the stream
abbrev pub OctetsAreMessages : Type 0
OctetsAreMessages =
    (h : List Event) (octet : ℕ) → messages (stream (Octet octet ∷ h)) ≡ messages (stream h) ++ with_front (item_at h octet) []

-- while the connection stands, each message of its stream is taken
abbrev pub NothingIsLeftUntaken : Type 0
NothingIsLeftUntaken = (h : List Event) → transport_of (session h) ≡ Connected → HasNoItem (unread (stream h))

-- nor is one left in the rest of the slot, which wants more octets
abbrev pub RestsWantMore : Type 0
RestsWantMore = (h : List Event) (p : Slot) → PeerAgrees h p → transport_of p.session ≡ Connected → Wants p.rest

-- where no connection stands, octets change nothing
abbrev pub OctetsAreIgnored : Type 0
OctetsAreIgnored = (h : List Event) (p : Slot) (octets : List ℕ) → transport_of p.session ≢ Connected → PeerAgrees h p → PeerAgrees (onto octets h) p

-- octets and then others are all of them
abbrev pub PiecesJoin : Type 0
PiecesJoin = (front back : List ℕ) (h : List Event) → onto (front ++ back) h ≡ onto back (onto front h)

-- the items are messages, and no header among them is faulty
abbrev pub AreMessages : List Item → Type 0
AreMessages [] = Unit {0}
AreMessages (WholeMessage kind body ∷ items) = AreMessages items
AreMessages (FaultyHeader fault ∷ items) = ⊥

-- what was queued on a connection is messages one after another
abbrev pub SentAreMessages : Type 0
SentAreMessages = (h : List Event) (p : Slot) → PeerAgrees h p → AreMessages (messages (sent h))

-- a written UPDATE of at most 4,096 octets is one message
abbrev pub WrittenIsUpdate : Type 0
WrittenIsUpdate = (withdrawn attributes announced : List ℕ) → 23 + length withdrawn + length attributes + length announced ≤ max_message → IsUpdateMessage (update_of withdrawn attributes announced)

-- an UPDATE that is queued is read behind what was queued before
abbrev pub QueuedIsReadLast : Type 0
QueuedIsReadLast =
    (h : List Event) (p : Slot) (update : List ℕ) → PeerAgrees h p → (whole : IsUpdateMessage update)
    → messages (sent (Queued update ∷ h)) ≡ messages (sent h) ++ WholeMessage Update whole.0 ∷ []

-- these octets are at most one message, and no UPDATE
abbrev pub SaysNoUpdate : List ℕ → Type 0
SaysNoUpdate octets =
    (messages octets ≡ []) ⊎ ((kind : MessageType) × (body : List ℕ) × (messages octets ≡ WholeMessage kind body ∷ []) × (kind ≢ Update))

-- no row of the session table says an UPDATE
abbrev pub RowsSayNoUpdate : Type 0
RowsSayNoUpdate = (message : Option Outgoing) (ring : List ℕ) → SaysNoUpdate (said message ring)
