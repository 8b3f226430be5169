-- What queueing makes of a connection.
use Rattle.std.proofs.Common.{◌≡◌, ◌≤◌, ℕ, Bool, true, false, List, [], ◌∷◌, refl, ap, sym, ◌∙◌, lit≤, if◌then◌else◌}
use Rattle.rtr_cache.specs.CacheLimits.{longest_pdu}
use Rattle.rtr_cache.specs.CacheTable.{Conn, Shared, has_room, notified, pumped, queued, queues, wants_notify}
use Rattle.rtr_codec.specs.PduSpelling.{Content, Cache_response, Announce, Withdraw, End_of_data, length_of}
use Rattle.rtr_codec.specs.Receiving.{Reception}
use Rattle.rtr_cache.proofs.QueueingLaws.{same-queues}
use Rattle.rtr_cache.specs.Sending.{IsReceiving, Sending, conn_of, said}
use Rattle.rtr_cache.specs.Unsaid.{IsResponsePart}

-- both branches of a choice
either : (b : Bool) (x x' y y' : Conn) → x ≡ x' → y ≡ y' → (if b then x else y) ≡ (if b then x' else y')
either true x x' y y' first second = first
either false x x' y y' first second = second

-- what stood as left before is no part of it
queues-left : (conn : Conn) (left contents : List Content) → queues (record conn { left = left }) contents ≡ queues conn contents
queues-left conn left [] = refl
queues-left conn left (content ∷ contents) =
    either (has_room conn.ring) _ _ _ _ (queues-left (queued conn content) left contents) refl

-- one more PDU is queued
first_queued : (b : Bool) (x y : Conn) → b ≡ true → (if b then x else y) ≡ x
first_queued true x y room = refl
first_queued false x y room = cc

with_contents : (conn : Conn) (left contents : List Content) → left ≡ contents → queues conn left ≡ queues conn contents
with_contents conn left contents same = ap (queues conn) same

pub pumped-said :
    (is_first : Bool) (unread : List ℕ) (s : Sending) (content : Content) (rest : List Content) → has_room s.ring ≡ true → s.left ≡ content ∷ rest
    → pumped (conn_of is_first unread (said (record s { left = rest }) content)) ≡ pumped (conn_of is_first unread s)
pumped-said is_first unread s content rest room first =
    queues-left (queued (conn_of is_first unread s) content) rest rest
    ∙ sym (with_contents (conn_of is_first unread s) s.left (content ∷ rest) first ∙ first_queued (has_room s.ring) _ _ room)

-- with no room all stays
full : (b : Bool) (x y : Conn) → b ≡ false → (if b then x else y) ≡ y
full true x y room = cc
full false x y room = refl

queues-full : (conn : Conn) (contents : List Content) → has_room conn.ring ≡ false → queues conn contents ≡ record conn { left = contents }
queues-full conn [] none = refl
queues-full conn (content ∷ contents) none = full (has_room conn.ring) _ _ none

pub pumped-full : (is_first : Bool) (unread : List ℕ) (s : Sending) → has_room s.ring ≡ false → pumped (conn_of is_first unread s) ≡ conn_of is_first unread s
pumped-full is_first unread s none = queues-full (conn_of is_first unread s) s.left none

-- it stays open or closed
either_open : (b is_open : Bool) (x y : Conn) → x.is_open ≡ is_open → y.is_open ≡ is_open → (if b then x else y).is_open ≡ is_open
either_open true is_open x y first second = first
either_open false is_open x y first second = second

notified-open : (shared : Shared) (conn : Conn) → (notified shared conn).is_open ≡ conn.is_open
notified-open shared conn = either_open (wants_notify shared conn) conn.is_open _ _ refl refl

-- the receiver stands as it did where the other part is open as it was
pub still_receiving : (r : Reception) (old new : Sending) → IsReceiving r old → new.is_open ≡ old.is_open → IsReceiving r new
still_receiving r old new receiving same = record {
  stands = λ is_open. receiving.stands (sym same ∙ is_open);
  wants = λ is_open. receiving.wants (sym same ∙ is_open);
}

pub pumped_same_open : (old new : Sending) → conn_of false [] new ≡ pumped (conn_of false [] old) → new.is_open ≡ old.is_open
pumped_same_open old new is = ap (λ (conn : Conn). conn.is_open) is ∙ (same-queues (conn_of false [] old) old.left).0

pub notified_same_open : (shared : Shared) (old new : Sending) → conn_of false [] new ≡ notified shared (conn_of false [] old) → new.is_open ≡ old.is_open
notified_same_open shared old new is = ap (λ (conn : Conn). conn.is_open) is ∙ notified-open shared (conn_of false [] old)

-- a PDU of a response is short
pub part_is_short : (content : Content) → IsResponsePart content → length_of content ≤ longest_pdu
part_is_short (Cache_response session) part = lit≤ tt
part_is_short (Announce payload) part = lit≤ tt
part_is_short (Withdraw payload) part = lit≤ tt
part_is_short (End_of_data session serial intervals) part = lit≤ tt
part_is_short content part = absurd part
