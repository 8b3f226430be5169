use Rattle.std.proofs.Common.{◌≡◌, ◌≢◌, ◌≤◌, ◌<◌, ◌+◌, ℕ, Bool, true, false, nat_le, if◌then◌else◌, List, [], ◌∷◌, ◌++◌, length, refl, ◌∙◌, arith, append_assoc, length-append}
use Rattle.std.proofs.lemmas.Bool.{leb-true, leb-false, and_parts}
use Rattle.rtr_cache.specs.CacheLimits.{ring_octets, room_for_pdu}
use Rattle.rtr_cache.specs.CacheTable.{Conn, has_room, queued, queues}
use Rattle.rtr_codec.specs.PduSpelling.{Content, length_of, spelling}
use Rattle.rtr_codec.specs.Responses.{are_short, spellings}
use Rattle.rtr_codec.proofs.Spellings.{length-spelling}

-- What queueing keeps, and where it stops.

-- what a connection has said and is to say
abbrev said : Conn → List ℕ
said conn = conn.ring ++ spellings conn.left

said_if : (room : Bool) (then_ else_ : Conn) (all : List ℕ) → said then_ ≡ all → said else_ ≡ all → said (if room then then_ else else_) ≡ all
said_if true then_ else_ all h k = h
said_if false then_ else_ all h k = k

pub said-queues : (conn : Conn) (contents : List Content) → said (queues conn contents) ≡ conn.ring ++ spellings contents
said-queues conn [] = refl
said-queues conn (content ∷ contents) =
    said_if (has_room conn.ring) _ _ (conn.ring ++ spellings (content ∷ contents))
    (said-queues (queued conn content) contents ∙ append_assoc conn.ring (spelling content) (spellings contents))
    refl

-- what is left is left at a full ring
abbrev StopsFull : Conn → Type 0
StopsFull conn = conn.left ≢ [] → ring_octets < length conn.ring + room_for_pdu

full_if : (room : Bool) (then_ else_ : Conn) → StopsFull then_ → (room ≡ false → StopsFull else_) → StopsFull (if room then then_ else else_)
full_if true then_ else_ h k = h
full_if false then_ else_ h k = k refl

pub full-queues : (conn : Conn) (contents : List Content) → StopsFull (queues conn contents)
full-queues conn [] = λ some. absurd (some refl)
full-queues conn (content ∷ contents) =
    full_if (has_room conn.ring) _ _ (full-queues (queued conn content) contents) (λ full some. leb-false (length conn.ring + room_for_pdu) ring_octets full)

-- the room that is left
within_if : (room : Bool) (then_ else_ : Conn) (most : ℕ) → (room ≡ true → length then_.ring ≤ most) → length else_.ring ≤ most → length (if room then then_ else else_).ring ≤ most
within_if true then_ else_ most h k = h refl
within_if false then_ else_ most h k = k

pub within-queues :
    (conn : Conn) (contents : List Content) (most : ℕ) → are_short contents ≡ true → ring_octets ≤ most + 104 → length conn.ring ≤ most
    → length (queues conn contents).ring ≤ most
within-queues conn [] most short least h = h
within-queues conn (content ∷ contents) most short least h =
    let both = and_parts (nat_le (length_of content) 24) (are_short contents) short in
    within_if (has_room conn.ring) _ _ most
    (λ room.
    let free : length conn.ring + room_for_pdu ≤ ring_octets = leb-true (length conn.ring + room_for_pdu) ring_octets room in
    let few : length_of content ≤ 24 = leb-true (length_of content) 24 both.0 in
    let count : length (spelling content) ≡ length_of content = length-spelling content in
    let sum : length (conn.ring ++ spelling content) ≡ length conn.ring + length (spelling content) = length-append conn.ring (spelling content) in
    within-queues (queued conn content) contents most both.1 least (omega (arith, free, few, count, sum, least)))
    h

-- nothing else changes
abbrev IsSame : Conn → Conn → Type 0
IsSame after conn = (after.is_open ≡ conn.is_open) × (after.is_first ≡ conn.is_first) × (after.unread ≡ conn.unread) × (after.notified ≡ conn.notified)

same_if : (room : Bool) (then_ else_ conn : Conn) → IsSame then_ conn → IsSame else_ conn → IsSame (if room then then_ else else_) conn
same_if true then_ else_ conn h k = h
same_if false then_ else_ conn h k = k

pub same-queues : (conn : Conn) (contents : List Content) → IsSame (queues conn contents) conn
same-queues conn [] = (refl, refl, refl, refl)
same-queues conn (content ∷ contents) = same_if (has_room conn.ring) _ _ conn (same-queues (queued conn content) contents) (refl, refl, refl, refl)
