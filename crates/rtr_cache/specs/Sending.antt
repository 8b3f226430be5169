-- What a cache says on one connection.
use Rattle.std.specs.Prelude.{◌≡◌, ◌≤◌, ◌+◌, ℕ, Bool, true, false, List, [], ◌∷◌, ◌++◌, drop, length, take, Option, Some, None}
use Rattle.rtr_codec.specs.declared.place.End.TheVariants.{Cache}
use Rattle.rtr_cache.specs.CacheLimits.{ring_octets, room_for_report}
use Rattle.rtr_cache.specs.CacheTable.{Conn, Shared, hears_item, told_by}
use Rattle.rtr_cache.specs.HandedOut.{Handed, handing, nothing_handed}
use Rattle.rtr_codec.specs.PduSpelling.{Content, spelling}
use Rattle.rtr_codec.specs.PduStream.{Item, Wants}
use Rattle.rtr_codec.specs.Receiving.{Reception}
use Rattle.rtr_cache.specs.Unsaid.{IsResponsePart, IsUnsaid}

-- all of a connection's end but what was read of it
pub record Sending : Type 0 where
  pub is_open : Bool
  pub ring : List ℕ
  pub left : List Content
  pub told : Option ℕ
  pub notified : Option ℕ
  pub handed : Handed

-- the end of a connection, by what was read of it and what is said on it
abbrev pub conn_of : Bool → List ℕ → Sending → Conn
conn_of is_first unread s =
    record { is_open = s.is_open; is_first = is_first; unread = unread; ring = s.ring; left = s.left; told = s.told; notified = s.notified; handed = s.handed }

-- the same behind a PDU: nothing is unread
abbrev pub behind_pdu : Sending → Conn
behind_pdu s = conn_of false [] s

-- a connection that has just come up
abbrev pub fresh_sending : Sending
fresh_sending = record { is_open = true; ring = []; left = []; told = None; notified = None; handed = nothing_handed }

-- the first octets of the ring are handed out
abbrev pub taken : ℕ → Sending → Sending
taken count s = record s { ring = drop count s.ring; handed = handing (take count s.ring) s.handed }

-- a PDU is queued
abbrev pub put : Sending → Content → Sending
put s content = record s { ring = s.ring ++ spelling content }

-- a PDU that may tell a serial is queued
abbrev pub said : Sending → Content → Sending
said s content = record s { ring = s.ring ++ spelling content; told = told_by content s.told }

-- what is queued fits the ring, and while the connection is open an Error Report finds room; a response in progress has something left
pub record IsInOrder (is_open : Bool) (ring : List ℕ) (capacity : ℕ) (response : Option (List Content)) : Type 0 where
  pub capacity_is : capacity ≡ ring_octets
  pub fits : length ring ≤ ring_octets
  pub spare : is_open ≡ true → length ring + room_for_report ≤ ring_octets
  pub unsaid : IsUnsaid response

-- the first PDU that is left is taken for the next one
abbrev pub IsNext : Sending → Sending → Option Content → Type 0
IsNext old new None = (old.left ≡ []) × (new ≡ old)
IsNext old new (Some content) = (old.left ≡ content ∷ new.left) × (new ≡ record old { left = new.left }) × IsResponsePart content

-- while the connection is open, more octets are wanted for the PDU at the front, and no Cache Response was read
pub record IsReceiving (r : Reception) (s : Sending) : Type 0 where
  pub stands : s.is_open ≡ true → r.place ≡ record { end = Cache; is_first = r.place.is_first; has_response = false }
  pub wants : s.is_open ≡ true → Wants r.place r.part

-- what stands at the front of what came is heard; refused: memory refused what it needs
abbrev pub HearsFront : Shared → Option Item → Sending → Sending → Type 0
HearsFront shared None old new = new ≡ old
HearsFront shared (Some item) old new = (refused : Bool) × (behind_pdu new ≡ hears_item shared refused (behind_pdu old) item)
