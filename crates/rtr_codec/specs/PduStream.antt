-- The PDUs of a stream of octets (RFC 8210 section 5). The pieces in which the octets come are no part of it.
use Rattle.std.specs.Prelude.{◌≡◌, ◌⊎◌, ◌<◌, ◌≤◌, ◌-◌, ◌||◌, ℕ, nat_lt, if◌then◌else◌, Bool, true, false, List, [], ◌∷◌, ◌++◌, Option, Some, None, take, drop, length}
use Rattle.octet_streams.specs.Grammar.{Grammar}
use Rattle.octet_streams.specs.Streams.{meaning as item_meant, Splits as AreItems, with_front, wanted_of, items_from, unread_from as unread_behind, place_from as place_behind, items_of_pieces, unread_of_pieces as unread_behind_pieces}
use Rattle.rtr_codec.specs.declared.fault.PduFault.{PduFault}
use Rattle.rtr_codec.specs.declared.fault.PduFault.TheVariants.{Payload}
use Rattle.rtr_codec.specs.declared.place.Place.{Place}
use Rattle.rtr_codec.specs.declared.reading.Step.{Step}
use Rattle.rtr_codec.specs.declared.reading.Step.TheVariants.{Need, Whole, Faulty}
use Rattle.rtr_codec.specs.PduFaults.{header_fault}
use Rattle.rtr_codec.specs.PduSpelling.{Content, Serial_notify, Serial_query, Reset_query, Cache_response, Announce, Withdraw, Ipv6_prefix, End_of_data, Cache_reset, Router_key, Error_report, content_of}
use Rattle.rtr_codec.specs.PduContents.{content_at, told_length}
use Rattle.rtr_codec.specs.PduLimits.{max_pdu}

-- what a stream holds: whole PDUs, each what it says and its octets, and at the end perhaps a fault: of the header, with its 8 octets, or of a whole IPv4 Prefix, with all of it
pub data Item : Type 0 where
  WholePdu : (content : Content) (octets : List ℕ) → Item
  FaultyPdu : (fault : PduFault) (octets : List ℕ) → Item

-- a whole PDU, by what it says: where that is nothing its payload is faulty
abbrev pub item_with : List ℕ → Option Content → Item
item_with octets None = FaultyPdu Payload octets
item_with octets (Some content) = WholePdu content octets

-- the octets are this PDU, from the first to the last: a header without a fault, as many octets as it tells, and a payload where there is to be one
pub record IsPdu (place : Place) (octets : List ℕ) (content : Content) : Type 0 where
  pub whole_header : 8 ≤ length octets
  pub sound : header_fault place octets ≡ None
  pub length_is : length octets ≡ told_length octets
  pub content_is : content_at octets ≡ Some content

-- a fault stands at the front: of the header, with its 8 octets, or of a whole IPv4 Prefix, with all of it
abbrev pub HasFault : Place → List ℕ → PduFault → List ℕ → Type 0
HasFault place octets fault quoted =
    ((8 ≤ length octets) × (header_fault place octets ≡ Some fault) × (quoted ≡ take 8 octets))
    ⊎ ((8 ≤ length octets) × (header_fault place octets ≡ None) × (told_length octets ≤ length octets)
    × (fault ≡ Payload) × (quoted ≡ take (told_length octets) octets) × (content_at quoted ≡ None))

-- whether a PDU is a Cache Response
abbrev pub is_cache_response : Content → Bool
is_cache_response (Serial_notify session serial) = false
is_cache_response (Serial_query session serial) = false
is_cache_response Reset_query = false
is_cache_response (Cache_response session) = true
is_cache_response (Announce payload) = false
is_cache_response (Withdraw payload) = false
is_cache_response (Ipv6_prefix body) = false
is_cache_response (End_of_data session serial intervals) = false
is_cache_response Cache_reset = false
is_cache_response (Router_key body) = false
is_cache_response (Error_report code quoted) = false

abbrev pub is_response : Item → Bool
is_response (WholePdu content octets) = is_cache_response content
is_response (FaultyPdu fault octets) = false

-- the place behind an item
abbrev pub place_after : Place → Option Item → Place
place_after place None = place
place_after place (Some item) = record { end = place.end; is_first = false; has_response = is_response item || place.has_response }

-- nothing is read behind a fault
abbrev pub ends_stream : Item → Bool
ends_stream (WholePdu content octets) = false
ends_stream (FaultyPdu fault octets) = true

-- what octets mean at a place of a connection
unfoldable pub pdu_grammar : Grammar Place PduFault Item
pdu_grammar = record {
  header_length = 8;
  header_fault = λ place octets. header_fault place octets;
  told_length = λ octets. told_length octets;
  whole = λ octets. Some (item_with octets (content_at octets));
  faulty = λ fault octets. FaultyPdu fault octets;
  ends = λ item. ends_stream item;
  behind = λ place item. place_after place (Some item);
}

-- the item that octets are at a place of a connection, from the first to the last
abbrev pub meaning : Place → List ℕ → Option Item
meaning place octets = item_meant pdu_grammar place octets

-- the stream is these items one after another, and then the rest: with no item at its front, or with the fault that ends the stream
abbrev pub Splits : Place → List ℕ → List Item → List ℕ → Type 0
Splits place stream items rest = AreItems pdu_grammar place stream items rest

-- what is unread once the octets are this item: nothing behind a PDU, all from a fault on
abbrev pub left_over : List ℕ → Option Item → List ℕ
left_over octets None = octets
left_over octets (Some item) = if ends_stream item then octets else []

-- the items that more octets complete behind what is unread
abbrev pub pdus_from : Place → List ℕ → List ℕ → List Item
pdus_from place part octets = items_from pdu_grammar place part octets

-- what is unread behind them
abbrev pub unread_from : Place → List ℕ → List ℕ → List ℕ
unread_from place part octets = unread_behind pdu_grammar place part octets

-- where the connection stands behind them
abbrev pub place_from : Place → List ℕ → List ℕ → Place
place_from place part octets = place_behind pdu_grammar place part octets

-- the PDUs of a stream from a place on, and what no PDU of it has taken
abbrev pub pdus : Place → List ℕ → List Item
pdus place stream = pdus_from place [] stream

abbrev pub unread : Place → List ℕ → List ℕ
unread place stream = unread_from place [] stream

-- what a reader of pieces finds that keeps what is unread
abbrev pub pdus_of_pieces : Place → List ℕ → List (List ℕ) → List Item
pdus_of_pieces place part pieces = items_of_pieces pdu_grammar place part pieces

-- and what it keeps at the end
abbrev pub unread_of_pieces : Place → List ℕ → List (List ℕ) → List ℕ
unread_of_pieces place part pieces = unread_behind_pieces pdu_grammar place part pieces

-- the octets complete this item or none behind what is unread, and those behind them are read behind it
abbrev pub GoesOn : Place → List ℕ → List ℕ → Option Item → List ℕ → Type 0
GoesOn place part octets found more =
    (pdus_from place part (octets ++ more) ≡ with_front found (pdus_from (place_after place found) (left_over (part ++ octets) found) more))
    × (unread_from place part (octets ++ more) ≡ unread_from (place_after place found) (left_over (part ++ octets) found) more)
    × (place_from place part (octets ++ more) ≡ place_from (place_after place found) (left_over (part ++ octets) found) more)

-- the octets are read as this PDU, whatever follows them
abbrev pub IsReadFirst : Place → List ℕ → Content → Type 0
IsReadFirst place octets content =
    (more : List ℕ)
    → (pdus place (octets ++ more) ≡ WholePdu content octets ∷ pdus (place_after place (Some (WholePdu content octets))) more)
    × (unread place (octets ++ more) ≡ unread (place_after place (Some (WholePdu content octets))) more)

-- What a reader answers for the front of a stream.

-- no whole header, or a header without a fault before the end of its PDU
abbrev pub Wants : Place → List ℕ → Type 0
Wants place octets =
    (length octets < 8) ⊎ ((8 ≤ length octets) × (header_fault place octets ≡ None) × (length octets < told_length octets))

-- what a reader answers: its PDU is the octets up to the length that the header tells
abbrev pub Tells : Place → List ℕ → Step → Type 0
Tells place octets Need = Wants place octets
Tells place octets (Whole pdu used) =
    (8 ≤ used) × (used ≤ max_pdu) × (used ≤ length octets) × (used ≡ told_length octets)
    × (header_fault place octets ≡ None) × (content_at (take used octets) ≡ Some (content_of pdu))
Tells place octets (Faulty fault quoted) = HasFault place octets fault quoted.now

-- a reader's answer is the front of the stream, whatever follows the octets: nothing is whole yet; the PDU comes first, and those behind the octets it used come next; or the fault is all
abbrev pub IsFront : Place → List ℕ → Step → Type 0
IsFront place octets Need = (pdus place octets ≡ []) × (unread place octets ≡ octets)
IsFront place octets (Whole pdu used) =
    (more : List ℕ) →
    pdus place (octets ++ more)
    ≡ WholePdu (content_of pdu) (take used octets)
    ∷ pdus (place_after place (Some (WholePdu (content_of pdu) (take used octets)))) (drop used octets ++ more)
IsFront place octets (Faulty fault quoted) = (more : List ℕ) → pdus place (octets ++ more) ≡ FaultyPdu fault quoted.now ∷ []

-- how many more octets are wanted before an answer
abbrev pub needed_of : Place → List ℕ → ℕ
needed_of place octets =
    if nat_lt (length octets) 8 then 8 - length octets else wanted_of (header_fault place octets) (told_length octets) (length octets)
