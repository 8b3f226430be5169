-- The messages of a stream of octets (RFC 4271 sections 4.1 and 6.1). The pieces in which the octets come are no
-- part of it.
use Rattle.std.specs.Prelude.{◌≡◌, ◌⊎◌, ◌<◌, ◌≤◌, ◌-◌, ℕ, nat_lt, ◌+◌, if◌then◌else◌, Bool, true, false, List, [], ◌∷◌, ◌++◌, Option, Some, None, take, drop, length, slice_index, slice_range}
use Rattle.std.specs.Option.{option_map}
use Rattle.octet_streams.specs.Grammar.{Grammar}
use Rattle.octet_streams.specs.Streams.{meaning as item_meant, with_front as in_front, items_from, unread_from as unread_behind, items_of_pieces, unread_of_pieces as unread_behind_pieces, wanted_of}
use Rattle.bgp_msg.specs.declared.fault.HeaderFault.{HeaderFault}
use Rattle.bgp_msg.specs.declared.frame.MessageType.{MessageType}
use Rattle.bgp_msg.specs.declared.frame.Step.{Step}
use Rattle.bgp_msg.specs.declared.frame.Step.TheVariants.{Need, Message, Faulty}
use Rattle.bgp_msg.specs.MessageSpelling.{kind_at, told_length, message_of}
use Rattle.bgp_msg.specs.MessageFaults.{header_fault}
use Rattle.bgp_msg.specs.MessageLimits.{max_message}

-- what a stream holds: whole messages, each its type and the octets behind its header, and at the end perhaps a header that begins none
pub data Item : Type 0 where
  WholeMessage : (kind : MessageType) (body : List ℕ) → Item
  FaultyHeader : (fault : HeaderFault) → Item

-- the octets are this message, from the first to the last: a header without a fault, and as many octets as it tells
pub record IsMessage (octets : List ℕ) (kind : MessageType) (body : List ℕ) : Type 0 where
  pub whole_header : 19 ≤ length octets
  pub sound : header_fault octets ≡ None
  pub kind_is : kind_at (slice_index octets 18) ≡ Some kind
  pub length_is : length octets ≡ told_length octets
  pub body_is : body ≡ drop 19 octets

-- no whole message stands at the front, and no faulty header
pub record HasNoItem (octets : List ℕ) : Type 0 where
  pub no_message : (front back : List ℕ) (kind : MessageType) (body : List ℕ) → octets ≡ front ++ back → ¬ (IsMessage front kind body)
  pub no_fault : 19 ≤ length octets → header_fault octets ≡ None

-- the stream is these messages one after another, and then the rest: with no item at its front, or with the header fault that ends the stream
abbrev pub Splits : List ℕ → List Item → List ℕ → Type 0
Splits stream [] rest = (stream ≡ rest) × HasNoItem rest
Splits stream (WholeMessage kind body ∷ items) rest =
    (octets more : List ℕ) × IsMessage octets kind body × (stream ≡ octets ++ more) × Splits more items rest
Splits stream (FaultyHeader fault ∷ items) rest =
    (items ≡ []) × (stream ≡ rest) × (19 ≤ length rest) × (header_fault rest ≡ Some fault)

-- nothing is read behind a faulty header
abbrev pub ends_stream : Item → Bool
ends_stream (WholeMessage kind body) = false
ends_stream (FaultyHeader fault) = true

-- what octets mean: a connection has one place alone
unfoldable pub message_grammar : Grammar (Unit {0}) HeaderFault Item
message_grammar = record {
  header_length = 19;
  header_fault = λ place octets. header_fault octets;
  told_length = λ octets. told_length octets;
  whole = λ octets. option_map (λ kind. WholeMessage kind (drop 19 octets)) (kind_at (slice_index octets 18));
  faulty = λ fault octets. FaultyHeader fault;
  ends = ends_stream;
  behind = λ place item. place;
}

-- the item that octets are, from the first to the last
abbrev pub meaning : List ℕ → Option Item
meaning octets = item_meant message_grammar tt octets

-- the item that one more octet completes behind what is unread
abbrev pub completed : List ℕ → ℕ → Option Item
completed part octet = meaning (part ++ octet ∷ [])

-- what is unread once the octets are this item: nothing behind a message, all from a faulty header on
abbrev pub left_over : List ℕ → Option Item → List ℕ
left_over octets None = octets
left_over octets (Some item) = if ends_stream item then octets else []

-- an item, where there is one, and those behind it
abbrev pub with_front : Option Item → List Item → List Item
with_front item items = in_front item items

-- the items that more octets complete behind what is unread
abbrev pub messages_from : List ℕ → List ℕ → List Item
messages_from part octets = items_from message_grammar tt part octets

-- what is unread behind them
abbrev pub unread_from : List ℕ → List ℕ → List ℕ
unread_from part octets = unread_behind message_grammar tt part octets

-- the messages of a stream
unfoldable pub messages : List ℕ → List Item
messages stream = messages_from [] stream

-- what no message of the stream has taken
unfoldable pub unread : List ℕ → List ℕ
unread stream = unread_from [] stream

-- what a reader of pieces finds that keeps what is unread
abbrev pub messages_of_pieces : List ℕ → List (List ℕ) → List Item
messages_of_pieces part pieces = items_of_pieces message_grammar tt part pieces

-- and what it keeps at the end
abbrev pub unread_of_pieces : List ℕ → List (List ℕ) → List ℕ
unread_of_pieces part pieces = unread_behind_pieces message_grammar tt part pieces

-- the octets are read as this message, whatever follows them
abbrev pub IsReadFirst : List ℕ → MessageType → List ℕ → Type 0
IsReadFirst octets kind body =
    (more : List ℕ) → (messages (octets ++ more) ≡ WholeMessage kind body ∷ messages more) × (unread (octets ++ more) ≡ unread more)

-- What a reader answers for the front of a stream.

-- no whole header, or a header without a fault before the end of its message
abbrev pub Wants : List ℕ → Type 0
Wants octets = (length octets < 19) ⊎ ((19 ≤ length octets) × (header_fault octets ≡ None) × (length octets < told_length octets))

-- what a reader answers: its message is the octets up to the length that the header tells
abbrev pub Tells : List ℕ → Step → Type 0
Tells octets Need = Wants octets
Tells octets (Message frame used) =
    (19 ≤ used) × (used ≤ max_message) × (used ≤ length octets)
    × (used ≡ 19 + length frame.body.now) × (frame.body.now ≡ slice_range octets 19 used)
    × (used ≡ told_length octets) × (kind_at (slice_index octets 18) ≡ Some frame.kind) × (header_fault octets ≡ None)
Tells octets (Faulty fault) = (19 ≤ length octets) × (header_fault octets ≡ Some fault)

-- a reader's answer is the front of the stream, whatever follows the octets: nothing is whole yet; the message comes first, and those behind the octets it used come next; or the header fault is all
abbrev pub IsFront : List ℕ → Step → Type 0
IsFront octets Need = (messages octets ≡ []) × (unread octets ≡ octets)
IsFront octets (Message frame used) =
    (more : List ℕ) →
    (messages (octets ++ more) ≡ WholeMessage frame.kind frame.body.now ∷ messages (drop used octets ++ more))
    × (unread (octets ++ more) ≡ unread (drop used octets ++ more))
IsFront octets (Faulty fault) =
    (more : List ℕ) → (messages (octets ++ more) ≡ FaultyHeader fault ∷ []) × (unread (octets ++ more) ≡ octets ++ more)

-- the message of an answer is spelled by the octets that it used
abbrev pub IsSpelled : List ℕ → Step → Type 0
IsSpelled octets Need = Unit {0}
IsSpelled octets (Message frame used) = take used octets ≡ message_of frame.kind frame.body.now
IsSpelled octets (Faulty fault) = Unit {0}

-- how many more octets are wanted before an answer
abbrev pub needed_of : List ℕ → ℕ
needed_of octets =
    if nat_lt (length octets) 19 then 19 - length octets else wanted_of (header_fault octets) (told_length octets) (length octets)
