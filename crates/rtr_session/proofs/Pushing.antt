-- A stream with one more octet.
use Rattle.std.proofs.Common.{◌≡◌, ℕ, List, [], ◌∷◌, ◌++◌, Option, Some, None, refl, ◌∙◌}
use Rattle.octet_streams.specs.Streams.{left_over as left_by, place_after as place_by, with_front}
use Rattle.rtr_codec.specs.declared.place.Place.{Place}
use Rattle.rtr_codec.specs.PduStream.{Item, left_over, meaning, pdu_grammar, pdus, place_after, place_from, unread}
use Rattle.rtr_codec.proofs.Streams.{pdus_from-append, place_behind, unread_behind}

left_by_item : (octets : List ℕ) (found : Option Item) → left_by pdu_grammar octets found ≡ left_over octets found
unfolding pdu_grammar
left_by_item octets None = refl
left_by_item octets (Some item) = refl

place_by_item : (place : Place) (found : Option Item) → place_by pdu_grammar place found ≡ place_after place found
unfolding pdu_grammar
place_by_item place None = refl
place_by_item place (Some item) = refl

-- what is unread behind it
pub unread-push :
    (place : Place) (stream : List ℕ) (octet : ℕ)
    → unread place (stream ++ octet ∷ [])
    ≡ left_over (unread place stream ++ octet ∷ []) (meaning (place_from place [] stream) (unread place stream ++ octet ∷ []))
unread-push place stream octet =
    unread_behind place [] stream (octet ∷ [])
    ∙ left_by_item (unread place stream ++ octet ∷ []) (meaning (place_from place [] stream) (unread place stream ++ octet ∷ []))

-- where the connection stands behind it
pub place-push :
    (place : Place) (stream : List ℕ) (octet : ℕ)
    → place_from place [] (stream ++ octet ∷ [])
    ≡ place_after (place_from place [] stream) (meaning (place_from place [] stream) (unread place stream ++ octet ∷ []))
place-push place stream octet =
    place_behind place [] stream (octet ∷ [])
    ∙ place_by_item (place_from place [] stream) (meaning (place_from place [] stream) (unread place stream ++ octet ∷ []))

-- the item that it completes stands behind the others
pub pdus-push :
    (place : Place) (stream : List ℕ) (octet : ℕ)
    → pdus place (stream ++ octet ∷ []) ≡ pdus place stream ++ with_front (meaning (place_from place [] stream) (unread place stream ++ octet ∷ [])) []
pdus-push place stream octet = pdus_from-append place [] stream (octet ∷ [])
