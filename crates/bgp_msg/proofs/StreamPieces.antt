use Rattle.std.proofs.Common.{◌≡◌, ℕ, List, [], ◌∷◌, ◌++◌, refl, ap, sym, ◌∙◌, append-nil}
use Rattle.std.specs.List.{concat}
use Rattle.octet_streams.proofs.Streams.{items_from-append, unread_from-append as unread_behind-append}
use Rattle.octet_streams.proofs.Splits.{pieces as items_of_all}
use Rattle.bgp_msg.proofs.Streams.{is_grammar, unread-unread}
use Rattle.bgp_msg.specs.declared.frame.MessageType.{MessageType}
use Rattle.bgp_msg.specs.MessageStream.{Item, WholeMessage, IsReadFirst, message_grammar, completed, left_over, with_front, messages_from, unread_from, messages, unread, messages_of_pieces, unread_of_pieces}

-- A stream goes on where it stopped.

pub unread_from-append : (part octets more : List ℕ) → unread_from part (octets ++ more) ≡ unread_from (unread_from part octets) more
unread_from-append part octets more = unread_behind-append message_grammar is_grammar tt part octets more

pub messages_from-append : (part octets more : List ℕ) → messages_from part (octets ++ more) ≡ messages_from part octets ++ messages_from (unread_from part octets) more
messages_from-append part octets more = items_from-append message_grammar is_grammar tt part octets more

-- more octets of a stream
pub unread-append : (stream more : List ℕ) → unread (stream ++ more) ≡ unread_from (unread stream) more
unfolding unread
unread-append stream more = unread_from-append [] stream more

pub messages-append : (stream more : List ℕ) → messages (stream ++ more) ≡ messages stream ++ messages_from (unread stream) more
unfolding messages unread
messages-append stream more = messages_from-append [] stream more

-- one more octet
pub unread-push : (stream : List ℕ) (octet : ℕ) → unread (stream ++ octet ∷ []) ≡ left_over (unread stream ++ octet ∷ []) (completed (unread stream) octet)
unfolding message_grammar
unread-push stream octet = unread-append stream (octet ∷ [])

pub messages-push : (stream : List ℕ) (octet : ℕ) → messages (stream ++ octet ∷ []) ≡ messages stream ++ with_front (completed (unread stream) octet) []
messages-push stream octet = messages-append stream (octet ∷ [])

-- behind whole messages a stream begins anew
pub unread-anew : (stream more : List ℕ) → unread stream ≡ [] → unread (stream ++ more) ≡ unread more
unfolding unread
unread-anew stream more none = unread_from-append [] stream more ∙ ap (λ (part : List ℕ). unread_from part more) none

pub messages-anew : (stream more : List ℕ) → unread stream ≡ [] → messages (stream ++ more) ≡ messages stream ++ messages more
unfolding messages unread
messages-anew stream more none = messages_from-append [] stream more ∙ ap (λ (part : List ℕ). messages_from [] stream ++ messages_from part more) none

pub unread-nil : unread [] ≡ []
unfolding unread
unread-nil = refl

pub messages-nil : messages [] ≡ []
unfolding messages
messages-nil = refl

-- octets that are read as a message, whatever follows them, are read as it alone
pub read_alone : (octets : List ℕ) (kind : MessageType) (body : List ℕ) → IsReadFirst octets kind body → (messages octets ≡ WholeMessage kind body ∷ []) × (unread octets ≡ [])
read_alone octets kind body h = (
  ap messages (sym (append-nil octets)) ∙ (h []).0 ∙ ap (λ (items : List Item). WholeMessage kind body ∷ items) messages-nil,
  ap unread (sym (append-nil octets)) ∙ (h []).1 ∙ unread-nil,
)

-- however the stream is cut
pub pieces : (pieces : List (List ℕ)) → (messages_of_pieces [] pieces ≡ messages (concat pieces)) × (unread_of_pieces [] pieces ≡ unread (concat pieces))
unfolding messages unread
pieces all = items_of_all message_grammar is_grammar tt [] all

-- more octets are read behind what is unread
pub unread-goes_on : (stream more : List ℕ) → unread (stream ++ more) ≡ unread (unread stream ++ more)
unread-goes_on stream more =
    unread-append stream more
    ∙ ap (λ (part : List ℕ). unread_from part more) (sym (unread-unread stream))
    ∙ sym (unread-append (unread stream) more)

pub messages-goes_on : (stream more : List ℕ) → messages (unread stream) ≡ [] → messages (stream ++ more) ≡ messages stream ++ messages (unread stream ++ more)
messages-goes_on stream more none =
    messages-append stream more
    ∙ ap (λ (part : List ℕ). messages stream ++ messages_from part more) (sym (unread-unread stream))
    ∙ ap (λ (items : List Item). messages stream ++ (items ++ messages_from (unread (unread stream)) more)) (sym none)
    ∙ ap (λ (items : List Item). messages stream ++ items) (sym (messages-append (unread stream) more))
