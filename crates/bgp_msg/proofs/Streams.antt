use Rattle.std.proofs.Common.{◌≡◌, ◌≤◌, ◌<◌, ◌+◌, ℕ, Bool, true, false, not, ◌||◌, nat_lt, if◌then◌else◌, List, [], ◌∷◌, ◌++◌, length, take, drop, get_or, Option, Some, None, ◌⊎◌, inl, inr, refl, ap, sym, subst, ◌∙◌, arith, length-append}
use Rattle.std.proofs.lemmas.Bool.{ltb-false, or_parts, cases_lt}
use Rattle.std.proofs.lemmas.List.{take-append-le, get_or_append_left, take-append-drop, length-take-le, nil_from_length}
use Rattle.octet_streams.specs.Grammar.{IsGrammar}
use Rattle.octet_streams.specs.Streams.{IsItem, Splits as IsSplit}
use Rattle.octet_streams.proofs.Streams.{meaning-item, is_item, meaning-whole, meaning-fault, wants_front, wants_none as no_meaning, wants-then as none-then, others-then, end-then, becomes as item_becomes, needed-some}
use Rattle.octet_streams.proofs.Splits.{faulty_at_front, splits as splits_somehow, wants-from_none as no_item_wants, unread_again}
use Rattle.std.specs.Option.{option_map}
use Rattle.bgp_msg.specs.declared.fault.HeaderFault.{HeaderFault}
use Rattle.bgp_msg.specs.declared.frame.MessageType.{MessageType}
use Rattle.bgp_msg.specs.MessageSpelling.{kind_at, told_length, has_marker}
use Rattle.bgp_msg.specs.MessageFaults.{header_fault, is_unknown}
use Rattle.bgp_msg.specs.MessageStream.{Item, WholeMessage, FaultyHeader, Wants, IsMessage, HasNoItem, Splits, message_grammar, meaning, messages_from, unread_from, messages, unread}

-- Streams of messages: what stands at the front, and what more octets make of it.

-- a header is its first 19 octets
pub told_length-append : (front back : List ℕ) → 19 ≤ length front → told_length (front ++ back) ≡ told_length front
told_length-append front back whole =
    let high : get_or (front ++ back) 16 0 ≡ get_or front 16 0 = get_or_append_left front back 0 16 (omega arith) in
    let low : get_or (front ++ back) 17 0 ≡ get_or front 17 0 = get_or_append_left front back 0 17 (omega arith) in
    grind (arith, high, low)

pub header_fault-append : (front back : List ℕ) → 19 ≤ length front → header_fault (front ++ back) ≡ header_fault front
unfolding header_fault has_marker
header_fault-append front back whole =
    let marked : take 16 (front ++ back) ≡ take 16 front = take-append-le 16 front back (omega arith) in
    let high : get_or (front ++ back) 16 0 ≡ get_or front 16 0 = get_or_append_left front back 0 16 (omega arith) in
    let low : get_or (front ++ back) 17 0 ≡ get_or front 17 0 = get_or_append_left front back 0 17 (omega arith) in
    let kind : get_or (front ++ back) 18 0 ≡ get_or front 18 0 = get_or_append_left front back 0 18 (omega arith) in
    rw (marked, high, low, kind) refl

-- where no row of a list of tests holds, the first doesn't, nor do the others
passes : {F : Type 0} (test : Bool) (fault : F) (others : Option F) → (if test then Some fault else others) ≡ None → (test ≡ false) × (others ≡ None)
passes true fault others none = absurd cc
passes false fault others none = (refl, none)

lawful : (told : ℕ) → nat_lt told 19 || nat_lt 4096 told ≡ false → (19 ≤ told) × (told ≤ 4096)
lawful told passes =
    let both = or_parts (nat_lt told 19) (nat_lt 4096 told) passes in
    (ltb-false told 19 both.0, ltb-false 4096 told both.1)

-- a header without a fault tells a length from 19 to 4,096
pub told_length-lawful : (octets : List ℕ) → header_fault octets ≡ None → (19 ≤ told_length octets) × (told_length octets ≤ 4096)
unfolding header_fault
told_length-lawful octets none =
    let marked = passes (not (has_marker octets)) _ _ none in
    let told = passes (nat_lt (told_length octets) 19 || nat_lt 4096 (told_length octets)) _ _ marked.1 in
    lawful (told_length octets) told.0

known : (found : Option MessageType) → is_unknown found ≡ false → (kind : MessageType) × (found ≡ Some kind)
known None h = absurd cc
known (Some kind) h = (kind, refl)

-- a header without a fault has a type
pub known_kind : (octets : List ℕ) → header_fault octets ≡ None → (kind : MessageType) × (kind_at (get_or octets 18 0) ≡ Some kind)
unfolding header_fault
known_kind octets none =
    let marked = passes (not (has_marker octets)) _ _ none in
    let told = passes (nat_lt (told_length octets) 19 || nat_lt 4096 (told_length octets)) _ _ marked.1 in
    known (kind_at (get_or octets 18 0)) (passes (is_unknown (kind_at (get_or octets 18 0))) _ _ told.1).0

-- the octets up to the length that a header without a fault tells are a message
pub message_at_front :
    (octets : List ℕ) (kind : MessageType) → 19 ≤ length octets → header_fault octets ≡ None → kind_at (get_or octets 18 0) ≡ Some kind
    → told_length octets ≤ length octets → IsMessage (take (told_length octets) octets) kind (drop 19 (take (told_length octets) octets))
message_at_front octets kind whole sound kind_is fits =
    let told = told_length octets in
    let front = take told octets in
    let back = drop told octets in
    let least : 19 ≤ told_length octets = (told_length-lawful octets sound).0 in
    let parts : take told octets ++ drop told octets ≡ octets = take-append-drop told octets in
    let count : length (take told octets) ≡ told_length octets = length-take-le told octets fits in
    let header : 19 ≤ length (take told octets) = omega (arith, count, least) in
    record {
      whole_header = header;
      sound = sym (header_fault-append front back header) ∙ ap header_fault parts ∙ sound;
      kind_is = ap kind_at (sym (get_or_append_left front back 0 18 (omega (arith, header))) ∙ ap (λ (x : List ℕ). get_or x 18 0) parts) ∙ kind_is;
      length_is = count ∙ sym (ap told_length parts) ∙ told_length-append front back header;
      body_is = refl;
    }

-- messages are a grammar
pub is_grammar : IsGrammar message_grammar
unfolding message_grammar
is_grammar = record {
  some_header = omega arith;
  fault_in_header = λ place front back whole. header_fault-append front back whole;
  told_in_header = λ front back whole. told_length-append front back whole;
  told_least = λ place octets sound. (told_length-lawful octets sound).0;
  has_item = λ place octets sound.
      let kind = known_kind octets sound in
      (WholeMessage kind.0 (drop 19 octets), ap (option_map (λ (k : MessageType). WholeMessage k (drop 19 octets))) kind.1);
  fault_ends = λ fault octets. refl;
  same_behind_end = λ place item octets ended. refl;
}

-- a whole message is read as that
pub meaning-message : (octets : List ℕ) (kind : MessageType) (body : List ℕ) → IsMessage octets kind body → meaning octets ≡ Some (WholeMessage kind body)
unfolding message_grammar
meaning-message octets kind body h =
    meaning-whole message_grammar is_grammar tt octets h.whole_header h.sound h.length_is ∙ rw (h.kind_is, h.body_is) refl

pub at_header : (octets : List ℕ) (fault : HeaderFault) → length octets ≡ 19 → header_fault octets ≡ Some fault → meaning octets ≡ Some (FaultyHeader fault)
unfolding message_grammar
at_header octets fault nineteen faulty = meaning-fault message_grammar is_grammar tt octets fault nineteen faulty

-- while more octets are wanted no front is an item
pub wants_none : (octets front back : List ℕ) → Wants octets → octets ≡ front ++ back → meaning front ≡ None
unfolding message_grammar
wants_none octets front back h e = wants_front message_grammar is_grammar tt front back (subst Wants e h)

pub meaning-wants : (octets : List ℕ) → Wants octets → meaning octets ≡ None
unfolding message_grammar
meaning-wants octets h = no_meaning message_grammar is_grammar tt octets h

-- a message in front, then more
pub message-then : (octets more : List ℕ) (kind : MessageType) (body : List ℕ) → IsMessage octets kind body
    → (messages (octets ++ more) ≡ WholeMessage kind body ∷ messages more) × (unread (octets ++ more) ≡ unread more)
unfolding messages unread message_grammar
message-then octets more kind body h =
    let all = others-then message_grammar is_grammar tt octets more (WholeMessage kind body) (meaning-message octets kind body h) refl in
    (all.0, all.1)

-- nothing whole yet
pub wants-then : (octets : List ℕ) → Wants octets → (messages octets ≡ []) × (unread octets ≡ octets)
unfolding messages unread message_grammar
wants-then octets h = let all = none-then message_grammar is_grammar tt [] octets h in (all.0, all.1)

-- a faulty header in front
pub fault-then : (stream : List ℕ) (fault : HeaderFault) → 19 ≤ length stream → header_fault stream ≡ Some fault
    → (messages stream ≡ FaultyHeader fault ∷ []) × (unread stream ≡ stream)
unfolding messages unread message_grammar
fault-then stream fault whole faulty =
    let parts : take 19 stream ++ drop 19 stream ≡ stream = take-append-drop 19 stream in
    let found = meaning-item message_grammar is_grammar tt _ _ (faulty_at_front message_grammar is_grammar tt stream fault whole faulty) in
    let all = end-then message_grammar is_grammar tt (take 19 stream) (drop 19 stream) (FaultyHeader fault) found refl in
    (ap (messages_from []) (sym parts) ∙ all.0, ap (unread_from []) (sym parts) ∙ all.1 ∙ parts)

-- a rest without an item at its front wants more
not_whole : (octets : List ℕ) → HasNoItem octets → 19 ≤ length octets → told_length octets ≤ length octets → ⊥
not_whole octets h whole fits =
    let sound : header_fault octets ≡ None = h.no_fault whole in
    let kind = known_kind octets sound in
    h.no_message _ _ _ _ (sym (take-append-drop (told_length octets) octets)) (message_at_front octets kind.0 whole sound kind.1 fits)

wants_by_told : (octets : List ℕ) → HasNoItem octets → 19 ≤ length octets → (length octets < told_length octets) ⊎ (told_length octets ≤ length octets) → Wants octets
wants_by_told octets h whole (inl fewer) = inr (whole, h.no_fault whole, fewer)
wants_by_told octets h whole (inr fits) = absurd (not_whole octets h whole fits)

wants_by_header : (octets : List ℕ) → HasNoItem octets → (length octets < 19) ⊎ (19 ≤ length octets) → Wants octets
wants_by_header octets h (inl few) = inl few
wants_by_header octets h (inr whole) = wants_by_told octets h whole (cases_lt (length octets) (told_length octets))

pub wants-from_none : (octets : List ℕ) → HasNoItem octets → Wants octets
wants-from_none octets h = wants_by_header octets h (cases_lt (length octets) 19)

sound_if_wanted : (octets : List ℕ) → Wants octets → 19 ≤ length octets → header_fault octets ≡ None
sound_if_wanted octets (inl few) whole = absurd (omega (arith, few, whole))
sound_if_wanted octets (inr h) whole = h.1

pub some_is_not_none : {X : Type 0} (found : Option X) (x : X) → found ≡ Some x → found ≡ None → ⊥
some_is_not_none found x e f = absurd cc

pub none-from_wants : (octets : List ℕ) → Wants octets → HasNoItem octets
none-from_wants octets h = record {
  no_message = λ front back kind body e m. some_is_not_none (meaning front) (WholeMessage kind body) (meaning-message front kind body m) (wants_none octets front back h e);
  no_fault = sound_if_wanted octets h;
}

-- the only way in which a stream splits
pub split : (stream : List ℕ) (items : List Item) (rest : List ℕ) → Splits stream items rest → (items ≡ messages stream) × (rest ≡ unread stream)
split stream [] rest h =
    let found = wants-then stream (wants-from_none stream (subst HasNoItem (sym h.0) h.1)) in
    (sym found.0, sym h.0 ∙ sym found.1)
split stream (WholeMessage kind body ∷ items) rest h =
    let first = message-then h.0 h.1 kind body h.2 in
    let again = split h.1 items rest h.4 in
    (ap (λ (x : List Item). WholeMessage kind body ∷ x) again.0 ∙ sym first.0 ∙ ap messages (sym h.3), again.1 ∙ sym first.1 ∙ ap unread (sym h.3))
split stream (FaultyHeader fault ∷ items) rest h =
    let found = fault-then stream fault (subst (λ (x : List ℕ). 19 ≤ length x) (sym h.1) h.2) (ap header_fault h.1 ∙ h.3) in
    (ap (λ (x : List Item). FaultyHeader fault ∷ x) h.0 ∙ sym found.0, sym h.1 ∙ sym found.1)

-- what one more octet makes of a rest that wants more: still such a rest, a message, or a faulty header
abbrev pub Becomes : List ℕ → Type 0
Becomes octets =
    Wants octets
    ⊎ (((kind : MessageType) × IsMessage octets kind (drop 19 octets))
    ⊎ ((fault : HeaderFault) × (length octets ≡ 19) × (header_fault octets ≡ Some fault)))

becomes_by_shape : (octets : List ℕ) (item : Item) → IsItem message_grammar tt octets item → Becomes octets
unfolding message_grammar
becomes_by_shape octets item (inl (whole, sound, all, is_whole)) =
    let kind = known_kind octets sound in
    inr (inl (kind.0, record { whole_header = whole; sound = sound; kind_is = kind.1; length_is = all; body_is = refl }))
becomes_by_shape octets item (inr (fault, nineteen, faulty, is_faulty)) = inr (inr (fault, nineteen, faulty))

becomes_by : (octets : List ℕ) → Wants octets ⊎ ((item : Item) × (meaning octets ≡ Some item)) → Becomes octets
unfolding message_grammar
becomes_by octets (inl h) = inl h
becomes_by octets (inr h) = becomes_by_shape octets h.0 (is_item message_grammar is_grammar tt octets h.0 h.1)

pub becomes : (part : List ℕ) (octet : ℕ) → Wants part → Becomes (part ++ octet ∷ [])
unfolding message_grammar
becomes part octet h = becomes_by (part ++ octet ∷ []) (item_becomes message_grammar is_grammar tt part (octet ∷ []) h (needed-some message_grammar is_grammar tt part h))

-- a whole message and a faulty header have no other shape
message_shape : (octets body : List ℕ) (kind : MessageType) → IsItem message_grammar tt octets (WholeMessage kind body) → IsMessage octets kind body
unfolding message_grammar
message_shape octets body kind (inl (whole, sound, all, is_whole)) =
    let known = known_kind octets sound in
    let same : Some (WholeMessage known.0 (drop 19 octets)) ≡ Some (WholeMessage kind body) = sym (ap (option_map (λ (k : MessageType). WholeMessage k (drop 19 octets))) known.1) ∙ is_whole in
    let kinds : known.0 ≡ kind = cc in
    let bodies : drop 19 octets ≡ body = cc in
    record { whole_header = whole; sound = sound; kind_is = known.1 ∙ ap (λ (k : MessageType). Some k) kinds; length_is = all; body_is = sym bodies }
message_shape octets body kind (inr (fault, nineteen, faulty, is_faulty)) = absurd cc

fault_shape : (octets : List ℕ) (fault : HeaderFault) → IsItem message_grammar tt octets (FaultyHeader fault) → (19 ≤ length octets) × (header_fault octets ≡ Some fault)
unfolding message_grammar
fault_shape octets fault (inl (whole, sound, all, is_whole)) =
    let known = known_kind octets sound in
    let same : Some (WholeMessage known.0 (drop 19 octets)) ≡ Some (FaultyHeader fault) = sym (ap (option_map (λ (k : MessageType). WholeMessage k (drop 19 octets))) known.1) ∙ is_whole in
    absurd cc
fault_shape octets fault (inr (found, nineteen, faulty, is_faulty)) =
    let same : fault ≡ found = cc in
    (omega (arith, nineteen), faulty ∙ ap (λ (f : HeaderFault). Some f) (sym same))

splits_of : (stream : List ℕ) (items : List Item) (rest : List ℕ) → IsSplit message_grammar tt stream items rest → Splits stream items rest
unfolding message_grammar
splits_of stream [] rest (same, none) = (same, none-from_wants rest (no_item_wants message_grammar is_grammar tt rest none))
splits_of stream (WholeMessage kind body ∷ items) rest (octets, more, is_first, all, inl (ended, none, same)) = absurd cc
splits_of stream (WholeMessage kind body ∷ items) rest (octets, more, is_first, all, inr (goes, others)) =
    (octets, more, message_shape octets body kind is_first, all, splits_of more items rest others)
splits_of stream (FaultyHeader fault ∷ items) rest (octets, more, is_first, all, inl (ended, none, same)) =
    let front = fault_shape octets fault is_first in
    let rest_is : octets ++ more ≡ rest = sym all ∙ same in
    let longer : length (octets ++ more) ≡ length octets + length more = length-append octets more in
    let enough : 19 ≤ length (octets ++ more) = omega (arith, longer, front.0) in
    (none, same, subst (λ (x : List ℕ). 19 ≤ length x) rest_is enough, ap header_fault (sym rest_is) ∙ header_fault-append octets more front.0 ∙ front.1)
splits_of stream (FaultyHeader fault ∷ items) rest (octets, more, is_first, all, inr (goes, others)) = absurd cc

-- each stream splits
pub splits : (stream : List ℕ) → Splits stream (messages stream) (unread stream)
unfolding messages unread
splits stream = splits_of stream _ _ (splits_somehow message_grammar is_grammar tt stream)

-- a message is no front of another
pub only_whole :
    (octets more body other : List ℕ) (kind kind_of_other : MessageType)
    → IsMessage octets kind body → IsMessage (octets ++ more) kind_of_other other → more ≡ []
only_whole octets more body other kind kind_of_other h k =
    let both : length (octets ++ more) ≡ length octets + length more = length-append octets more in
    let told : told_length (octets ++ more) ≡ told_length octets = told_length-append octets more h.whole_header in
    let first : length octets ≡ told_length octets = h.length_is in
    let second : length (octets ++ more) ≡ told_length (octets ++ more) = k.length_is in
    nil_from_length more (omega (arith, both, told, first, second))

-- what is unread is unread again
pub unread-unread : (stream : List ℕ) → unread (unread stream) ≡ unread stream
unfolding unread
unread-unread stream = unread_again message_grammar is_grammar tt stream
