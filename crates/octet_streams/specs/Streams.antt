-- The items of a stream of octets. The pieces in which the octets come are no part of it.
use Rattle.std.specs.Prelude.{◌≡◌, ◌⊎◌, ◌<◌, ◌≤◌, ◌-◌, ◌==◌, ℕ, nat_lt, if◌then◌else◌, true, false, List, [], ◌∷◌, ◌++◌, Option, Some, None, length}
use Rattle.octet_streams.specs.Grammar.{Grammar}

-- the item that octets with a whole header are: a faulty header alone, or as many octets as a header without a fault tells
abbrev pub item_by : {P F I : Type 0} → Grammar P F I → List ℕ → Option F → Option I
item_by g octets None = if length octets == g.told_length octets then g.whole octets else None
item_by g octets (Some fault) = if length octets == g.header_length then Some (g.faulty fault octets) else None

-- the item that octets are at a place, from the first to the last
unfoldable pub meaning : {P F I : Type 0} → Grammar P F I → P → List ℕ → Option I
meaning g place octets = if nat_lt (length octets) g.header_length then None else item_by g octets (g.header_fault place octets)

-- the octets are this item, from the first to the last: a header without a fault and as many octets as it tells, or a header with a fault and no more
abbrev pub IsItem : {P F I : Type 0} → Grammar P F I → P → List ℕ → I → Type 0
IsItem {P} {F} {I} g place octets item =
    ((g.header_length ≤ length octets) × (g.header_fault place octets ≡ None) × (length octets ≡ g.told_length octets) × (g.whole octets ≡ Some item))
    ⊎ ((fault : F) × (length octets ≡ g.header_length) × (g.header_fault place octets ≡ Some fault) × (item ≡ g.faulty fault octets))

-- no item stands at the front
abbrev pub HasNoItem : {P F I : Type 0} → Grammar P F I → P → List ℕ → Type 0
HasNoItem {P} {F} {I} g place octets = (front back : List ℕ) (item : I) → octets ≡ front ++ back → ¬ (IsItem g place front item)

-- what is unread once the octets are this item: nothing, or all from an item on that ends the stream
abbrev pub left_over : {P F I : Type 0} → Grammar P F I → List ℕ → Option I → List ℕ
left_over g octets None = octets
left_over g octets (Some item) = if g.ends item then octets else []

-- the place behind an item, where there is one
abbrev pub place_after : {P F I : Type 0} → Grammar P F I → P → Option I → P
place_after g place None = place
place_after g place (Some item) = g.behind place item

-- the item that one more octet completes behind what is unread
abbrev pub completed : {P F I : Type 0} → Grammar P F I → P → List ℕ → ℕ → Option I
completed g place part octet = meaning g place (part ++ octet ∷ [])

-- an item, where there is one, and those behind it
abbrev pub with_front : {I : Type 0} → Option I → List I → List I
with_front None items = items
with_front (Some item) items = item ∷ items

-- the items that more octets complete behind what is unread
abbrev pub items_from : {P F I : Type 0} → Grammar P F I → P → List ℕ → List ℕ → List I
items_from g place part [] = []
items_from g place part (octet ∷ octets) =
    with_front (completed g place part octet)
    (items_from g (place_after g place (completed g place part octet)) (left_over g (part ++ octet ∷ []) (completed g place part octet)) octets)

-- what is unread behind them
abbrev pub unread_from : {P F I : Type 0} → Grammar P F I → P → List ℕ → List ℕ → List ℕ
unread_from g place part [] = part
unread_from g place part (octet ∷ octets) =
    unread_from g (place_after g place (completed g place part octet)) (left_over g (part ++ octet ∷ []) (completed g place part octet)) octets

-- where the connection stands behind them
abbrev pub place_from : {P F I : Type 0} → Grammar P F I → P → List ℕ → List ℕ → P
place_from g place part [] = place
place_from g place part (octet ∷ octets) =
    place_from g (place_after g place (completed g place part octet)) (left_over g (part ++ octet ∷ []) (completed g place part octet)) octets

-- what a reader of pieces finds that keeps what is unread
abbrev pub items_of_pieces : {P F I : Type 0} → Grammar P F I → P → List ℕ → List (List ℕ) → List I
items_of_pieces g place part [] = []
items_of_pieces g place part (piece ∷ pieces) = items_from g place part piece ++ items_of_pieces g (place_from g place part piece) (unread_from g place part piece) pieces

-- and what it keeps at the end
abbrev pub unread_of_pieces : {P F I : Type 0} → Grammar P F I → P → List ℕ → List (List ℕ) → List ℕ
unread_of_pieces g place part [] = part
unread_of_pieces g place part (piece ∷ pieces) = unread_of_pieces g (place_from g place part piece) (unread_from g place part piece) pieces

-- the stream is these items one after another, and then the rest: with no item at its front, or all from the item on that ends the stream
abbrev pub Splits : {P F I : Type 0} → Grammar P F I → P → List ℕ → List I → List ℕ → Type 0
Splits g place stream [] rest = (stream ≡ rest) × HasNoItem g place rest
Splits g place stream (item ∷ items) rest =
    (octets more : List ℕ) × IsItem g place octets item × (stream ≡ octets ++ more)
    × (((g.ends item ≡ true) × (items ≡ []) × (stream ≡ rest)) ⊎ ((g.ends item ≡ false) × Splits g (g.behind place item) more items rest))

-- no whole header, or a header without a fault before the end of its item
abbrev pub Wants : {P F I : Type 0} → Grammar P F I → P → List ℕ → Type 0
Wants g place octets =
    (length octets < g.header_length)
    ⊎ ((g.header_length ≤ length octets) × (g.header_fault place octets ≡ None) × (length octets < g.told_length octets))

-- the octets complete this item or none behind what is unread, and those behind them are read behind it
abbrev pub GoesOn : {P F I : Type 0} → Grammar P F I → P → List ℕ → List ℕ → Option I → List ℕ → Type 0
GoesOn g place part octets found more =
    (items_from g place part (octets ++ more) ≡ with_front found (items_from g (place_after g place found) (left_over g (part ++ octets) found) more))
    × (unread_from g place part (octets ++ more) ≡ unread_from g (place_after g place found) (left_over g (part ++ octets) found) more)
    × (place_from g place part (octets ++ more) ≡ place_from g (place_after g place found) (left_over g (part ++ octets) found) more)

-- how many octets are missing once a header is whole: none where it has a fault
abbrev pub wanted_of : {F : Type 0} → Option F → ℕ → ℕ → ℕ
wanted_of None told have = told - have
wanted_of (Some fault) told have = 0

-- how many more octets are wanted before an item is whole
abbrev pub needed_of : {P F I : Type 0} → Grammar P F I → P → List ℕ → ℕ
needed_of g place octets =
    if nat_lt (length octets) g.header_length then g.header_length - length octets
    else wanted_of (g.header_fault place octets) (g.told_length octets) (length octets)
