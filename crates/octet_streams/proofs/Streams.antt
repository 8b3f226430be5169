use Rattle.std.proofs.Common.{◌≡◌, ◌≤◌, ◌<◌, ◌+◌, ◌-◌, ℕ, true, false, List, [], ◌∷◌, ◌++◌, length, Option, Some, None, is_none, ◌⊎◌, inl, inr, refl, ap, sym, subst, ◌∙◌, arith, append_assoc, append-nil, length-append}
use Rattle.std.proofs.lemmas.Bool.{le-ltb, lt-ltb, eq-eqb, ne_eqb, cases_lt, cases_eq}
use Rattle.octet_streams.specs.Grammar.{Grammar, IsGrammar}
use Rattle.octet_streams.specs.Streams.{item_by, meaning, IsItem, left_over, place_after, completed, with_front, items_from, unread_from, place_from, Wants, GoesOn, needed_of}

-- Streams of items: what stands at the front, and what more octets make of it.

-- the item of octets by cases: too few for a header, a faulty header, a header without a fault
pub meaning-short : {P F I : Type 0} (g : Grammar P F I) (ok : IsGrammar g) (place : P) (octets : List ℕ) → length octets < g.header_length → meaning g place octets ≡ None
unfolding meaning
meaning-short g ok place octets short = rw (lt-ltb (length octets) g.header_length short) refl

meaning-long : {P F I : Type 0} (g : Grammar P F I) (ok : IsGrammar g) (place : P) (octets : List ℕ) → g.header_length ≤ length octets → meaning g place octets ≡ item_by g octets (g.header_fault place octets)
unfolding meaning
meaning-long g ok place octets whole = rw (le-ltb (length octets) g.header_length whole) refl

-- a faulty header is told with its last octet, and no more behind it
pub meaning-fault : {P F I : Type 0} (g : Grammar P F I) (ok : IsGrammar g) (place : P) (octets : List ℕ) (fault : F) → length octets ≡ g.header_length → g.header_fault place octets ≡ Some fault → meaning g place octets ≡ Some (g.faulty fault octets)
meaning-fault g ok place octets fault eight faulty =
    meaning-long g ok place octets (omega (arith, eight)) ∙ ap (item_by g octets) faulty ∙ rw (eq-eqb (length octets) g.header_length eight) refl

pub meaning-past : {P F I : Type 0} (g : Grammar P F I) (ok : IsGrammar g) (place : P) (octets : List ℕ) (fault : F) → g.header_length < length octets → g.header_fault place octets ≡ Some fault → meaning g place octets ≡ None
meaning-past g ok place octets fault long faulty =
    meaning-long g ok place octets (omega (arith, long)) ∙ ap (item_by g octets) faulty ∙ rw (ne_eqb (length octets) g.header_length (λ e. omega (arith, e, long))) refl

-- octets behind a header without a fault are an item where they are as many as it tells
pub meaning-whole :
    {P F I : Type 0} (g : Grammar P F I) (ok : IsGrammar g) (place : P) (octets : List ℕ) → g.header_length ≤ length octets → g.header_fault place octets ≡ None → length octets ≡ g.told_length octets
    → meaning g place octets ≡ g.whole octets
meaning-whole g ok place octets whole sound all =
    meaning-long g ok place octets whole ∙ ap (item_by g octets) sound ∙ rw (eq-eqb (length octets) (g.told_length octets) all) refl

pub meaning-cut : {P F I : Type 0} (g : Grammar P F I) (ok : IsGrammar g) (place : P) (octets : List ℕ) → g.header_length ≤ length octets → g.header_fault place octets ≡ None → (length octets ≡ g.told_length octets → ⊥) → meaning g place octets ≡ None
meaning-cut g ok place octets whole sound other =
    meaning-long g ok place octets whole ∙ ap (item_by g octets) sound ∙ rw (ne_eqb (length octets) (g.told_length octets) other) refl

-- octets that are an item are read as it
pub meaning-item : {P F I : Type 0} (g : Grammar P F I) (ok : IsGrammar g) (place : P) (octets : List ℕ) (item : I) → IsItem g place octets item → meaning g place octets ≡ Some item
meaning-item g ok place octets item (inl (whole, sound, all, is_item)) = meaning-whole g ok place octets whole sound all ∙ is_item
meaning-item g ok place octets item (inr (fault, header, faulty, is_item)) = meaning-fault g ok place octets fault header faulty ∙ ap (λ i. Some i) (sym is_item)

pub some_is_not_none : {X : Type 0} (found : Option X) (x : X) → found ≡ Some x → found ≡ None → ⊥
some_is_not_none found x e f = absurd cc

-- a front of an item is none
front_by_fault :
    {P F I : Type 0} (g : Grammar P F I) (ok : IsGrammar g) (place : P) (front back : List ℕ) (item : I) (found : Option F) → g.header_fault place front ≡ found → g.header_length ≤ length front
    → meaning g place (front ++ back) ≡ Some item → 0 < length back → meaning g place front ≡ None
front_by_fault g ok place front back item None sound whole h more =
    let told : g.told_length (front ++ back) ≡ g.told_length front = ok.told_in_header front back whole in
    let both : length (front ++ back) ≡ length front + length back = length-append front back in
    let still : g.header_fault place (front ++ back) ≡ None = ok.fault_in_header place front back whole ∙ sound in
    meaning-cut g ok place front whole sound
    (λ e. some_is_not_none (meaning g place (front ++ back)) item h
    (meaning-cut g ok place (front ++ back) (omega (arith, both, whole)) still (λ all. omega (arith, told, both, all, e, more))))
front_by_fault g ok place front back item (Some fault) faulty whole h more =
    let both : length (front ++ back) ≡ length front + length back = length-append front back in
    let still : g.header_fault place (front ++ back) ≡ Some fault = ok.fault_in_header place front back whole ∙ faulty in
    absurd (some_is_not_none (meaning g place (front ++ back)) item h (meaning-past g ok place (front ++ back) fault (omega (arith, both, whole, more)) still))

front_by_length :
    {P F I : Type 0} (g : Grammar P F I) (ok : IsGrammar g) (place : P) (front back : List ℕ) (item : I) → (length front < g.header_length) ⊎ (g.header_length ≤ length front)
    → meaning g place (front ++ back) ≡ Some item → 0 < length back → meaning g place front ≡ None
front_by_length g ok place front back item (inl short) h more = meaning-short g ok place front short
front_by_length g ok place front back item (inr whole) h more = front_by_fault g ok place front back item _ refl whole h more

pub front_is_none : {P F I : Type 0} (g : Grammar P F I) (ok : IsGrammar g) (place : P) (front back : List ℕ) (item : I) → meaning g place (front ++ back) ≡ Some item → 0 < length back → meaning g place front ≡ None
front_is_none g ok place front back item h more = front_by_length g ok place front back item (cases_lt (length front) g.header_length) h more

-- a stream goes on where it stopped
with_front-append : {I : Type 0} (item : Option I) (items more : List I) → with_front item (items ++ more) ≡ with_front item items ++ more
with_front-append None items more = refl
with_front-append (Some item) items more = refl

pub items_from-append :
    {P F I : Type 0} (g : Grammar P F I) (ok : IsGrammar g) (place : P) (part octets more : List ℕ)
    → items_from g place part (octets ++ more) ≡ items_from g place part octets ++ items_from g (place_from g place part octets) (unread_from g place part octets) more
items_from-append g ok place part [] more = refl
items_from-append g ok place part (octet ∷ octets) more =
    let place_then = place_after g place (completed g place part octet) in
    let part_then = left_over g (part ++ octet ∷ []) (completed g place part octet) in
    ap (with_front (completed g place part octet)) (items_from-append g ok place_then part_then octets more)
    ∙ with_front-append (completed g place part octet) (items_from g place_then part_then octets) (items_from g (place_from g place_then part_then octets) (unread_from g place_then part_then octets) more)

pub unread_from-append :
    {P F I : Type 0} (g : Grammar P F I) (ok : IsGrammar g) (place : P) (part octets more : List ℕ)
    → unread_from g place part (octets ++ more) ≡ unread_from g (place_from g place part octets) (unread_from g place part octets) more
unread_from-append g ok place part [] more = refl
unread_from-append g ok place part (octet ∷ octets) more =
    unread_from-append g ok (place_after g place (completed g place part octet)) (left_over g (part ++ octet ∷ []) (completed g place part octet)) octets more

pub place_from-append :
    {P F I : Type 0} (g : Grammar P F I) (ok : IsGrammar g) (place : P) (part octets more : List ℕ)
    → place_from g place part (octets ++ more) ≡ place_from g (place_from g place part octets) (unread_from g place part octets) more
place_from-append g ok place part [] more = refl
place_from-append g ok place part (octet ∷ octets) more =
    place_from-append g ok (place_after g place (completed g place part octet)) (left_over g (part ++ octet ∷ []) (completed g place part octet)) octets more

-- the same, with what is read named
abbrev pub GoesOnBehind : {P F I : Type 0} → Grammar P F I → P → List ℕ → List ℕ → Option I → List ℕ → List ℕ → Type 0
GoesOnBehind g place part octets found whole more =
    (items_from g place part (octets ++ more) ≡ with_front found (items_from g (place_after g place found) (left_over g whole found) more))
    × (unread_from g place part (octets ++ more) ≡ unread_from g (place_after g place found) (left_over g whole found) more)
    × (place_from g place part (octets ++ more) ≡ place_from g (place_after g place found) (left_over g whole found) more)

pub last_octet :
    {P F I : Type 0} (g : Grammar P F I) (ok : IsGrammar g) (place : P) (part : List ℕ) (octet : ℕ) (more : List ℕ) (item : I) → meaning g place (part ++ octet ∷ []) ≡ Some item
    → GoesOnBehind g place part (octet ∷ []) (Some item) (part ++ octet ∷ []) more
last_octet g ok place part octet more item found = (rw (found, items_from) refl, rw (found, unread_from) refl, rw (found, place_from) refl)

-- an item at the front of what is left is read first
item_first :
    {P F I : Type 0} (g : Grammar P F I) (ok : IsGrammar g) (place : P) (part : List ℕ) (octet : ℕ) (back more whole : List ℕ) (item : I) → whole ≡ part ++ octet ∷ back
    → meaning g place whole ≡ Some item → GoesOnBehind g place part (octet ∷ back) (Some item) whole more
item_first g ok place part octet [] more whole item e h =
    let found : meaning g place (part ++ octet ∷ []) ≡ Some item = ap (meaning g place) (sym e) ∙ h in
    subst (λ (octets : List ℕ). GoesOnBehind g place part (octet ∷ []) (Some item) octets more) (sym e) (last_octet g ok place part octet more item found)
item_first g ok place part octet (next ∷ back) more whole item e h =
    let again_is : whole ≡ (part ++ octet ∷ []) ++ next ∷ back = e ∙ sym (append_assoc part (octet ∷ []) (next ∷ back)) in
    let none : meaning g place (part ++ octet ∷ []) ≡ None = front_is_none g ok place (part ++ octet ∷ []) (next ∷ back) item (ap (meaning g place) (sym again_is) ∙ h) (omega arith) in
    let again = item_first g ok place (part ++ octet ∷ []) next back more whole item again_is h in
    (rw (none, items_from) again.0, rw (none, unread_from) again.1, rw (none, place_from) again.2)

meaning-nil : {P F I : Type 0} (g : Grammar P F I) (ok : IsGrammar g) (place : P) → meaning g place [] ≡ None
meaning-nil g ok place = meaning-short g ok place [] (omega (arith, ok.some_header))

-- an item in front, then more
pub item-then : {P F I : Type 0} (g : Grammar P F I) (ok : IsGrammar g) (place : P) (octets more : List ℕ) (item : I) → meaning g place octets ≡ Some item → GoesOn g place [] octets (Some item) more
item-then g ok place [] more item h = absurd (some_is_not_none (meaning g place []) item h (meaning-nil g ok place))
item-then g ok place (octet ∷ octets) more item h = item_first g ok place [] octet octets more (octet ∷ octets) item refl h

-- while more octets are wanted no front is an item
wants_by_length :
    {P F I : Type 0} (g : Grammar P F I) (ok : IsGrammar g) (place : P) (front back : List ℕ) → (length front < g.header_length) ⊎ (g.header_length ≤ length front) → Wants g place (front ++ back) → meaning g place front ≡ None
wants_by_length g ok place front back (inl short) h = meaning-short g ok place front short
wants_by_length g ok place front back (inr whole) (inl few) =
    let both : length (front ++ back) ≡ length front + length back = length-append front back in
    absurd (omega (arith, both, whole, few))
wants_by_length g ok place front back (inr whole) (inr h) =
    let both : length (front ++ back) ≡ length front + length back = length-append front back in
    let told : g.told_length (front ++ back) ≡ g.told_length front = ok.told_in_header front back whole in
    let sound : g.header_fault place front ≡ None = sym (ok.fault_in_header place front back whole) ∙ h.1 in
    let fewer : length (front ++ back) < g.told_length (front ++ back) = h.2 in
    meaning-cut g ok place front whole sound (λ e. omega (arith, told, both, fewer, e))

pub wants_front : {P F I : Type 0} (g : Grammar P F I) (ok : IsGrammar g) (place : P) (front back : List ℕ) → Wants g place (front ++ back) → meaning g place front ≡ None
wants_front g ok place front back h = wants_by_length g ok place front back (cases_lt (length front) g.header_length) h

pub wants_none : {P F I : Type 0} (g : Grammar P F I) (ok : IsGrammar g) (place : P) (octets : List ℕ) → Wants g place octets → meaning g place octets ≡ None
wants_none g ok place octets h = wants_front g ok place octets [] (subst (Wants g place) (sym (append-nil octets)) h)

-- nothing is whole yet
pub wants-then :
    {P F I : Type 0} (g : Grammar P F I) (ok : IsGrammar g) (place : P) (part octets : List ℕ) → Wants g place (part ++ octets)
    → (items_from g place part octets ≡ []) × (unread_from g place part octets ≡ part ++ octets) × (place_from g place part octets ≡ place)
wants-then g ok place part [] h = (refl, sym (append-nil part), refl)
wants-then g ok place part (octet ∷ octets) h =
    let again_is : part ++ octet ∷ octets ≡ (part ++ octet ∷ []) ++ octets = sym (append_assoc part (octet ∷ []) octets) in
    let still : Wants g place ((part ++ octet ∷ []) ++ octets) = subst (Wants g place) again_is h in
    let none : meaning g place (part ++ octet ∷ []) ≡ None = wants_front g ok place (part ++ octet ∷ []) octets still in
    let again = wants-then g ok place (part ++ octet ∷ []) octets still in
    (rw (none, items_from) again.0, rw (none, unread_from) (again.1 ∙ sym again_is), rw (none, place_from) again.2)

pub wants-then_more : {P F I : Type 0} (g : Grammar P F I) (ok : IsGrammar g) (place : P) (part octets more : List ℕ) → Wants g place (part ++ octets) → GoesOn g place part octets None more
wants-then_more g ok place part octets more h =
    let none = wants-then g ok place part octets h in (
      items_from-append g ok place part octets more ∙ rw (none.0, none.1, none.2) refl,
      unread_from-append g ok place part octets more ∙ rw (none.1, none.2) refl,
      place_from-append g ok place part octets more ∙ rw (none.1, none.2) refl,
    )

-- behind a fault nothing is read

-- the octets begin with a faulty header, or have all of a PDU
abbrev pub Ended : {P F I : Type 0} → Grammar P F I → P → List ℕ → Type 0
Ended {P} {F} {I} g place part =
    (g.header_length ≤ length part)
    × (((fault : F) × (g.header_fault place part ≡ Some fault)) ⊎ ((g.header_fault place part ≡ None) × (g.told_length part ≤ length part)))

ended_push : {P F I : Type 0} (g : Grammar P F I) (ok : IsGrammar g) (place : P) (part : List ℕ) (octet : ℕ) → Ended g place part → (meaning g place (part ++ octet ∷ []) ≡ None) × Ended g place (part ++ octet ∷ [])
ended_push g ok place part octet (whole, inl h) =
    let longer : length (part ++ octet ∷ []) ≡ length part + 1 = length-append part (octet ∷ []) in
    let still : g.header_fault place (part ++ octet ∷ []) ≡ Some h.0 = ok.fault_in_header place part (octet ∷ []) whole ∙ h.1 in
    (meaning-past g ok place (part ++ octet ∷ []) h.0 (omega (arith, longer, whole)) still, (omega (arith, longer, whole), inl (h.0, still)))
ended_push g ok place part octet (whole, inr h) =
    let longer : length (part ++ octet ∷ []) ≡ length part + 1 = length-append part (octet ∷ []) in
    let still : g.header_fault place (part ++ octet ∷ []) ≡ None = ok.fault_in_header place part (octet ∷ []) whole ∙ h.0 in
    let told : g.told_length (part ++ octet ∷ []) ≡ g.told_length part = ok.told_in_header part (octet ∷ []) whole in
    let past : g.told_length part ≤ length part = h.1 in (
      meaning-cut g ok place (part ++ octet ∷ []) (omega (arith, longer, whole)) still (λ e. omega (arith, longer, told, past, e)),
      (omega (arith, longer, whole), inr (still, omega (arith, longer, told, past))),
    )

pub ended-then :
    {P F I : Type 0} (g : Grammar P F I) (ok : IsGrammar g) (place : P) (part octets : List ℕ) → Ended g place part
    → (items_from g place part octets ≡ []) × (unread_from g place part octets ≡ part ++ octets) × (place_from g place part octets ≡ place)
ended-then g ok place part [] h = (refl, sym (append-nil part), refl)
ended-then g ok place part (octet ∷ octets) h =
    let next = ended_push g ok place part octet h in
    let again = ended-then g ok place (part ++ octet ∷ []) octets next.1 in
    (rw (next.0, items_from) again.0, rw (next.0, unread_from) (again.1 ∙ append_assoc part (octet ∷ []) octets), rw (next.0, place_from) again.2)

-- so it is at the place behind the item that ends the stream
same_none : {X Y : Type 0} (found : Option X) (before : Option Y) → is_none found ≡ is_none before → before ≡ None → found ≡ None
same_none None before same none = refl
same_none (Some x) before same none = absurd (some_is_not_none (Some x) x refl cc)

same_some : {X Y : Type 0} (found : Option X) (before : Option Y) (y : Y) → is_none found ≡ is_none before → before ≡ Some y → (x : X) × (found ≡ Some x)
same_some None before y same some = absurd cc
same_some (Some x) before y same some = (x, refl)

ended_behind : {P F I : Type 0} (g : Grammar P F I) (ok : IsGrammar g) (place : P) (part : List ℕ) (item : I) → g.ends item ≡ true → Ended g place part → Ended g (g.behind place item) part
ended_behind g ok place part item ended (whole, inl h) = (whole, inl (same_some _ _ h.0 (ok.same_behind_end place item part ended) h.1))
ended_behind g ok place part item ended (whole, inr h) = (whole, inr (same_none _ _ (ok.same_behind_end place item part ended) h.0, h.1))

-- how many octets are wanted, by cases
needed-short : {P F I : Type 0} (g : Grammar P F I) (ok : IsGrammar g) (place : P) (part : List ℕ) → length part < g.header_length → needed_of g place part ≡ g.header_length - length part
needed-short g ok place part short = rw (lt-ltb (length part) g.header_length short) refl

needed-long : {P F I : Type 0} (g : Grammar P F I) (ok : IsGrammar g) (place : P) (part : List ℕ) → g.header_length ≤ length part → g.header_fault place part ≡ None → needed_of g place part ≡ g.told_length part - length part
needed-long g ok place part whole sound = rw (le-ltb (length part) g.header_length whole, sound) refl

needed-faulty : {P F I : Type 0} (g : Grammar P F I) (ok : IsGrammar g) (place : P) (part : List ℕ) (fault : F) → g.header_length ≤ length part → g.header_fault place part ≡ Some fault → needed_of g place part ≡ 0
needed-faulty g ok place part fault whole faulty = rw (le-ltb (length part) g.header_length whole, faulty) refl

-- what no more octets than are wanted make of a rest: one that wants more, or one item
abbrev pub Becomes : {P F I : Type 0} → Grammar P F I → P → List ℕ → Type 0
Becomes {P} {F} {I} g place octets = Wants g place octets ⊎ ((item : I) × (meaning g place octets ≡ Some item))

becomes_by_told :
    {P F I : Type 0} (g : Grammar P F I) (ok : IsGrammar g) (place : P) (octets : List ℕ) → g.header_length ≤ length octets → g.header_fault place octets ≡ None → length octets ≤ g.told_length octets
    → (length octets < g.told_length octets) ⊎ (g.told_length octets ≤ length octets) → Becomes g place octets
becomes_by_told g ok place octets whole sound most (inl fewer) = inl (inr (whole, sound, fewer))
becomes_by_told g ok place octets whole sound most (inr fits) = let found = ok.has_item place octets sound in inr (found.0, meaning-whole g ok place octets whole sound (omega (arith, most, fits)) ∙ found.1)

becomes_sound :
    {P F I : Type 0} (g : Grammar P F I) (ok : IsGrammar g) (place : P) (octets : List ℕ) → g.header_length ≤ length octets → g.header_fault place octets ≡ None → length octets ≤ g.told_length octets → Becomes g place octets
becomes_sound g ok place octets whole sound most = becomes_by_told g ok place octets whole sound most (cases_lt (length octets) (g.told_length octets))

-- the header has just become whole
becomes_header : {P F I : Type 0} (g : Grammar P F I) (ok : IsGrammar g) (place : P) (octets : List ℕ) (found : Option F) → g.header_fault place octets ≡ found → length octets ≡ g.header_length → Becomes g place octets
becomes_header g ok place octets None sound eight =
    let least = ok.told_least place octets sound in
    becomes_sound g ok place octets (omega (arith, eight)) sound (omega (arith, eight, least))
becomes_header g ok place octets (Some fault) faulty eight = inr (_, meaning-fault g ok place octets fault eight faulty)

becomes_by_length :
    {P F I : Type 0} (g : Grammar P F I) (ok : IsGrammar g) (place : P) (part piece : List ℕ) → Wants g place part → length piece ≤ needed_of g place part
    → (length part < g.header_length) ⊎ (g.header_length ≤ length part) → (length (part ++ piece) < g.header_length) ⊎ (g.header_length ≤ length (part ++ piece)) → Becomes g place (part ++ piece)
becomes_by_length g ok place part piece h fits before (inl few) = inl (inl few)
becomes_by_length g ok place part piece h fits (inl short) (inr whole) =
    let both : length (part ++ piece) ≡ length part + length piece = length-append part piece in
    let needed : needed_of g place part ≡ g.header_length - length part = needed-short g ok place part short in
    becomes_header g ok place (part ++ piece) _ refl (omega (arith, both, needed, fits, short, whole))
becomes_by_length g ok place part piece (inl few) fits (inr long) (inr whole) = absurd (omega (arith, few, long))
becomes_by_length g ok place part piece (inr h) fits (inr long) (inr whole) =
    let both : length (part ++ piece) ≡ length part + length piece = length-append part piece in
    let needed : needed_of g place part ≡ g.told_length part - length part = needed-long g ok place part long h.1 in
    let told : g.told_length (part ++ piece) ≡ g.told_length part = ok.told_in_header part piece long in
    let still : g.header_fault place (part ++ piece) ≡ None = ok.fault_in_header place part piece long ∙ h.1 in
    let fewer : length part < g.told_length part = h.2 in
    becomes_sound g ok place (part ++ piece) whole still (omega (arith, both, needed, told, fits, fewer))

pub becomes : {P F I : Type 0} (g : Grammar P F I) (ok : IsGrammar g) (place : P) (part piece : List ℕ) → Wants g place part → length piece ≤ needed_of g place part → Becomes g place (part ++ piece)
becomes g ok place part piece h fits = becomes_by_length g ok place part piece h fits (cases_lt (length part) g.header_length) (cases_lt (length (part ++ piece)) g.header_length)

-- where an item stands whole nothing is wanted
needed_by_fault : {P F I : Type 0} (g : Grammar P F I) (ok : IsGrammar g) (place : P) (part : List ℕ) (item : I) (found : Option F) → g.header_fault place part ≡ found → g.header_length ≤ length part → meaning g place part ≡ Some item → (length part ≡ g.told_length part) ⊎ (length part ≡ g.told_length part → ⊥) → needed_of g place part ≡ 0
needed_by_fault g ok place part item None sound whole h (inl all) = needed-long g ok place part whole sound ∙ omega (arith, all)
needed_by_fault g ok place part item None sound whole h (inr other) = absurd (some_is_not_none _ item h (meaning-cut g ok place part whole sound other))
needed_by_fault g ok place part item (Some fault) faulty whole h all = needed-faulty g ok place part fault whole faulty

needed_by_length : {P F I : Type 0} (g : Grammar P F I) (ok : IsGrammar g) (place : P) (part : List ℕ) (item : I) → (length part < g.header_length) ⊎ (g.header_length ≤ length part) → meaning g place part ≡ Some item → needed_of g place part ≡ 0
needed_by_length g ok place part item (inl short) h = absurd (some_is_not_none _ item h (meaning-short g ok place part short))
needed_by_length g ok place part item (inr whole) h = needed_by_fault g ok place part item _ refl whole h (cases_eq (length part) (g.told_length part))

pub needed-item : {P F I : Type 0} (g : Grammar P F I) (ok : IsGrammar g) (place : P) (part : List ℕ) (item : I) → meaning g place part ≡ Some item → needed_of g place part ≡ 0
needed-item g ok place part item h = needed_by_length g ok place part item (cases_lt (length part) g.header_length) h

-- a rest that wants more wants at least one octet
pub needed-some : {P F I : Type 0} (g : Grammar P F I) (ok : IsGrammar g) (place : P) (part : List ℕ) → Wants g place part → 1 ≤ needed_of g place part
needed-some g ok place part (inl few) = let needed : needed_of g place part ≡ g.header_length - length part = needed-short g ok place part few in omega (arith, needed, few)
needed-some g ok place part (inr h) =
    let needed : needed_of g place part ≡ g.told_length part - length part = needed-long g ok place part h.0 h.1 in
    let fewer : length part < g.told_length part = h.2 in
    omega (arith, needed, fewer)

-- one piece of a stream, of no more octets than are wanted, and what follows it

goes_on_by :
    {P F I : Type 0} (g : Grammar P F I) (ok : IsGrammar g) (place : P) (part : List ℕ) (octet : ℕ) (back more : List ℕ) → Becomes g place (part ++ octet ∷ back)
    → GoesOn g place part (octet ∷ back) (meaning g place (part ++ octet ∷ back)) more
goes_on_by g ok place part octet back more (inl h) =
    subst (λ found. GoesOn g place part (octet ∷ back) found more)
    (sym (wants_none g ok place (part ++ octet ∷ back) h)) (wants-then_more g ok place part (octet ∷ back) more h)
goes_on_by g ok place part octet back more (inr h) =
    subst (λ found. GoesOn g place part (octet ∷ back) found more)
    (sym h.1) (item_first g ok place part octet back more (part ++ octet ∷ back) h.0 refl h.1)

pub goes_on :
    {P F I : Type 0} (g : Grammar P F I) (ok : IsGrammar g) (place : P) (part piece more : List ℕ) → Wants g place part → 0 < length piece → length piece ≤ needed_of g place part
    → GoesOn g place part piece (meaning g place (part ++ piece)) more
goes_on g ok place part [] more h some fits = absurd (omega (arith, some))
goes_on g ok place part (octet ∷ back) more h some fits = goes_on_by g ok place part octet back more (becomes g ok place part (octet ∷ back) h fits)

-- an item is no front of another
pub only_whole : {P F I : Type 0} (g : Grammar P F I) (ok : IsGrammar g) (place : P) (octets more : List ℕ) (item other : I) → meaning g place octets ≡ Some item → meaning g place (octets ++ more) ≡ Some other → more ≡ []
only_whole g ok place octets [] item other h k = refl
only_whole g ok place octets (octet ∷ more) item other h k =
    absurd (some_is_not_none _ item h (front_is_none g ok place octets (octet ∷ more) other k (omega arith)))

-- octets that are an item end there
ended_by_fault :
    {P F I : Type 0} (g : Grammar P F I) (ok : IsGrammar g) (place : P) (octets : List ℕ) (item : I) (found : Option F) → g.header_fault place octets ≡ found → g.header_length ≤ length octets → meaning g place octets ≡ Some item
    → (length octets ≡ g.told_length octets) ⊎ (length octets ≡ g.told_length octets → ⊥) → Ended g place octets
ended_by_fault g ok place octets item None sound whole h (inl all) = (whole, inr (sound, omega (arith, all)))
ended_by_fault g ok place octets item None sound whole h (inr other) = absurd (some_is_not_none _ item h (meaning-cut g ok place octets whole sound other))
ended_by_fault g ok place octets item (Some fault) faulty whole h all = (whole, inl (fault, faulty))

ended_by_length : {P F I : Type 0} (g : Grammar P F I) (ok : IsGrammar g) (place : P) (octets : List ℕ) (item : I) → (length octets < g.header_length) ⊎ (g.header_length ≤ length octets) → meaning g place octets ≡ Some item → Ended g place octets
ended_by_length g ok place octets item (inl short) h = absurd (some_is_not_none _ item h (meaning-short g ok place octets short))
ended_by_length g ok place octets item (inr whole) h = ended_by_fault g ok place octets item _ refl whole h (cases_eq (length octets) (g.told_length octets))

pub item_ended : {P F I : Type 0} (g : Grammar P F I) (ok : IsGrammar g) (place : P) (octets : List ℕ) (item : I) → meaning g place octets ≡ Some item → Ended g place octets
item_ended g ok place octets item h = ended_by_length g ok place octets item (cases_lt (length octets) g.header_length) h

-- an item at the front that ends the stream is the last, and one that doesn't has the others behind it
pub behind_end :
    {P F I : Type 0} (g : Grammar P F I) (ok : IsGrammar g) (place : P) (part octets : List ℕ) (item : I) → meaning g place part ≡ Some item → g.ends item ≡ true
    → (items_from g (g.behind place item) part octets ≡ []) × (unread_from g (g.behind place item) part octets ≡ part ++ octets) × (place_from g (g.behind place item) part octets ≡ g.behind place item)
behind_end g ok place part octets item h ended = ended-then g ok (g.behind place item) part octets (ended_behind g ok place part item ended (item_ended g ok place part item h))

pub end-then :
    {P F I : Type 0} (g : Grammar P F I) (ok : IsGrammar g) (place : P) (octets more : List ℕ) (item : I) → meaning g place octets ≡ Some item → g.ends item ≡ true
    → (items_from g place [] (octets ++ more) ≡ item ∷ []) × (unread_from g place [] (octets ++ more) ≡ octets ++ more) × (place_from g place [] (octets ++ more) ≡ g.behind place item)
end-then g ok place octets more item h ended =
    let first = item-then g ok place octets more item h in
    let again = behind_end g ok place octets more item h ended in
    (first.0 ∙ rw ended (ap (λ items. item ∷ items) again.0), first.1 ∙ rw ended again.1, first.2 ∙ rw ended again.2)

pub others-then :
    {P F I : Type 0} (g : Grammar P F I) (ok : IsGrammar g) (place : P) (octets more : List ℕ) (item : I) → meaning g place octets ≡ Some item → g.ends item ≡ false
    → (items_from g place [] (octets ++ more) ≡ item ∷ items_from g (g.behind place item) [] more)
    × (unread_from g place [] (octets ++ more) ≡ unread_from g (g.behind place item) [] more)
    × (place_from g place [] (octets ++ more) ≡ place_from g (g.behind place item) [] more)
others-then g ok place octets more item h goes =
    let first = item-then g ok place octets more item h in
    (first.0 ∙ rw goes refl, first.1 ∙ rw goes refl, first.2 ∙ rw goes refl)

-- what is read as an item is it
one_found : {X : Type 0} (found : Option X) (x y : X) → found ≡ Some x → found ≡ Some y → x ≡ y
one_found found x y e f = cc

is_item_by_fault :
    {P F I : Type 0} (g : Grammar P F I) (ok : IsGrammar g) (place : P) (octets : List ℕ) (item : I) (found : Option F) → g.header_fault place octets ≡ found → g.header_length ≤ length octets
    → meaning g place octets ≡ Some item → (length octets ≡ g.told_length octets) ⊎ (length octets ≡ g.told_length octets → ⊥)
    → (length octets ≡ g.header_length) ⊎ (length octets ≡ g.header_length → ⊥) → IsItem g place octets item
is_item_by_fault g ok place octets item None sound whole h (inl all) header = inl (whole, sound, all, sym (meaning-whole g ok place octets whole sound all) ∙ h)
is_item_by_fault g ok place octets item None sound whole h (inr other) header = absurd (some_is_not_none _ item h (meaning-cut g ok place octets whole sound other))
is_item_by_fault g ok place octets item (Some fault) faulty whole h all (inl header) = inr (fault, header, faulty, one_found _ _ _ h (meaning-fault g ok place octets fault header faulty))
is_item_by_fault g ok place octets item (Some fault) faulty whole h all (inr other) =
    absurd (some_is_not_none _ item h (meaning-past g ok place octets fault (omega (arith, whole, other)) faulty))

is_item_by_length : {P F I : Type 0} (g : Grammar P F I) (ok : IsGrammar g) (place : P) (octets : List ℕ) (item : I) → (length octets < g.header_length) ⊎ (g.header_length ≤ length octets) → meaning g place octets ≡ Some item → IsItem g place octets item
is_item_by_length g ok place octets item (inl short) h = absurd (some_is_not_none _ item h (meaning-short g ok place octets short))
is_item_by_length g ok place octets item (inr whole) h =
    is_item_by_fault g ok place octets item _ refl whole h (cases_eq (length octets) (g.told_length octets)) (cases_eq (length octets) g.header_length)

pub is_item : {P F I : Type 0} (g : Grammar P F I) (ok : IsGrammar g) (place : P) (octets : List ℕ) (item : I) → meaning g place octets ≡ Some item → IsItem g place octets item
is_item g ok place octets item h = is_item_by_length g ok place octets item (cases_lt (length octets) g.header_length) h

-- and the item that ends the stream is one that ends it at the place behind it too
ends_by_item :
    {P F I : Type 0} (g : Grammar P F I) (ok : IsGrammar g) (place : P) (octets : List ℕ) (item : I) → g.ends item ≡ true → IsItem g place octets item
    → (other : I) × (meaning g (g.behind place item) octets ≡ Some other) × (g.ends other ≡ true)
ends_by_item g ok place octets item ended (inl (whole, sound, all, is_whole)) =
    let still = same_none _ _ (ok.same_behind_end place item octets ended) sound in
    (item, meaning-item g ok (g.behind place item) octets item (inl (whole, still, all, is_whole)), ended)
ends_by_item g ok place octets item ended (inr (fault, header, faulty, is_faulty)) =
    let still = same_some _ _ fault (ok.same_behind_end place item octets ended) faulty in
    (g.faulty still.0 octets, meaning-fault g ok (g.behind place item) octets still.0 header still.1, ok.fault_ends still.0 octets)

pub ends_behind :
    {P F I : Type 0} (g : Grammar P F I) (ok : IsGrammar g) (place : P) (octets : List ℕ) (item : I) → meaning g place octets ≡ Some item → g.ends item ≡ true
    → (other : I) × (meaning g (g.behind place item) octets ≡ Some other) × (g.ends other ≡ true)
ends_behind g ok place octets item h ended = ends_by_item g ok place octets item ended (is_item g ok place octets item h)
