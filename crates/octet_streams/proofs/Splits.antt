use Rattle.std.proofs.Common.{◌≡◌, ◌≤◌, ◌<◌, ℕ, Bool, true, false, List, [], ◌∷◌, ◌++◌, length, take, drop, Option, Some, None, ◌⊎◌, inl, inr, refl, ap, sym, subst, ◌∙◌, arith, append_assoc, append-nil}
use Rattle.std.specs.List.{concat}
use Rattle.std.proofs.lemmas.Bool.{cases_lt}
use Rattle.std.proofs.lemmas.List.{take-append-drop, length-take-le, nil_from_length}
use Rattle.octet_streams.specs.Grammar.{Grammar, IsGrammar}
use Rattle.octet_streams.specs.Streams.{meaning, HasNoItem, IsItem, items_from, unread_from, place_from, items_of_pieces, unread_of_pieces, Splits, Wants, needed_of}
use Rattle.octet_streams.proofs.Streams.{meaning-item, is_item, some_is_not_none, items_from-append, unread_from-append, last_octet, wants_front, wants_none, wants-then, Becomes, becomes, needed-some, needed-item, only_whole, end-then, others-then, behind_end, ends_behind}

-- A stream is its items one after another, and it is so in no other way, however it is cut.

-- a header without a fault and as many octets as it tells, from the first to the last
abbrev pub IsWhole : {P F I : Type 0} → Grammar P F I → P → List ℕ → Type 0
IsWhole g place octets = (g.header_length ≤ length octets) × (g.header_fault place octets ≡ None) × (length octets ≡ g.told_length octets)

-- where they stand at the front, and where a faulty header does
pub whole_at_front :
    {P F I : Type 0} (g : Grammar P F I) (ok : IsGrammar g) (place : P) (octets : List ℕ) → g.header_fault place octets ≡ None → g.told_length octets ≤ length octets
    → IsWhole g place (take (g.told_length octets) octets)
whole_at_front g ok place octets sound fits =
    let front = take (g.told_length octets) octets in
    let back = drop (g.told_length octets) octets in
    let parts : take (g.told_length octets) octets ++ drop (g.told_length octets) octets ≡ octets = take-append-drop (g.told_length octets) octets in
    let count : length (take (g.told_length octets) octets) ≡ g.told_length octets = length-take-le (g.told_length octets) octets fits in
    let least : g.header_length ≤ g.told_length octets = ok.told_least place octets sound in
    let whole : g.header_length ≤ length (take (g.told_length octets) octets) = omega (arith, count, least) in (
      whole,
      sym (ok.fault_in_header place front back whole) ∙ ap (g.header_fault place) parts ∙ sound,
      count ∙ sym (ap g.told_length parts) ∙ ok.told_in_header front back whole,
    )

pub faulty_at_front :
    {P F I : Type 0} (g : Grammar P F I) (ok : IsGrammar g) (place : P) (octets : List ℕ) (fault : F) → g.header_length ≤ length octets → g.header_fault place octets ≡ Some fault
    → IsItem g place (take g.header_length octets) (g.faulty fault (take g.header_length octets))
faulty_at_front g ok place octets fault whole faulty =
    let front = take g.header_length octets in
    let back = drop g.header_length octets in
    let parts : take g.header_length octets ++ drop g.header_length octets ≡ octets = take-append-drop g.header_length octets in
    let count : length (take g.header_length octets) ≡ g.header_length = length-take-le g.header_length octets whole in
    inr (fault, count, sym (ok.fault_in_header place front back (omega (arith, count))) ∙ ap (g.header_fault place) parts ∙ faulty, refl)

-- a rest without an item at its front wants more, and one that wants more has none
wants_by_told :
    {P F I : Type 0} (g : Grammar P F I) (ok : IsGrammar g) (place : P) (octets : List ℕ) → HasNoItem g place octets → g.header_length ≤ length octets → g.header_fault place octets ≡ None
    → (length octets < g.told_length octets) ⊎ (g.told_length octets ≤ length octets) → Wants g place octets
wants_by_told g ok place octets none whole sound (inl fewer) = inr (whole, sound, fewer)
wants_by_told g ok place octets none whole sound (inr fits) =
    let front = whole_at_front g ok place octets sound fits in
    let found = ok.has_item place (take (g.told_length octets) octets) front.1 in
    absurd (none _ _ found.0 (sym (take-append-drop (g.told_length octets) octets)) (inl (front.0, front.1, front.2, found.1)))

wants_by_fault : {P F I : Type 0} (g : Grammar P F I) (ok : IsGrammar g) (place : P) (octets : List ℕ) (found : Option F) → g.header_fault place octets ≡ found → HasNoItem g place octets → g.header_length ≤ length octets → Wants g place octets
wants_by_fault g ok place octets None sound none whole = wants_by_told g ok place octets none whole sound (cases_lt (length octets) (g.told_length octets))
wants_by_fault g ok place octets (Some fault) faulty none whole =
    absurd (none _ _ _ (sym (take-append-drop g.header_length octets)) (faulty_at_front g ok place octets fault whole faulty))

wants_by_header : {P F I : Type 0} (g : Grammar P F I) (ok : IsGrammar g) (place : P) (octets : List ℕ) → HasNoItem g place octets → (length octets < g.header_length) ⊎ (g.header_length ≤ length octets) → Wants g place octets
wants_by_header g ok place octets none (inl few) = inl few
wants_by_header g ok place octets none (inr whole) = wants_by_fault g ok place octets _ refl none whole

pub wants-from_none : {P F I : Type 0} (g : Grammar P F I) (ok : IsGrammar g) (place : P) (octets : List ℕ) → HasNoItem g place octets → Wants g place octets
wants-from_none g ok place octets none = wants_by_header g ok place octets none (cases_lt (length octets) g.header_length)

pub none-from_wants : {P F I : Type 0} (g : Grammar P F I) (ok : IsGrammar g) (place : P) (octets : List ℕ) → Wants g place octets → HasNoItem g place octets
none-from_wants g ok place octets wants = λ front back item e is_item. some_is_not_none (meaning g place front) item (meaning-item g ok place front item is_item) (wants_front g ok place front back (subst (Wants g place) e wants))

-- the only way in which a stream splits
pub split :
    {P F I : Type 0} (g : Grammar P F I) (ok : IsGrammar g) (place : P) (stream : List ℕ) (items : List I) (rest : List ℕ) → Splits g place stream items rest
    → (items ≡ items_from g place [] stream) × (rest ≡ unread_from g place [] stream)
split g ok place stream [] rest (same, none) =
    let found = wants-then g ok place [] stream (wants-from_none g ok place stream (subst (HasNoItem g place) (sym same) none)) in
    (sym found.0, sym same ∙ sym found.1)
split g ok place stream (item ∷ items) rest (octets, more, is_item, all, inl (ended, none, same)) =
    let found = end-then g ok place octets more item (meaning-item g ok place octets item is_item) ended in
    (ap (λ x. item ∷ x) none ∙ sym found.0 ∙ ap (items_from g place []) (sym all), sym same ∙ all ∙ sym found.1 ∙ ap (unread_from g place []) (sym all))
split g ok place stream (item ∷ items) rest (octets, more, is_item, all, inr (goes, others)) =
    let first = others-then g ok place octets more item (meaning-item g ok place octets item is_item) goes in
    let again = split g ok (g.behind place item) more items rest others in
    (ap (λ x. item ∷ x) again.0 ∙ sym first.0 ∙ ap (items_from g place []) (sym all), again.1 ∙ sym first.1 ∙ ap (unread_from g place []) (sym all))

abbrev Splits_from : {P F I : Type 0} → Grammar P F I → P → List ℕ → List ℕ → Type 0
Splits_from g place part octets = Splits g place (part ++ octets) (items_from g place part octets) (unread_from g place part octets)

splits_by :
    {P F I : Type 0} (g : Grammar P F I) (place : P) (stream rest found_rest : List ℕ) (items found : List I) → items ≡ found → rest ≡ found_rest
    → Splits g place stream found found_rest → Splits g place stream items rest
splits_by g place stream rest found_rest items found e f h =
    subst (λ x. Splits g place stream x rest) (sym e) (subst (λ r. Splits g place stream found r) (sym f) h)

splits_item :
    {P F I : Type 0} (g : Grammar P F I) (ok : IsGrammar g) (place : P) (part octets : List ℕ) (octet : ℕ) (item : I) → meaning g place (part ++ octet ∷ []) ≡ Some item
    → (ends : Bool) → g.ends item ≡ ends → ((next : P) → Splits_from g next [] octets) → Splits_from g place part (octet ∷ octets)
splits_item g ok place part octets octet item found true ended anew =
    let all : part ++ octet ∷ octets ≡ (part ++ octet ∷ []) ++ octets = sym (append_assoc part (octet ∷ []) octets) in
    let step = last_octet g ok place part octet octets item found in
    let again = behind_end g ok place (part ++ octet ∷ []) octets item found ended in
    splits_by g place _ _ _ _ (item ∷ []) (step.0 ∙ rw ended (ap (λ x. item ∷ x) again.0)) (step.1 ∙ rw ended again.1)
    (part ++ octet ∷ [], octets, is_item g ok place (part ++ octet ∷ []) item found, all, inl (ended, refl, all))
splits_item g ok place part octets octet item found false goes anew =
    let all : part ++ octet ∷ octets ≡ (part ++ octet ∷ []) ++ octets = sym (append_assoc part (octet ∷ []) octets) in
    let step = last_octet g ok place part octet octets item found in
    splits_by g place _ _ _ _ (item ∷ items_from g (g.behind place item) [] octets) (step.0 ∙ rw goes refl) (step.1 ∙ rw goes refl)
    (part ++ octet ∷ [], octets, is_item g ok place (part ++ octet ∷ []) item found, all, inr (goes, anew (g.behind place item)))

splits_step :
    {P F I : Type 0} (g : Grammar P F I) (ok : IsGrammar g) (place : P) (part octets : List ℕ) (octet : ℕ)
    → Wants g place (part ++ octet ∷ []) ⊎ ((item : I) × (meaning g place (part ++ octet ∷ []) ≡ Some item))
    → (Wants g place (part ++ octet ∷ []) → Splits_from g place (part ++ octet ∷ []) octets) → ((next : P) → Splits_from g next [] octets)
    → Splits_from g place part (octet ∷ octets)
splits_step g ok place part octets octet (inl wants) again anew =
    let all : (part ++ octet ∷ []) ++ octets ≡ part ++ octet ∷ octets = append_assoc part (octet ∷ []) octets in
    let none : meaning g place (part ++ octet ∷ []) ≡ None = wants_none g ok place (part ++ octet ∷ []) wants in
    splits_by g place _ _ (unread_from g place (part ++ octet ∷ []) octets) _ (items_from g place (part ++ octet ∷ []) octets) (rw (none, items_from) refl) (rw (none, unread_from) refl)
    (subst (λ x. Splits g place x (items_from g place (part ++ octet ∷ []) octets) (unread_from g place (part ++ octet ∷ []) octets)) all (again wants))
splits_step g ok place part octets octet (inr found) again anew = splits_item g ok place part octets octet found.0 found.1 _ refl anew

splits_from : {P F I : Type 0} (g : Grammar P F I) (ok : IsGrammar g) (place : P) (part octets : List ℕ) → Wants g place part → Splits_from g place part octets
splits_from g ok place part [] wants = (append-nil part, none-from_wants g ok place part wants)
splits_from g ok place part (octet ∷ octets) wants =
    splits_step g ok place part octets octet (becomes g ok place part (octet ∷ []) wants (needed-some g ok place part wants))
    (λ k. splits_from g ok place (part ++ octet ∷ []) octets k) (λ next. splits_from g ok next [] octets (inl (omega (arith, ok.some_header))))

-- each stream splits
pub splits : {P F I : Type 0} (g : Grammar P F I) (ok : IsGrammar g) (place : P) (stream : List ℕ) → Splits g place stream (items_from g place [] stream) (unread_from g place [] stream)
splits g ok place stream = splits_from g ok place [] stream (inl (omega (arith, ok.some_header)))

-- what is unread is unread again
abbrev IsUnreadAgain : {P F I : Type 0} → Grammar P F I → P → List ℕ → Type 0
IsUnreadAgain g place rest = unread_from g place [] rest ≡ rest

unread_by_rest :
    {P F I : Type 0} (g : Grammar P F I) (ok : IsGrammar g) (place : P) (stream : List ℕ) (items : List I) (rest : List ℕ) → Splits g place stream items rest
    → IsUnreadAgain g (place_from g place [] stream) rest
unread_by_rest g ok place stream [] rest (same, none) =
    let found = wants-then g ok place [] rest (wants-from_none g ok place rest none) in
    subst (λ next. IsUnreadAgain g next rest) (sym (ap (place_from g place []) same ∙ found.2)) found.1
unread_by_rest g ok place stream (item ∷ items) rest (octets, more, is_first, all, inl (ended, none, same)) =
    let found = meaning-item g ok place octets item is_first in
    let there = (end-then g ok place octets more item found ended).2 in
    let other = ends_behind g ok place octets item found ended in
    let again = (end-then g ok (g.behind place item) octets more other.0 other.1 other.2).1 in
    subst (λ next. IsUnreadAgain g next rest) (sym (ap (place_from g place []) all ∙ there)) (subst (IsUnreadAgain g (g.behind place item)) (sym all ∙ same) again)
unread_by_rest g ok place stream (item ∷ items) rest (octets, more, is_first, all, inr (goes, others)) =
    let there = (others-then g ok place octets more item (meaning-item g ok place octets item is_first) goes).2 in
    subst (λ next. IsUnreadAgain g next rest) (sym (ap (place_from g place []) all ∙ there)) (unread_by_rest g ok (g.behind place item) more items rest others)

pub unread_again : {P F I : Type 0} (g : Grammar P F I) (ok : IsGrammar g) (place : P) (stream : List ℕ) → IsUnreadAgain g (place_from g place [] stream) (unread_from g place [] stream)
unread_again g ok place stream = unread_by_rest g ok place stream (items_from g place [] stream) (unread_from g place [] stream) (splits g ok place stream)

-- what a receiver keeps that takes no more octets than are wanted: a rest that wants more, or one item; an item at its front is all of it
pub all_of_one :
    {P F I : Type 0} (g : Grammar P F I) (ok : IsGrammar g) (place : P) (part : List ℕ) (n : ℕ) (item : I) → Becomes g place part → meaning g place (take n part) ≡ Some item → take n part ≡ part
all_of_one g ok place part n item (inl wants) found =
    absurd (some_is_not_none _ item found (wants_front g ok place (take n part) (drop n part) (subst (Wants g place) (sym (take-append-drop n part)) wants)))
all_of_one g ok place part n item (inr (other, is_other)) found =
    let parts : take n part ++ drop n part ≡ part = take-append-drop n part in
    let none : drop n part ≡ [] = only_whole g ok place (take n part) (drop n part) item other found (ap (meaning g place) parts ∙ is_other) in
    sym (append-nil (take n part)) ∙ ap (λ back. take n part ++ back) (sym none) ∙ parts

pub one_still : {P F I : Type 0} (g : Grammar P F I) (ok : IsGrammar g) (place : P) (part piece : List ℕ) → Becomes g place part → length piece ≤ needed_of g place part → Becomes g place (part ++ piece)
one_still g ok place part piece (inl wants) fits = becomes g ok place part piece wants fits
one_still g ok place part piece (inr (item, found)) fits =
    let none : piece ≡ [] = nil_from_length piece (omega (arith, fits, needed-item g ok place part item found)) in
    inr (item, ap (λ more. meaning g place (part ++ more)) none ∙ ap (meaning g place) (append-nil part) ∙ found)

-- however a stream is cut
pub pieces :
    {P F I : Type 0} (g : Grammar P F I) (ok : IsGrammar g) (place : P) (part : List ℕ) (pieces : List (List ℕ))
    → (items_of_pieces g place part pieces ≡ items_from g place part (concat pieces)) × (unread_of_pieces g place part pieces ≡ unread_from g place part (concat pieces))
pieces g ok place part [] = (refl, refl)
pieces g ok place part (piece ∷ others) =
    let again = pieces g ok (place_from g place part piece) (unread_from g place part piece) others in (
      ap (λ x. items_from g place part piece ++ x) again.0 ∙ sym (items_from-append g ok place part piece (concat others)),
      again.1 ∙ sym (unread_from-append g ok place part piece (concat others)),
    )
