use Rattle.std.proofs.Common.{◌≡◌, ◌≤◌, ℕ, List, ◌++◌, length, take, drop, get_or, Option, Some, None, inl, inr, ap, sym, subst, ◌∙◌, arith, append_assoc}
use Rattle.std.proofs.lemmas.List.{take-append-drop, length-take, length-take-le, get_or-take}
use Rattle.std.specs.Option.{option_and_then}
use Rattle.octet_streams.proofs.Streams.{meaning-item, meaning-whole, some_is_not_none}
use Rattle.octet_streams.proofs.Splits.{whole_at_front, faulty_at_front, all_of_one as all_of, one_still}
use Rattle.rtr_codec.specs.declared.fault.PduFault.{PduFault}
use Rattle.rtr_codec.specs.declared.fault.PduFault.TheVariants.{Payload}
use Rattle.rtr_codec.specs.declared.pdu.Pdu.{Pdu}
use Rattle.rtr_codec.specs.declared.header.PduType.{PduType}
use Rattle.rtr_codec.specs.declared.place.Place.{Place}
use Rattle.rtr_codec.specs.declared.reading.Step.{Step}
use Rattle.rtr_codec.specs.declared.reading.Step.TheVariants.{Need, Whole, Faulty}
use Rattle.rtr_codec.specs.PduContents.{content_at, content_by, kind_at, told_length}
use Rattle.rtr_codec.specs.PduSpelling.{Content, content_of}
use Rattle.rtr_codec.specs.PduStream.{Item, WholePdu, FaultyPdu, IsPdu, HasFault, Wants, Tells, IsFront, item_with, meaning, needed_of, pdu_grammar, pdus}
use Rattle.rtr_codec.specs.PduTypes.{type_of}
use Rattle.rtr_codec.specs.Receiving.{IsOneAtMost, Reception, UsesAll, item_shown, passed_by}
use Rattle.rtr_codec.proofs.Streams.{is_grammar, meaning-pdu, pdu-then, wants-then, wants_none, fault-then}

-- A reader's answer, and the stream.

-- the octets that a PDU uses are that PDU
pub answer_is_pdu : (place : Place) (octets : List ℕ) (pdu : Pdu) (used : ℕ) → Tells place octets (Whole pdu used) → IsPdu place (take used octets) (content_of pdu)
unfolding pdu_grammar
answer_is_pdu place octets pdu used h =
    let told : used ≡ told_length octets = h.3 in
    let front = whole_at_front pdu_grammar is_grammar place octets h.4 (omega (arith, told, h.2)) in
    let found : IsPdu place (take (told_length octets) octets) (content_of pdu) =
    record { whole_header = front.0; sound = front.1; length_is = front.2; content_is = ap (λ (n : ℕ). content_at (take n octets)) (sym told) ∙ h.5 } in
    subst (λ (n : ℕ). IsPdu place (take n octets) (content_of pdu)) (sym told) found

-- what is quoted of a fault stands at the front, and is that fault
abbrev pub IsQuotedFront : Place → List ℕ → PduFault → List ℕ → Type 0
IsQuotedFront place octets fault quoted = (n : ℕ) × (quoted ≡ take n octets) × (meaning place quoted ≡ Some (FaultyPdu fault quoted))

pub quoted_front : (place : Place) (octets quoted : List ℕ) (fault : PduFault) → HasFault place octets fault quoted → IsQuotedFront place octets fault quoted
unfolding pdu_grammar
quoted_front place octets quoted fault (inl h) =
    let front = meaning-item pdu_grammar is_grammar place _ _ (faulty_at_front pdu_grammar is_grammar place octets fault h.0 h.1) in
    (8, h.2, subst (λ (x : List ℕ). meaning place x ≡ Some (FaultyPdu fault x)) (sym h.2) front)
quoted_front place octets quoted fault (inr h) =
    let front = whole_at_front pdu_grammar is_grammar place octets h.1 h.2 in
    let none : content_at (take (told_length octets) octets) ≡ None = ap content_at (sym h.4) ∙ h.5 in
    let found : meaning place (take (told_length octets) octets) ≡ Some (FaultyPdu Payload (take (told_length octets) octets)) =
    meaning-whole pdu_grammar is_grammar place _ front.0 front.1 front.2 ∙ ap (λ (c : Option Content). Some (item_with (take (told_length octets) octets) c)) none in (
      told_length octets,
      h.4,
      subst (λ (x : List ℕ). meaning place x ≡ Some (FaultyPdu fault x)) (sym h.4) (subst (λ (f : PduFault). meaning place (take (told_length octets) octets) ≡ Some (FaultyPdu f (take (told_length octets) octets))) (sym h.3) found),
    )

-- the answer is the front of the stream
regroup : (n : ℕ) (octets more : List ℕ) → octets ++ more ≡ take n octets ++ (drop n octets ++ more)
regroup n octets more = ap (λ (x : List ℕ). x ++ more) (sym (take-append-drop n octets)) ∙ append_assoc (take n octets) (drop n octets) more

pub is_front : (place : Place) (octets : List ℕ) (step : Step) → Tells place octets step → IsFront place octets step
is_front place octets Need h = wants-then place octets h
is_front place octets (Whole pdu used) h = λ more.
    let found = meaning-pdu place (take used octets) (content_of pdu) (answer_is_pdu place octets pdu used h) in
    ap (pdus place) (regroup used octets more) ∙ (pdu-then place (take used octets) (drop used octets ++ more) (content_of pdu) found).0
is_front place octets (Faulty fault quoted) h = λ more.
    let front = quoted_front place octets quoted.now fault h in
    let all : octets ++ more ≡ quoted.now ++ (drop front.0 octets ++ more) = regroup front.0 octets more ∙ ap (λ (x : List ℕ). x ++ (drop front.0 octets ++ more)) (sym front.1) in
    ap (pdus place) all ∙ (fault-then place quoted.now (drop front.0 octets ++ more) fault front.2).0

-- where no more than one item came, the answer is about all of it
all_of_one :
    (place : Place) (part : List ℕ) (n : ℕ) (item : Item) → IsOneAtMost (record { place = place; part = part }) → meaning place (take n part) ≡ Some item → take n part ≡ part
unfolding pdu_grammar
all_of_one place part n item one found = all_of pdu_grammar is_grammar place part n item one found

all_of_pdu : (place : Place) (part : List ℕ) (pdu : Pdu) (used : ℕ) → IsOneAtMost (record { place = place; part = part }) → Tells place part (Whole pdu used) → take used part ≡ part
all_of_pdu place part pdu used one h = all_of_one place part used _ one (meaning-pdu place (take used part) (content_of pdu) (answer_is_pdu place part pdu used h))

all_quoted : (place : Place) (part quoted : List ℕ) (fault : PduFault) → IsOneAtMost (record { place = place; part = part }) → HasFault place part fault quoted → quoted ≡ part
all_quoted place part quoted fault one h =
    let front = quoted_front place part quoted fault h in
    front.1 ∙ all_of_one place part front.0 _ one (ap (meaning place) (sym front.1) ∙ front.2)

pub item_is_shown : (place : Place) (part : List ℕ) (step : Step) → IsOneAtMost (record { place = place; part = part }) → Tells place part step → meaning place part ≡ item_shown part step
item_is_shown place part Need one h = wants_none place part h
item_is_shown place part (Whole pdu used) one h =
    subst (λ (x : List ℕ). meaning place x ≡ Some (WholePdu (content_of pdu) x)) (all_of_pdu place part pdu used one h)
    (meaning-pdu place (take used part) (content_of pdu) (answer_is_pdu place part pdu used h))
item_is_shown place part (Faulty fault quoted) one h =
    subst (λ (x : List ℕ). meaning place x ≡ Some (FaultyPdu fault x)) (all_quoted place part quoted.now fault one h) (quoted_front place part quoted.now fault h).2

pub uses_all : (place : Place) (part : List ℕ) (step : Step) → IsOneAtMost (record { place = place; part = part }) → Tells place part step → UsesAll part step
uses_all place part Need one h = tt
uses_all place part (Whole pdu used) one h = sym (length-take-le used part h.2) ∙ ap length (all_of_pdu place part pdu used one h)
uses_all place part (Faulty fault quoted) one h = all_quoted place part quoted.now fault one h

-- what a reader of one type answers is what the whole PDU says
pub content_by_type :
    (octets : List ℕ) (n : ℕ) (kind : PduType) → 8 ≤ n → n ≤ length octets → type_of (kind_at octets) ≡ Some kind
    → content_at (take n octets) ≡ content_by (take n octets) kind
unfolding content_at
content_by_type octets n kind least fits kind_is =
    let same : get_or (take n octets) 1 0 ≡ get_or octets 1 0 = get_or-take n octets 1 0 (omega (arith, least)) in
    ap (λ (o : ℕ). option_and_then (content_by (take n octets)) (type_of o)) same ∙ ap (option_and_then (content_by (take n octets))) kind_is

-- octets that come, no more than are wanted, leave one item at most
pub one_at_most_push :
    (place : Place) (part octets : List ℕ) (count : ℕ) → IsOneAtMost (record { place = place; part = part }) → count ≤ needed_of place part
    → IsOneAtMost (record { place = place; part = part ++ take count octets })
unfolding pdu_grammar
one_at_most_push place part octets count one fits =
    one_still pdu_grammar is_grammar place part (take count octets) one (omega (arith, length-take count octets, fits))

-- once the item is passed, where one stands there, more octets are wanted
pub wants_passed :
    (r : Reception) (found : Option Item) → IsOneAtMost r → meaning r.place r.part ≡ found → Wants (passed_by r found).place (passed_by r found).part
wants_passed r None (inl wants) none = wants
wants_passed r None (inr item) none = absurd (some_is_not_none _ item.0 item.1 none)
wants_passed r (Some item) one is_item = inl (omega arith)
