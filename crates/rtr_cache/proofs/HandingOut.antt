-- What a router reads of octets that are handed out, piece by piece.
use Rattle.std.proofs.Common.{◌≡◌, ◌≤◌, ◌<◌, ◌-◌, ℕ, Bool, true, false, List, [], ◌∷◌, ◌++◌, take, drop, min, Option, Some, None, IsSome, is_some, length, refl, ap, sym, ◌∙◌, arith, length-drop}
use Rattle.std.proofs.lemmas.List.{length-take-le, take-append-drop, take_all}
use Rattle.rtr_cache.specs.HandedOut.{Handed, IsReading, behind_items, handing, handing_by, has_fault, is_fault, last_serial, read_on, serial_behind, serial_by, unless_faulty}
use Rattle.rtr_codec.specs.declared.place.Place.{Place}
use Rattle.rtr_codec.specs.PduStream.{Item, WholePdu, FaultyPdu, Tells, Wants, meaning, needed_of, pdus_from, place_after, place_from, unread_from}
use Rattle.rtr_codec.specs.Receiving.{Reception, passed, passed_by, received}
use Rattle.rtr_codec.specs.PduSpelling.{Content, content_of}
use Rattle.rtr_codec.specs.declared.pdu.Pdu.{Pdu}
use Rattle.rtr_codec.specs.declared.reading.Step.TheVariants.{Whole}
use Rattle.rtr_codec.proofs.ReaderAnswers.{answer_is_pdu}
use Rattle.rtr_codec.proofs.Streams.{goes_on, meaning-pdu, pdu-then, pdus_from-append, place-then, place_behind, unread_behind}

-- a reading of some PDUs goes on with more octets
items_then :
    (back : List ℕ) (r : Reception) (before : Option ℕ) (items : List Item)
    → behind_items (items ++ pdus_from r.place r.part back) (read_on r back) before ≡ handing_by back (unless_faulty (has_fault items) r) (last_serial before items)
items_then back r before [] = refl
items_then back r before (WholePdu content octets ∷ items) = items_then back r (serial_by content before) items
items_then back r before (FaultyPdu fault octets ∷ items) = refl

append_by :
    (front back : List ℕ) (reading : Option Reception) (before : Option ℕ)
    → handing_by (front ++ back) reading before ≡ handing back (handing_by front reading before)
append_by front back None before = refl
append_by front back (Some r) before =
    let items = pdus_from-append r.place r.part front back in
    let place = place_behind r.place r.part front back in
    let part = unread_behind r.place r.part front back in
    ap (λ (all : List Item). behind_items all (read_on r (front ++ back)) before) items
    ∙ ap (λ (p : Place). behind_items (pdus_from r.place r.part front ++ pdus_from (read_on r front).place (read_on r front).part back) (record { place = p; part = unread_from r.place r.part (front ++ back) }) before) place
    ∙ ap (λ (u : List ℕ). behind_items (pdus_from r.place r.part front ++ pdus_from (read_on r front).place (read_on r front).part back) (record { place = place_from (read_on r front).place (read_on r front).part back; part = u }) before) part
    ∙ items_then back (read_on r front) before (pdus_from r.place r.part front)

-- octets that are handed out in two pieces
pub handing-append : (front back : List ℕ) (handed : Handed) → handing (front ++ back) handed ≡ handing back (handing front handed)
handing-append front back handed = append_by front back handed.reading handed.serial

-- one piece, by what it completes
piece_is_read :
    (r : Reception) (before : Option ℕ) (piece rest : List ℕ) (found : Option Item) → Wants r.place r.part → 0 < length piece → length piece ≤ needed_of r.place r.part
    → meaning r.place (r.part ++ piece) ≡ found
    → handing_by (piece ++ rest) (Some r) before ≡ handing_by rest (unless_faulty (is_fault found) (passed_by (received r piece) found)) (serial_behind found before)
piece_is_read r before piece rest None wants some fits none =
    let goes = rw none at (goes_on r.place r.part piece rest wants some fits) in
    ap (λ (all : List Item). behind_items all (read_on r (piece ++ rest)) before) goes.0
    ∙ ap (λ (u : List ℕ). behind_items (pdus_from r.place (r.part ++ piece) rest) (record { place = place_from r.place r.part (piece ++ rest); part = u }) before) goes.1
    ∙ ap (λ (p : Place). behind_items (pdus_from r.place (r.part ++ piece) rest) (record { place = p; part = unread_from r.place (r.part ++ piece) rest }) before) goes.2
piece_is_read r before piece rest (Some (WholePdu content octets)) wants some fits whole =
    let goes = rw whole at (goes_on r.place r.part piece rest wants some fits) in
    let next = passed_by (received r piece) (Some (WholePdu content octets)) in
    ap (λ (all : List Item). behind_items all (read_on r (piece ++ rest)) before) goes.0
    ∙ ap (λ (u : List ℕ). behind_items (pdus_from next.place [] rest) (record { place = place_from r.place r.part (piece ++ rest); part = u }) (serial_by content before)) goes.1
    ∙ ap (λ (p : Place). behind_items (pdus_from next.place [] rest) (record { place = p; part = unread_from next.place [] rest }) (serial_by content before)) goes.2
piece_is_read r before piece rest (Some (FaultyPdu fault octets)) wants some fits faulty =
    let goes = rw faulty at (goes_on r.place r.part piece rest wants some fits) in
    ap (λ (all : List Item). behind_items all (read_on r (piece ++ rest)) before) goes.0

-- as many octets as are wanted are read, and those behind them go on
pub front_is_read :
    (r : Reception) (before : Option ℕ) (octets : List ℕ) (count : ℕ) (found : Option Item) → Wants r.place r.part → 0 < count → count ≡ min (needed_of r.place r.part) (length octets)
    → meaning r.place (r.part ++ take count octets) ≡ found
    → handing_by octets (Some r) before
    ≡ handing_by (take (length octets - count) (drop count octets)) (unless_faulty (is_fault found) (passed_by (received r (take count octets)) found)) (serial_behind found before)
front_is_read r before octets count found wants some count_is is_found =
    let size : length (take count octets) ≡ count = length-take-le count octets (omega (arith, count_is)) in
    let rest : take (length octets - count) (drop count octets) ≡ drop count octets = take_all (length octets - count) (drop count octets) (omega (arith, length-drop count octets)) in
    let all : octets ≡ take count octets ++ drop count octets = sym (take-append-drop count octets) in
    ap (λ (x : List ℕ). handing_by x (Some r) before) all
    ∙ piece_is_read r before (take count octets) (drop count octets) found wants (omega (arith, size, some)) (omega (arith, size, count_is)) is_found
    ∙ ap (λ (x : List ℕ). handing_by x (unless_faulty (is_fault found) (passed_by (received r (take count octets)) found)) (serial_behind found before)) (sym rest)

-- so it is of a reader that has found no fault
pub next_is_read :
    (is_faulty still : Bool) (r : Reception) (before after : Option ℕ) (octets : List ℕ) (count : ℕ) (found : Option Item) → IsReading is_faulty r → IsSome (unless_faulty is_faulty r)
    → (Wants r.place r.part → 0 < count) → count ≡ min (needed_of r.place r.part) (length octets) → meaning r.place (r.part ++ take count octets) ≡ found
    → still ≡ is_fault found → after ≡ serial_behind found before
    → handing_by octets (unless_faulty is_faulty r) before
    ≡ handing_by (take (length octets - count) (drop count octets)) (unless_faulty still (passed_by (received r (take count octets)) found)) after
next_is_read true still r before after octets count found reading sound some count_is is_found still_is after_is = absurd cc
next_is_read false still r before after octets count found reading sound some count_is is_found still_is after_is =
    rw (still_is, after_is) (front_is_read r before octets count found (reading refl) (some (reading refl)) count_is is_found)

-- a whole PDU in front, with nothing before it
whole_then :
    (place : Place) (before : Option ℕ) (whole more : List ℕ) (content : Content) → meaning place whole ≡ Some (WholePdu content whole)
    → handing_by (whole ++ more) (Some (record { place = place; part = [] })) before
    ≡ handing_by more (Some (record { place = place_after place (Some (WholePdu content whole)); part = [] })) (serial_by content before)
whole_then place before whole more content found =
    let next = place_after place (Some (WholePdu content whole)) in
    let goes = pdu-then place whole more content found in
    ap (λ (all : List Item). behind_items all (record { place = place_from place [] (whole ++ more); part = unread_from place [] (whole ++ more) }) before) goes.0
    ∙ ap (λ (u : List ℕ). behind_items (pdus_from next [] more) (record { place = place_from place [] (whole ++ more); part = u }) (serial_by content before)) goes.1
    ∙ ap (λ (p : Place). behind_items (pdus_from next [] more) (record { place = p; part = unread_from next [] more }) (serial_by content before)) (place-then place whole more content found)

-- so it is of a reader that has found no fault, and keeps nothing
pub whole_is_read :
    (is_faulty : Bool) (r behind : Reception) (before after : Option ℕ) (octets : List ℕ) (pdu : Pdu) (used : ℕ) → IsSome (unless_faulty is_faulty r) → r.part ≡ []
    → Tells r.place octets (Whole pdu used) → behind ≡ passed r (WholePdu (content_of pdu) (take used octets)) → after ≡ serial_by (content_of pdu) before
    → handing_by octets (unless_faulty is_faulty r) before ≡ handing_by (take (length octets - used) (drop used octets)) (unless_faulty is_faulty behind) after
whole_is_read true r behind before after octets pdu used sound none tells behind_is after_is = absurd cc
whole_is_read false r behind before after octets pdu used sound none tells behind_is after_is =
    let rest : take (length octets - used) (drop used octets) ≡ drop used octets = take_all (length octets - used) (drop used octets) (omega (arith, length-drop used octets)) in
    let found = meaning-pdu r.place (take used octets) (content_of pdu) (answer_is_pdu r.place octets pdu used tells) in
    rw (behind_is, after_is, rest)
    (ap (λ (part : List ℕ). handing_by octets (Some (record { place = r.place; part = part })) before) none
    ∙ ap (λ (x : List ℕ). handing_by x (Some (record { place = r.place; part = [] })) before) (sym (take-append-drop used octets))
    ∙ whole_then r.place before (take used octets) (drop used octets) (content_of pdu) found)

-- no octets are nothing
pub handing-nil : (handed : Handed) → handing [] handed ≡ handed
handing-nil handed = nil_by handed.reading handed.serial
  where
    nil_by : (reading : Option Reception) (before : Option ℕ) → handing_by [] reading before ≡ record { reading = reading; serial = before }
    nil_by None before = refl
    nil_by (Some r) before = refl

-- behind a fault nothing is read
pub handing-faulty : (octets : List ℕ) (handed : Handed) → handed.reading ≡ None → handing octets handed ≡ handed
handing-faulty octets handed none =
    ap (λ (reading : Option Reception). handing_by octets reading handed.serial) none
    ∙ ap (λ (reading : Option Reception). record { reading = reading; serial = handed.serial }) (sym none)

pub no_reading : (reading : Option Reception) → is_some reading ≡ false → reading ≡ None
no_reading None none = refl
no_reading (Some r) none = absurd cc
