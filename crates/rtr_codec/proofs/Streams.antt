use Rattle.std.proofs.Common.{◌≡◌, ◌≤◌, ◌<◌, ℕ, Bool, true, false, ◌==◌, nat_le, ◌&&◌, if◌then◌else◌, List, [], ◌∷◌, ◌++◌, length, get_or, Option, Some, None, is_none, refl, ap, ◌∙◌, arith}
use Rattle.std.proofs.lemmas.Bool.{leb-true, eqb-true, and_parts, not-false}
use Rattle.std.proofs.lemmas.List.{get_or_append_left}
use Rattle.octet_streams.specs.Grammar.{IsGrammar}
use Rattle.octet_streams.proofs.Streams.{meaning-whole, end-then, others-then, goes_on as item_goes_on, items_from-append, place_from-append, unread_from-append, wants_none as no_item, wants-then as nothing_then}
use Rattle.rtr_codec.specs.declared.fault.ErrorCode.TheVariants.{UnsupportedType, CorruptData}
use Rattle.rtr_codec.specs.declared.fault.PduFault.{PduFault}
use Rattle.rtr_codec.specs.declared.fault.PduFault.TheVariants.{Unanswered, Header}
use Rattle.rtr_codec.specs.declared.header.PduType.{PduType}
use Rattle.rtr_codec.specs.declared.header.PduType.TheVariants.{SerialNotify, SerialQuery, ResetQuery, CacheResponse, Ipv4Prefix, Ipv6Prefix, EndOfData, CacheReset, RouterKey, ErrorReport}
use Rattle.rtr_codec.specs.declared.place.Place.{Place}
use Rattle.rtr_codec.specs.PduContents.{content_at, kind_at, told_length}
use Rattle.rtr_codec.specs.PduFaults.{header_fault, is_faulty_report, is_other_version, is_unknown, is_unlawful}
use Rattle.rtr_codec.specs.PduSpelling.{Content}
use Rattle.rtr_codec.specs.PduStream.{Item, WholePdu, FaultyPdu, IsPdu, Wants, item_with, meaning, ends_stream, place_after, pdu_grammar, pdus, pdus_from, place_from, unread, unread_from, GoesOn, needed_of}
use Rattle.rtr_codec.specs.PduTypes.{is_lawful_length, type_of}

-- PDUs are a grammar.

-- a header is its first 8 octets
pub told_length-append : (front back : List ℕ) → 8 ≤ length front → told_length (front ++ back) ≡ told_length front
unfolding told_length
told_length-append front back whole =
    let first : get_or (front ++ back) 4 0 ≡ get_or front 4 0 = get_or_append_left front back 0 4 (omega arith) in
    let second : get_or (front ++ back) 5 0 ≡ get_or front 5 0 = get_or_append_left front back 0 5 (omega arith) in
    let third : get_or (front ++ back) 6 0 ≡ get_or front 6 0 = get_or_append_left front back 0 6 (omega arith) in
    let fourth : get_or (front ++ back) 7 0 ≡ get_or front 7 0 = get_or_append_left front back 0 7 (omega arith) in
    rw (first, second, third, fourth) refl

pub kind_at-append : (front back : List ℕ) → 8 ≤ length front → kind_at (front ++ back) ≡ kind_at front
kind_at-append front back whole = get_or_append_left front back 0 1 (omega arith)

pub header_fault-append : (place : Place) (front back : List ℕ) → 8 ≤ length front → header_fault place (front ++ back) ≡ header_fault place front
unfolding header_fault
header_fault-append place front back whole =
    let version : get_or (front ++ back) 0 0 ≡ get_or front 0 0 = get_or_append_left front back 0 0 (omega arith) in
    let kind : get_or (front ++ back) 1 0 ≡ get_or front 1 0 = get_or_append_left front back 0 1 (omega arith) in
    let told : told_length (front ++ back) ≡ told_length front = told_length-append front back whole in
    rw (version, kind, told) refl

-- a header without a fault tells a length from 8 to 4,096

last_pass :
    {F : Type 0} (a b c d : Bool) (x y z w : F)
    → (if a then Some x else (if b then Some y else (if c then Some z else (if d then Some w else None)))) ≡ None → (c ≡ false) × (d ≡ false)
last_pass true b c d x y z w h = absurd cc
last_pass false true c d x y z w h = absurd cc
last_pass false false true d x y z w h = absurd cc
last_pass false false false true x y z w h = absurd cc
last_pass false false false false x y z w h = (refl, refl)

exactly : (told n : ℕ) → (told == n) ≡ true → 8 ≤ n → n ≤ 4096 → (8 ≤ told) × (told ≤ 4096)
exactly told n e least most = let same : told ≡ n = eqb-true told n e in (omega (arith, same, least), omega (arith, same, most))

between : (told n : ℕ) → (nat_le n told && nat_le told 4096) ≡ true → 8 ≤ n → (8 ≤ told) × (told ≤ 4096)
between told n e least =
    let both = and_parts (nat_le n told) (nat_le told 4096) e in
    let low : n ≤ told = leb-true n told both.0 in
    (omega (arith, low, least), leb-true told 4096 both.1)

lawful_bounds : (kind : PduType) (told : ℕ) → is_lawful_length kind told ≡ true → (8 ≤ told) × (told ≤ 4096)
lawful_bounds SerialNotify told h = exactly told 12 h (omega arith) (omega arith)
lawful_bounds SerialQuery told h = exactly told 12 h (omega arith) (omega arith)
lawful_bounds ResetQuery told h = exactly told 8 h (omega arith) (omega arith)
lawful_bounds CacheResponse told h = exactly told 8 h (omega arith) (omega arith)
lawful_bounds Ipv4Prefix told h = exactly told 20 h (omega arith) (omega arith)
lawful_bounds Ipv6Prefix told h = exactly told 32 h (omega arith) (omega arith)
lawful_bounds EndOfData told h = exactly told 24 h (omega arith) (omega arith)
lawful_bounds CacheReset told h = exactly told 8 h (omega arith) (omega arith)
lawful_bounds RouterKey told h = between told 32 h (omega arith)
lawful_bounds ErrorReport told h = between told 16 h (omega arith)

told_bounds : (found : Option PduType) (told : ℕ) → is_unknown found ≡ false → is_unlawful found told ≡ false → (8 ≤ told) × (told ≤ 4096)
told_bounds None told known lawful = absurd cc
told_bounds (Some kind) told known lawful = lawful_bounds kind told (not-false (is_lawful_length kind told) lawful)

pub told_length-bounds : (place : Place) (octets : List ℕ) → header_fault place octets ≡ None → (8 ≤ told_length octets) × (told_length octets ≤ 4096)
unfolding header_fault
told_length-bounds place octets sound =
    let both = last_pass (is_faulty_report octets) (is_other_version place octets) (is_unknown (type_of (kind_at octets))) (is_unlawful (type_of (kind_at octets)) (told_length octets))
    Unanswered _ (Header UnsupportedType) (Header CorruptData) sound in
    told_bounds (type_of (kind_at octets)) (told_length octets) both.0 both.1

-- whether a header has a fault doesn't depend on whether it is the first
faulty_alike :
    {F : Type 0} (a b c d : Bool) (x y z w other : F)
    → is_none (if a then Some x else (if b then Some other else (if c then Some z else (if d then Some w else None))))
    ≡ is_none (if a then Some x else (if b then Some y else (if c then Some z else (if d then Some w else None))))
faulty_alike true b c d x y z w other = refl
faulty_alike false true c d x y z w other = refl
faulty_alike false false c d x y z w other = refl

header_fault-behind_fault :
    (place : Place) (item : Item) (octets : List ℕ) → ends_stream item ≡ true
    → is_none (header_fault (place_after place (Some item)) octets) ≡ is_none (header_fault place octets)
unfolding header_fault
header_fault-behind_fault place (WholePdu content whole) octets ended = absurd cc
header_fault-behind_fault place (FaultyPdu fault whole) octets ended =
    faulty_alike (is_faulty_report octets) (is_other_version place octets) (is_unknown (type_of (kind_at octets))) (is_unlawful (type_of (kind_at octets)) (told_length octets))
    Unanswered _ (Header UnsupportedType) (Header CorruptData) _

pub is_grammar : IsGrammar pdu_grammar
unfolding pdu_grammar
is_grammar = record {
  some_header = omega arith;
  fault_in_header = λ place front back whole. header_fault-append place front back whole;
  told_in_header = λ front back whole. told_length-append front back whole;
  told_least = λ place octets sound. (told_length-bounds place octets sound).0;
  has_item = λ place octets sound. (item_with octets (content_at octets), refl);
  fault_ends = λ fault octets. refl;
  same_behind_end = λ place item octets ended. header_fault-behind_fault place item octets ended;
}

-- a whole PDU is read as that
pub meaning-pdu : (place : Place) (octets : List ℕ) (content : Content) → IsPdu place octets content → meaning place octets ≡ Some (WholePdu content octets)
unfolding pdu_grammar
meaning-pdu place octets content is =
    meaning-whole pdu_grammar is_grammar place octets is.whole_header is.sound is.length_is ∙ ap (λ (c : Option Content). Some (item_with octets c)) is.content_is

-- no more octets than are wanted are an item or none
pub goes_on :
    (place : Place) (part piece more : List ℕ) → Wants place part → 0 < length piece → length piece ≤ needed_of place part
    → GoesOn place part piece (meaning place (part ++ piece)) more
unfolding pdu_grammar
goes_on place part piece more wants some fits = item_goes_on pdu_grammar is_grammar place part piece more wants some fits

-- a stream goes on where it stopped
pub pdus_from-append :
    (place : Place) (part octets more : List ℕ)
    → pdus_from place part (octets ++ more) ≡ pdus_from place part octets ++ pdus_from (place_from place part octets) (unread_from place part octets) more
pdus_from-append place part octets more = items_from-append pdu_grammar is_grammar place part octets more

pub unread_behind : (place : Place) (part octets more : List ℕ) → unread_from place part (octets ++ more) ≡ unread_from (place_from place part octets) (unread_from place part octets) more
unread_behind place part octets more = unread_from-append pdu_grammar is_grammar place part octets more

pub place_behind : (place : Place) (part octets more : List ℕ) → place_from place part (octets ++ more) ≡ place_from (place_from place part octets) (unread_from place part octets) more
place_behind place part octets more = place_from-append pdu_grammar is_grammar place part octets more

-- nothing is whole yet
pub wants_none : (place : Place) (octets : List ℕ) → Wants place octets → meaning place octets ≡ None
unfolding pdu_grammar
wants_none place octets wants = no_item pdu_grammar is_grammar place octets wants

pub wants-then : (place : Place) (octets : List ℕ) → Wants place octets → (pdus place octets ≡ []) × (unread place octets ≡ octets)
unfolding pdu_grammar
wants-then place octets wants = let all = nothing_then pdu_grammar is_grammar place [] octets wants in (all.0, all.1)

-- a PDU in front, then more
pub pdu-then :
    (place : Place) (octets more : List ℕ) (content : Content) → meaning place octets ≡ Some (WholePdu content octets)
    → (pdus place (octets ++ more) ≡ WholePdu content octets ∷ pdus (place_after place (Some (WholePdu content octets))) more)
    × (unread place (octets ++ more) ≡ unread (place_after place (Some (WholePdu content octets))) more)
unfolding pdu_grammar
pdu-then place octets more content found = let all = others-then pdu_grammar is_grammar place octets more (WholePdu content octets) found refl in (all.0, all.1)

-- a fault is all
pub fault-then :
    (place : Place) (octets more : List ℕ) (fault : PduFault) → meaning place octets ≡ Some (FaultyPdu fault octets)
    → (pdus place (octets ++ more) ≡ FaultyPdu fault octets ∷ []) × (unread place (octets ++ more) ≡ octets ++ more)
unfolding pdu_grammar
fault-then place octets more fault found = let all = end-then pdu_grammar is_grammar place octets more (FaultyPdu fault octets) found refl in (all.0, all.1)

-- and where the connection stands behind a PDU and more
pub place-then :
    (place : Place) (octets more : List ℕ) (content : Content) → meaning place octets ≡ Some (WholePdu content octets)
    → place_from place [] (octets ++ more) ≡ place_from (place_after place (Some (WholePdu content octets))) [] more
unfolding pdu_grammar
place-then place octets more content found = (others-then pdu_grammar is_grammar place octets more (WholePdu content octets) found refl).2
