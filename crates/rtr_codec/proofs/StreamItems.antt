use Rattle.std.proofs.Common.{◌≡◌, ℕ, List, take, Option, Some, None, inl, inr, ap, sym, ◌∙◌, arith}
use Rattle.std.proofs.lemmas.List.{take_all}
use Rattle.octet_streams.specs.Streams.{IsItem}
use Rattle.octet_streams.proofs.Streams.{is_item}
use Rattle.rtr_codec.specs.declared.fault.PduFault.{PduFault}
use Rattle.rtr_codec.specs.declared.fault.PduFault.TheVariants.{Payload}
use Rattle.rtr_codec.specs.declared.place.Place.{Place}
use Rattle.rtr_codec.specs.PduContents.{content_at, told_length}
use Rattle.rtr_codec.specs.PduSpelling.{Content}
use Rattle.rtr_codec.specs.PduStream.{WholePdu, FaultyPdu, IsPdu, HasFault, item_with, meaning, pdu_grammar}
use Rattle.rtr_codec.proofs.Streams.{is_grammar}

-- What the items of a stream are, in the words of PDUs.

whole_with : (octets whole : List ℕ) (content : Content) (found : Option Content) → Some (item_with octets found) ≡ Some (WholePdu content whole) → (whole ≡ octets) × (found ≡ Some content)
whole_with octets whole content None e = absurd cc
whole_with octets whole content (Some said) e = let same : said ≡ content = cc in (cc, ap (λ (c : Content). Some c) same)

faulty_with :
    (octets quoted : List ℕ) (fault : PduFault) (found : Option Content) → Some (item_with octets found) ≡ Some (FaultyPdu fault quoted)
    → (fault ≡ Payload) × (quoted ≡ octets) × (found ≡ None)
faulty_with octets quoted fault None e = (cc, cc, cc)
faulty_with octets quoted fault (Some said) e = absurd cc

pdu_by_item : (place : Place) (octets whole : List ℕ) (content : Content) → IsItem pdu_grammar place octets (WholePdu content whole) → (whole ≡ octets) × IsPdu place octets content
unfolding pdu_grammar
pdu_by_item place octets whole content (inl (header, sound, all, e)) =
    let found = whole_with octets whole content (content_at octets) e in
    (found.0, record { whole_header = header; sound = sound; length_is = all; content_is = found.1 })
pdu_by_item place octets whole content (inr (fault, eight, faulty, e)) = absurd cc

fault_by_item : (place : Place) (octets quoted : List ℕ) (fault : PduFault) → IsItem pdu_grammar place octets (FaultyPdu fault quoted) → (quoted ≡ octets) × HasFault place octets fault quoted
unfolding pdu_grammar
fault_by_item place octets quoted fault (inl (header, sound, all, e)) =
    let found = faulty_with octets quoted fault (content_at octets) e in
    let taken : take (told_length octets) octets ≡ octets = take_all (told_length octets) octets (omega (arith, all)) in
    (found.1, inr (header, sound, omega (arith, all), found.0, found.1 ∙ sym taken, ap content_at found.1 ∙ found.2))
fault_by_item place octets quoted fault (inr (found, eight, faulty, e)) =
    let same : fault ≡ found = cc in
    let all : quoted ≡ octets = cc in
    (all, inl (omega (arith, eight), faulty ∙ ap (λ (f : PduFault). Some f) (sym same), all ∙ sym (take_all 8 octets (omega (arith, eight)))))

pub pdu_from_meaning : (place : Place) (octets whole : List ℕ) (content : Content) → meaning place octets ≡ Some (WholePdu content whole) → (whole ≡ octets) × IsPdu place octets content
pdu_from_meaning place octets whole content h = pdu_by_item place octets whole content (is_item pdu_grammar is_grammar place octets _ h)

pub fault_from_meaning : (place : Place) (octets quoted : List ℕ) (fault : PduFault) → meaning place octets ≡ Some (FaultyPdu fault quoted) → (quoted ≡ octets) × HasFault place octets fault quoted
fault_from_meaning place octets quoted fault h = fault_by_item place octets quoted fault (is_item pdu_grammar is_grammar place octets _ h)
