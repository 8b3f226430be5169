-- Octets that are a PDU spell what it says.
use Rattle.std.proofs.Common.{◌≡◌, ◌≤◌, ◌<◌, ◌+◌, ◌*◌, ◌^◌, ◌-◌, ◌==◌, ◌%◌, ◌&&◌, ℕ, zero, suc, Bool, true, false, not, nat_le, if◌then◌else◌, List, [], ◌∷◌, ◌++◌, length, take, drop, get_or, slice_index, Option, Some, None, ◌⊎◌, inl, inr, refl, ap, sym, subst, ◌∙◌, arith, length-drop, lit≤}
use Rattle.std.proofs.lemmas.Bool.{and_parts, cases_lt, eqb-true, eqb-false, leb-true, not-false}
use Rattle.std.proofs.lemmas.List.{take-append-drop, length-take-le, take_all, drop_all, get_or-drop}
use Rattle.std.proofs.lemmas.Nat.{be_bytes_2, be_bytes_4}
use Rattle.std.proofs.lemmas.Option.{same_Some}
use Rattle.std.specs.Int.{w16, w32, to_be_bytes}
use Rattle.std.specs.Option.{option_map, option_and_then}
use Rattle.net_prefix.specs.Cover.{block_size}
use Rattle.net_prefix.specs.declared.prefix.Prefix.{Prefix}
use Rattle.net_prefix.specs.declared.payload.Vrp.{Vrp}
use Rattle.rtr_codec.specs.declared.fault.PduFault.TheVariants.{Unanswered, Header}
use Rattle.rtr_codec.specs.declared.fault.ErrorCode.TheVariants.{UnsupportedType, CorruptData}
use Rattle.rtr_codec.specs.declared.header.PduType.{PduType}
use Rattle.rtr_codec.specs.declared.header.PduType.TheVariants.{SerialNotify, SerialQuery, ResetQuery, CacheResponse, Ipv4Prefix, Ipv6Prefix, EndOfData, CacheReset, RouterKey, ErrorReport}
use Rattle.rtr_codec.specs.declared.place.Place.{Place}
use Rattle.rtr_codec.specs.declared.reading.Step.{Step}
use Rattle.rtr_codec.specs.declared.reading.Step.TheVariants.{Need, Whole, Faulty}
use Rattle.rtr_codec.specs.PduContents.{two_at, four_at, version_at, kind_at, told_length, prefix_if, prefix_of, payload_if, payload_with, payload_at, payload_of, change_of, content_by}
use Rattle.rtr_codec.specs.PduFaults.{header_fault, is_client, is_faulty_report, is_lenient, is_other_version, is_unknown, is_unlawful}
use Rattle.rtr_codec.specs.PduSpelling.{Content, Announce, Withdraw, content_of, pdu_octets, prefix_octets, quoting_octets, versioned_octets}
use Rattle.rtr_codec.specs.PduStream.{IsPdu, Tells}
use Rattle.rtr_codec.specs.PduTypes.{is_lawful_length, octet_of, type_of}
use Rattle.rtr_codec.specs.SpelledPdus.{AreOctets, IsQuoted, IsSpelled, MayHaveVersion, Spells}
use Rattle.rtr_codec.proofs.ReaderAnswers.{answer_is_pdu}
use Rattle.rtr_codec.proofs.Spellings.{content_of_type}

-- parts of octets are octets
octets-left : (xs ys : List ℕ) → AreOctets (xs ++ ys) → AreOctets xs
octets-left [] ys h i = omega arith
octets-left (x ∷ xs) ys h zero = h 0
octets-left (x ∷ xs) ys h (suc i) = octets-left xs ys (λ k. h (suc k)) i

octets-right : (xs ys : List ℕ) → AreOctets (xs ++ ys) → AreOctets ys
octets-right [] ys h = h
octets-right (x ∷ xs) ys h = octets-right xs ys (λ k. h (suc k))

octets-drop : (n : ℕ) (xs : List ℕ) → AreOctets xs → AreOctets (drop n xs)
octets-drop n xs h = let P : List ℕ → Type 0 = AreOctets in octets-right (take n xs) (drop n xs) (subst P (sym (take-append-drop n xs)) h)

pub octets-take : (n : ℕ) (xs : List ℕ) → AreOctets xs → AreOctets (take n xs)
octets-take n xs h = let P : List ℕ → Type 0 = AreOctets in octets-left (take n xs) (drop n xs) (subst P (sym (take-append-drop n xs)) h)

-- the number that two octets are is spelled by them, and that of four
two_spelled : (a b : ℕ) (more : List ℕ) → AreOctets (a ∷ b ∷ more) → to_be_bytes w16 (a * 2 ^ 8 + b) ≡ a ∷ b ∷ []
two_spelled a b more small = be_bytes_2 (a ∷ b ∷ []) (a * 2 ^ 8 + b) refl (octets-left (a ∷ b ∷ []) more small) (omega arith)

four_spelled : (n a b c d : ℕ) (more : List ℕ) → AreOctets (a ∷ b ∷ c ∷ d ∷ more) → n ≡ a * 2 ^ 24 + b * 2 ^ 16 + c * 2 ^ 8 + d → to_be_bytes w32 n ≡ a ∷ b ∷ c ∷ d ∷ []
four_spelled n a b c d more small is = be_bytes_4 (a ∷ b ∷ c ∷ d ∷ []) n refl (octets-left (a ∷ b ∷ c ∷ d ∷ []) more small) (omega (arith, is))

four_front : (body : List ℕ) → 4 ≤ length body → AreOctets body → body ≡ to_be_bytes w32 (four_at body 0) ++ drop 4 body
four_front [] few small = absurd (omega (arith, few))
four_front (a ∷ []) few small = absurd (omega (arith, few))
four_front (a ∷ b ∷ []) few small = absurd (omega (arith, few))
four_front (a ∷ b ∷ c ∷ []) few small = absurd (omega (arith, few))
four_front (a ∷ b ∷ c ∷ d ∷ more) few small = ap (λ (x : List ℕ). x ++ more) (sym (four_spelled _ a b c d more small refl))

drop_at-0 : (more : List ℕ) → four_at (drop 4 more) 0 ≡ four_at more 4
drop_at-0 more = rw (get_or-drop 4 more 0 0, get_or-drop 4 more 1 0, get_or-drop 4 more 2 0, get_or-drop 4 more 3 0) refl

drop_at-4 : (more : List ℕ) → four_at (drop 4 more) 4 ≡ four_at more 8
drop_at-4 more = rw (get_or-drop 4 more 4 0, get_or-drop 4 more 5 0, get_or-drop 4 more 6 0, get_or-drop 4 more 7 0) refl

drop_at-8 : (more : List ℕ) → four_at (drop 4 more) 8 ≡ four_at more 12
drop_at-8 more = rw (get_or-drop 4 more 8 0, get_or-drop 4 more 9 0, get_or-drop 4 more 10 0, get_or-drop 4 more 11 0) refl

four_small : (octets : List ℕ) (k : ℕ) → AreOctets octets → four_at octets k < 2 ^ 32
four_small octets k small = let a = small k in let b = small (k + 1) in let c = small (k + 2) in let d = small (k + 3) in omega (arith, a, b, c, d)

four_all : (body : List ℕ) → length body ≡ 4 → AreOctets body → body ≡ to_be_bytes w32 (four_at body 0)
four_all body four small = sym (be_bytes_4 body (four_at body 0) four small (omega arith))

-- a whole PDU is its header and what follows
pub record HasHeader (octets : List ℕ) : Type 0 where
  pub body : List ℕ
  pub octets_are : octets ≡ versioned_octets (version_at octets) (kind_at octets) (two_at octets 2) body
  pub body_is : drop 8 octets ≡ body
  pub length_is : length octets ≡ 8 + length body
  pub small : AreOctets body
  pub two_small : two_at octets 2 < 2 ^ 16
  pub at_8 : four_at octets 8 ≡ four_at body 0
  pub at_12 : four_at octets 12 ≡ four_at body 4
  pub at_16 : four_at octets 16 ≡ four_at body 8
  pub at_20 : four_at octets 20 ≡ four_at body 12
  pub flags : slice_index octets 8 ≡ slice_index body 0
  pub len : slice_index octets 9 ≡ slice_index body 1
  pub max_len : slice_index octets 10 ≡ slice_index body 2
  pub behind_count : drop 12 octets ≡ drop 4 body

has_header : (octets : List ℕ) → AreOctets octets → 8 ≤ length octets → length octets ≡ told_length octets → HasHeader octets
unfolding told_length
has_header [] small few told = absurd (omega (arith, few))
has_header (a ∷ []) small few told = absurd (omega (arith, few))
has_header (a ∷ b ∷ []) small few told = absurd (omega (arith, few))
has_header (a ∷ b ∷ c ∷ []) small few told = absurd (omega (arith, few))
has_header (a ∷ b ∷ c ∷ d ∷ []) small few told = absurd (omega (arith, few))
has_header (a ∷ b ∷ c ∷ d ∷ e ∷ []) small few told = absurd (omega (arith, few))
has_header (a ∷ b ∷ c ∷ d ∷ e ∷ f ∷ []) small few told = absurd (omega (arith, few))
has_header (a ∷ b ∷ c ∷ d ∷ e ∷ f ∷ g ∷ []) small few told = absurd (omega (arith, few))
has_header (a ∷ b ∷ c ∷ d ∷ e ∷ f ∷ g ∷ h ∷ body) small few told =
    let count : length (a ∷ b ∷ c ∷ d ∷ e ∷ f ∷ g ∷ h ∷ body) ≡ 8 + length body = omega arith in
    let behind : AreOctets (c ∷ d ∷ e ∷ f ∷ g ∷ h ∷ body) = octets-right (a ∷ b ∷ []) (c ∷ d ∷ e ∷ f ∷ g ∷ h ∷ body) small in
    let last : AreOctets (e ∷ f ∷ g ∷ h ∷ body) = octets-right (c ∷ d ∷ []) (e ∷ f ∷ g ∷ h ∷ body) behind in
    let two : to_be_bytes w16 (c * 2 ^ 8 + d) ≡ c ∷ d ∷ [] = two_spelled c d (e ∷ f ∷ g ∷ h ∷ body) behind in
    let four : to_be_bytes w32 (8 + length body) ≡ e ∷ f ∷ g ∷ h ∷ [] = four_spelled (8 + length body) e f g h body last (sym count ∙ told) in
    let first = small 2 in
    let second = small 3 in
    record {
      body = body;
      octets_are = ap (λ (x : List ℕ). a ∷ b ∷ (x ++ (e ∷ f ∷ g ∷ h ∷ body))) (sym two) ∙ ap (λ (x : List ℕ). a ∷ b ∷ (to_be_bytes w16 (c * 2 ^ 8 + d) ++ (x ++ body))) (sym four);
      body_is = refl;
      length_is = count;
      small = octets-right (e ∷ f ∷ g ∷ h ∷ []) body last;
      two_small = omega (arith, first, second);
      at_8 = refl;
      at_12 = refl;
      at_16 = refl;
      at_20 = refl;
      flags = refl;
      len = refl;
      max_len = refl;
      behind_count = refl;
    }

-- a header without a fault: its type, a length that it allows, and a version that it may have
four_pass :
    {F : Type 0} (a b c d : Bool) (x y z w : F)
    → (if a then Some x else (if b then Some y else (if c then Some z else (if d then Some w else None)))) ≡ None → (b ≡ false) × (c ≡ false) × (d ≡ false)
four_pass true b c d x y z w h = absurd cc
four_pass false true c d x y z w h = absurd cc
four_pass false false true d x y z w h = absurd cc
four_pass false false false true x y z w h = absurd cc
four_pass false false false false x y z w h = (refl, refl, refl)

known_type : (found : Option PduType) (told : ℕ) → is_unknown found ≡ false → is_unlawful found told ≡ false → (kind : PduType) × (found ≡ Some kind) × (is_lawful_length kind told ≡ true)
known_type None told known lawful = absurd cc
known_type (Some kind) told known lawful = (kind, refl, not-false (is_lawful_length kind told) lawful)

pub record IsSound (place : Place) (octets : List ℕ) : Type 0 where
  pub kind : PduType
  pub kind_is : type_of (kind_at octets) ≡ Some kind
  pub may : is_lawful_length kind (told_length octets) ≡ true
  pub version : is_other_version place octets ≡ false

is_sound : (place : Place) (octets : List ℕ) → header_fault place octets ≡ None → IsSound place octets
unfolding header_fault
is_sound place octets sound =
    let pass = four_pass (is_faulty_report octets) (is_other_version place octets) (is_unknown (type_of (kind_at octets))) (is_unlawful (type_of (kind_at octets)) (told_length octets))
    Unanswered _ (Header UnsupportedType) (Header CorruptData) sound in
    let known = known_type (type_of (kind_at octets)) (told_length octets) pass.1 pass.2 in
    record { kind = known.0; kind_is = known.1; may = known.2; version = pass.0 }

-- the version
version_by : (one lenient : Bool) → (not one && not lenient) ≡ false → (one ≡ true) ⊎ (lenient ≡ true)
version_by true lenient h = inl refl
version_by false true h = inr refl
version_by false false h = absurd cc

version_only_by : (is not_yet notify twelve : Bool) → ((is && not_yet) && (notify && twelve)) ≡ true → (is ≡ true) × (not_yet ≡ true) × (notify ≡ true)
version_only_by is not_yet notify twelve h =
    let both = and_parts (is && not_yet) (notify && twelve) h in
    let first = and_parts is not_yet both.0 in
    (first.0, first.1, (and_parts notify twelve both.1).0)

version_may : (place : Place) (octets : List ℕ) → is_other_version place octets ≡ false → (version_at octets ≡ 1) ⊎ ((is_client place.end ≡ true) × (place.has_response ≡ false) × (kind_at octets ≡ 0))
version_may place octets h =
    elim (version_by (version_at octets == 1) (is_lenient place octets) h) [
      | inl one ↦ inl (eqb-true (version_at octets) 1 one)
      | inr lenient ↦
          let parts = version_only_by (is_client place.end) (not place.has_response) (kind_at octets == 0) (told_length octets == 12) lenient in
          inr (parts.0, not_true place.has_response parts.1, eqb-true (kind_at octets) 0 parts.2)
    ]
  where
    not_true : (b : Bool) → not b ≡ true → b ≡ false
    not_true true h = sym h
    not_true false h = refl

-- the octet of a type
one_type : (octet n : ℕ) (here : PduType) (rest : Option PduType) (kind : PduType) → (if octet == n then Some here else rest) ≡ Some kind → ((octet ≡ n) × (here ≡ kind)) ⊎ (rest ≡ Some kind)
one_type octet n here rest kind h = by (octet == n) refl h
  where
    by : (b : Bool) → (octet == n) ≡ b → (if b then Some here else rest) ≡ Some kind → ((octet ≡ n) × (here ≡ kind)) ⊎ (rest ≡ Some kind)
    by true is h = inl (eqb-true octet n is, same_Some here kind h)
    by false is h = inr h

octet_of_type : (octet : ℕ) (kind : PduType) → type_of octet ≡ Some kind → octet ≡ octet_of kind
unfolding type_of
octet_of_type octet kind h0 =
    elim (one_type octet 0 SerialNotify _ kind h0) [
      | inl found ↦ found.0 ∙ ap octet_of found.1
      | inr h1 ↦
          elim (one_type octet 1 SerialQuery _ kind h1) [
            | inl found ↦ found.0 ∙ ap octet_of found.1
            | inr h2 ↦
                elim (one_type octet 2 ResetQuery _ kind h2) [
                  | inl found ↦ found.0 ∙ ap octet_of found.1
                  | inr h3 ↦
                      elim (one_type octet 3 CacheResponse _ kind h3) [
                        | inl found ↦ found.0 ∙ ap octet_of found.1
                        | inr h4 ↦
                            elim (one_type octet 4 Ipv4Prefix _ kind h4) [
                              | inl found ↦ found.0 ∙ ap octet_of found.1
                              | inr h6 ↦
                                  elim (one_type octet 6 Ipv6Prefix _ kind h6) [
                                    | inl found ↦ found.0 ∙ ap octet_of found.1
                                    | inr h7 ↦
                                        elim (one_type octet 7 EndOfData _ kind h7) [
                                          | inl found ↦ found.0 ∙ ap octet_of found.1
                                          | inr h8 ↦
                                              elim (one_type octet 8 CacheReset _ kind h8) [
                                                | inl found ↦ found.0 ∙ ap octet_of found.1
                                                | inr h9 ↦
                                                    elim (one_type octet 9 RouterKey _ kind h9) [
                                                      | inl found ↦ found.0 ∙ ap octet_of found.1
                                                      | inr h10 ↦
                                                          elim (one_type octet 10 ErrorReport None kind h10) [ inl found ↦ found.0 ∙ ap octet_of found.1 | inr none ↦ absurd cc ]
                                                    ]
                                              ]
                                        ]
                                  ]
                            ]
                      ]
                ]
          ]
    ]

-- the numbers of a payload
prefix_numbers_if :
    (bits len : ℕ) (prefix : Prefix) (short clean : Bool) (tells : nat_le len 32 ≡ short) (says : (bits % block_size len == 0) ≡ clean)
    → prefix_if bits len short clean tells says ≡ Some prefix → (prefix.bits ≡ bits) × (prefix.len ≡ len)
prefix_numbers_if bits len prefix false clean tells says h = absurd cc
prefix_numbers_if bits len prefix true false tells says h = absurd cc
prefix_numbers_if bits len prefix true true tells says h =
    let same = same_Some _ prefix h in (sym (ap (λ (p : Prefix). p.bits) same), sym (ap (λ (p : Prefix). p.len) same))

prefix_numbers : (bits len : ℕ) (prefix : Prefix) → prefix_of bits len ≡ Some prefix → (prefix.bits ≡ bits) × (prefix.len ≡ len)
unfolding prefix_of
prefix_numbers bits len prefix h = prefix_numbers_if bits len prefix (nat_le len 32) (bits % block_size len == 0) refl refl h

pub record HasNumbers (bits len max_len asn : ℕ) (payload : Vrp) : Type 0 where
  pub bits_are : bits ≡ payload.prefix.bits
  pub len_is : len ≡ payload.prefix.len
  pub max_is : max_len ≡ payload.max_len
  pub asn_is : asn ≡ payload.asn.0

payload_numbers_if :
    (prefix : Prefix) (max_len asn : ℕ) (payload : Vrp) (reaches short : Bool) (tells : nat_le prefix.len max_len ≡ reaches) (says : nat_le max_len 32 ≡ short)
    → payload_if prefix max_len asn reaches short tells says ≡ Some payload → HasNumbers prefix.bits prefix.len max_len asn payload
payload_numbers_if prefix max_len asn payload false short tells says h = absurd cc
payload_numbers_if prefix max_len asn payload true false tells says h = absurd cc
payload_numbers_if prefix max_len asn payload true true tells says h =
    let same = same_Some _ payload h in record {
      bits_are = ap (λ (p : Vrp). p.prefix.bits) same;
      len_is = ap (λ (p : Vrp). p.prefix.len) same;
      max_is = ap (λ (p : Vrp). p.max_len) same;
      asn_is = ap (λ (p : Vrp). p.asn.0) same;
    }

payload_numbers_with : (prefix : Prefix) (max_len asn : ℕ) (payload : Vrp) → payload_with max_len asn prefix ≡ Some payload → HasNumbers prefix.bits prefix.len max_len asn payload
unfolding payload_with
payload_numbers_with prefix max_len asn payload h = payload_numbers_if prefix max_len asn payload (nat_le prefix.len max_len) (nat_le max_len 32) refl refl h

payload_numbers_by :
    (bits len max_len asn : ℕ) (payload : Vrp) (found : Option Prefix) → prefix_of bits len ≡ found
    → option_and_then (payload_with max_len asn) found ≡ Some payload → HasNumbers bits len max_len asn payload
payload_numbers_by bits len max_len asn payload None is h = absurd cc
payload_numbers_by bits len max_len asn payload (Some prefix) is h =
    let numbers = prefix_numbers bits len prefix is in
    let all = payload_numbers_with prefix max_len asn payload h in
    record { bits_are = sym numbers.0 ∙ all.bits_are; len_is = sym numbers.1 ∙ all.len_is; max_is = all.max_is; asn_is = all.asn_is }

payload_numbers : (bits len max_len asn : ℕ) (payload : Vrp) → payload_of bits len max_len asn ≡ Some payload → HasNumbers bits len max_len asn payload
payload_numbers bits len max_len asn payload h = payload_numbers_by bits len max_len asn payload (prefix_of bits len) refl h

-- a change is an announcement or a withdrawal of it
prefix_by_flags :
    (place : Place) (octets : List ℕ) (free flags spare : ℕ) (payload : Vrp) (odd : Bool) → (flags % 2 == 1) ≡ odd
    → octets ≡ pdu_octets 4 free (prefix_octets flags spare payload) → (payload.prefix.bits < 2 ^ 32) × (payload.asn.0 < 2 ^ 32)
    → Spells place octets (if odd then Announce payload else Withdraw payload)
prefix_by_flags place octets free flags spare payload true is octets_are small = ((free, flags, spare, octets_are, eqb-true (flags % 2) 1 is), small)
prefix_by_flags place octets free flags spare payload false is octets_are small =
    let other = eqb-false (flags % 2) 1 is in ((free, flags, spare, octets_are, omega (arith, other)), small)

-- the octets behind the header of an IPv4 Prefix
prefix_body : (body : List ℕ) (payload : Vrp) → length body ≡ 12 → AreOctets body → HasNumbers (four_at body 4) (get_or body 1 0) (get_or body 2 0) (four_at body 8) payload
    → (body ≡ prefix_octets (get_or body 0 0) (get_or body 3 0) payload) × (payload.prefix.bits < 2 ^ 32) × (payload.asn.0 < 2 ^ 32)
prefix_body [] payload many small h = absurd (omega (arith, many))
prefix_body (a ∷ []) payload many small h = absurd (omega (arith, many))
prefix_body (a ∷ b ∷ []) payload many small h = absurd (omega (arith, many))
prefix_body (a ∷ b ∷ c ∷ []) payload many small h = absurd (omega (arith, many))
prefix_body (a ∷ b ∷ c ∷ d ∷ more) payload many small h =
    let count : length more ≡ 8 = omega (arith, many) in
    let behind : AreOctets more = octets-right (a ∷ b ∷ c ∷ d ∷ []) more small in
    let last : AreOctets (drop 4 more) = octets-drop 4 more behind in
    let rest : length (drop 4 more) ≡ 4 = omega (arith, count, length-drop 4 more) in
    let bits : four_at more 0 ≡ payload.prefix.bits = h.bits_are in
    let asn : four_at more 4 ≡ payload.asn.0 = h.asn_is in
    let at : four_at (drop 4 more) 0 ≡ four_at more 4 = drop_at-0 more in
    let small_bits = four_small more 0 behind in
    let small_asn = four_small (drop 4 more) 0 last in
    let len : b ≡ payload.prefix.len = h.len_is in
    let max : c ≡ payload.max_len = h.max_is in
    let spelled : more ≡ to_be_bytes w32 payload.prefix.bits ++ to_be_bytes w32 payload.asn.0 =
    four_front more (omega (arith, count)) behind
    ∙ ap (λ (n : ℕ). to_be_bytes w32 n ++ drop 4 more) bits
    ∙ ap (λ (x : List ℕ). to_be_bytes w32 payload.prefix.bits ++ x) (four_all (drop 4 more) rest last ∙ ap (to_be_bytes w32) (at ∙ asn)) in (
      (λ i. a ∷ len i ∷ max i ∷ d ∷ spelled i),
      omega (arith, bits, small_bits),
      omega (arith, asn, at, small_asn),
    )

-- an IPv4 Prefix
prefix_spelled :
    (place : Place) (octets : List ℕ) (header : HasHeader octets) (content : Content) → AreOctets octets → octets ≡ pdu_octets 4 (two_at octets 2) header.body → length octets ≡ 20
    → (found : Option Vrp) → payload_at octets ≡ found → option_map (change_of (slice_index octets 8)) found ≡ Some content → Spells place octets content
prefix_spelled place octets header content small octets_are many None found h = absurd cc
prefix_spelled place octets header content small octets_are many (Some payload) found h =
    let body = header.body in
    let numbers = payload_numbers (four_at octets 12) (slice_index octets 9) (slice_index octets 10) (four_at octets 16) payload found in
    let in_body : HasNumbers (four_at body 4) (get_or body 1 0) (get_or body 2 0) (four_at body 8) payload = record {
      bits_are = sym header.at_12 ∙ numbers.bits_are;
      len_is = sym header.len ∙ numbers.len_is;
      max_is = sym header.max_len ∙ numbers.max_is;
      asn_is = sym header.at_16 ∙ numbers.asn_is;
    } in
    let count : length octets ≡ 8 + length body = header.length_is in
    let is = prefix_body body payload (omega (arith, many, count)) header.small in_body in
    let spelled = prefix_by_flags place octets (two_at octets 2) (get_or body 0 0) (get_or body 3 0) payload (get_or body 0 0 % 2 == 1) refl (octets_are ∙ ap (pdu_octets 4 (two_at octets 2)) is.0) (is.1, is.2) in
    let same : change_of (get_or body 0 0) payload ≡ content = ap (λ (n : ℕ). change_of n payload) (sym header.flags) ∙ same_Some (change_of (slice_index octets 8) payload) content h in
    subst (λ (c : Content). Spells place octets c) same spelled

-- an End of Data
end_body : (body : List ℕ) → length body ≡ 16 → AreOctets body
    → body ≡ to_be_bytes w32 (four_at body 0) ++ (to_be_bytes w32 (four_at body 4) ++ (to_be_bytes w32 (four_at body 8) ++ to_be_bytes w32 (four_at body 12)))
end_body body many small =
    let second = drop 4 body in
    let third = drop 4 (drop 4 body) in
    let fourth = drop 4 (drop 4 (drop 4 body)) in
    let count_second : length (drop 4 body) ≡ 12 = omega (arith, many, length-drop 4 body) in
    let count_third : length (drop 4 (drop 4 body)) ≡ 8 = omega (arith, count_second, length-drop 4 (drop 4 body)) in
    let count_fourth : length (drop 4 (drop 4 (drop 4 body))) ≡ 4 = omega (arith, count_third, length-drop 4 (drop 4 (drop 4 body))) in
    let small_second : AreOctets (drop 4 body) = octets-drop 4 body small in
    let small_third : AreOctets (drop 4 (drop 4 body)) = octets-drop 4 (drop 4 body) small_second in
    let small_fourth : AreOctets (drop 4 (drop 4 (drop 4 body))) = octets-drop 4 (drop 4 (drop 4 body)) small_third in
    let at_second : four_at (drop 4 body) 0 ≡ four_at body 4 = drop_at-0 body in
    let at_third : four_at (drop 4 (drop 4 body)) 0 ≡ four_at body 8 = drop_at-0 (drop 4 body) ∙ drop_at-4 body in
    let at_fourth : four_at (drop 4 (drop 4 (drop 4 body))) 0 ≡ four_at body 12 = drop_at-0 (drop 4 (drop 4 body)) ∙ drop_at-4 (drop 4 body) ∙ drop_at-8 body in
    let last : fourth ≡ to_be_bytes w32 (four_at body 12) = four_all fourth count_fourth small_fourth ∙ ap (to_be_bytes w32) at_fourth in
    let two_last : third ≡ to_be_bytes w32 (four_at body 8) ++ to_be_bytes w32 (four_at body 12) =
    four_front third (omega (arith, count_third)) small_third ∙ (λ i. to_be_bytes w32 (at_third i) ++ last i) in
    let three_last : second ≡ to_be_bytes w32 (four_at body 4) ++ (to_be_bytes w32 (four_at body 8) ++ to_be_bytes w32 (four_at body 12)) =
    four_front second (omega (arith, count_second)) small_second ∙ (λ i. to_be_bytes w32 (at_second i) ++ two_last i) in
    four_front body (omega (arith, many)) small ∙ ap (λ (x : List ℕ). to_be_bytes w32 (four_at body 0) ++ x) three_last

-- what an Error Report quotes
quoted_by : (count : ℕ) (rest : List ℕ) → (length rest < count) ⊎ (count ≤ length rest) → IsQuoted count (take count rest) (drop count rest)
quoted_by count rest (inl more) =
    let all : take count rest ≡ rest = take_all count rest (omega (arith, more)) in
    let long : length (take count rest) ≡ length rest = ap length all in
    inr (omega (arith, long, more), drop_all count rest (omega (arith, more)))
quoted_by count rest (inr fits) = inl (sym (length-take-le count rest fits))

-- the octets of any type but a Serial Notify
as_pdu :
    (place : Place) (octets : List ℕ) (header : HasHeader octets) (n : ℕ) → 1 ≤ n → kind_at octets ≡ n
    → (version_at octets ≡ 1) ⊎ ((is_client place.end ≡ true) × (place.has_response ≡ false) × (kind_at octets ≡ 0))
    → octets ≡ pdu_octets n (two_at octets 2) header.body
as_pdu place octets header n some kind_is (inl one) = header.octets_are ∙ (λ i. versioned_octets (one i) (kind_is i) (two_at octets 2) header.body)
as_pdu place octets header n some kind_is (inr lenient) = let zero : kind_at octets ≡ 0 = lenient.2 in absurd (omega (arith, zero, kind_is, some))

nil_is : (xs : List ℕ) → length xs ≡ 0 → xs ≡ []
nil_is [] none = refl
nil_is (x ∷ xs) none = absurd (omega (arith, none))

-- each type
count_is : (octets : List ℕ) (n : ℕ) → length octets ≡ told_length octets → (told_length octets == n) ≡ true → length octets ≡ n
count_is octets n all told = all ∙ eqb-true (told_length octets) n told

spelled_by_type :
    (place : Place) (octets : List ℕ) (header : HasHeader octets) (kind : PduType) (content : Content) → AreOctets octets → length octets ≡ told_length octets
    → kind_at octets ≡ octet_of kind → is_lawful_length kind (told_length octets) ≡ true
    → (version_at octets ≡ 1) ⊎ ((is_client place.end ≡ true) × (place.has_response ≡ false) × (kind_at octets ≡ 0))
    → content_by octets kind ≡ Some content → Spells place octets content
spelled_by_type place octets header SerialNotify content small all kind_is may version h =
    let count : length octets ≡ 12 = count_is octets 12 all may in
    let four : length header.body ≡ 4 = omega (arith, count, header.length_is) in
    let body_is : header.body ≡ to_be_bytes w32 (four_at octets 8) = four_all header.body four header.small ∙ ap (to_be_bytes w32) (sym header.at_8) in
    let may_have : MayHaveVersion place (version_at octets) = elim version [ inl one ↦ inl one | inr lenient ↦ inr (lenient.0, lenient.1) ] in
    let octets_are : octets ≡ versioned_octets (version_at octets) 0 (two_at octets 2) (to_be_bytes w32 (four_at octets 8)) =
    header.octets_are ∙ (λ i. versioned_octets (version_at octets) (kind_is i) (two_at octets 2) (body_is i)) in
    subst (λ (c : Content). Spells place octets c) (same_Some _ content h)
    (version_at octets, may_have, octets_are, (header.two_small, four_small octets 8 small))
spelled_by_type place octets header SerialQuery content small all kind_is may version h =
    let count : length octets ≡ 12 = count_is octets 12 all may in
    let four : length header.body ≡ 4 = omega (arith, count, header.length_is) in
    let body_is : header.body ≡ to_be_bytes w32 (four_at octets 8) = four_all header.body four header.small ∙ ap (to_be_bytes w32) (sym header.at_8) in
    subst (λ (c : Content). Spells place octets c) (same_Some _ content h)
    (as_pdu place octets header 1 (lit≤ tt) kind_is version ∙ ap (pdu_octets 1 (two_at octets 2)) body_is, (header.two_small, four_small octets 8 small))
spelled_by_type place octets header ResetQuery content small all kind_is may version h =
    let count : length octets ≡ 8 = count_is octets 8 all may in
    let none : length header.body ≡ 0 = omega (arith, count, header.length_is) in
    subst (λ (c : Content). Spells place octets c) (same_Some _ content h)
    (two_at octets 2, as_pdu place octets header 2 (lit≤ tt) kind_is version ∙ ap (pdu_octets 2 (two_at octets 2)) (nil_is header.body none))
spelled_by_type place octets header CacheResponse content small all kind_is may version h =
    let count : length octets ≡ 8 = count_is octets 8 all may in
    let none : length header.body ≡ 0 = omega (arith, count, header.length_is) in
    subst (λ (c : Content). Spells place octets c) (same_Some _ content h)
    (as_pdu place octets header 3 (lit≤ tt) kind_is version ∙ ap (pdu_octets 3 (two_at octets 2)) (nil_is header.body none), header.two_small)
spelled_by_type place octets header Ipv4Prefix content small all kind_is may version h =
    prefix_spelled place octets header content small (as_pdu place octets header 4 (lit≤ tt) kind_is version) (count_is octets 20 all may) (payload_at octets) refl h
spelled_by_type place octets header Ipv6Prefix content small all kind_is may version h =
    let count : length octets ≡ 32 = count_is octets 32 all may in
    let many : length (drop 8 octets) ≡ 24 = omega (arith, count, length-drop 8 octets) in
    subst (λ (c : Content). Spells place octets c) (same_Some _ content h)
    (two_at octets 2, as_pdu place octets header 6 (lit≤ tt) kind_is version ∙ ap (pdu_octets 6 (two_at octets 2)) (sym header.body_is), many)
spelled_by_type place octets header EndOfData content small all kind_is may version h =
    let count : length octets ≡ 24 = count_is octets 24 all may in
    let many : length header.body ≡ 16 = omega (arith, count, header.length_is) in
    let serial = sym header.at_8 in
    let refresh = sym header.at_12 in
    let retry = sym header.at_16 in
    let expire = sym header.at_20 in
    let body_is : header.body ≡ to_be_bytes w32 (four_at octets 8) ++ (to_be_bytes w32 (four_at octets 12) ++ (to_be_bytes w32 (four_at octets 16) ++ to_be_bytes w32 (four_at octets 20))) =
    end_body header.body many header.small ∙ (λ i. to_be_bytes w32 (serial i) ++ (to_be_bytes w32 (refresh i) ++ (to_be_bytes w32 (retry i) ++ to_be_bytes w32 (expire i)))) in
    subst (λ (c : Content). Spells place octets c) (same_Some _ content h) (
      as_pdu place octets header 7 (lit≤ tt) kind_is version ∙ ap (pdu_octets 7 (two_at octets 2)) body_is,
      (header.two_small, four_small octets 8 small, four_small octets 12 small, four_small octets 16 small, four_small octets 20 small),
    )
spelled_by_type place octets header CacheReset content small all kind_is may version h =
    let count : length octets ≡ 8 = count_is octets 8 all may in
    let none : length header.body ≡ 0 = omega (arith, count, header.length_is) in
    subst (λ (c : Content). Spells place octets c) (same_Some _ content h)
    (two_at octets 2, as_pdu place octets header 8 (lit≤ tt) kind_is version ∙ ap (pdu_octets 8 (two_at octets 2)) (nil_is header.body none))
spelled_by_type place octets header RouterKey content small all kind_is may version h =
    let both = and_parts (nat_le 32 (told_length octets)) (nat_le (told_length octets) 4096) may in
    let low : 32 ≤ told_length octets = leb-true 32 (told_length octets) both.0 in
    let high : told_length octets ≤ 4096 = leb-true (told_length octets) 4096 both.1 in
    let many : 24 ≤ length (drop 8 octets) = omega (arith, low, all, length-drop 8 octets) in
    let few : 8 + length (drop 8 octets) ≤ 4096 = omega (arith, low, high, all, length-drop 8 octets) in
    subst (λ (c : Content). Spells place octets c) (same_Some _ content h)
    (two_at octets 2, as_pdu place octets header 9 (lit≤ tt) kind_is version ∙ ap (pdu_octets 9 (two_at octets 2)) (sym header.body_is), (many, few))
spelled_by_type place octets header ErrorReport content small all kind_is may version h =
    let both = and_parts (nat_le 16 (told_length octets)) (nat_le (told_length octets) 4096) may in
    let low : 16 ≤ told_length octets = leb-true 16 (told_length octets) both.0 in
    let high : told_length octets ≤ 4096 = leb-true (told_length octets) 4096 both.1 in
    let count : ℕ = four_at octets 8 in
    let rest : List ℕ = drop 12 octets in
    let parts : take (four_at octets 8) (drop 12 octets) ++ drop (four_at octets 8) (drop 12 octets) ≡ drop 12 octets = take-append-drop (four_at octets 8) (drop 12 octets) in
    let long : length (take (four_at octets 8) (drop 12 octets) ++ drop (four_at octets 8) (drop 12 octets)) ≡ length (drop 12 octets) = ap length parts in
    let many : length (drop 12 octets) ≡ length octets - 12 = length-drop 12 octets in
    let body_long : 4 ≤ length header.body = omega (arith, low, all, header.length_is) in
    let body_is : header.body ≡ quoting_octets (four_at octets 8) (take (four_at octets 8) (drop 12 octets)) (drop (four_at octets 8) (drop 12 octets)) =
    four_front header.body body_long header.small
    ∙ ((λ i. to_be_bytes w32 (sym header.at_8 i) ++ sym header.behind_count i)
    ∙ ap (λ (x : List ℕ). to_be_bytes w32 (four_at octets 8) ++ x) (sym parts)) in
    subst (λ (c : Content). Spells place octets c) (same_Some _ content h) (
      count,
      drop count rest,
      as_pdu place octets header 10 (lit≤ tt) kind_is version ∙ ap (pdu_octets 10 (two_at octets 2)) body_is,
      quoted_by count rest (cases_lt (length rest) count),
      header.two_small,
      four_small octets 8 small,
      omega (arith, long, many, low, all),
      omega (arith, long, many, low, high, all),
    )

-- octets that are a PDU spell it
pub is_spelled : (place : Place) (octets : List ℕ) (content : Content) → AreOctets octets → IsPdu place octets content → Spells place octets content
is_spelled place octets content small is =
    let sound = is_sound place octets is.sound in
    spelled_by_type place octets (has_header octets small is.whole_header is.length_is) sound.kind content small is.length_is (octet_of_type (kind_at octets) sound.kind sound.kind_is) sound.may
    (version_may place octets sound.version) (sym (content_of_type octets sound.kind sound.kind_is) ∙ is.content_is)

-- a reader's answer
pub answer_is_spelled : (place : Place) (octets : List ℕ) (step : Step) → AreOctets octets → Tells place octets step → IsSpelled place octets step
answer_is_spelled place octets Need small h = tt
answer_is_spelled place octets (Faulty fault quoted) small h = tt
answer_is_spelled place octets (Whole pdu used) small h =
    is_spelled place (take used octets) (content_of pdu) (octets-take used octets small) (answer_is_pdu place octets pdu used h)
