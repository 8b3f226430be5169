use Rattle.std.proofs.Common.{◌≡◌, ◌≤◌, ◌<◌, ◌+◌, ◌*◌, ◌^◌, ◌/◌, ◌%◌, ◌==◌, ◌&&◌, ◌||◌, not, ℕ, Bool, true, false, nat_le, List, [], ◌++◌, length, take, drop, Some, None, inl, inr, refl, ap, sym, subst, ◌∙◌, arith, append-nil, length-append}
use Rattle.std.proofs.lemmas.Bool.{eq-eqb, le-leb, and_from}
use Rattle.std.proofs.lemmas.List.{take_at, take_all}
use Rattle.std.specs.Option.{option_map, option_and_then}
use Rattle.std.specs.Int.{w32, to_be_bytes}
use Rattle.net_prefix.specs.declared.payload.Vrp.{Vrp}
use Rattle.rtr_codec.specs.declared.header.PduType.{PduType}
use Rattle.rtr_codec.specs.declared.header.PduType.TheVariants.{SerialNotify, SerialQuery, ResetQuery, CacheResponse, Ipv4Prefix, Ipv6Prefix, EndOfData, CacheReset, RouterKey, ErrorReport}
use Rattle.rtr_codec.specs.declared.intervals.Intervals.{Intervals}
use Rattle.rtr_codec.specs.declared.place.Place.{Place}
use Rattle.rtr_codec.specs.PduContents.{two_at, four_at, version_at, told_length, kind_at, payload_at, payload_of, payload_with, change_of, content_by, content_at}
use Rattle.rtr_codec.specs.PduFaults.{header_fault, is_faulty_report}
use Rattle.rtr_codec.specs.PduSpelling.{Content, Serial_notify, Serial_query, Reset_query, Cache_response, Announce, Withdraw, Ipv6_prefix, End_of_data, Cache_reset, Router_key, Error_report, IsLawful, length_of, pdu_octets, prefix_octets, interval_octets, quoting_octets, report_octets, spelling, versioned_octets}
use Rattle.rtr_codec.specs.PduStream.{WholePdu, IsPdu, IsReadFirst, meaning}
use Rattle.rtr_codec.specs.SpelledPdus.{IsQuoted, MayHaveVersion, Spells, SpellsPrefix}
use Rattle.rtr_codec.specs.PduTypes.{is_lawful_length, octet_of, type_of}
use Rattle.rtr_codec.proofs.Payloads.{prefix_of-is, payload_with-is}
use Rattle.rtr_codec.proofs.Streams.{meaning-pdu, pdu-then}

-- What is written is read again.

-- how long it is
report_length : (quoted : List ℕ) → length (report_octets quoted) ≡ 8 + length quoted
report_length quoted = simp length-append (omega arith)

pub length-spelling : (content : Content) → length (spelling content) ≡ length_of content
unfolding spelling
length-spelling (Serial_notify session serial) = refl
length-spelling (Serial_query session serial) = refl
length-spelling Reset_query = refl
length-spelling (Cache_response session) = refl
length-spelling (Announce payload) = refl
length-spelling (Withdraw payload) = refl
length-spelling (Ipv6_prefix body) = omega arith
length-spelling (End_of_data session serial intervals) = refl
length-spelling Cache_reset = refl
length-spelling (Router_key body) = omega arith
length-spelling (Error_report code quoted) = omega (arith, report_length quoted)

-- a number of two octets, and of four, is read again
two_octets : (n : ℕ) → n < 2 ^ 16 → n / 256 % 256 * 2 ^ 8 + n % 256 ≡ n
two_octets n small = omega arith

four_octets : (n : ℕ) → n < 2 ^ 32 → n / 16777216 % 256 * 2 ^ 24 + n / 65536 % 256 * 2 ^ 16 + n / 256 % 256 * 2 ^ 8 + n % 256 ≡ n
four_octets n small = omega arith

-- the header of a PDU that is spelled
told_in_spelling : (version kind two : ℕ) (body : List ℕ) → 8 + length body < 2 ^ 32 → told_length (versioned_octets version kind two body) ≡ 8 + length body
unfolding told_length
told_in_spelling version kind two body small = four_octets (8 + length body) small

pub type_of-octet : (kind : PduType) → type_of (octet_of kind) ≡ Some kind
unfolding type_of
type_of-octet SerialNotify = refl
type_of-octet SerialQuery = refl
type_of-octet ResetQuery = refl
type_of-octet CacheResponse = refl
type_of-octet Ipv4Prefix = refl
type_of-octet Ipv6Prefix = refl
type_of-octet EndOfData = refl
type_of-octet CacheReset = refl
type_of-octet RouterKey = refl
type_of-octet ErrorReport = refl

or_passes : (b : Bool) → (not b && false) ≡ false
or_passes true = refl
or_passes false = refl

sound_by_parts :
    (place : Place) (octets : List ℕ) (kind : PduType) → (version_at octets == 1) ≡ true → is_faulty_report octets ≡ false
    → type_of (kind_at octets) ≡ Some kind → is_lawful_length kind (told_length octets) ≡ true → header_fault place octets ≡ None
unfolding header_fault
sound_by_parts place octets kind version report kind_is may = rw (report, version, kind_is, may) refl

no_faulty_report :
    (kind : PduType) (told : ℕ) → is_lawful_length kind told ≡ true → ((octet_of kind == 10) && (false || not (is_lawful_length ErrorReport told))) ≡ false
no_faulty_report SerialNotify told may = refl
no_faulty_report SerialQuery told may = refl
no_faulty_report ResetQuery told may = refl
no_faulty_report CacheResponse told may = refl
no_faulty_report Ipv4Prefix told may = refl
no_faulty_report Ipv6Prefix told may = refl
no_faulty_report EndOfData told may = refl
no_faulty_report CacheReset told may = refl
no_faulty_report RouterKey told may = refl
no_faulty_report ErrorReport told may = ap not may

header_is_sound :
    (place : Place) (kind : PduType) (two : ℕ) (body : List ℕ) → is_lawful_length kind (8 + length body) ≡ true → 8 + length body ≤ 4096
    → header_fault place (pdu_octets (octet_of kind) two body) ≡ None
header_is_sound place kind two body may fits =
    let octets = pdu_octets (octet_of kind) two body in
    let told : told_length (pdu_octets (octet_of kind) two body) ≡ 8 + length body = told_in_spelling 1 (octet_of kind) two body (omega (arith, fits)) in
    let lawful : is_lawful_length kind (told_length (pdu_octets (octet_of kind) two body)) ≡ true = ap (is_lawful_length kind) told ∙ may in
    sound_by_parts place octets kind refl (no_faulty_report kind (told_length octets) lawful) (type_of-octet kind) lawful

pub content_of_type : (octets : List ℕ) (kind : PduType) → type_of (kind_at octets) ≡ Some kind → content_at octets ≡ content_by octets kind
unfolding content_at
content_of_type octets kind kind_is = ap (option_and_then (content_by octets)) kind_is

-- a PDU of a type is what its octets say
spelled_pdu :
    (place : Place) (kind : PduType) (two : ℕ) (body : List ℕ) (content : Content) → is_lawful_length kind (8 + length body) ≡ true → 8 + length body ≤ 4096
    → content_by (pdu_octets (octet_of kind) two body) kind ≡ Some content → IsPdu place (pdu_octets (octet_of kind) two body) content
spelled_pdu place kind two body content may fits says =
    let octets = pdu_octets (octet_of kind) two body in
    let told = told_in_spelling 1 (octet_of kind) two body (omega (arith, fits)) in
    let count : length (pdu_octets (octet_of kind) two body) ≡ 8 + length body = omega arith in
    record {
      whole_header = omega (arith, count);
      sound = header_is_sound place kind two body may fits;
      length_is = count ∙ sym told;
      content_is = content_of_type octets kind (type_of-octet kind) ∙ says;
    }

-- a Serial Notify may have another version
notify_is_sound : (place : Place) (version session serial : ℕ) → MayHaveVersion place version → header_fault place (versioned_octets version 0 session (to_be_bytes w32 serial)) ≡ None
unfolding header_fault told_length type_of
notify_is_sound place version session serial (inl one) = rw (eq-eqb version 1 one) refl
notify_is_sound place version session serial (inr lenient) = rw (lenient.0, lenient.1, or_passes (version == 1)) refl

-- what the octets say, by the type

payload_is : (payload : Vrp) → payload_of payload.prefix.bits payload.prefix.len payload.max_len payload.asn.0 ≡ Some payload
payload_is payload =
    ap (option_and_then (payload_with payload.max_len payload.asn.0)) (prefix_of-is payload.prefix.bits payload.prefix.len payload.prefix refl refl)
    ∙ payload_with-is payload.prefix payload.max_len payload.asn.0 payload refl refl refl

payload_at-written :
    (free flags spare : ℕ) (payload : Vrp) → payload.prefix.bits < 2 ^ 32 → payload.asn.0 < 2 ^ 32
    → payload_at (pdu_octets 4 free (prefix_octets flags spare payload)) ≡ Some payload
payload_at-written free flags spare payload small_bits small_asn =
    let octets = pdu_octets 4 free (prefix_octets flags spare payload) in
    let bits : four_at (pdu_octets 4 free (prefix_octets flags spare payload)) 12 ≡ payload.prefix.bits = omega arith in
    let asn : four_at (pdu_octets 4 free (prefix_octets flags spare payload)) 16 ≡ payload.asn.0 = omega arith in
    ap (λ (b : ℕ). payload_of b payload.prefix.len payload.max_len (four_at octets 16)) bits
    ∙ ap (λ (a : ℕ). payload_of payload.prefix.bits payload.prefix.len payload.max_len a) asn
    ∙ payload_is payload

change_written :
    (free flags spare : ℕ) (payload : Vrp) → payload.prefix.bits < 2 ^ 32 → payload.asn.0 < 2 ^ 32
    → content_by (pdu_octets 4 free (prefix_octets flags spare payload)) Ipv4Prefix ≡ Some (change_of flags payload)
change_written free flags spare payload small_bits small_asn = ap (option_map (change_of flags)) (payload_at-written free flags spare payload small_bits small_asn)

notify_written :
    (version session serial : ℕ) → session < 2 ^ 16 → serial < 2 ^ 32
    → content_by (versioned_octets version 0 session (to_be_bytes w32 serial)) SerialNotify ≡ Some (Serial_notify session serial)
notify_written version session serial small_session small_serial =
    let a : two_at (versioned_octets version 0 session (to_be_bytes w32 serial)) 2 ≡ session = omega arith in
    let b : four_at (versioned_octets version 0 session (to_be_bytes w32 serial)) 8 ≡ serial = omega arith in
    ap (λ (n : ℕ). Some (Serial_notify n (four_at (versioned_octets version 0 session (to_be_bytes w32 serial)) 8))) a ∙ ap (λ (n : ℕ). Some (Serial_notify session n)) b

query_written :
    (session serial : ℕ) → session < 2 ^ 16 → serial < 2 ^ 32
    → content_by (pdu_octets 1 session (to_be_bytes w32 serial)) SerialQuery ≡ Some (Serial_query session serial)
query_written session serial small_session small_serial =
    let a : two_at (pdu_octets 1 session (to_be_bytes w32 serial)) 2 ≡ session = omega arith in
    let b : four_at (pdu_octets 1 session (to_be_bytes w32 serial)) 8 ≡ serial = omega arith in
    ap (λ (n : ℕ). Some (Serial_query n (four_at (pdu_octets 1 session (to_be_bytes w32 serial)) 8))) a ∙ ap (λ (n : ℕ). Some (Serial_query session n)) b

response_written : (session : ℕ) → session < 2 ^ 16 → content_by (pdu_octets 3 session []) CacheResponse ≡ Some (Cache_response session)
response_written session small =
    let a : two_at (pdu_octets 3 session []) 2 ≡ session = omega arith in
    ap (λ (n : ℕ). Some (Cache_response n)) a

abbrev end_octets : ℕ → ℕ → Intervals → List ℕ
end_octets session serial intervals = pdu_octets 7 session (to_be_bytes w32 serial ++ interval_octets intervals)

end_written :
    (session serial : ℕ) (intervals : Intervals) → session < 2 ^ 16 → serial < 2 ^ 32
    → intervals.refresh < 2 ^ 32 → intervals.retry < 2 ^ 32 → intervals.expire < 2 ^ 32
    → content_by (end_octets session serial intervals) EndOfData ≡ Some (End_of_data session serial intervals)
end_written session serial intervals small_session small_serial small_refresh small_retry small_expire =
    let a : two_at (end_octets session serial intervals) 2 ≡ session = omega arith in
    let b : four_at (end_octets session serial intervals) 8 ≡ serial = omega arith in
    let c : four_at (end_octets session serial intervals) 12 ≡ intervals.refresh = omega arith in
    let d : four_at (end_octets session serial intervals) 16 ≡ intervals.retry = omega arith in
    let e : four_at (end_octets session serial intervals) 20 ≡ intervals.expire = omega arith in
    same_end a b c d e
  where
    same_end :
        {session serial refresh retry expire other_session other_serial other_refresh other_retry other_expire : ℕ}
        → session ≡ other_session → serial ≡ other_serial → refresh ≡ other_refresh → retry ≡ other_retry → expire ≡ other_expire
        → Some (End_of_data session serial (record { refresh = refresh; retry = retry; expire = expire }))
        ≡ Some (End_of_data other_session other_serial (record { refresh = other_refresh; retry = other_retry; expire = other_expire }))
    same_end a b c d e = λ i. Some (End_of_data (a i) (b i) (record { refresh = c i; retry = d i; expire = e i }))

quoted_is : (count : ℕ) (quoted text : List ℕ) → IsQuoted count quoted text → take count (quoted ++ text) ≡ quoted
quoted_is count quoted text (inl all) = take_at quoted text count (sym all)
quoted_is count quoted text (inr more) =
    ap (λ (x : List ℕ). take count (quoted ++ x)) more.1 ∙ (ap (take count) (append-nil quoted) ∙ take_all count quoted (omega (arith, more.0)))

report_written :
    (code count : ℕ) (quoted text : List ℕ) → code < 2 ^ 16 → count < 2 ^ 32 → IsQuoted count quoted text
    → content_by (pdu_octets 10 code (quoting_octets count quoted text)) ErrorReport ≡ Some (Error_report code quoted)
report_written code count quoted text small_code small h =
    let octets = pdu_octets 10 code (quoting_octets count quoted text) in
    let a : two_at (pdu_octets 10 code (quoting_octets count quoted text)) 2 ≡ code = omega arith in
    let b : four_at (pdu_octets 10 code (quoting_octets count quoted text)) 8 ≡ count = omega arith in
    ap (λ (n : ℕ). Some (Error_report n (take (four_at octets 8) (drop 12 octets)))) a
    ∙ ap (λ (n : ℕ). Some (Error_report code (take n (drop 12 octets)))) b
    ∙ ap (λ (x : List ℕ). Some (Error_report code x)) (quoted_is count quoted text h)

prefix_pdu :
    (place : Place) (octets : List ℕ) (lowest : ℕ) (payload : Vrp) (content : Content) → SpellsPrefix octets lowest payload → (payload.prefix.bits < 2 ^ 32) × (payload.asn.0 < 2 ^ 32)
    → ((flags : ℕ) → flags % 2 ≡ lowest → change_of flags payload ≡ content) → IsPdu place octets content
prefix_pdu place octets lowest payload content s small is =
    let spelled = spelled_pdu place Ipv4Prefix s.0 (prefix_octets s.1 s.2 payload) content refl (omega arith) (change_written s.0 s.1 s.2 payload small.0 small.1 ∙ ap (λ (c : Content). Some c) (is s.1 s.4)) in
    subst (λ (x : List ℕ). IsPdu place x content) (sym s.3) spelled

-- octets that spell a content are that PDU
pub spelled_is : (place : Place) (octets : List ℕ) (content : Content) → Spells place octets content → IsPdu place octets content
spelled_is place octets (Serial_notify session serial) s =
    let told = told_in_spelling s.0 0 session (to_be_bytes w32 serial) (omega arith) in
    let spelled : IsPdu place (versioned_octets s.0 0 session (to_be_bytes w32 serial)) (Serial_notify session serial) = record {
      whole_header = omega arith;
      sound = notify_is_sound place s.0 session serial s.1;
      length_is = sym told;
      content_is = content_of_type (versioned_octets s.0 0 session (to_be_bytes w32 serial)) SerialNotify (type_of-octet SerialNotify) ∙ notify_written s.0 session serial s.3.0 s.3.1;
    } in
    subst (λ (x : List ℕ). IsPdu place x (Serial_notify session serial)) (sym s.2) spelled
spelled_is place octets (Serial_query session serial) s =
    subst (λ (x : List ℕ). IsPdu place x (Serial_query session serial)) (sym s.0)
    (spelled_pdu place SerialQuery session (to_be_bytes w32 serial) _ refl (omega arith) (query_written session serial s.1.0 s.1.1))
spelled_is place octets Reset_query s =
    subst (λ (x : List ℕ). IsPdu place x Reset_query) (sym s.1) (spelled_pdu place ResetQuery s.0 [] _ refl (omega arith) refl)
spelled_is place octets (Cache_response session) s =
    subst (λ (x : List ℕ). IsPdu place x (Cache_response session)) (sym s.0) (spelled_pdu place CacheResponse session [] _ refl (omega arith) (response_written session s.1))
spelled_is place octets (Announce payload) s = prefix_pdu place octets 1 payload (Announce payload) s.0 s.1 (λ flags odd. rw odd refl)
spelled_is place octets (Withdraw payload) s = prefix_pdu place octets 0 payload (Withdraw payload) s.0 s.1 (λ flags even. rw even refl)
spelled_is place octets (Ipv6_prefix body) s =
    let many : length body ≡ 24 = s.2 in
    subst (λ (x : List ℕ). IsPdu place x (Ipv6_prefix body)) (sym s.1)
    (spelled_pdu place Ipv6Prefix s.0 body _ (eq-eqb (8 + length body) 32 (omega (arith, many))) (omega (arith, many)) refl)
spelled_is place octets (End_of_data session serial intervals) s =
    subst (λ (x : List ℕ). IsPdu place x (End_of_data session serial intervals)) (sym s.0)
    (spelled_pdu place EndOfData session (to_be_bytes w32 serial ++ interval_octets intervals) _ refl (omega arith) (end_written session serial intervals s.1.0 s.1.1 s.1.2 s.1.3 s.1.4))
spelled_is place octets Cache_reset s =
    subst (λ (x : List ℕ). IsPdu place x Cache_reset) (sym s.1) (spelled_pdu place CacheReset s.0 [] _ refl (omega arith) refl)
spelled_is place octets (Router_key body) s =
    let least : 24 ≤ length body = s.2.0 in
    subst (λ (x : List ℕ). IsPdu place x (Router_key body)) (sym s.1)
    (spelled_pdu place RouterKey s.0 body _ (and_from (nat_le 32 (8 + length body)) (nat_le (8 + length body) 4096) (le-leb 32 (8 + length body) (omega (arith, least))) (le-leb (8 + length body) 4096 s.2.1)) s.2.1 refl)
spelled_is place octets (Error_report code quoted) s =
    let least : 4 ≤ length (quoted ++ s.1) = s.6 in
    let most : 12 + length (quoted ++ s.1) ≤ 4096 = s.7 in
    let count : length (quoting_octets s.0 quoted s.1) ≡ 4 + length (quoted ++ s.1) = omega arith in
    subst (λ (x : List ℕ). IsPdu place x (Error_report code quoted)) (sym s.2)
    (spelled_pdu place ErrorReport code (quoting_octets s.0 quoted s.1) _
    (and_from (nat_le 16 (8 + length (quoting_octets s.0 quoted s.1))) (nat_le (8 + length (quoting_octets s.0 quoted s.1)) 4096) (le-leb 16 (8 + length (quoting_octets s.0 quoted s.1)) (omega (arith, count, least))) (le-leb (8 + length (quoting_octets s.0 quoted s.1)) 4096 (omega (arith, count, most))))
    (omega (arith, count, most)) (report_written code s.0 quoted s.1 s.4 s.5 s.3))

-- what is written spells it
pub spelling_spells : (place : Place) (content : Content) → IsLawful content → Spells place (spelling content) content
unfolding spelling
spelling_spells place (Serial_notify session serial) h = (1, inl refl, refl, h)
spelling_spells place (Serial_query session serial) h = (refl, h)
spelling_spells place Reset_query h = (0, refl)
spelling_spells place (Cache_response session) h = (refl, h)
spelling_spells place (Announce payload) h = ((0, 1, 0, refl, refl), h)
spelling_spells place (Withdraw payload) h = ((0, 0, 0, refl, refl), h)
spelling_spells place (Ipv6_prefix body) h = (0, refl, h)
spelling_spells place (End_of_data session serial intervals) h = (refl, h)
spelling_spells place Cache_reset h = (0, refl)
spelling_spells place (Router_key body) h = (0, refl, h)
spelling_spells place (Error_report code quoted) h =
    let count : length (quoted ++ to_be_bytes w32 0) ≡ length quoted + 4 = length-append quoted (to_be_bytes w32 0) in
    let most : 16 + length quoted ≤ 4096 = h.1 in
    (length quoted, to_be_bytes w32 0, refl, inl refl, h.0, omega (arith, most), omega (arith, count), omega (arith, count, most))

-- and is read again
pub written_is : (place : Place) (content : Content) → IsLawful content → meaning place (spelling content) ≡ Some (WholePdu content (spelling content))
written_is place content h = meaning-pdu place (spelling content) content (spelled_is place (spelling content) content (spelling_spells place content h))

pub written_first : (place : Place) (content : Content) → IsLawful content → IsReadFirst place (spelling content) content
written_first place content h = λ more.
    pdu-then place (spelling content) more content (written_is place content h)
