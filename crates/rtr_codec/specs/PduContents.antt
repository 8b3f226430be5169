-- What the octets of a PDU say (RFC 8210 section 5).
use Rattle.std.specs.Prelude.{◌≡◌, refl, ◌%◌, ◌+◌, ◌*◌, ◌^◌, ◌==◌, ℕ, nat_le, if◌then◌else◌, Bool, true, false, List, Option, Some, None, take, drop, slice_index}
use Rattle.std.specs.Option.{option_map, option_and_then}
use Rattle.std.proofs.lemmas.Bool.{leb-true, eqb-true}
use Rattle.net_prefix.specs.Cover.{block_size}
use Rattle.net_prefix.specs.declared.prefix.Prefix.{Prefix}
use Rattle.net_prefix.specs.declared.payload.Vrp.{Vrp}
use Rattle.rtr_codec.specs.declared.header.PduType.{PduType}
use Rattle.rtr_codec.specs.declared.header.PduType.TheVariants.{SerialNotify, SerialQuery, ResetQuery, CacheResponse, Ipv4Prefix, Ipv6Prefix, EndOfData, CacheReset, RouterKey, ErrorReport}
use Rattle.rtr_codec.specs.PduSpelling.{Content, Serial_notify, Serial_query, Reset_query, Cache_response, Announce, Withdraw, Ipv6_prefix, End_of_data, Cache_reset, Router_key, Error_report}
use Rattle.rtr_codec.specs.PduTypes.{type_of}

-- the number that two octets from a place on are, and that four are
abbrev pub two_at : List ℕ → ℕ → ℕ
two_at octets place = slice_index octets place * 2 ^ 8 + slice_index octets (place + 1)

abbrev pub four_at : List ℕ → ℕ → ℕ
four_at octets place =
    slice_index octets place * 2 ^ 24 + slice_index octets (place + 1) * 2 ^ 16 + slice_index octets (place + 2) * 2 ^ 8 + slice_index octets (place + 3)

-- the fields of a header: its version, its type, the length of the whole PDU
abbrev pub version_at : List ℕ → ℕ
version_at octets = slice_index octets 0

abbrev pub kind_at : List ℕ → ℕ
kind_at octets = slice_index octets 1

unfoldable pub told_length : List ℕ → ℕ
told_length octets = four_at octets 4

-- the prefix of an address and a length; none where the length is over 32 or a bit stands behind it
abbrev pub prefix_if : (bits len : ℕ) (short clean : Bool) → nat_le len 32 ≡ short → (bits % block_size len == 0) ≡ clean → Option Prefix
prefix_if bits len false clean long tells = None
prefix_if bits len true false small dirty = None
prefix_if bits len true true small clean =
    Some (record { bits = bits; len = len; short = leb-true len 32 small; no_host_bits = eqb-true (bits % block_size len) 0 clean })

unfoldable pub prefix_of : ℕ → ℕ → Option Prefix
prefix_of bits len = prefix_if bits len (nat_le len 32) (bits % block_size len == 0) refl refl

-- the payload of a prefix; none where the maximum length isn't from its length to 32
abbrev pub payload_if : (prefix : Prefix) (max_len asn : ℕ) (reaches short : Bool) → nat_le prefix.len max_len ≡ reaches → nat_le max_len 32 ≡ short → Option Vrp
payload_if prefix max_len asn false short below tells = None
payload_if prefix max_len asn true false reaches long = None
payload_if prefix max_len asn true true reaches short =
    Some (record { prefix = prefix; max_len = max_len; asn = record { 0 = asn }; reaches = leb-true prefix.len max_len reaches; short = leb-true max_len 32 short })

unfoldable pub payload_with : ℕ → ℕ → Prefix → Option Vrp
payload_with max_len asn prefix = payload_if prefix max_len asn (nat_le prefix.len max_len) (nat_le max_len 32) refl refl

-- the payload of these numbers; none where they are none (RFC 6811 section 2)
abbrev pub payload_of : ℕ → ℕ → ℕ → ℕ → Option Vrp
payload_of bits len max_len asn = option_and_then (payload_with max_len asn) (prefix_of bits len)

-- the payload of a whole IPv4 Prefix (RFC 8210 section 5.6)
abbrev pub payload_at : List ℕ → Option Vrp
payload_at octets = payload_of (four_at octets 12) (slice_index octets 9) (slice_index octets 10) (four_at octets 16)

-- an announcement where the lowest bit of the flags is set, else a withdrawal
abbrev pub change_of : ℕ → Vrp → Content
change_of flags payload = if flags % 2 == 1 then Announce payload else Withdraw payload

-- what a whole PDU of a type says; none where its payload is none
abbrev pub content_by : List ℕ → PduType → Option Content
content_by octets SerialNotify = Some (Serial_notify (two_at octets 2) (four_at octets 8))
content_by octets SerialQuery = Some (Serial_query (two_at octets 2) (four_at octets 8))
content_by octets ResetQuery = Some Reset_query
content_by octets CacheResponse = Some (Cache_response (two_at octets 2))
content_by octets Ipv4Prefix = option_map (change_of (slice_index octets 8)) (payload_at octets)
content_by octets Ipv6Prefix = Some (Ipv6_prefix (drop 8 octets))
content_by octets EndOfData =
    Some (End_of_data (two_at octets 2) (four_at octets 8)
    (record { refresh = four_at octets 12; retry = four_at octets 16; expire = four_at octets 20 }))
content_by octets CacheReset = Some Cache_reset
content_by octets RouterKey = Some (Router_key (drop 8 octets))
content_by octets ErrorReport = Some (Error_report (two_at octets 2) (take (four_at octets 8) (drop 12 octets)))

-- what a whole PDU says; none where there is no such type or no such payload
unfoldable pub content_at : List ℕ → Option Content
content_at octets = option_and_then (content_by octets) (type_of (kind_at octets))
