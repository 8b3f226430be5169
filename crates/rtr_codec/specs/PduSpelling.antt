-- How a PDU is spelled in octets (RFC 8210 section 5).
use Rattle.std.specs.Prelude.{◌≡◌, ◌≤◌, ◌<◌, ◌+◌, ◌^◌, ℕ, List, [], ◌∷◌, ◌++◌, length}
use Rattle.std.specs.Int.{w16, w32, to_be_bytes}
use Rattle.net_prefix.specs.declared.payload.Vrp.{Vrp}
use Rattle.rtr_codec.specs.declared.intervals.Intervals.{Intervals}
use Rattle.rtr_codec.specs.declared.pdu.Pdu.{Pdu}
use Rattle.rtr_codec.specs.declared.pdu.Pdu.TheVariants.{SerialNotify, SerialQuery, ResetQuery, CacheResponse, Announcement, Withdrawal, Ipv6Prefix, EndOfData, CacheReset, RouterKey, ErrorReport}
use Rattle.rtr_codec.specs.PduLimits.{max_pdu}

-- what a PDU says
pub data Content : Type 0 where
  Serial_notify : (session serial : ℕ) → Content
  Serial_query : (session serial : ℕ) → Content
  Reset_query : Content
  Cache_response : (session : ℕ) → Content
  Announce : (payload : Vrp) → Content
  Withdraw : (payload : Vrp) → Content
  Ipv6_prefix : (body : List ℕ) → Content
  End_of_data : (session serial : ℕ) (intervals : Intervals) → Content
  Cache_reset : Content
  Router_key : (body : List ℕ) → Content
  Error_report : (code : ℕ) (quoted : List ℕ) → Content

-- what a PDU of the code says
abbrev pub content_of : Pdu → Content
content_of (SerialNotify session serial) = Serial_notify session serial
content_of (SerialQuery session serial) = Serial_query session serial
content_of ResetQuery = Reset_query
content_of (CacheResponse session) = Cache_response session
content_of (Announcement payload) = Announce payload
content_of (Withdrawal payload) = Withdraw payload
content_of (Ipv6Prefix body) = Ipv6_prefix body.now
content_of (EndOfData session serial intervals) = End_of_data session serial intervals
content_of CacheReset = Cache_reset
content_of (RouterKey body) = Router_key body.now
content_of (ErrorReport code quoted) = Error_report code quoted.now

-- a PDU: its version, its type, two octets of its own, the length of the whole PDU, and what follows
abbrev pub versioned_octets : ℕ → ℕ → ℕ → List ℕ → List ℕ
versioned_octets version kind two body = version ∷ kind ∷ (to_be_bytes w16 two ++ (to_be_bytes w32 (8 + length body) ++ body))

-- a PDU of version 1
abbrev pub pdu_octets : ℕ → ℕ → List ℕ → List ℕ
pdu_octets kind two body = versioned_octets 1 kind two body

-- an IPv4 Prefix behind its header: its flags, the lengths, an octet to spare, the address, the AS (RFC 8210 section 5.6)
abbrev pub prefix_octets : ℕ → ℕ → Vrp → List ℕ
prefix_octets flags spare payload =
    flags ∷ payload.prefix.len ∷ payload.max_len ∷ spare ∷ (to_be_bytes w32 payload.prefix.bits ++ to_be_bytes w32 payload.asn.0)

-- as it is written: the octet of no meaning is 0
abbrev pub payload_octets : ℕ → Vrp → List ℕ
payload_octets flags payload = prefix_octets flags 0 payload

-- the seconds of an End of Data (RFC 8210 section 5.8)
abbrev pub interval_octets : Intervals → List ℕ
interval_octets i = to_be_bytes w32 i.refresh ++ (to_be_bytes w32 i.retry ++ to_be_bytes w32 i.expire)

-- an Error Report behind its header: a count, what it quotes, and what stands behind that (RFC 8210 section 5.11)
abbrev pub quoting_octets : ℕ → List ℕ → List ℕ → List ℕ
quoting_octets count quoted text = to_be_bytes w32 count ++ (quoted ++ text)

-- as it is written: the count is that of what it quotes, and the text is empty
abbrev pub report_octets : List ℕ → List ℕ
report_octets quoted = quoting_octets (length quoted) quoted (to_be_bytes w32 0)

-- the octets that are written for what a PDU says
unfoldable pub spelling : Content → List ℕ
spelling (Serial_notify session serial) = pdu_octets 0 session (to_be_bytes w32 serial)
spelling (Serial_query session serial) = pdu_octets 1 session (to_be_bytes w32 serial)
spelling Reset_query = pdu_octets 2 0 []
spelling (Cache_response session) = pdu_octets 3 session []
spelling (Announce payload) = pdu_octets 4 0 (payload_octets 1 payload)
spelling (Withdraw payload) = pdu_octets 4 0 (payload_octets 0 payload)
spelling (Ipv6_prefix body) = pdu_octets 6 0 body
spelling (End_of_data session serial intervals) = pdu_octets 7 session (to_be_bytes w32 serial ++ interval_octets intervals)
spelling Cache_reset = pdu_octets 8 0 []
spelling (Router_key body) = pdu_octets 9 0 body
spelling (Error_report code quoted) = pdu_octets 10 code (report_octets quoted)

-- how many octets they are
abbrev pub length_of : Content → ℕ
length_of (Serial_notify session serial) = 12
length_of (Serial_query session serial) = 12
length_of Reset_query = 8
length_of (Cache_response session) = 8
length_of (Announce payload) = 20
length_of (Withdraw payload) = 20
length_of (Ipv6_prefix body) = 8 + length body
length_of (End_of_data session serial intervals) = 24
length_of Cache_reset = 8
length_of (Router_key body) = 8 + length body
length_of (Error_report code quoted) = 16 + length quoted

-- what a PDU carries unread has a length that its type allows
abbrev pub CarriesLawfully : Content → Type 0
CarriesLawfully (Serial_notify session serial) = Unit {0}
CarriesLawfully (Serial_query session serial) = Unit {0}
CarriesLawfully Reset_query = Unit {0}
CarriesLawfully (Cache_response session) = Unit {0}
CarriesLawfully (Announce payload) = Unit {0}
CarriesLawfully (Withdraw payload) = Unit {0}
CarriesLawfully (Ipv6_prefix body) = length body ≡ 24
CarriesLawfully (End_of_data session serial intervals) = Unit {0}
CarriesLawfully Cache_reset = Unit {0}
CarriesLawfully (Router_key body) = 24 ≤ length body
CarriesLawfully (Error_report code quoted) = Unit {0}

-- each number fits its field, and the length is one that a PDU of the type may have (RFC 8210 section 5; no PDU of over 4,096 octets is read)
abbrev pub IsLawful : Content → Type 0
IsLawful (Serial_notify session serial) = (session < 2 ^ 16) × (serial < 2 ^ 32)
IsLawful (Serial_query session serial) = (session < 2 ^ 16) × (serial < 2 ^ 32)
IsLawful Reset_query = Unit {0}
IsLawful (Cache_response session) = session < 2 ^ 16
IsLawful (Announce payload) = (payload.prefix.bits < 2 ^ 32) × (payload.asn.0 < 2 ^ 32)
IsLawful (Withdraw payload) = (payload.prefix.bits < 2 ^ 32) × (payload.asn.0 < 2 ^ 32)
IsLawful (Ipv6_prefix body) = length body ≡ 24
IsLawful (End_of_data session serial intervals) =
    (session < 2 ^ 16) × (serial < 2 ^ 32) × (intervals.refresh < 2 ^ 32) × (intervals.retry < 2 ^ 32) × (intervals.expire < 2 ^ 32)
IsLawful Cache_reset = Unit {0}
IsLawful (Router_key body) = (24 ≤ length body) × (8 + length body ≤ max_pdu)
IsLawful (Error_report code quoted) = (code < 2 ^ 16) × (16 + length quoted ≤ max_pdu)
