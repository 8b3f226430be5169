-- Which octets are a PDU, field by field (RFC 8210 section 5): what each field has to be, and what is not examined and so may be anything.
use Rattle.std.specs.Prelude.{◌≡◌, ◌⊎◌, ◌≤◌, ◌<◌, ◌+◌, ◌%◌, ◌^◌, ℕ, true, false, List, [], ◌++◌, length, take, slice_index}
use Rattle.std.specs.Int.{w32, to_be_bytes}
use Rattle.net_prefix.specs.declared.payload.Vrp.{Vrp}
use Rattle.rtr_codec.specs.declared.place.Place.{Place}
use Rattle.rtr_codec.specs.declared.reading.Step.{Step}
use Rattle.rtr_codec.specs.declared.reading.Step.TheVariants.{Need, Whole, Faulty}
use Rattle.rtr_codec.specs.PduFaults.{is_client}
use Rattle.rtr_codec.specs.PduSpelling.{Content, Serial_notify, Serial_query, Reset_query, Cache_response, Announce, Withdraw, Ipv6_prefix, End_of_data, Cache_reset, Router_key, Error_report, IsLawful, content_of, interval_octets, pdu_octets, prefix_octets, quoting_octets, versioned_octets}
use Rattle.rtr_codec.specs.PduLimits.{max_pdu}

-- numbers that are octets
abbrev pub AreOctets : List ℕ → Type 0
AreOctets octets = (i : ℕ) → slice_index octets i < 256

-- the version of a Serial Notify: 1, or any where a client reads it before the first Cache Response (RFC 8210 section 7)
abbrev pub MayHaveVersion : Place → ℕ → Type 0
MayHaveVersion place version = (version ≡ 1) ⊎ ((is_client place.end ≡ true) × (place.has_response ≡ false))

-- an IPv4 Prefix with this lowest bit of its flags: the other bits, two octets of its header and the octet behind the lengths may be anything
abbrev pub SpellsPrefix : List ℕ → ℕ → Vrp → Type 0
SpellsPrefix octets lowest payload =
    (free flags spare : ℕ) × (octets ≡ pdu_octets 4 free (prefix_octets flags spare payload)) × (flags % 2 ≡ lowest)

-- what an Error Report quotes: as many octets as it counts, or all that are there where it counts more
abbrev pub IsQuoted : ℕ → List ℕ → List ℕ → Type 0
IsQuoted count quoted text = (count ≡ length quoted) ⊎ ((length quoted < count) × (text ≡ []))

-- the octets are this PDU at a place of a connection. Two octets of the header are free where they are no session and no code; so is the text of an Error Report
abbrev pub Spells : Place → List ℕ → Content → Type 0
Spells place octets (Serial_notify session serial) =
    (version : ℕ) × MayHaveVersion place version × (octets ≡ versioned_octets version 0 session (to_be_bytes w32 serial))
    × IsLawful (Serial_notify session serial)
Spells place octets (Serial_query session serial) =
    (octets ≡ pdu_octets 1 session (to_be_bytes w32 serial)) × IsLawful (Serial_query session serial)
Spells place octets Reset_query = (free : ℕ) × (octets ≡ pdu_octets 2 free [])
Spells place octets (Cache_response session) = (octets ≡ pdu_octets 3 session []) × IsLawful (Cache_response session)
Spells place octets (Announce payload) = SpellsPrefix octets 1 payload × IsLawful (Announce payload)
Spells place octets (Withdraw payload) = SpellsPrefix octets 0 payload × IsLawful (Withdraw payload)
Spells place octets (Ipv6_prefix body) = (free : ℕ) × (octets ≡ pdu_octets 6 free body) × IsLawful (Ipv6_prefix body)
Spells place octets (End_of_data session serial intervals) =
    (octets ≡ pdu_octets 7 session (to_be_bytes w32 serial ++ interval_octets intervals)) × IsLawful (End_of_data session serial intervals)
Spells place octets Cache_reset = (free : ℕ) × (octets ≡ pdu_octets 8 free [])
Spells place octets (Router_key body) = (free : ℕ) × (octets ≡ pdu_octets 9 free body) × IsLawful (Router_key body)
Spells place octets (Error_report code quoted) =
    (count : ℕ) × (text : List ℕ) × (octets ≡ pdu_octets 10 code (quoting_octets count quoted text)) × IsQuoted count quoted text
    × (code < 2 ^ 16) × (count < 2 ^ 32) × (4 ≤ length (quoted ++ text)) × (12 + length (quoted ++ text) ≤ max_pdu)

-- the PDU that a reader answers is spelled by the octets that it used
abbrev pub IsSpelled : Place → List ℕ → Step → Type 0
IsSpelled place octets Need = Unit {0}
IsSpelled place octets (Whole pdu used) = Spells place (take used octets) (content_of pdu)
IsSpelled place octets (Faulty fault quoted) = Unit {0}
