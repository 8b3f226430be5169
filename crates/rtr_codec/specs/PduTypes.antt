-- The types of PDUs, and their lengths (RFC 8210 section 5).
use Rattle.std.specs.Prelude.{◌&&◌, ◌==◌, ℕ, nat_le, if◌then◌else◌, Bool, Option, Some, None}
use Rattle.rtr_codec.specs.declared.header.PduType.{PduType}
use Rattle.rtr_codec.specs.declared.header.PduType.TheVariants.{SerialNotify, SerialQuery, ResetQuery, CacheResponse, Ipv4Prefix, Ipv6Prefix, EndOfData, CacheReset, RouterKey, ErrorReport}
use Rattle.rtr_codec.specs.PduLimits.{max_pdu}

-- the octet of a type
abbrev pub octet_of : PduType → ℕ
octet_of SerialNotify = 0
octet_of SerialQuery = 1
octet_of ResetQuery = 2
octet_of CacheResponse = 3
octet_of Ipv4Prefix = 4
octet_of Ipv6Prefix = 6
octet_of EndOfData = 7
octet_of CacheReset = 8
octet_of RouterKey = 9
octet_of ErrorReport = 10

-- the type of an octet; none has any other octet
unfoldable pub type_of : ℕ → Option PduType
type_of octet =
    if octet == 0 then Some SerialNotify
    else (if octet == 1 then Some SerialQuery
    else (if octet == 2 then Some ResetQuery
    else (if octet == 3 then Some CacheResponse
    else (if octet == 4 then Some Ipv4Prefix
    else (if octet == 6 then Some Ipv6Prefix
    else (if octet == 7 then Some EndOfData
    else (if octet == 8 then Some CacheReset
    else (if octet == 9 then Some RouterKey
    else (if octet == 10 then Some ErrorReport
    else None)))))))))

-- the least octets of a PDU of a type
abbrev pub least_length : PduType → ℕ
least_length SerialNotify = 12
least_length SerialQuery = 12
least_length ResetQuery = 8
least_length CacheResponse = 8
least_length Ipv4Prefix = 20
least_length Ipv6Prefix = 32
least_length EndOfData = 24
least_length CacheReset = 8
least_length RouterKey = 32
least_length ErrorReport = 16

-- the lengths that a PDU of a type may have: none of over 4,096 octets is read (the bound is our own)
abbrev pub is_lawful_length : PduType → ℕ → Bool
is_lawful_length SerialNotify told = told == 12
is_lawful_length SerialQuery told = told == 12
is_lawful_length ResetQuery told = told == 8
is_lawful_length CacheResponse told = told == 8
is_lawful_length Ipv4Prefix told = told == 20
is_lawful_length Ipv6Prefix told = told == 32
is_lawful_length EndOfData told = told == 24
is_lawful_length CacheReset told = told == 8
is_lawful_length RouterKey told = nat_le 32 told && nat_le told max_pdu
is_lawful_length ErrorReport told = nat_le 16 told && nat_le told max_pdu
