-- What is wrong with a PDU, in the order in which it is looked for (RFC 8210 section 12; the order is our own).
use Rattle.std.specs.Prelude.{◌&&◌, ◌||◌, ◌==◌, ℕ, if◌then◌else◌, Bool, true, false, not, List, [], ◌∷◌, Option, Some, None}
use Rattle.rtr_codec.specs.declared.fault.ErrorCode.{ErrorCode}
use Rattle.rtr_codec.specs.declared.fault.ErrorCode.TheVariants.{CorruptData, InternalError, NoDataAvailable, InvalidRequest, UnsupportedVersion, UnsupportedType, WithdrawalOfUnknownRecord, DuplicateAnnouncement, UnexpectedVersion}
use Rattle.rtr_codec.specs.declared.fault.PduFault.{PduFault}
use Rattle.rtr_codec.specs.declared.fault.PduFault.TheVariants.{Unanswered, Header}
use Rattle.rtr_codec.specs.declared.place.End.{End}
use Rattle.rtr_codec.specs.declared.place.End.TheVariants.{Cache, Client}
use Rattle.rtr_codec.specs.declared.place.Place.{Place}
use Rattle.rtr_codec.specs.declared.header.PduType.{PduType}
use Rattle.rtr_codec.specs.declared.header.PduType.TheVariants.{ErrorReport}
use Rattle.rtr_codec.specs.PduContents.{kind_at, told_length, version_at}
use Rattle.rtr_codec.specs.PduTypes.{is_lawful_length, type_of}

-- the numbers of the error codes (RFC 8210 section 12)
abbrev pub number_of : ErrorCode → ℕ
number_of CorruptData = 0
number_of InternalError = 1
number_of NoDataAvailable = 2
number_of InvalidRequest = 3
number_of UnsupportedVersion = 4
number_of UnsupportedType = 5
number_of WithdrawalOfUnknownRecord = 6
number_of DuplicateAnnouncement = 7
number_of UnexpectedVersion = 8

-- no type has this octet
abbrev pub is_unknown : Option PduType → Bool
is_unknown None = true
is_unknown (Some kind) = false

-- a PDU of this type may not have this length
abbrev pub is_unlawful : Option PduType → ℕ → Bool
is_unlawful None told = false
is_unlawful (Some kind) told = not (is_lawful_length kind told)

-- whether the end that reads is the client's
abbrev pub is_client : End → Bool
is_client Cache = false
is_client Client = true

-- a Serial Notify is read in any version before the first Cache Response (RFC 8210 section 7)
abbrev pub is_lenient : Place → List ℕ → Bool
is_lenient place octets =
    (is_client place.end && not place.has_response) && ((kind_at octets == 0) && (told_length octets == 12))

-- a header is of another version, where that isn't let pass
abbrev pub is_other_version : Place → List ℕ → Bool
is_other_version place octets = not (version_at octets == 1) && not (is_lenient place octets)

-- another version than 1 at the beginning of a connection, and in the midst of it
abbrev pub version_code : Bool → ErrorCode
version_code is_first = if is_first then UnsupportedVersion else UnexpectedVersion

-- an Error Report with a faulty header
abbrev pub is_faulty_report : List ℕ → Bool
is_faulty_report octets =
    (kind_at octets == 10) && (not (version_at octets == 1) || not (is_lawful_length ErrorReport (told_length octets)))

-- the first fault whose test holds
abbrev pub first_fault : List (Bool × PduFault) → Option PduFault
first_fault [] = None
first_fault (row ∷ rows) = if row.0 then Some row.1 else first_fault rows

-- the faults of a header
unfoldable pub header_fault : Place → List ℕ → Option PduFault
header_fault place octets =
    first_fault
    ((is_faulty_report octets, Unanswered)
    ∷ (is_other_version place octets, Header (version_code place.is_first))
    ∷ (is_unknown (type_of (kind_at octets)), Header UnsupportedType)
    ∷ (is_unlawful (type_of (kind_at octets)) (told_length octets), Header CorruptData)
    ∷ [])
