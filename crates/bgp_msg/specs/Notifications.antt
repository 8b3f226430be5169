-- The NOTIFICATION: what it tells of each fault, and how it is spelled (RFC 4271 sections 4.5 and 6, RFC 4486).
use Rattle.std.specs.Prelude.{ℕ, ◌+◌, List, [], ◌∷◌, ◌++◌, Option, Some, None, length, take}
use Rattle.bgp_attr.specs.AttributeTable.{octet_of}
use Rattle.bgp_attr.specs.AttributeFaults.{Fault as UpdateFault, MalformedAttributeList, UnrecognizedWellKnown, MissingWellKnown, AttributeFlags, AttributeLength, InvalidOrigin, InvalidNextHop, InvalidNetworkField, MalformedAsPath, seen}
use Rattle.bgp_msg.specs.declared.frame.MessageType.TheVariants.{Notification}
use Rattle.bgp_msg.specs.declared.fault.HeaderFault.{HeaderFault}
use Rattle.bgp_msg.specs.declared.fault.OpenFault.{OpenFault}
use Rattle.bgp_msg.specs.declared.fault.Fault.{Fault}
use Rattle.bgp_msg.specs.declared.fault.Fault.TheVariants.{Header, Open, Update}
use Rattle.bgp_msg.specs.declared.notification.SessionError.{SessionError}
use Rattle.bgp_msg.specs.declared.notification.SessionError.TheVariants.{HoldTimerExpired, UnexpectedMessage, AdministrativeShutdown, PeerDeconfigured, OutOfResources}
use Rattle.bgp_msg.specs.MessageSpelling.{header_of}
use Rattle.bgp_msg.specs.MessageFaults.{header_subcode, header_data, open_subcode, open_data}

-- what a NOTIFICATION says
pub record NotificationBody : Type 0 where
  pub code : ℕ
  pub subcode : ℕ
  pub octets : List ℕ  -- the data, which show the error

-- a code, a subcode, and as much of the data as a message has room for
abbrev pub telling : ℕ → ℕ → List ℕ → NotificationBody
telling code subcode octets = record { code = code; subcode = subcode; octets = take 4075 octets }

-- the code and the subcode of an error that no message holds (RFC 4271 sections 6.5 to 6.7, RFC 4486 section 4)
abbrev pub error_code : SessionError → ℕ
error_code HoldTimerExpired = 4
error_code UnexpectedMessage = 5
error_code AdministrativeShutdown = 6
error_code PeerDeconfigured = 6
error_code OutOfResources = 6

abbrev pub error_subcode : SessionError → ℕ
error_subcode HoldTimerExpired = 0
error_subcode UnexpectedMessage = 0
error_subcode AdministrativeShutdown = 2
error_subcode PeerDeconfigured = 3
error_subcode OutOfResources = 8

-- its NOTIFICATION has no data
abbrev pub error_notification : SessionError → NotificationBody
error_notification error = record { code = error_code error; subcode = error_subcode error; octets = [] }

-- the NOTIFICATION of a faulty header (RFC 4271 section 6.1)
abbrev pub header_notification : HeaderFault → NotificationBody
header_notification fault = telling 1 (header_subcode fault) (header_data fault)

-- of a faulty OPEN (RFC 4271 section 6.2, RFC 5492 section 5)
abbrev pub open_notification : OpenFault → NotificationBody
open_notification fault = telling 2 (open_subcode fault) (open_data fault)

-- of a faulty UPDATE: the data are the whole attribute as it came, or the code of the missing one (RFC 4271 section
-- 6.3)
abbrev pub update_notification : UpdateFault → NotificationBody
update_notification MalformedAttributeList = telling 3 1 []
update_notification (UnrecognizedWellKnown whole) = telling 3 2 whole
update_notification (MissingWellKnown kind) = telling 3 3 (octet_of kind ∷ [])
update_notification (AttributeFlags whole) = telling 3 4 whole
update_notification (AttributeLength whole) = telling 3 5 whole
update_notification (InvalidOrigin whole) = telling 3 6 whole
update_notification (InvalidNextHop whole) = telling 3 8 whole
update_notification InvalidNetworkField = telling 3 10 []
update_notification MalformedAsPath = telling 3 11 []

-- what is answered where an UPDATE can't be taken: its fault, or want of memory
abbrev pub refusal_notification : Option UpdateFault → NotificationBody
refusal_notification None = error_notification OutOfResources
refusal_notification (Some fault) = update_notification fault

-- the NOTIFICATION of any fault
abbrev pub fault_notification : Fault → NotificationBody
fault_notification (Header fault) = header_notification fault
fault_notification (Open fault) = open_notification fault
fault_notification (Update fault) = refusal_notification (seen fault)

-- the octets behind the header: the code, the subcode, and as much of the data as a message has room for
unfoldable pub notification_body : NotificationBody → List ℕ
notification_body told = told.code ∷ told.subcode ∷ take 4075 told.octets

-- what a NOTIFICATION says whose octets behind the header are these, of which there are two at least
abbrev pub notification_told : List ℕ → NotificationBody
notification_told [] = telling 0 0 []
notification_told (code ∷ []) = telling code 0 []
notification_told (code ∷ subcode ∷ octets) = telling code subcode octets

-- a NOTIFICATION: its header, the code, the subcode, the data
unfoldable pub notification_of : NotificationBody → List ℕ
notification_of told =
    header_of Notification (21 + length (take 4075 told.octets)) ++ told.code ∷ told.subcode ∷ take 4075 told.octets
