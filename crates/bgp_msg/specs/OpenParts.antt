-- What the reader of an OPEN has in hand, as the definitions see it, and how it goes on.
use Rattle.std.specs.Prelude.{ℕ, ◌+◌, ◌==◌, ◌||◌, nat_lt, not, if◌then◌else◌, Bool, true, false, List, [], ◌∷◌, Option, Some, None, is_none, length, drop, slice_index}
use Rattle.std.specs.Option.{option_map, option_and_then}
use Rattle.net_prefix.specs.declared.asn.Asn.{Asn}
use Rattle.bgp_msg.specs.declared.fault.OpenFault.{OpenFault}
use Rattle.bgp_msg.specs.declared.fault.OpenFault.TheVariants.{MalformedParameters, UnsupportedVersion, BadPeerAs, BadIdentifier, UnsupportedParameter, UnacceptableHoldTime, UnsupportedCapability}
use Rattle.bgp_msg.specs.declared.open_message.Expected.{Expected}
use Rattle.bgp_msg.specs.declared.open_message.Parameters.{Parameters}
use Rattle.bgp_msg.specs.MessageSpelling.{Part, parts_of, or_else, first_asn}
use Rattle.bgp_msg.specs.MessageFaults.{first_fault, is_other, hold_time_at, identifier_at}

-- an AS number
abbrev pub number : Asn → ℕ
number asn = asn.0

-- what the optional parameters tell
abbrev pub seen : Parameters → Bool × Option ℕ
seen told = (told.only_capabilities, option_map number told.asn)

-- what capabilities tell behind others; none where they are malformed
abbrev pub asn_behind : Option ℕ → Option (List Part) → Option (Option ℕ)
asn_behind asn None = None
asn_behind asn (Some capabilities) = Some (or_else asn (first_asn capabilities))

-- what an optional parameter tells behind others: whether all hold capabilities, and the AS number that these tell first
abbrev pub parameter_behind : Bool × Option ℕ → Part → Option (Bool × Option ℕ)
parameter_behind told parameter =
    if parameter.kind == 2 then option_map (λ asn. (told.0, asn)) (asn_behind told.1 (parts_of parameter.value))
    else Some (false, told.1)

-- the same of several parameters, in their order
abbrev pub parameters_behind : Bool × Option ℕ → List Part → Option (Bool × Option ℕ)
parameters_behind told [] = Some told
parameters_behind told (parameter ∷ parameters) =
    option_and_then (λ more. parameters_behind more parameters) (parameter_behind told parameter)

-- what the optional parameters of an OPEN tell; none where a parameter is cut off or holds malformed capabilities
unfoldable pub parameters_of : List ℕ → Option (Bool × Option ℕ)
parameters_of octets = option_and_then (parameters_behind (true, None)) (parts_of octets)

-- the faults of what an OPEN proposes, where its optional parameters can be read
unfoldable pub proposal_fault : Bool × Option ℕ → ℕ → ℕ → Expected → Option OpenFault
proposal_fault told hold_time identifier expected =
    first_fault
    ((not told.0, UnsupportedParameter)
    ∷ (is_none told.1, UnsupportedCapability expected.own_asn)
    ∷ (is_other told.1 expected.peer_asn.0, BadPeerAs)
    ∷ (identifier == 0 || identifier == expected.own_identifier, BadIdentifier)
    ∷ (hold_time == 1 || hold_time == 2, UnacceptableHoldTime)
    ∷ [])

-- the same where they may be malformed
abbrev pub told_fault : Option (Bool × Option ℕ) → ℕ → ℕ → Expected → Option OpenFault
told_fault None hold_time identifier expected = Some MalformedParameters
told_fault (Some told) hold_time identifier expected = proposal_fault told hold_time identifier expected

-- the faults of an OPEN as the reader finds them: its version, its optional parameters, what it proposes
unfoldable pub fault_found : List ℕ → Expected → Option OpenFault
fault_found body expected =
    if nat_lt (length body) 10 then Some MalformedParameters
    else (if not (slice_index body 0 == 4) then Some UnsupportedVersion
    else (if not (slice_index body 9 + 10 == length body) then Some MalformedParameters
    else told_fault (parameters_of (drop 10 body)) (hold_time_at body) (identifier_at body) expected))
